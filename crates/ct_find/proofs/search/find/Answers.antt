use Rattle.ct_find.proofs.BridgeLemmas.{finds_of}
use Rattle.ct_find.proofs.search.find.Goals as goal

pub returns-clause-told : goal.returns-clause-told
returns-clause-told g c files told = finds_of c.args.settings.now files c.find_listed.result (c.find_listed.ensures.told files told)
