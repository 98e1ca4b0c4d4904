use Rattle.ct_top.proofs.OneOutcome.{HasOutcome-unique}
use Rattle.ct_top.proofs.laws.one_outcome.Goals as goal

pub returns : goal.returns
returns c =
    HasOutcome-unique c.one_tokenization.ensures c.one_open_comment.ensures.one c.one_open_comment.ensures.apart c.one_form.ensures c.one_finding.ensures.limit c.one_finding.ensures.apart
    c.one_finding.ensures.found c.one_node.ensures
