use Rattle.std.proofs.Common.{rules, tests, ◌∙◌}
use Rattle.std.proofs.lemmas.Iterator.{YieldsList-from_slice}
use Rattle.std.proofs.lemmas.Iterator.Search.{any_from_yields_List}
use Rattle.ct_settings.specs.Names.{is_word, has_word}
use Rattle.ct_settings.proofs.TextLemmas.{list_any-now}
use Rattle.ct_settings.proofs.names.has_word.Goals as goal

pub returns : goal.returns
unfolding has_word
returns c = any_from_yields_List (λ word. is_word c.args.name.now word.now) _ _ _ c.any.ensures.ran
    (YieldsList-from_slice c.args.words.now cc) (λ x b q k. search (rules, tests))
    ∙ list_any-now (is_word c.args.name.now) c.args.words.now
