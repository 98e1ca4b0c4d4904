use Rattle.std.proofs.Common.{rules, ◌≡◌, ◌∙◌, sym, ap}
use Rattle.std.specs.Prelude.{codes}
use Rattle.std.specs.List.{list_any}
use Rattle.ct_directive.specs.Forms.{is}
use Rattle.ct_directive.proofs.NoPragma.{none_left_out}
use Rattle.ct_directive.proofs.pragmas.without_pragmas.Goals as goal

pub returns-else-has_word : goal.returns-else-has_word
returns-else-has_word c =
    let same : c.as_slice.result.now ≡ c.args.tokens = search rules in
    sym (none_left_out c.args.tokens (ap (list_any (is (codes "_Pragma"))) (sym same) ∙ sym c.has_word.ensures ∙ c.if-has_word.false))
