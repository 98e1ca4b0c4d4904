use Rattle.std.proofs.Common.{refl, sym, ◌∙◌, arith}
use Rattle.std.proofs.lemmas.Grind.{common_steps}
use Rattle.ct_macro_call.proofs.Texts.{same_text}
use Rattle.ct_macro_call.proofs.paste.only_kind.Goals as goal

pub returns-then-eq : goal.returns-then-eq
returns-then-eq c =
    (c.in_ok-only.only.now, grind (arith, common_steps), sym c.as_slice.ensures ∙ same_text c.as_slice.result.now c.args.text.now (sym c.eq.ensures ∙ c.if-eq.true), refl)
