use Rattle.std.proofs.Common.{◌∙◌, ap, sym}
use Rattle.ct_ppexpr.specs.Machine.{run_all, values}
use Rattle.ct_ppexpr.proofs.Answering.{valued, refused}
use Rattle.ct_ppexpr.proofs.condition.Goals as goal

pub returns-in_default : goal.returns-in_default
returns-in_default c =
    refused c.args.tokens.now c.in_ok-words.words.items c.in_ok-words.ensures
    (sym c.in_default.is ∙ c.in_ok-value.ensures ∙ ap (run_all values) c.as_slice.ensures.value)

pub returns-in-Ok : goal.returns-in-Ok
returns-in-Ok c =
    valued c.args.tokens.now c.in_ok-words.words.items c.in-Some.value _ c.in_ok-words.ensures
    (sym c.in-Some.is ∙ c.in_ok-value.ensures ∙ ap (run_all values) c.as_slice.ensures.value) (sym c.in-Ok.is ∙ c.answer_to.ensures)

pub returns : goal.returns
returns c =
    valued c.args.tokens.now c.in_ok-words.words.items c.in-Some.value _ c.in_ok-words.ensures
    (sym c.in-Some.is ∙ c.in_ok-value.ensures ∙ ap (run_all values) c.as_slice.ensures.value) (sym c.in-Err.is ∙ c.answer_to.ensures)
