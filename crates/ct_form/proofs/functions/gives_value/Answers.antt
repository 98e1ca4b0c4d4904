use Rattle.ct_form.specs.Functions.{IsResult, nothing, value}
use Rattle.ct_form.proofs.Misses.{missed}
use Rattle.ct_form.proofs.Headings.{no_result}
use Rattle.ct_form.proofs.functions.gives_value.Goals as goal

pub returns-in-Ok : goal.returns-in-Ok
returns-in-Ok c = nothing c.in-Ok.ensures.found

pub returns-in_err-rest : goal.returns-in_err-rest
returns-in_err-rest c =
    missed _ _ (IsResult c.args.tokens.now) c.from_residual.result c.in_err-rest.field-0.0 c.from_residual.ensures.1
    (no_result c.in_default.ensures.absent c.in_err-rest.ensures.absent)

pub returns : goal.returns
returns c = value c.in_ok-rest.ensures.found
