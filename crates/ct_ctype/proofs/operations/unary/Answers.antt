use Rattle.std.proofs.Common.{sym, ap, ◌∙◌}
use Rattle.ct_base.specs.declared.operators.UnaryOp.{UnaryOp}
use Rattle.ct_ctype.specs.Operation as spec
use Rattle.ct_ctype.proofs.Exact.{narrow, negative_exact}
use Rattle.ct_ctype.proofs.operations.unary.Goals as goal

pub returns-in-Minus-clause-value : goal.returns-in-Minus-clause-value
unfolding spec.unary_result
returns-in-Minus-clause-value c =
    let k = c.args.k in
    let result_of : UnaryOp → _ = λ op. spec.unary_result op k c.args.v in
    c.arithmetic.ensures.value ∙ ap (spec.arithmetic k) (negative_exact c.args.v (narrow k c.args.v c.requires)) ∙ sym (ap result_of c.in-Minus.is)
