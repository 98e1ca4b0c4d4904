use Rattle.std.proofs.Common.{◌<◌, ◌^◌, ◌≡◌, take, get_or, sym, subst, arith}
use Rattle.std.proofs.lemmas.List.Elements.{All-more}
use Rattle.std.proofs.lemmas.List.{take_all}
use Rattle.std.specs.Prelude.{All}
use Rattle.ct_core.specs.declared.units.CoreFunction.{CoreFunction}
use Rattle.ct_top.proofs.translating.count_lines.Goals as goal

pub loop-function-preserved : goal.loop-function-preserved
loop-function-preserved c =
    All-more (λ (f : CoreFunction). f.span.line < 2 ^ 32) c.args.functions.now c.loop-function.function-index c.function-item.result (omega arith) c.loop-function.invariant
    (subst (λ (f : CoreFunction). f.span.line < 2 ^ 32) c.function-item.is c.has_bits.ensures)

pub returns : goal.returns
returns c =
    subst (All (λ (f : CoreFunction). f.span.line < 2 ^ 32)) (take_all c.loop-function.function-index c.args.functions.now (omega arith)) c.loop-function.invariant
