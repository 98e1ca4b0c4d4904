use Rattle.std.proofs.Common.{arith, refl}
use Rattle.std.proofs.lemmas.Result.{IfOk-weaker}
use Rattle.ct_find.proofs.StartLemmas.{all_starts, start_passed, start_pushed}
use Rattle.ct_find.proofs.starts.start_paths.Goals as goal
use Rattle.ct_find.proofs.starts.start_paths.Goals.{then-pattern+in_ok-start_of+in_ok-push, else-pattern}

pub loop-pattern-preserved : goal.loop-pattern-preserved
loop-pattern-preserved c = elim c.if-pattern.branch [
  | then-pattern+in_ok-start_of+in_ok-push w ↦ rw w.paths-is (start_pushed c.args.patterns.now c.loop-pattern.pattern-index c.pattern-item.result c.loop-pattern.paths.items w.push.new.self.items w.in_ok-start_of.field-0
      c.loop-pattern-test.true c.pattern-item.is c.loop-pattern.invariant w.if-pattern.true (rw w.as_str.ensures at w.in_ok-start_of.ensures) w.in_ok-push.ensures.items)
  | else-pattern w ↦ rw w.paths-is (start_passed c.args.patterns.now c.loop-pattern.pattern-index c.pattern-item.result c.loop-pattern.paths.items c.loop-pattern.paths.items
      c.loop-pattern-test.true c.pattern-item.is c.loop-pattern.invariant w.if-pattern.false refl)
]

pub returns : goal.returns
returns c =
    IfOk-weaker c.sorted_once.result _ _
    (λ kept is. all_starts c.args.patterns.now c.loop-pattern.pattern-index c.loop-pattern.paths.items kept (omega (arith, c.loop-pattern.auto.pattern-index-end)) c.loop-pattern.invariant is) c.sorted_once.ensures
