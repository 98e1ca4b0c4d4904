use Rattle.std.proofs.Common.{◌≡◌, false, refl, ◌∙◌, sym, arith}
use Rattle.std.proofs.lemmas.Bool.{false≢true}
use Rattle.ct_macro_call.specs.Calls.{MaySeparate, separates}
use Rattle.ct_macro_call.proofs.Collecting.{pushed, cut}
use Rattle.ct_macro_call.proofs.calls.Collector.take.Goals as goal
use Rattle.ct_macro_call.proofs.calls.Collector.take.Goals.{In_ok-push-2, else-self-eq0-via-then-self-eq0+then-is_comma+else-may_separate, else-self-eq0-via-then-self-eq0+else-is_comma, else-self-eq0-via-else-self-eq0}

pub returns-then-may_separate : goal.returns-then-may_separate
returns-then-may_separate c =
    λ most tokens rest so_far.
    let whole = cut most c.args.self.now.left tokens rest c.args.self.now.arguments c.args.self.now.last c.args.token c.args.self.now.depth so_far (omega arith) (sym c.is_comma.ensures ∙ c.if-is_comma.true) (c.if-may_separate.ensures.0 refl) in
    rw (c.in_ok-push.ensures.ok, c.replace-last.ensures.value, c.replace-last.ensures.after, c.new.ensures, c.fewer-self.ensures) whole

not_comma : (c : In_ok-push-2) → MaySeparate c.args.self.now.left → c.args.self.now.depth ≡ 0 → separates c.args.token ≡ false
not_comma c may zero =
    elim c.else-self-eq0.branch [
      | else-self-eq0-via-then-self-eq0+then-is_comma+else-may_separate w ↦ absurd (false≢true (w.if-may_separate.ensures.1 may))
      | else-self-eq0-via-then-self-eq0+else-is_comma w ↦ sym w.is_comma.ensures ∙ w.if-is_comma.false
      | else-self-eq0-via-else-self-eq0 w ↦ absurd (omega arith)
    ]

pub returns : goal.returns
returns c =
    λ most tokens rest so_far.
    rw c.in_ok-push-2.ensures.ok
    (pushed most c.args.self.now.left tokens rest c.args.self.now.arguments c.args.self.now.last c.args.token c.args.self.now.depth c.in_ok-self.field-0 so_far c.requires (not_comma c) c.in_ok-self.ensures)
