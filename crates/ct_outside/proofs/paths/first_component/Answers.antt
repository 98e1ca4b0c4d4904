use Rattle.std.proofs.Common.{◌<◌, length, arith, rules}
use Rattle.ct_outside.proofs.ComponentLemmas.{first_piece, last_piece, shorter}
use Rattle.ct_outside.proofs.paths.first_component.Goals as goal

pub returns-then-not-is_empty : goal.returns-then-not-is_empty
returns-then-not-is_empty c =
    let cut = c.in-Some.ensures.byte (omega arith) (λ w o h. h) in (
      first_piece c.args.path.now c.loop-piece.rest.now c.in-Some.piece.now c.in-Some.behind.now c.loop-piece.invariant.1 c.loop-piece.invariant.2 cut (search rules),
      shorter c.args.path.now c.loop-piece.rest.now c.in-Some.piece.now c.in-Some.behind.now c.loop-piece.invariant.2 cut,
    )

pub returns-else-is_empty : goal.returns-else-is_empty
returns-else-is_empty c =
    let some : 0 < length c.loop-piece.rest.now = search rules in
    (last_piece c.args.path.now c.loop-piece.rest.now c.loop-piece.invariant.1 (c.in_default.ensures.byte (omega arith) (λ w o h. h)) some, omega (arith, c.loop-piece.invariant.2))
