use Rattle.std.proofs.Common.{◌+◌, ◌*◌, length}
use Rattle.ct_form.specs.Readers.{at_of}
use Rattle.ct_form.proofs.Blocks.{BlockReads}
use Rattle.ct_form.proofs.statements.Context.«+statement».Given as goal

abbrev pub decreases-body : goal.decreases-body
decreases-body l = 4 * l.room + 3

abbrev pub decreases-statement : goal.decreases-statement
decreases-statement l = 4 * l.room + 2

abbrev pub decreases-block : goal.decreases-block
decreases-block l = 4 * l.room + 1

abbrev pub decreases-choice : goal.decreases-choice
decreases-choice l = 4 * l.room + 1

abbrev pub decreases-turns : goal.decreases-turns
decreases-turns l = 4 * l.room + 1

abbrev pub invariant-body-loop-rest : goal.invariant-body-loop-rest
invariant-body-loop-rest l =
    BlockReads l.self.functions.now l.self.unity l.self.gives_value l.outer l.fn.scope.items (at_of l.fn.place) l.room
    l.numbers l.parts l.scope.items (at_of l.place)

abbrev pub decreases-body-loop-rest : goal.decreases-body-loop-rest
decreases-body-loop-rest l = length l.place.tokens.now
