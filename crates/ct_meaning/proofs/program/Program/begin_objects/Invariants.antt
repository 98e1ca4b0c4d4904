use Rattle.std.proofs.Common.{◌≡◌, drop}
use Rattle.ct_meaning.specs.Rules.{begin_objects}
use Rattle.ct_meaning.specs.Views.{world_of, where_of}
use Rattle.ct_meaning.proofs.program.Program.begin_objects.Given as goal

-- the objects that are left to make, onto the frame so far, give what all give
abbrev pub invariant-loop-place : goal.invariant-loop-place
invariant-loop-place l =
    begin_objects (world_of l.self) (where_of l.h) (drop l.place-index l.places) l.frame.items l.state
    ≡ begin_objects (world_of l.self) (where_of l.h) l.places l.h.frame.now l.initial.state
