use Rattle.std.proofs.Common.{◌+◌, ◌*◌}
use Rattle.std.specs.Prelude.{Result}
use Rattle.ct_directive.specs.declared.faults.PreFault.{PreFault}
use Rattle.ct_preproc.specs.declared.state.State.{State}
use Rattle.ct_preproc.specs.Files.{Enters}
use Rattle.ct_preproc.specs.Steps.{StepsLines}
use Rattle.ct_directive.specs.Headers.{built_in_headers}
use Rattle.ct_preproc.proofs.reader.Reader.+reads.Given as goal

abbrev pub invariant-lines-loop-line : goal.invariant-lines-loop-line
invariant-lines-loop-line g l =
    (answer : Result State PreFault)
    → StepsLines l.file.limit (Enters (g.F.Finder.texts l.self.search.finder.now) l.self.search.folders.now l.self.search.heads.now built_in_headers l.file.limit l.more) l.file.place.now l.reading l.line-iterator.rest.items answer
    → StepsLines l.file.limit (Enters (g.F.Finder.texts l.self.search.finder.now) l.self.search.folders.now l.self.search.heads.now built_in_headers l.file.limit l.more) l.file.place.now l.fn.reading l.fn.lines.items answer

abbrev pub decreases-enter : goal.decreases-enter
decreases-enter g l = 12 * l.more + 1

abbrev pub decreases-included : goal.decreases-included
decreases-included g l = 12 * l.more + 2

abbrev pub decreases-follow : goal.decreases-follow
decreases-follow g l = 12 * l.more + 3

abbrev pub decreases-acted : goal.decreases-acted
decreases-acted g l = 12 * l.more + 4

abbrev pub decreases-directive : goal.decreases-directive
decreases-directive g l = 12 * l.more + 5

abbrev pub decreases-line : goal.decreases-line
decreases-line g l = 12 * l.more + 6

abbrev pub decreases-lines : goal.decreases-lines
decreases-lines g l = 12 * l.more + 7

abbrev pub decreases-read : goal.decreases-read
decreases-read g l = 12 * l.more + 8

abbrev pub decreases-inside : goal.decreases-inside
decreases-inside g l = 12 * l.more + 9

abbrev pub decreases-enter_target : goal.decreases-enter_target
decreases-enter_target g l = 12 * l.more + 10
