use Rattle.std.proofs.Common.{length, Option}
use Rattle.ct_directive.specs.declared.search.Target.{Target}
use Rattle.ct_directive.specs.Search.{IsFound}
use Rattle.ct_directive.proofs.search.Search.in_folders.Given as goal

abbrev pub invariant-loop-folder : goal.invariant-loop-folder
invariant-loop-folder g l =
    (found : Option Target) → IsFound (g.F.Finder.texts l.self.finder.now) l.rest l.name found
    → IsFound (g.F.Finder.texts l.self.finder.now) l.self.folders.now l.name found

abbrev pub decreases-loop-folder : goal.decreases-loop-folder
decreases-loop-folder g l = length l.rest
