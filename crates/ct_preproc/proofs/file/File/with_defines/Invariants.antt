use Rattle.std.proofs.Common.{length, List}
use Rattle.std.specs.Prelude.{Result}
use Rattle.ct_macro_call.specs.declared.definition.Macro.{Macro}
use Rattle.ct_directive.specs.declared.faults.PreFault.{PreFault}
use Rattle.ct_preproc.specs.Units.{HaveDefines}
use Rattle.ct_preproc.proofs.file.File.with_defines.Given as goal

abbrev pub invariant-loop-define : goal.invariant-loop-define
invariant-loop-define l =
    (answer : Result (List Macro) PreFault) → HaveDefines l.self.place.now l.macros l.rest answer → HaveDefines l.self.place.now l.fn.macros l.defines answer

abbrev pub decreases-loop-define : goal.decreases-loop-define
decreases-loop-define l = length l.rest
