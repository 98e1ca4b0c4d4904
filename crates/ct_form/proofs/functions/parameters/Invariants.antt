use Rattle.std.proofs.Common.{length}
use Rattle.ct_form.specs.Readers.{at_of}
use Rattle.ct_form.proofs.Headings.{ParametersRead}
use Rattle.ct_form.proofs.functions.parameters.Given as goal

abbrev pub invariant-loop-scope : goal.invariant-loop-scope
invariant-loop-scope l = ParametersRead (at_of l.fn.place) l.scope.items (at_of l.place)

abbrev pub decreases-loop-scope : goal.decreases-loop-scope
decreases-loop-scope l = length l.place.tokens.now
