use Rattle.std.proofs.Common.{◌≡◌, replicate}
use Rattle.ct_form.specs.Names.{int_type}
use Rattle.ct_form.proofs.names.type_of.Given as goal

abbrev pub invariant-loop-parameter : goal.invariant-loop-parameter
invariant-loop-parameter l = l.parameters ≡ replicate l._parameter int_type
