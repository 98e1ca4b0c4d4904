use Rattle.std.proofs.Common.{◌≡◌, drop}
use Rattle.ct_yaml.specs.Reading as reading
use Rattle.ct_yaml.proofs.values.elements.Given as goal

abbrev pub invariant-loop : goal.invariant-loop
invariant-loop l = reading.onto l.items (reading.nodes_of (reading.elements_at (drop l.index l.bytes) l.rest)) ≡ reading.nodes_of (reading.elements_at l.bytes l.bytes)
