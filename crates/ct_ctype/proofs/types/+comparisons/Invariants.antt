use Rattle.std.proofs.Common.{◌≡◌, take}
use Rattle.ct_ctype.proofs.types.+comparisons.Given as goal

-- the parameters so far are the same
abbrev pub invariant-FunctionType::is_same-loop-index : goal.invariant-FunctionType::is_same-loop-index
invariant-FunctionType::is_same-loop-index l = take l.index l.self.parameters ≡ take l.index l.other.parameters
