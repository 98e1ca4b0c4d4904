use Rattle.std.proofs.lemmas.Nat.{or_lt, xor_lt}
use Rattle.ct_ctype.specs.Ranges.{width}
use Rattle.ct_ctype.proofs.InRanges.{passed_truth}
use Rattle.ct_ctype.proofs.operations.binary.Goals as goal

pub number_of-requires-in-Xor : goal.number_of-requires-in-Xor
number_of-requires-in-Xor c = xor_lt (width c.args.k) _ _ c.low_bits-in-Xor.ensures.below c.low_bits-in-Xor-2.ensures.below

pub number_of-requires-in-Or : goal.number_of-requires-in-Or
number_of-requires-in-Or c = or_lt (width c.args.k) _ _ c.low_bits-in-Or.ensures.below c.low_bits-in-Or-2.ensures.below

pub returns-in-Less-clause-in_range : goal.returns-in-Less-clause-in_range
returns-in-Less-clause-in_range c = passed_truth c.args.k _ c.truth.result c.truth.type_inv c.truth.ensures

pub returns-in-Greater-clause-in_range : goal.returns-in-Greater-clause-in_range
returns-in-Greater-clause-in_range c = passed_truth c.args.k _ c.truth-in-Greater.result c.truth-in-Greater.type_inv c.truth-in-Greater.ensures

pub returns-in-LessEqual-clause-in_range : goal.returns-in-LessEqual-clause-in_range
returns-in-LessEqual-clause-in_range c = passed_truth c.args.k _ c.truth-in-LessEqual.result c.truth-in-LessEqual.type_inv c.truth-in-LessEqual.ensures

pub returns-in-GreaterEqual-clause-in_range : goal.returns-in-GreaterEqual-clause-in_range
returns-in-GreaterEqual-clause-in_range c = passed_truth c.args.k _ c.truth-in-GreaterEqual.result c.truth-in-GreaterEqual.type_inv c.truth-in-GreaterEqual.ensures
