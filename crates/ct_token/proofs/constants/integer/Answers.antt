use Rattle.std.proofs.Common.{arith}
use Rattle.std.proofs.lemmas.List.Sums.{prefix_len-le-length}
use Rattle.ct_token.specs.Constants.{is_digit_in}
use Rattle.ct_token.proofs.constants.integer.Goals as goal

pub split_at-requires : goal.split_at-requires
split_at-requires c =
    omega (arith, c.digit_len.ensures, prefix_len-le-length (is_digit_in c.base_of-base.result) c.unprefixed-rest.result.now)
