use Rattle.std.proofs.Common.{◌≡◌, ◌<◌, ◌^◌, drop, fold}
use Rattle.ct_token.specs.Constants.{number_in}
use Rattle.ct_token.proofs.Numbers.{with_digit}
use Rattle.ct_token.proofs.constants.number_in.Given as goal

-- the digits so far have this value, and the others come behind them
abbrev pub invariant-loop-digit : goal.invariant-loop-digit
invariant-loop-digit l =
    (number_in l.base l.digits ≡ fold (with_digit l.base) l.value (drop l.digit-index l.digits)) × (l.value < 2 ^ 64)
