-- Operators of integers (6.5.3.3 and 6.5.5 to 6.5.12) on mathematical integers. Operands and result are of one kind, but
-- that the count of a shift is any number, and that `!` and a comparison give 1 or 0 of the kind `int`.
use Rattle.std.specs.Prelude.{zero, suc, ◌-◌, ◌^◌, Bool, true, false, not, ◌&&◌, if◌then◌else◌, ℤ, pos, negsuc, neg_ℤ, ◌+ℤ◌, ◌-ℤ◌, ◌*ℤ◌, int_lt, int_le, int_div, int_rem, unsigned_abs, bit_and, bit_or, bit_xor, Result, Ok, Err}
use Rattle.std.specs.Int.{int_div_euclid}
use Rattle.ct_base.specs.declared.faults.FaultKind.{FaultKind}
use Rattle.ct_base.specs.declared.faults.FaultKind.TheVariants.{SignedOverflow, DivideByZero, ShiftRange}
use Rattle.ct_base.specs.declared.operators.BinaryOp.{BinaryOp}
use Rattle.ct_base.specs.declared.operators.BinaryOp.TheVariants.{Multiply, Divide, Remainder, Add, Subtract, ShiftLeft, ShiftRight, Less, Greater, LessEqual, GreaterEqual, Equal, NotEqual, And, Xor, Or}
use Rattle.ct_base.specs.declared.operators.UnaryOp.{UnaryOp}
use Rattle.ct_base.specs.declared.operators.UnaryOp.TheVariants.{Plus, Minus, Complement, Not}
use Rattle.ct_ctype.specs.declared.kinds.IntKind.{IntKind}
use Rattle.ct_ctype.specs.Ranges.{width, is_signed, is_in_range, low_bits, value_of_bits, wrapped}

-- a result outside a signed kind is a fault (6.5p5); one of an unsigned kind is taken modulo 2 ^ width (6.2.5p9)
abbrev pub arithmetic : IntKind → ℤ → Result ℤ FaultKind
arithmetic kind number = if is_signed kind then (if is_in_range kind number then Ok number else Err SignedOverflow) else Ok (wrapped kind number)

abbrev pub is_zero : ℤ → Bool
is_zero (pos zero) = true
is_zero (pos (suc n)) = false
is_zero (negsuc n) = false

abbrev pub is_same : ℤ → ℤ → Bool
is_same left right = int_le left right && int_le right left

-- the number that is a quotient or a remainder, where the right operand is not 0 (6.5.5p5) and the quotient is in range (6.5.5p6)
abbrev pub divided : IntKind → ℤ → ℤ → ℤ → Result ℤ FaultKind
divided kind left right number = if is_zero right then Err DivideByZero else (if is_in_range kind (int_div left right) then Ok number else Err SignedOverflow)

-- the count of a shift is at least 0 and below the width (6.5.7p3)
abbrev pub is_count : IntKind → ℤ → Bool
is_count kind count = int_le (pos 0) count && int_lt count (pos (width kind))

-- left * 2 ^ count (6.5.7p4): of a signed kind neither the left operand may be negative nor the product outside the range
abbrev pub moved_left : IntKind → ℤ → ℤ → Result ℤ FaultKind
moved_left kind left product =
    if is_signed kind
    then (if int_le (pos 0) left && is_in_range kind product then Ok product else Err ShiftRange)
    else Ok (wrapped kind product)

abbrev pub shifted_left : IntKind → ℤ → ℤ → Result ℤ FaultKind
shifted_left kind left count = if is_count kind count then moved_left kind left (left *ℤ pos (2 ^ unsigned_abs count)) else Err ShiftRange

-- left / 2 ^ count; the target: rounded down also for negative numbers (6.5.7p5)
abbrev pub shifted_right : IntKind → ℤ → ℤ → Result ℤ FaultKind
shifted_right kind left count = if is_count kind count then Ok (int_div_euclid left (pos (2 ^ unsigned_abs count))) else Err ShiftRange

-- 1 where the relation holds, else 0 (6.5.8p6 and 6.5.9p3)
abbrev pub truth : Bool → Result ℤ FaultKind
truth holds = Ok (if holds then pos 1 else pos 0)

unfoldable pub binary_result : BinaryOp → IntKind → ℤ → ℤ → Result ℤ FaultKind
binary_result Multiply kind left right = arithmetic kind (left *ℤ right)
binary_result Divide kind left right = divided kind left right (int_div left right)
binary_result Remainder kind left right = divided kind left right (int_rem left right)
binary_result Add kind left right = arithmetic kind (left +ℤ right)
binary_result Subtract kind left right = arithmetic kind (left -ℤ right)
binary_result ShiftLeft kind left right = shifted_left kind left right
binary_result ShiftRight kind left right = shifted_right kind left right
binary_result Less kind left right = truth (int_lt left right)
binary_result Greater kind left right = truth (int_lt right left)
binary_result LessEqual kind left right = truth (int_le left right)
binary_result GreaterEqual kind left right = truth (int_le right left)
binary_result Equal kind left right = truth (is_same left right)
binary_result NotEqual kind left right = truth (not (is_same left right))
binary_result And kind left right = Ok (value_of_bits kind (bit_and (low_bits kind left) (low_bits kind right)))
binary_result Xor kind left right = Ok (value_of_bits kind (bit_xor (low_bits kind left) (low_bits kind right)))
binary_result Or kind left right = Ok (value_of_bits kind (bit_or (low_bits kind left) (low_bits kind right)))

unfoldable pub unary_result : UnaryOp → IntKind → ℤ → Result ℤ FaultKind
unary_result Plus kind operand = Ok operand
unary_result Minus kind operand = arithmetic kind (neg_ℤ operand)
unary_result Complement kind operand = Ok (value_of_bits kind (2 ^ width kind - 1 - low_bits kind operand))
unary_result Not kind operand = truth (is_zero operand)

-- the operators whose right operand is a count
abbrev pub is_shift : BinaryOp → Bool
is_shift ShiftLeft = true
is_shift ShiftRight = true
is_shift _ = false
