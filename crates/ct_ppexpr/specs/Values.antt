-- Values of the expressions of conditions (C11 6.10.1p4): the arithmetic of C, where each signed type is that of the
-- greatest signed integers and each unsigned type that of the greatest unsigned ones.
use Rattle.std.specs.Prelude.{ℕ, ◌^◌, Bool, true, false, not, ◌&&◌, ◌||◌, if◌then◌else◌, nat_le, ℤ, pos, Result, Ok, Err}
use Rattle.ct_base.specs.declared.faults.FaultKind.{FaultKind}
use Rattle.ct_base.specs.declared.faults.FaultKind.TheVariants as fault
use Rattle.ct_base.specs.declared.operators.BinaryOp.{BinaryOp}
use Rattle.ct_base.specs.declared.operators.BinaryOp.TheVariants as op
use Rattle.ct_base.specs.declared.operators.UnaryOp.{UnaryOp}
use Rattle.ct_base.specs.declared.operators.UnaryOp.TheVariants as prefix
use Rattle.ct_ctype.specs.declared.kinds.IntKind.{IntKind}
use Rattle.ct_ctype.specs.declared.kinds.IntKind.TheVariants.{Bool as Boolean, Char, LongLong, UnsignedLongLong}
use Rattle.ct_ctype.specs.Ranges.{is_signed}
use Rattle.ct_ctype.specs.Conversion.{common_kind, converted}
use Rattle.ct_ctype.specs.Operation.{binary_result, unary_result, is_zero, is_shift}
use Rattle.ct_token.specs.declared.constants.Literal.{Literal}
use Rattle.ct_ppexpr.specs.declared.values.Fault.{Fault}
use Rattle.ct_ppexpr.specs.declared.values.Fault.TheVariants.{DivideByZero, Overflow, Shift, Comma}
use Rattle.ct_ppexpr.specs.declared.values.Value.{Value}
use Rattle.ct_ppexpr.specs.declared.words.Infix.{Infix}
use Rattle.ct_ppexpr.specs.declared.words.Infix.TheVariants.{Compute, Both, Either, Comma as CommaOperator}

abbrev pub Evaluated : Type 0
Evaluated = Result ℤ Fault

abbrev pub value : Bool → Evaluated → Value
value unsigned outcome = record { unsigned = unsigned; outcome = outcome }

abbrev pub kind_of : Bool → IntKind
kind_of true = UnsignedLongLong
kind_of false = LongLong

-- a number goes on; a fault stays
abbrev pub then_do : Evaluated → (ℤ → Evaluated) → Evaluated
then_do (Ok number) next = next number
then_do (Err fault) next = Err fault

-- the faults that operators have
abbrev pub fault_of : FaultKind → Fault
fault_of fault.DivideByZero = DivideByZero
fault_of fault.ShiftRange = Shift
fault_of _ = Overflow

abbrev pub outcome_of : Result ℤ FaultKind → Evaluated
outcome_of (Ok number) = Ok number
outcome_of (Err fault) = Err (fault_of fault)

-- a comparison gives 0 or 1 of a signed type
abbrev pub is_comparison : BinaryOp → Bool
is_comparison op.Less = true
is_comparison op.Greater = true
is_comparison op.LessEqual = true
is_comparison op.GreaterEqual = true
is_comparison op.Equal = true
is_comparison op.NotEqual = true
is_comparison _ = false

-- the type in which an operator computes: of a shift that of the left operand, else the common one (6.3.1.8, 6.5.7p3)
abbrev pub kind_for : BinaryOp → Bool → Bool → IntKind
kind_for op left right =
    if is_shift op then kind_of left else common_kind (kind_of left) (kind_of right)

-- the outcome of an operator in a type, where the operands have outcomes; the count of a shift is not converted
abbrev pub binary_outcome : BinaryOp → IntKind → Evaluated → Evaluated → Evaluated
binary_outcome op kind left right =
    then_do left (λ a. then_do right (λ b. outcome_of (binary_result op kind (converted a kind) (if is_shift op then b else converted b kind))))

abbrev pub binary_value : BinaryOp → Value → Value → Value
binary_value op left right =
    let kind = kind_for op left.unsigned right.unsigned in
    value (not (is_comparison op || is_signed kind)) (binary_outcome op kind left.outcome right.outcome)

abbrev pub is_not : UnaryOp → Bool
is_not prefix.Not = true
is_not _ = false

abbrev pub unary_outcome : UnaryOp → IntKind → Evaluated → Evaluated
unary_outcome op kind operand = then_do operand (λ a. outcome_of (unary_result op kind (converted a kind)))

abbrev pub unary_value : UnaryOp → Value → Value
unary_value op operand =
    value (operand.unsigned && not (is_not op)) (unary_outcome op (kind_of operand.unsigned) operand.outcome)

abbrev pub truth_outcome : Evaluated → Evaluated
truth_outcome operand = then_do operand (λ a. Ok (converted a Boolean))

abbrev pub converted_outcome : IntKind → Evaluated → Evaluated
converted_outcome kind operand = then_do operand (λ a. Ok (converted a kind))

-- `&&` and `||` evaluate the right operand only where the left one leaves the result open (6.5.13p4, 6.5.14p4)
abbrev pub both_outcome : Evaluated → Evaluated → Evaluated
both_outcome left right =
    then_do left (λ a. if is_zero a then Ok (pos 0) else truth_outcome right)

abbrev pub either_outcome : Evaluated → Evaluated → Evaluated
either_outcome left right =
    then_do left (λ a. if is_zero a then truth_outcome right else Ok (pos 1))

-- no comma may be evaluated, whatever its operands are (6.6p3); its type is that of the right one (6.5.17p2)
abbrev pub infix_value : Infix → Value → Value → Value
infix_value (Compute op) left right = binary_value op left right
infix_value Both left right = value false (both_outcome left.outcome right.outcome)
infix_value Either left right = value false (either_outcome left.outcome right.outcome)
infix_value CommaOperator left right = value right.unsigned (Err Comma)

-- one of the two is evaluated, and converted to their common type (6.5.15p4, 6.5.15p5)
abbrev pub choice_outcome : IntKind → Evaluated → Evaluated → Evaluated → Evaluated
choice_outcome kind test one other =
    then_do test (λ a. converted_outcome kind (if is_zero a then other else one))

abbrev pub choice_value : Value → Value → Value → Value
choice_value test one other =
    let kind = common_kind (kind_of one.unsigned) (kind_of other.unsigned) in
    value (not (is_signed kind)) (choice_outcome kind test.outcome one.outcome other.outcome)

-- a name counts as 0
abbrev pub name_value : Value
name_value = value false (Ok (pos 0))

-- an integer constant (6.4.4.1p5)
abbrev pub literal_value : Literal → Value
literal_value literal = value (literal.unsigned || nat_le (2 ^ 63) literal.value) (Ok (pos literal.value))

-- a character constant has the value of its `char` (6.4.4.4p10)
abbrev pub character_value : ℕ → Value
character_value byte = value false (Ok (converted (pos byte) Char))
