-- The value of a condition (C11 6.10.1).
use Rattle.std.specs.Prelude.{◌≡◌, ◌⊎◌, Bool, not, List, Result, Ok, Err}
use Rattle.ct_base.specs.declared.lexical.Token.{Token}
use Rattle.ct_ctype.specs.Operation.{is_zero}
use Rattle.ct_ppexpr.specs.declared.CondFault.{CondFault}
use Rattle.ct_ppexpr.specs.declared.CondFault.TheVariants.{Grammar, DivideByZero, Overflow, Shift}
use Rattle.ct_ppexpr.specs.declared.values.Fault.TheVariants as fault
use Rattle.ct_ppexpr.specs.declared.words.Word.{Word}
use Rattle.ct_ppexpr.specs.Values.{Evaluated}
use Rattle.ct_ppexpr.specs.Trees.{Tree, SpellsCondition, value_of}
use Rattle.ct_ppexpr.specs.Words.{AreWords}

-- the tokens are an expression with this outcome
abbrev pub Evaluates : List Token → Evaluated → Type 0
Evaluates tokens outcome =
    (words : List Word) × (tree : Tree) × AreWords tokens words × SpellsCondition tree words × ((value_of tree).outcome ≡ outcome)

-- the tokens are no expression
abbrev pub IsNoExpression : List Token → Type 0
IsNoExpression tokens = (words : List Word) (tree : Tree) → AreWords tokens words → SpellsCondition tree words → ⊥

-- A condition holds where its number is not 0. With a comma that is evaluated it is no constant expression (6.6p3).
abbrev pub answer_of : Evaluated → Result Bool CondFault
answer_of (Ok number) = Ok (not (is_zero number))
answer_of (Err fault.DivideByZero) = Err DivideByZero
answer_of (Err fault.Overflow) = Err Overflow
answer_of (Err fault.Shift) = Err Shift
answer_of (Err fault.Comma) = Err Grammar

-- The answer to the tokens of a condition: by the value of the expression that they are, where the first fault of the
-- parts that are evaluated counts, an evaluated comma among the faults; or that they are no expression.
abbrev pub HasValue : List Token → Result Bool CondFault → Type 0
HasValue tokens answer =
    ((outcome : Evaluated) × Evaluates tokens outcome × (answer ≡ answer_of outcome))
    ⊎ (IsNoExpression tokens × (answer ≡ Err Grammar))
