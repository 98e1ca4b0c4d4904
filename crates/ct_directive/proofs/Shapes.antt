-- The conditionals that are open behind some lines.
use Rattle.std.proofs.Common.{ℕ, Bool, true, false, if◌then◌else◌, List, [], ◌∷◌, Option, Some, None}
use Rattle.ct_base.specs.declared.lexical.Token.{Token}
use Rattle.ct_directive.specs.Groups.{Line, TextLine, ControlLine, IfLine, ElifLine, ElseLine, EndifLine, line_of}

-- an open conditional: the number of the line that opens it, and whether its last group is begun
pub record Shape : Type 0 where
  pub number : ℕ
  pub last : Bool

abbrev pub ended : Shape → Shape
ended shape = record shape { last = true }

-- the open conditionals behind a line, the innermost first; none where the line breaks them
abbrev pub behind : Line → List Shape → Option (List Shape)
behind TextLine open_ones = Some open_ones
behind (ControlLine number tokens) open_ones = Some open_ones
behind (IfLine number name tokens) open_ones = Some (record { number = number; last = false } ∷ open_ones)
behind (ElifLine number tokens) [] = None
behind (ElifLine number tokens) (shape ∷ others) = if shape.last then None else Some (shape ∷ others)
behind (ElseLine number) [] = None
behind (ElseLine number) (shape ∷ others) = if shape.last then None else Some (ended shape ∷ others)
behind (EndifLine number) [] = None
behind (EndifLine number) (shape ∷ others) = Some others

abbrev pub goes : Option (List Shape) → (List Shape → Option (List Shape)) → Option (List Shape)
goes None next = None
goes (Some found) next = next found

-- the open conditionals behind some lines
abbrev pub run : List Shape → List (List Token) → Option (List Shape)
run open_ones [] = Some open_ones
run open_ones (line ∷ lines) = goes (behind (line_of line) open_ones) (λ next. run next lines)
