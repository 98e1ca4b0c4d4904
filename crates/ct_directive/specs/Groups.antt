-- The groups of a file (C11 6.10p1): which lines stand in which group of which conditional, and where the conditionals
-- of a file are not balanced.
use Rattle.std.specs.Prelude.{◌≡◌, ℕ, zero, suc, ◌||◌, Bool, false, List, [], ◌∷◌, ◌++◌, Option, Some, None, codes, if◌then◌else◌}
use Rattle.ct_base.specs.declared.lexical.Token.{Token}
use Rattle.ct_base.specs.declared.lexical.TokenKind.{TokenKind}
use Rattle.ct_base.specs.declared.lexical.TokenKind.TheVariants as kinds
use Rattle.ct_directive.specs.Forms.{is}
use Rattle.ct_directive.specs.Lines.{directive_in}

-- ---- what a line is

-- A text line, or a directive with the number of its line: a control line has all tokens behind its `#`, and a line that
-- opens a conditional or goes on with one has those behind its name. The last line of a conditional is no part of a group.
pub data Line : Type 0 where
  TextLine : Line
  ControlLine : (number : ℕ) → (tokens : List Token) → Line
  IfLine : (number : ℕ) → (name : Token) → (tokens : List Token) → Line
  ElifLine : (number : ℕ) → (tokens : List Token) → Line
  ElseLine : (number : ℕ) → Line
  EndifLine : (number : ℕ) → Line

abbrev pub opens_group : Token → Bool
opens_group name = is (codes "if") name || is (codes "ifdef") name || is (codes "ifndef") name

-- a directive, by the name behind its `#`
abbrev pub directive_line : ℕ → List Token → Line
directive_line number [] = ControlLine number []
directive_line number (name ∷ tokens) =
    if is (codes "endif") name then EndifLine number
    else if is (codes "else") name then ElseLine number
    else if is (codes "elif") name then ElifLine number tokens
    else if opens_group name then IfLine number name tokens else ControlLine number (name ∷ tokens)

abbrev pub line_by : Option (Token × List Token) → Line
line_by None = TextLine
line_by (Some found) = directive_line found.0.span.line found.1

abbrev pub line_of : List Token → Line
line_of line = line_by (directive_in line)

-- ---- groups

mutual
  -- the parts of a group, one behind the other
  pub data Group : Type 0 where
    Nothing : Group
    Text : (line : List Token) → (behind : Group) → Group
    Control : (number : ℕ) → (tokens : List Token) → (behind : Group) → Group
    Section : (number : ℕ) → (name : Token) → (tokens : List Token) → (inner : Group) → (others : Others) → (behind : Group) → Group

  -- the groups of a conditional behind its first one
  pub data Others : Type 0 where
    NoOthers : Others
    Elif : (number : ℕ) → (tokens : List Token) → (inner : Group) → (others : Others) → Others
    Else : (inner : Group) → Others

mutual
  -- These lines begin with this group, and these lines are left behind it. What is left may go on with further parts:
  -- a group is as long as what follows it asks for.
  pub data IsGroup : List (List Token) → Group → List (List Token) → Type 0 where
    nothing : {rest : List (List Token)} → IsGroup rest Nothing rest
    text : {line : List Token} {lines rest : List (List Token)} {behind : Group}
        → line_of line ≡ TextLine → IsGroup lines behind rest → IsGroup (line ∷ lines) (Text line behind) rest
    control : {line : List Token} {lines rest : List (List Token)} {number : ℕ} {tokens : List Token} {behind : Group}
        → line_of line ≡ ControlLine number tokens → IsGroup lines behind rest → IsGroup (line ∷ lines) (Control number tokens behind) rest
    section : {line last : List Token} {lines more after rest : List (List Token)} {number end : ℕ} {name : Token} {tokens : List Token} {inner behind : Group} {others : Others}
        → line_of line ≡ IfLine number name tokens → IsGroup lines inner more → AreOthers more others (last ∷ after)
        → line_of last ≡ EndifLine end → IsGroup after behind rest
        → IsGroup (line ∷ lines) (Section number name tokens inner others behind) rest

  -- these lines begin with further groups of a conditional
  pub data AreOthers : List (List Token) → Others → List (List Token) → Type 0 where
    none : {rest : List (List Token)} → AreOthers rest NoOthers rest
    elif : {line : List Token} {lines more rest : List (List Token)} {number : ℕ} {tokens : List Token} {inner : Group} {others : Others}
        → line_of line ≡ ElifLine number tokens → IsGroup lines inner more → AreOthers more others rest
        → AreOthers (line ∷ lines) (Elif number tokens inner others) rest
    last : {line : List Token} {lines rest : List (List Token)} {number : ℕ} {inner : Group}
        → line_of line ≡ ElseLine number → IsGroup lines inner rest → AreOthers (line ∷ lines) (Else inner) rest

-- ---- the outline of a file

abbrev pub written : TokenKind → List ℕ → Token
written kind spelling = record { kind = kind; text = spelling; span = record { file = 0; line = 0 }; spaced = false }

-- so many lines `#endif`
abbrev pub ends : ℕ → List (List Token)
ends zero = []
ends (suc count) = (written kinds.Punct (codes "#") ∷ written kinds.Name (codes "endif") ∷ []) ∷ ends count

-- The group that a file is. Where its conditionals are not balanced the number of a line says so, and the group is that
-- of the lines before, with as many lines `#endif` as are wanted: the first line that breaks them, so that no lines behind
-- it make all of them a group; or, where the file ends with open conditionals, the line that opens the innermost one.
pub data IsOutline : List (List Token) → Group → Option ℕ → Type 0 where
  whole : {lines : List (List Token)} {group : Group} → IsGroup lines group [] → IsOutline lines group None
  breaks : (before after : List (List Token)) (line : List Token) {found : Token × List Token} (count : ℕ) {group : Group}
      → directive_in line ≡ Some found
      → ((more : List (List Token)) (other : Group) → IsGroup (before ++ line ∷ more) other [] → ⊥)
      → IsGroup (before ++ ends count) group []
      → IsOutline (before ++ line ∷ after) group (Some found.0.span.line)
  unended : (outer : List (List Token)) {inside more : List (List Token)} (line : List Token) {number : ℕ} {name : Token} {tokens : List Token} {inner : Group} {others : Others} (count : ℕ) {group : Group}
      → line_of line ≡ IfLine number name tokens
      → IsGroup inside inner more → AreOthers more others []
      → IsGroup ((outer ++ line ∷ inside) ++ ends count) group []
      → IsOutline (outer ++ line ∷ inside) group (Some number)
