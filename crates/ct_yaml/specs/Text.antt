-- Whole texts.
use Rattle.std.specs.Prelude.{◌≡◌, ◌⊎◌, ℕ, ◌-◌, ◌^◌, min, ◌<◌, ◌≤◌, ◌==◌, ◌&&◌, Bool, false, not, if◌then◌else◌, List, [], ◌∷◌, ◌++◌, All, filter, take, length, codes}
use Rattle.std.specs.Str.{IsUtf8}
use Rattle.ct_yaml.specs.declared.node.Node.{Node}
use Rattle.ct_yaml.specs.declared.node.Node.TheVariants.{Map}
use Rattle.ct_yaml.specs.declared.mark.Mark.{Mark}
use Rattle.ct_base.specs.declared.memory.Fail.{Fail}
use Rattle.ct_base.specs.declared.memory.Fail.TheVariants.{Fault, OutOfMemory}
use Rattle.ct_yaml.specs.declared.text.YamlFault.{YamlFault}
use Rattle.ct_yaml.specs.Line.{is_blank_line, IsLine, IsMarker}
use Rattle.ct_yaml.specs.Block.{Layout, nothing, on_line, map_at, list_at, marks_of, IsIndented, node_of, depth_of}

-- in front of the first line
abbrev pub in_front : List ℕ → List (List ℕ) → List (List ℕ)
in_front front [] = front ∷ []
in_front front (line ∷ lines) = (front ++ line) ∷ lines

abbrev pub begins_newline : List ℕ → Bool
begins_newline [] = false
begins_newline (byte ∷ bytes) = byte == 10

-- The lines of a text. A new-line ends one, and a carriage return before it is dropped.
abbrev pub text_lines : List ℕ → List (List ℕ)
text_lines [] = []
text_lines (byte ∷ bytes) =
    if byte == 10 then [] ∷ text_lines bytes
    else if (byte == 13) && begins_newline bytes then text_lines bytes
    else in_front (byte ∷ []) (text_lines bytes)

-- the lines that count
abbrev pub other_lines : List (List ℕ) → List (List ℕ)
other_lines lines = filter (λ line. not (is_blank_line line)) lines

-- no line, or one that is a marker
abbrev pub MayBeMarker : List ℕ → List (List ℕ) → Type 0
MayBeMarker text lines = (lines ≡ []) ⊎ ((line : List ℕ) × (lines ≡ line ∷ []) × IsMarker text line)

-- the marks of lines, one line after another
abbrev pub AreLines : List (List ℕ) → List Mark → Type 0
AreLines [] marks = marks ≡ []
AreLines (line ∷ lines) marks = (first rest : List Mark) × (marks ≡ first ++ rest) × IsLine line first × AreLines lines rest

-- A text's node is a map. A text of no entry is the empty one.
abbrev pub IsTop : Layout → Node → Type 0
IsTop nothing node = node ≡ Map []
IsTop (on_line value) node = ⊥
IsTop (map_at column before key value) node = node ≡ node_of (map_at column before key value)
IsTop (list_at column before value) node = ⊥

-- The lines spell the node.
pub record SpellsNode (lines : List (List ℕ)) (node : Node) : Type 0 where
  pub layout : Layout
  pub start : List (List ℕ)
  pub body : List (List ℕ)
  pub finish : List (List ℕ)
  -- the text is UTF-8
  pub utf8 : All IsUtf8 lines
  -- the first line that counts may be `---`, the last `...`
  pub others : other_lines lines ≡ start ++ body ++ finish
  pub starts : MayBeMarker (codes "---") start
  pub finishes : MayBeMarker (codes "...") finish
  -- the lines between are those of a tree
  pub written : AreLines body (marks_of layout)
  pub indented : IsIndented layout
  pub nesting : depth_of layout ≤ 32
  pub top : IsTop layout node

-- the lines begin a text
abbrev pub Begins : List (List ℕ) → Type 0
Begins lines = (more : List (List ℕ)) × (node : Node) × SpellsNode (lines ++ more) node

-- The line at which a text is refused, counted from 1: the least number of first lines that begin no text, and
-- the last line where there is none.
abbrev pub IsFaultLine : List (List ℕ) → ℕ → Type 0
IsFaultLine lines n =
    ((n ≤ length lines) × (Begins (take n lines) → ⊥) × ((m : ℕ) → m < n → Begins (take m lines)))
    ⊎ ((n ≡ length lines) × ((m : ℕ) → m ≤ length lines → Begins (take m lines)))

-- a number of a line, which stands still at the end of its type
abbrev pub line_number : ℕ → ℕ
line_number n = min n (2 ^ 32 - 1)

-- What it says that a text is refused: no node is spelled, and this is the line. Memory may run out.
abbrev pub IsRefused : List (List ℕ) → Fail YamlFault → Type 0
IsRefused lines (Fault fault) =
    ((node : Node) → SpellsNode lines node → ⊥) × ((n : ℕ) × IsFaultLine lines n × (fault.line ≡ line_number n))
IsRefused lines OutOfMemory = Unit {0}
