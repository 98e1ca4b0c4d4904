-- How a text is read, line by line. No public clause speaks of it.
use Rattle.std.specs.Prelude.{◌≡◌, ℕ, ◌+◌, ◌==◌, ◌&&◌, Bool, false, List, [], ◌∷◌, Option, Some, None, Result, Ok, Err, if◌then◌else◌}
use Rattle.std.specs.Str.{is_utf8}
use Rattle.ct_yaml.specs.declared.node.Node.{Node}
use Rattle.ct_base.specs.declared.memory.Fail.{Fail}
use Rattle.ct_base.specs.declared.memory.Fail.TheVariants.{Fault, OutOfMemory}
use Rattle.ct_yaml.specs.declared.text.Reader.{Reader}
use Rattle.ct_yaml.specs.declared.text.YamlFault.{YamlFault}
use Rattle.ct_yaml.specs.declared.text.Phase.{Phase}
use Rattle.ct_yaml.specs.declared.text.Phase.TheVariants.{Start, Body, Ended}
use Rattle.ct_yaml.specs.Line.{is_blank_line, is_end}
use Rattle.ct_yaml.specs.Text.{line_number}
use Rattle.ct_yaml.specs.Reading.{then_read, line_marks, mapped}
use Rattle.ct_yaml.specs.Stack.{Open, steps, text_node, view}

-- where in the text, and what is open
abbrev pub Place : Type 0
Place = Phase × Open

-- three times the byte, and nothing else that counts
abbrev pub is_marker : ℕ → List ℕ → Bool
is_marker byte (a ∷ b ∷ c ∷ rest) = (a == byte) && (b == byte) && (c == byte) && is_end rest
is_marker byte _ = false

abbrev pub body_step : Open → List ℕ → Option Place
body_step now line = mapped (λ after. (Body, after)) (then_read (line_marks line) (steps now))

abbrev pub other_step : Phase → Open → List ℕ → Option Place
other_step Start now line =
    if is_marker 45 line then Some (Body, now)
    else if is_marker 46 line then Some (Ended, now) else body_step now line
other_step Body now line = if is_marker 46 line then Some (Ended, now) else body_step now line
other_step Ended now line = None

unfoldable pub line_step : Place → List ℕ → Option Place
line_step place line =
    if is_utf8 line then (if is_blank_line line then Some place else other_step place.0 place.1 line) else None

-- the node, or the line that is refused, where n lines came before
abbrev pub run : ℕ → Place → List (List ℕ) → Result Node ℕ
run n place [] = Ok (text_node place.1)
run n place (line ∷ lines) = elim (line_step place line) [ None ↦ Err (n + 1) | Some after ↦ run (n + 1) after lines ]

abbrev pub started : Place
started = (Start, ([], None))

unfoldable pub run_all : List (List ℕ) → Result Node ℕ
run_all lines = run 0 started lines

-- a reader's place
abbrev pub place_of : Reader → Place
place_of reader = (reader.phase, view reader.blocks)

-- what a run comes to, unless memory runs out
abbrev pub Comes : Result Node (Fail YamlFault) → Result Node ℕ → Type 0
Comes (Ok node) run = run ≡ Ok node
Comes (Err (Fault fault)) run = (n : ℕ) × (run ≡ Err n) × (fault.line ≡ line_number n)
Comes (Err OutOfMemory) run = Unit {0}
