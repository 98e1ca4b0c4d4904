-- A group leaves the conditionals that are open around it as they were.
use Rattle.std.proofs.Common.{◌≡◌, ℕ, Bool, true, false, List, ◌∷◌, refl, ◌∙◌}
use Rattle.ct_base.specs.declared.lexical.Token.{Token}
use Rattle.ct_directive.specs.Groups.{TextLine, ControlLine, IfLine, ElifLine, ElseLine, EndifLine, Group, Others, IsGroup, AreOthers, nothing, text, control, section, none, elif, last}
use Rattle.ct_directive.proofs.Shapes.{Shape, run}
use Rattle.ct_directive.proofs.Running.{step}

-- an open conditional by the line that opens it, and whether its last group is begun
abbrev pub opened : ℕ → Bool → Shape
opened number ending = record { number = number; last = ending }

mutual
  -- the same conditionals are open behind a group as before it
  pub run_group : {lines rest : List (List Token)} {group : Group} (shapes : List Shape) → IsGroup lines group rest → run shapes lines ≡ run shapes rest
  run_group shapes nothing = refl
  run_group shapes (text {line = line} {lines = lines} is more) = step shapes line lines TextLine is ∙ run_group shapes more
  run_group shapes (control {line = line} {lines = lines} {number = number} {tokens = tokens} is more) =
      step shapes line lines (ControlLine number tokens) is ∙ run_group shapes more
  run_group shapes (section {line = line} {last = closing} {lines = lines} {after = after} {number = number} {end = end} {name = name} {tokens = tokens} is within others closes more) =
      let r = run_others number shapes others in
      step shapes line lines (IfLine number name tokens) is
      ∙ run_group (opened number false ∷ shapes) within
      ∙ r.1
      ∙ step (opened number r.0 ∷ shapes) closing after (EndifLine end) closes
      ∙ run_group shapes more

  -- behind the further groups of a conditional at most its last group is begun
  pub run_others : {lines rest : List (List Token)} {others : Others} (number : ℕ) (shapes : List Shape) → AreOthers lines others rest
      → (ending : Bool) × (run (opened number false ∷ shapes) lines ≡ run (opened number ending ∷ shapes) rest)
  run_others number shapes none = (false, refl)
  run_others number shapes (elif {line = line} {lines = lines} {number = place} {tokens = tokens} is within others) =
      let r = run_others number shapes others in
      (r.0, step (opened number false ∷ shapes) line lines (ElifLine place tokens) is ∙ run_group (opened number false ∷ shapes) within ∙ r.1)
  run_others number shapes (last {line = line} {lines = lines} {number = place} is within) =
      (true, step (opened number false ∷ shapes) line lines (ElseLine place) is ∙ run_group (opened number true ∷ shapes) within)
