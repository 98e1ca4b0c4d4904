-- What is open behind the lines of an outline: nothing, or what the place tells at which the conditionals are not balanced.
use Rattle.std.proofs.Common.{◌≡◌, ℕ, suc, Bool, false, List, [], ◌∷◌, ◌++◌, length, Option, Some, None, refl, sym, ◌∙◌}
use Rattle.ct_base.specs.declared.lexical.Token.{Token}
use Rattle.ct_directive.specs.Groups.{IfLine, line_of, Group, Others, IsGroup, AreOthers, ends}
use Rattle.ct_directive.proofs.Shapes.{Shape, behind, run}
use Rattle.ct_directive.proofs.Running.{step, step_to, run_behind, run_before, ends_close, ends_count}
use Rattle.ct_directive.proofs.Sound.{opened, run_group, run_others}
use Rattle.ct_directive.proofs.Complete.{complete}

-- no conditional is open behind lines that are a group
pub whole_run : (lines : List (List Token)) (group : Group) → IsGroup lines group [] → run [] lines ≡ Some []
whole_run lines group is = run_group [] is

-- a line behind which no lines make a group breaks the open conditionals
pub breaks_there : (before : List (List Token)) (line : List Token) (shapes : List Shape) (found : Option (List Shape)) → run [] before ≡ Some shapes
    → behind (line_of line) shapes ≡ found → ((more : List (List Token)) (other : Group) → IsGroup (before ++ line ∷ more) other [] → ⊥) → behind (line_of line) shapes ≡ None
breaks_there before line shapes None e is never = is
breaks_there before line shapes (Some next) e is never =
    let r = complete (before ++ line ∷ ends (length next))
    (run_behind [] shapes before (line ∷ ends (length next)) e ∙ step_to shapes next line (ends (length next)) is ∙ ends_close next) in
    absurd (never (ends (length next)) r.0 r.1)

-- Behind the lines before the place of a break as many conditionals are open as lines `#endif` make a group of them; the line there breaks them.
pub breaks_run : (before : List (List Token)) (line : List Token) (count : ℕ) (group : Group)
    → ((more : List (List Token)) (other : Group) → IsGroup (before ++ line ∷ more) other [] → ⊥) → IsGroup (before ++ ends count) group []
    → (shapes : List Shape) × (run [] before ≡ Some shapes) × (behind (line_of line) shapes ≡ None) × (length shapes ≡ count)
breaks_run before line count group never is =
    let r = run_before [] [] before (ends count) (whole_run (before ++ ends count) group is) in
    (r.0, r.1, breaks_there before line r.0 (behind (line_of line) r.0) r.1 refl never, ends_count count r.0 r.2)

-- At the end of lines in which a conditional is still open it is the innermost, and as many are open as lines `#endif` make a group of them.
pub unended_run : (outer inside more : List (List Token)) (line : List Token) (number : ℕ) (name : Token) (tokens : List Token) (inner : Group) (others : Others) (count : ℕ) (group : Group)
    → line_of line ≡ IfLine number name tokens → IsGroup inside inner more → AreOthers more others [] → IsGroup ((outer ++ line ∷ inside) ++ ends count) group []
    → (last : Bool) × (shapes : List Shape) × (run [] (outer ++ line ∷ inside) ≡ Some (record { number = number; last = last } ∷ shapes)) × (suc (length shapes) ≡ count)
unended_run outer inside more line number name tokens inner further count group opens is_inner are_others is =
    let r = run_before [] [] (outer ++ line ∷ inside) (ends count) (whole_run ((outer ++ line ∷ inside) ++ ends count) group is) in
    let s = run_before [] r.0 outer (line ∷ inside) r.1 in
    let o = run_others number s.0 are_others in
    let there : run s.0 (line ∷ inside) ≡ Some (opened number o.0 ∷ s.0) =
    step s.0 line inside (IfLine number name tokens) opens ∙ run_group (opened number false ∷ s.0) is_inner ∙ o.1 in
    let whole : run [] (outer ++ line ∷ inside) ≡ Some (opened number o.0 ∷ s.0) = run_behind [] s.0 outer (line ∷ inside) s.1 ∙ there in
    let closes : run (opened number o.0 ∷ s.0) (ends count) ≡ Some [] =
    sym (run_behind [] (opened number o.0 ∷ s.0) (outer ++ line ∷ inside) (ends count) whole) ∙ whole_run ((outer ++ line ∷ inside) ++ ends count) group is in
    (o.0, s.0, whole, ends_count count (opened number o.0 ∷ s.0) closes)
