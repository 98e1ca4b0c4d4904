-- How the open conditionals go on from line to line.
use Rattle.std.proofs.Common.{◌≡◌, ℕ, zero, suc, List, [], ◌∷◌, ◌++◌, length, Option, Some, None, refl, sym, ap, ◌∙◌}
use Rattle.ct_base.specs.declared.lexical.Token.{Token}
use Rattle.ct_directive.specs.Groups.{Line, line_of, ends}
use Rattle.ct_directive.proofs.Shapes.{Shape, behind, goes, run}

-- ---- something and nothing

-- none is no value
pub none_is_not_some : {A : Type 0} {x : A} → ◌≡◌ {A = Option A} None (Some x) → ⊥
none_is_not_some e = cc

-- one option has one value
pub same_some : {A : Type 0} {x y : A} → ◌≡◌ {A = Option A} (Some x) (Some y) → x ≡ y
same_some e = cc

-- an empty list has no first element
pub empty_has_no_first : {A : Type 0} {x : A} {xs : List A} → ◌≡◌ {A = List A} [] (x ∷ xs) → ⊥
empty_has_no_first e = cc

-- ---- a line, and the lines behind it

-- what is open behind lines whose first line is of this kind
pub step : (shapes : List Shape) (line : List Token) (lines : List (List Token)) (kind : Line) → line_of line ≡ kind
    → run shapes (line ∷ lines) ≡ goes (behind kind shapes) (λ next. run next lines)
step shapes line lines kind e = ap (λ (k : Line). goes (behind k shapes) (λ (next : List Shape). run next lines)) e

-- lines go on from what is open behind their first line
pub step_to : (shapes next : List Shape) (line : List Token) (lines : List (List Token)) → behind (line_of line) shapes ≡ Some next
    → run shapes (line ∷ lines) ≡ run next lines
step_to shapes next line lines e = ap (λ (found : Option (List Shape)). goes found (λ (after : List Shape). run after lines)) e

-- nothing is open behind lines whose first line breaks the conditionals
pub step_breaks : (shapes : List Shape) (line : List Token) (lines : List (List Token)) → behind (line_of line) shapes ≡ None → run shapes (line ∷ lines) ≡ None
step_breaks shapes line lines e = ap (λ (found : Option (List Shape)). goes found (λ (after : List Shape). run after lines)) e

-- where something is found behind a step, the step was made
pub step_was_made : (found : Option (List Shape)) (next : List Shape → Option (List Shape)) (target : List Shape) → goes found next ≡ Some target
    → (between : List Shape) × (found ≡ Some between) × (next between ≡ Some target)
step_was_made None next target e = absurd (none_is_not_some e)
step_was_made (Some between) next target e = (between, refl, e)

-- ---- lines behind lines

-- a step, and lines and further lines behind it
goes_on : (found : Option (List Shape)) (whole first second : List Shape → Option (List Shape)) → ((between : List Shape) → whole between ≡ goes (first between) second)
    → goes found whole ≡ goes (goes found first) second
goes_on None whole first second each = refl
goes_on (Some between) whole first second each = each between

-- lines behind lines go on from what is open there
pub run_append : (shapes : List Shape) (lines more : List (List Token)) → run shapes (lines ++ more) ≡ goes (run shapes lines) (λ next. run next more)
run_append shapes [] more = refl
run_append shapes (line ∷ lines) more =
    goes_on (behind (line_of line) shapes) (λ between. run between (lines ++ more)) (λ between. run between lines) (λ next. run next more)
    (λ between. run_append between lines more)

-- lines behind lines that break nothing go on from what is open there
pub run_behind : (shapes next : List Shape) (lines more : List (List Token)) → run shapes lines ≡ Some next → run shapes (lines ++ more) ≡ run next more
run_behind shapes next lines more e = run_append shapes lines more ∙ ap (λ (found : Option (List Shape)). goes found (λ (after : List Shape). run after more)) e

-- where lines break the conditionals, no lines behind them mend it
pub run_broken : (shapes : List Shape) (lines more : List (List Token)) → run shapes lines ≡ None → run shapes (lines ++ more) ≡ None
run_broken shapes lines more e = run_append shapes lines more ∙ ap (λ (found : Option (List Shape)). goes found (λ (after : List Shape). run after more)) e

-- where lines and lines behind them break nothing, the first lines break nothing
pub run_before : (shapes target : List Shape) (lines more : List (List Token)) → run shapes (lines ++ more) ≡ Some target
    → (next : List Shape) × (run shapes lines ≡ Some next) × (run next more ≡ Some target)
run_before shapes target lines more e = step_was_made (run shapes lines) (λ next. run next more) target (sym (run_append shapes lines more) ∙ e)

-- ---- the lines `#endif` that close what is open

-- as many lines `#endif` as conditionals are open close them all
pub ends_close : (shapes : List Shape) → run shapes (ends (length shapes)) ≡ Some []
ends_close [] = refl
ends_close (shape ∷ shapes) = ends_close shapes

-- so many lines `#endif` close so many conditionals
pub ends_count : (count : ℕ) (shapes : List Shape) → run shapes (ends count) ≡ Some [] → length shapes ≡ count
ends_count zero [] e = refl
ends_count zero (shape ∷ shapes) e = absurd (empty_has_no_first (sym (same_some e)))
ends_count (suc count) [] e = absurd (none_is_not_some e)
ends_count (suc count) (shape ∷ shapes) e = ap suc (ends_count count shapes e)

-- lines and the lines `#endif` that close what is open behind them
pub closed_by_ends : (lines : List (List Token)) (shapes : List Shape) (count : ℕ) → run [] lines ≡ Some shapes → length shapes ≡ count
    → run [] (lines ++ ends count) ≡ Some []
closed_by_ends lines shapes count e long =
    run_behind [] shapes lines (ends count) e ∙ ap (λ (n : ℕ). run shapes (ends n)) (sym long) ∙ ends_close shapes
