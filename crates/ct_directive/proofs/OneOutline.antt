-- Lines have an outline, and one alone.
use Rattle.std.proofs.Common.{◌≡◌, ℕ, suc, List, [], ◌∷◌, ◌++◌, length, Option, Some, None, option_map, refl, sym, ap, ap₂, subst, ◌∙◌}
use Rattle.ct_base.specs.declared.lexical.Token.{Token}
use Rattle.ct_directive.specs.Lines.{directive_in}
use Rattle.ct_directive.specs.Groups.{line_by, line_of, Group, IsGroup, ends, IsOutline, whole, breaks, unended}
use Rattle.ct_directive.proofs.Shapes.{Shape, behind, goes, run}
use Rattle.ct_directive.proofs.Running.{none_is_not_some, same_some, step_to, step_breaks, run_behind, step_was_made, closed_by_ends}
use Rattle.ct_directive.proofs.Complete.{complete, still_open, Opened}
use Rattle.ct_directive.proofs.Broken.{whole_run, breaks_run, unended_run}
use Rattle.ct_directive.proofs.OneGroup.{one_whole}

-- ---- the place at which lines break the conditionals

-- the first line that breaks the open conditionals, and what is open before it
record Break (shapes : List Shape) (lines : List (List Token)) : Type 0 where
  before : List (List Token)
  line : List Token
  after : List (List Token)
  there : List Shape
  split : lines ≡ before ++ line ∷ after
  runs : run shapes before ≡ Some there
  breaks_them : behind (line_of line) there ≡ None

-- the break of some lines is one of the lines with a line before them
break_later : (shapes next : List Shape) (line : List Token) (lines : List (List Token)) → behind (line_of line) shapes ≡ Some next → Break next lines → Break shapes (line ∷ lines)
break_later shapes next line lines e b =
    record {
      before = line ∷ b.before;
      line = b.line;
      after = b.after;
      there = b.there;
      split = ap (λ (rest : List (List Token)). line ∷ rest) b.split;
      runs = step_to shapes next line b.before e ∙ b.runs;
      breaks_them = b.breaks_them;
    }

-- a line breaks the conditionals, or a later one does
break_at : (shapes : List Shape) (line : List Token) (lines : List (List Token)) (found : Option (List Shape)) → behind (line_of line) shapes ≡ found
    → goes found (λ next. run next lines) ≡ None → ((next : List Shape) → run next lines ≡ None → Break next lines) → Break shapes (line ∷ lines)
break_at shapes line lines None is e later =
    record {
      before = [];
      line = line;
      after = lines;
      there = shapes;
      split = refl;
      runs = refl;
      breaks_them = is;
    }
break_at shapes line lines (Some next) is e later = break_later shapes next line lines is (later next e)

-- lines that break the conditionals have a first line that does
first_break : (lines : List (List Token)) (shapes : List Shape) → run shapes lines ≡ None → Break shapes lines
first_break [] shapes e = absurd (none_is_not_some (sym e))
first_break (line ∷ lines) shapes e = break_at shapes line lines (behind (line_of line) shapes) refl e (λ next. first_break lines next)

-- a line that breaks the conditionals is a directive
found_at : (line : List Token) (shapes : List Shape) (found : Option (Token × List Token)) → directive_in line ≡ found → behind (line_by found) shapes ≡ None
    → (one : Token × List Token) × (directive_in line ≡ Some one)
found_at line shapes None is e = absurd (none_is_not_some (sym e))
found_at line shapes (Some one) is e = (one, is)

-- ---- an outline

-- no lines make a group behind a line that breaks the conditionals
none_behind : (before : List (List Token)) (line : List Token) (shapes : List Shape) → run [] before ≡ Some shapes → behind (line_of line) shapes ≡ None
    → (more : List (List Token)) (other : Group) → IsGroup (before ++ line ∷ more) other [] → ⊥
none_behind before line shapes e breaks_them more other is =
    none_is_not_some (sym (step_breaks shapes line more breaks_them) ∙ sym (run_behind [] shapes before (line ∷ more) e) ∙ whole_run (before ++ line ∷ more) other is)

-- these lines have an outline
abbrev HasOutline : List (List Token) → Type 0
HasOutline lines = (group : Group) × (broken : Option ℕ) × IsOutline lines group broken

-- the outline of lines that break the conditionals
outline_of_break : (lines : List (List Token)) → Break [] lines → HasOutline lines
outline_of_break lines b =
    let d = found_at b.line b.there (directive_in b.line) refl b.breaks_them in
    let g = complete (b.before ++ ends (length b.there)) (closed_by_ends b.before b.there (length b.there) b.runs refl) in
    subst HasOutline (sym b.split) (g.0, Some d.0.0.span.line, breaks b.before b.after b.line (length b.there) d.1 (none_behind b.before b.line b.there b.runs b.breaks_them) g.1)

-- the outline of lines at whose end a conditional is open
outline_of_opened : (lines : List (List Token)) (shapes : List Shape) → run [] lines ≡ Some shapes → Opened lines shapes → HasOutline lines
outline_of_opened lines shapes e o =
    let whole_lines : List (List Token) = o.outer ++ o.line ∷ o.inside in
    let g = complete (whole_lines ++ ends (length shapes)) (closed_by_ends whole_lines shapes (length shapes) (subst (λ (ls : List (List Token)). run [] ls ≡ Some shapes) o.split e) refl) in
    subst HasOutline (sym o.split) (g.0, Some o.number, unended o.outer o.line (length shapes) o.opens o.is_inner o.are_others g.1)

-- the outline of lines, by what is open behind them
outline_of : (lines : List (List Token)) (found : Option (List Shape)) → run [] lines ≡ found → HasOutline lines
outline_of lines None e = outline_of_break lines (first_break lines [] e)
outline_of lines (Some []) e = let g = complete lines e in (g.0, None, whole g.1)
outline_of lines (Some (shape ∷ shapes)) e = outline_of_opened lines (shape ∷ shapes) e (still_open lines shape shapes e)

-- lines have an outline
pub outline_exists : (lines : List (List Token)) → (group : Group) × (broken : Option ℕ) × IsOutline lines group broken
outline_exists lines = outline_of lines (run [] lines) refl

-- ---- one outline

-- the number of a directive's line
abbrev number_at : Option (Token × List Token) → Option ℕ
number_at found = option_map (λ (one : Token × List Token). one.0.span.line) found

-- the group of the lines before a break, and the number of its line
record Told (group : Group) (broken : Option ℕ) (lines : List (List Token)) : Type 0 where
  place : Break [] lines
  is_group : IsGroup (place.before ++ ends (length place.there)) group []
  number : broken ≡ number_at (directive_in place.line)

-- an outline, by what is open behind its lines
abbrev Tells : Option (List Shape) → List (List Token) → Group → Option ℕ → Type 0
Tells None lines group broken = Told group broken lines
Tells (Some []) lines group broken = IsGroup lines group [] × (broken ≡ None)
Tells (Some (shape ∷ shapes)) lines group broken = IsGroup (lines ++ ends (suc (length shapes))) group [] × (broken ≡ Some shape.number)

-- what an outline tells, where it is known what is open behind its lines
tells_where : (lines : List (List Token)) (group : Group) (broken : Option ℕ) (found : Option (List Shape)) → run [] lines ≡ found → Tells found lines group broken → Tells (run [] lines) lines group broken
tells_where lines group broken found e tells = subst (λ (now : Option (List Shape)). Tells now lines group broken) (sym e) tells

-- an outline tells what is open behind its lines
tells : (lines : List (List Token)) (group : Group) (broken : Option ℕ) → IsOutline lines group broken → Tells (run [] lines) lines group broken
tells lines group broken (whole is) = tells_where lines group None (Some []) (whole_run lines group is) (is, refl)
tells lines group broken (breaks before after line {found = found} count directive never is) =
    let r = breaks_run before line count group never is in
    let runs : run [] (before ++ line ∷ after) ≡ None = run_behind [] r.0 before (line ∷ after) r.1 ∙ step_breaks r.0 line after r.2 in
    let place : Break [] (before ++ line ∷ after) =
    record { before = before; line = line; after = after; there = r.0; split = refl; runs = r.1; breaks_them = r.2 } in
    tells_where (before ++ line ∷ after) group (Some found.0.span.line) None runs (record {
      place = place;
      is_group = subst (λ (n : ℕ). IsGroup (before ++ ends n) group []) (sym r.3) is;
      number = sym (ap number_at directive);
    })
tells lines group broken (unended outer {inside = inside} {more = more} line {number = number} {name = name} {tokens = tokens} {inner = inner} {others = further} count opens is_inner are_others is) =
    let r = unended_run outer inside more line number name tokens inner further count group opens is_inner are_others is in
    tells_where (outer ++ line ∷ inside) group (Some number) (Some (record { number = number; last = r.0 } ∷ r.1)) r.2
    (subst (λ (n : ℕ). IsGroup ((outer ++ line ∷ inside) ++ ends n) group []) (sym r.3) is, refl)

-- ---- one break

-- where a line breaks the conditionals, no lines behind it go on
goes_no_further : (shapes target : List Shape) (line : List Token) (lines : List (List Token)) → behind (line_of line) shapes ≡ None → run shapes (line ∷ lines) ≡ Some target → ⊥
goes_no_further shapes target line lines breaks_them e = none_is_not_some (sym (step_breaks shapes line lines breaks_them) ∙ e)

-- the first line that breaks the conditionals is one, and so are the lines before it
one_place : (before other : List (List Token)) (line line' : List Token) (after after' : List (List Token)) (shapes there there' : List Shape)
    → before ++ line ∷ after ≡ other ++ line' ∷ after' → run shapes before ≡ Some there → behind (line_of line) there ≡ None
    → run shapes other ≡ Some there' → behind (line_of line') there' ≡ None → (before ≡ other) × (line ≡ line')
one_place [] [] line line' after after' shapes there there' e runs breaks_them runs' breaks_them' =
    let same : line ≡ line' = cc in (refl, same)
one_place [] (first ∷ other) line line' after after' shapes there there' e runs breaks_them runs' breaks_them' =
    let same : line ≡ first = cc in
    let now : shapes ≡ there = same_some runs in
    absurd (goes_no_further shapes there' first other (ap (λ (l : List Token). behind (line_of l) shapes) (sym same) ∙ ap (behind (line_of line)) now ∙ breaks_them) runs')
one_place (first ∷ before) [] line line' after after' shapes there there' e runs breaks_them runs' breaks_them' =
    let same : first ≡ line' = cc in
    let now : shapes ≡ there' = same_some runs' in
    absurd (goes_no_further shapes there first before (ap (λ (l : List Token). behind (line_of l) shapes) same ∙ ap (behind (line_of line')) now ∙ breaks_them') runs)
one_place (first ∷ before) (first' ∷ other) line line' after after' shapes there there' e runs breaks_them runs' breaks_them' =
    let same : first ≡ first' = cc in
    let rest : before ++ line ∷ after ≡ other ++ line' ∷ after' = cc in
    let r = step_was_made (behind (line_of first) shapes) (λ next. run next before) there runs in
    let next : behind (line_of first') shapes ≡ Some r.0 = ap (λ (l : List Token). behind (line_of l) shapes) (sym same) ∙ r.1 in
    let o = one_place before other line line' after after' r.0 there there' rest r.2 breaks_them (sym (step_to shapes r.0 first' other next) ∙ runs') breaks_them' in
    let whole_before : first ∷ before ≡ first' ∷ other = ap₂ (λ (l : List Token) (ls : List (List Token)). l ∷ ls) same o.0 in
    (whole_before, o.1)

-- the lines before a break and those that close what is open there are the same
one_closed : (before other : List (List Token)) (there there' : List Shape) → before ≡ other → run [] before ≡ Some there → run [] other ≡ Some there'
    → before ++ ends (length there) ≡ other ++ ends (length there')
one_closed before other there there' e runs runs' =
    let same : there ≡ there' = same_some (sym runs ∙ ap (run []) e ∙ runs') in
    ap₂ (λ (ls : List (List Token)) (shapes : List Shape). ls ++ ends (length shapes)) e same

-- one group, and one place at which the conditionals are not balanced
abbrev Same : Group → Group → Option ℕ → Option ℕ → Type 0
Same a b first second = (a ≡ b) × (first ≡ second)

-- lines that break the conditionals have one outline
one_told : (lines : List (List Token)) (a b : Group) (first second : Option ℕ) → Told a first lines → Told b second lines → Same a b first second
one_told lines a b first second t u =
    let p = t.place in
    let q = u.place in
    let o = one_place p.before q.before p.line q.line p.after q.after [] p.there q.there (sym p.split ∙ q.split) p.runs p.breaks_them q.runs q.breaks_them in (
      one_whole (p.before ++ ends (length p.there)) (q.before ++ ends (length q.there)) a b (one_closed p.before q.before p.there q.there o.0 p.runs q.runs) t.is_group u.is_group,
      t.number ∙ ap (λ (line : List Token). number_at (directive_in line)) o.1 ∙ sym u.number,
    )

-- lines have one outline, by what is open behind them
one_by : (found : Option (List Shape)) (lines : List (List Token)) (a b : Group) (first second : Option ℕ) → Tells found lines a first → Tells found lines b second → Same a b first second
one_by None lines a b first second t u = one_told lines a b first second t u
one_by (Some []) lines a b first second t u = (one_whole lines lines a b refl t.0 u.0, t.1 ∙ sym u.1)
one_by (Some (shape ∷ shapes)) lines a b first second t u =
    (one_whole (lines ++ ends (suc (length shapes))) (lines ++ ends (suc (length shapes))) a b refl t.0 u.0, t.1 ∙ sym u.1)

-- lines have one outline alone
pub one_outline : (lines : List (List Token)) (a b : Group) (first second : Option ℕ) → IsOutline lines a first → IsOutline lines b second → (a ≡ b) × (first ≡ second)
one_outline lines a b first second is too = one_by (run [] lines) lines a b first second (tells lines a first is) (tells lines b second too)

-- lines have one group
pub one_outline_group : (lines : List (List Token)) (a b : Group) (first second : Option ℕ) → IsOutline lines a first → IsOutline lines b second → a ≡ b
one_outline_group lines a b first second is too = (one_outline lines a b first second is too).0

-- lines have one place at which their conditionals are not balanced
pub one_outline_broken : (lines : List (List Token)) (a b : Group) (first second : Option ℕ) → IsOutline lines a first → IsOutline lines b second → first ≡ second
one_outline_broken lines a b first second is too = (one_outline lines a b first second is too).1
