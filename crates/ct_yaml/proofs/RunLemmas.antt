-- Texts are read exactly where a node is spelled, and refused at the line where none begins so.
use Rattle.std.proofs.Common.{◌≡◌, ℕ, ◌+◌, ◌-◌, ◌^◌, ◌<◌, ◌≤◌, true, false, cond, eqb, List, [], ◌∷◌, ◌++◌, length, take, drop, Option, Some, None, Result, Ok, Err, refl, sym, ap, ◌∙◌, subst, ◌&&◌, not, ⊎_elim, inl, inr, append_assoc, arith, length-append}
use Rattle.std.specs.Prelude.{All, codes, IfOk, IfErr}
use Rattle.std.specs.Str.{IsUtf8, is_utf8}
use Rattle.std.specs.Option.{IfSome}
use Rattle.std.proofs.lemmas.Str.{IsUtf8-from_is_utf8, is_utf8-from_IsUtf8}
use Rattle.std.proofs.lemmas.List.{take-append-drop, take-append-le}
use Rattle.std.proofs.Math.Seq.{take-append_seam}
use Rattle.std.proofs.lemmas.List.Elements.{All-nil, All-head, All-tail, All-push, filter-append}
use Rattle.std.proofs.lemmas.Option.{IfSome_then}
use Rattle.std.proofs.lemmas.Bool.{cond_both, cond-true, cond-false, cases_Bool, false≢true, and_parts, and_from, eqb-true, eq-eqb, not_from_true, not_from_false, false_from_ne_true}
use Rattle.ct_yaml.specs.declared.node.Node.{Node}
use Rattle.ct_yaml.specs.declared.mark.Mark.{Mark}
use Rattle.ct_yaml.specs.declared.text.Phase.{Phase}
use Rattle.ct_yaml.specs.declared.text.Phase.TheVariants.{Start, Body, Ended}
use Rattle.ct_yaml.specs.Line.{is_end, is_blank_line, IsLine}
use Rattle.ct_yaml.specs.Block.{marks_of}
use Rattle.ct_yaml.specs.Text.{other_lines, MayBeMarker, AreLines, IsTop, SpellsNode, Begins, IsFaultLine, IsRefused}
use Rattle.ct_yaml.specs.Reading.{then_read, mapped, line_marks}
use Rattle.ct_yaml.specs.Stack.{Open, steps, text_node}
use Rattle.ct_yaml.specs.Run.{Place, is_marker, body_step, other_step, line_step, run, started, run_all}
use Rattle.ct_yaml.specs.Run.{Comes as RunComes}
use Rattle.ct_base.specs.declared.memory.Fail.{Fail}
use Rattle.ct_base.specs.declared.memory.Fail.TheVariants.{Fault, OutOfMemory}
use Rattle.ct_yaml.specs.declared.text.YamlFault.{YamlFault}
use Rattle.ct_yaml.proofs.Grow.{IfSome-mapped, open_of}
use Rattle.ct_yaml.proofs.Steps.{Stands, stands_first, steps_stand, then_some, at_some, steps-append, written_steps, root_node, top_root, top_node}
use Rattle.ct_yaml.proofs.LineLemmas.{line_marks_again, line_marks_reads, dashes_bare, dots_bare}

-- ---- answers one after another

then_parts : {A B : Type 0} (o : Option A) (f : A → Option B) (b : B) → then_read o f ≡ Some b → (a : A) × (o ≡ Some a) × (f a ≡ Some b)
then_parts None f b h = cc
then_parts (Some a) f b h = (a, refl, h)

append_nil : {A : Type 0} (xs : List A) → xs ++ [] ≡ xs
append_nil [] = refl
append_nil (x ∷ xs) = ap (λ rest. x ∷ rest) (append_nil xs)

-- ---- markers

marker_reads : (byte : ℕ) (line : List ℕ) → is_marker byte line ≡ true → (rest : List ℕ) × (line ≡ byte ∷ byte ∷ byte ∷ rest) × (is_end rest ≡ true)
marker_reads byte [] h = absurd (false≢true h)
marker_reads byte (a ∷ []) h = absurd (false≢true h)
marker_reads byte (a ∷ b ∷ []) h = absurd (false≢true h)
marker_reads byte (a ∷ b ∷ c ∷ rest) h =
    let x = and_parts (((eqb a byte) && (eqb b byte)) && (eqb c byte)) (is_end rest) h in
    let y = and_parts ((eqb a byte) && (eqb b byte)) (eqb c byte) x.0 in
    let z = and_parts (eqb a byte) (eqb b byte) y.0 in
    (rest, ap (λ k. k ∷ b ∷ c ∷ rest) (eqb-true a byte z.0) ∙ ap (λ k. byte ∷ k ∷ c ∷ rest) (eqb-true b byte z.1) ∙ ap (λ k. byte ∷ byte ∷ k ∷ rest) (eqb-true c byte y.1), x.1)

-- a line of a tree is no marker
no_marker : (byte : ℕ) → ((rest : List ℕ) → is_end rest ≡ true → line_marks (byte ∷ byte ∷ byte ∷ rest) ≡ None)
    → (line : List ℕ) (marks : List Mark) → IsLine line marks → is_marker byte line ≡ false
no_marker byte bare line marks is =
    ⊎_elim
    (λ h. let m = marker_reads byte line h in
    let e : Some marks ≡ None = sym (line_marks_again line marks is) ∙ ap line_marks m.1 ∙ bare m.0 m.2 in absurd (cc e))
    (λ h. h)
    (cases_Bool (is_marker byte line))

-- ---- what is read so far

-- which lines have come in each phase
abbrev IsPhase : Phase → List (List ℕ) → List (List ℕ) → List (List ℕ) → Type 0
IsPhase Start start body finish = (start ≡ []) × (body ≡ []) × (finish ≡ [])
IsPhase Body start body finish = finish ≡ []
IsPhase Ended start body finish = Unit {0}

record Reached (place : Place) (lines : List (List ℕ)) : Type 0 where
  marks : List Mark
  start : List (List ℕ)
  body : List (List ℕ)
  finish : List (List ℕ)
  stands : Stands place.1 marks
  utf8 : All IsUtf8 lines
  others : other_lines lines ≡ start ++ body ++ finish
  starts : MayBeMarker (codes "---") start
  finishes : MayBeMarker (codes "...") finish
  written : AreLines body marks
  phase : IsPhase place.0 start body finish

reached_first : Reached started []
reached_first = record {
  marks = [];
  start = [];
  body = [];
  finish = [];
  stands = stands_first;
  utf8 = All-nil IsUtf8;
  others = refl;
  starts = inl refl;
  finishes = inl refl;
  written = refl;
  phase = (refl, refl, refl);
}

are_lines-append : (lines : List (List ℕ)) (marks : List Mark) (line : List ℕ) (more : List Mark) → AreLines lines marks → IsLine line more → AreLines (lines ++ line ∷ []) (marks ++ more)
are_lines-append [] marks line more are is = (more, [], ap (λ ms. ms ++ more) are ∙ sym (append_nil more), is, refl)
are_lines-append (x ∷ lines) marks line more (first, rest, e, here, there) is =
    (first, rest ++ more, ap (λ ms. ms ++ more) e ∙ append_assoc first rest more, here, are_lines-append lines rest line more there is)

others_blank : (lines : List (List ℕ)) (line : List ℕ) → is_blank_line line ≡ true → other_lines (lines ++ line ∷ []) ≡ other_lines lines
others_blank lines line h =
    filter-append (λ l. not (is_blank_line l)) lines (line ∷ [])
    ∙ ap (λ xs. other_lines lines ++ xs) (cond-false (not (is_blank_line line)) (line ∷ []) [] (not_from_true _ h)) ∙ append_nil (other_lines lines)

others_more : (lines : List (List ℕ)) (line : List ℕ) → is_blank_line line ≡ false → other_lines (lines ++ line ∷ []) ≡ other_lines lines ++ line ∷ []
others_more lines line h =
    filter-append (λ l. not (is_blank_line l)) lines (line ∷ [])
    ∙ ap (λ xs. other_lines lines ++ xs) (cond-true (not (is_blank_line line)) (line ∷ []) [] (not_from_false _ h))

-- ---- one line more

module _ (lines : List (List ℕ)) (line : List ℕ) (text : IsUtf8 line) (counts : is_blank_line line ≡ false) where
  reached_body : (place : Place) → Reached place lines → (finish : (r : Reached place lines) → r.finish ≡ []) → IfSome (body_step place.1 line) (λ new. Reached new (lines ++ line ∷ []))
  reached_body place r finish =
      let none = finish r in
      IfSome-mapped (λ after. (Body, after)) (then_read (line_marks line) (steps place.1)) (λ new. Reached new (lines ++ line ∷ []))
      (then_some (line_marks line) (steps place.1) (IsLine line) (λ after. Reached (Body, after) (lines ++ line ∷ [])) (line_marks_reads line)
      (λ more is. IfSome_then (steps place.1 more) (steps_stand more place.1 r.marks r.stands) (λ after stands. record {
        marks = r.marks ++ more;
        start = r.start;
        body = r.body ++ line ∷ [];
        finish = [];
        stands = stands;
        utf8 = All-push IsUtf8 lines line r.utf8 text;
        others = others_more lines line counts ∙ ap (λ xs. xs ++ line ∷ []) (r.others ∙ ap (λ xs. r.start ++ r.body ++ xs) none ∙ append_nil (r.start ++ r.body))
            ∙ append_assoc r.start r.body (line ∷ []) ∙ sym (append_nil (r.start ++ (r.body ++ line ∷ [])));
        starts = r.starts;
        finishes = inl refl;
        written = are_lines-append r.body r.marks line more r.written is;
        phase = refl;
      })))

  reached_end : (place : Place) → Reached place lines → (finish : (r : Reached place lines) → r.finish ≡ []) → is_marker 46 line ≡ true → Reached (Ended, place.1) (lines ++ line ∷ [])
  reached_end place r finish h =
      let none = finish r in
      let m = marker_reads 46 line h in record {
        marks = r.marks;
        start = r.start;
        body = r.body;
        finish = line ∷ [];
        stands = r.stands;
        utf8 = All-push IsUtf8 lines line r.utf8 text;
        others = others_more lines line counts ∙ ap (λ xs. xs ++ line ∷ []) (r.others ∙ ap (λ xs. r.start ++ r.body ++ xs) none ∙ append_nil (r.start ++ r.body));
        starts = r.starts;
        finishes = inr (line, refl, (m.0, m.1, m.2));
        written = r.written;
        phase = tt;
      }

  reached_start : (open_now : Open) → Reached (Start, open_now) lines → is_marker 45 line ≡ true → Reached (Body, open_now) (lines ++ line ∷ [])
  reached_start open_now r h =
      let m = marker_reads 45 line h in
      let p = r.phase in record {
        marks = r.marks;
        start = line ∷ [];
        body = [];
        finish = [];
        stands = r.stands;
        utf8 = All-push IsUtf8 lines line r.utf8 text;
        others = others_more lines line counts
            ∙ ap (λ xs. xs ++ line ∷ []) (r.others ∙ ap (λ xs. xs ++ r.body ++ r.finish) p.0 ∙ ap (λ xs. xs ++ r.finish) p.1 ∙ p.2);
        starts = inr (line, refl, (m.0, m.1, m.2));
        finishes = inl refl;
        written = subst (λ b. AreLines b r.marks) p.1 r.written;
        phase = refl;
      }

  reached_other : (phase : Phase) (open_now : Open) → Reached (phase, open_now) lines → IfSome (other_step phase open_now line) (λ new. Reached new (lines ++ line ∷ []))
  reached_other Start open_now r =
      cond_both (is_marker 45 line) (Some (Body, open_now)) _ (λ o. IfSome o (λ new. Reached new (lines ++ line ∷ [])))
      (λ h. reached_start open_now r h)
      (λ other. cond_both (is_marker 46 line) (Some (Ended, open_now)) (body_step open_now line) (λ o. IfSome o (λ new. Reached new (lines ++ line ∷ [])))
      (λ h. reached_end (Start, open_now) r (λ r'. r'.phase.2) h)
      (λ more. reached_body (Start, open_now) r (λ r'. r'.phase.2)))
  reached_other Body open_now r =
      cond_both (is_marker 46 line) (Some (Ended, open_now)) (body_step open_now line) (λ o. IfSome o (λ new. Reached new (lines ++ line ∷ [])))
      (λ h. reached_end (Body, open_now) r (λ r'. r'.phase) h)
      (λ more. reached_body (Body, open_now) r (λ r'. r'.phase))
  reached_other Ended open_now r = tt

reached_blank : (place : Place) (lines : List (List ℕ)) (line : List ℕ) → IsUtf8 line → is_blank_line line ≡ true → Reached place lines → Reached place (lines ++ line ∷ [])
reached_blank place lines line text blank r = record {
  marks = r.marks;
  start = r.start;
  body = r.body;
  finish = r.finish;
  stands = r.stands;
  utf8 = All-push IsUtf8 lines line r.utf8 text;
  others = others_blank lines line blank ∙ r.others;
  starts = r.starts;
  finishes = r.finishes;
  written = r.written;
  phase = r.phase;
}

reached_more : (place : Place) (lines : List (List ℕ)) → Reached place lines → (line : List ℕ) → IfSome (line_step place line) (λ new. Reached new (lines ++ line ∷ []))
unfolding line_step
reached_more place lines r line =
    cond_both (is_utf8 line) (cond (is_blank_line line) (Some place) (other_step place.0 place.1 line)) None (λ o. IfSome o (λ new. Reached new (lines ++ line ∷ [])))
    (λ text. cond_both (is_blank_line line) (Some place) (other_step place.0 place.1 line) (λ o. IfSome o (λ new. Reached new (lines ++ line ∷ [])))
    (λ blank. reached_blank place lines line (IsUtf8-from_is_utf8 line text) blank r)
    (λ counts. reached_other lines line (IsUtf8-from_is_utf8 line text) counts place.0 place.1 r))
    (λ bad. tt)

-- ---- many lines

through : Place → List (List ℕ) → Option Place
through place [] = Some place
through place (line ∷ lines) = then_read (line_step place line) (λ new. through new lines)

through-nil : (place : Place) → through place [] ≡ Some place
unfolding through
through-nil place = refl

through-cons : (place : Place) (line : List ℕ) (lines : List (List ℕ)) → through place (line ∷ lines) ≡ then_read (line_step place line) (λ new. through new lines)
unfolding through
through-cons place line lines = refl

reached_through : (lines : List (List ℕ)) (place : Place) (before : List (List ℕ)) → Reached place before → IfSome (through place lines) (λ new. Reached new (before ++ lines))
unfolding through
reached_through [] place before r = subst (Reached place) (sym (append_nil before)) r
reached_through (line ∷ lines) place before r =
    then_some (line_step place line) (λ new. through new lines) (λ new. Reached new (before ++ line ∷ [])) (λ new. Reached new (before ++ line ∷ lines))
    (reached_more place before r line)
    (λ new at. subst (λ ls. IfSome (through new lines) (λ end. Reached end ls)) (append_assoc before (line ∷ []) lines) (reached_through lines new (before ++ line ∷ []) at))

through-append : (place : Place) (xs ys : List (List ℕ)) → through place (xs ++ ys) ≡ then_read (through place xs) (λ new. through new ys)
unfolding through
through-append place [] ys = refl
through-append place (x ∷ xs) ys =
    elim (line_step place x) as (λ o. then_read o (λ new. through new (xs ++ ys)) ≡ then_read (then_read o (λ new. through new xs)) (λ new. through new ys))
    [ None ↦ refl | Some new ↦ through-append new xs ys ]

-- what is read to its end is spelled
reached_spells : (place : Place) (lines : List (List ℕ)) → Reached place lines → SpellsNode lines (text_node place.1)
reached_spells place lines r =
    let s = r.stands in record {
      layout = s.layout;
      start = r.start;
      body = r.body;
      finish = r.finish;
      utf8 = r.utf8;
      others = r.others;
      starts = r.starts;
      finishes = r.finishes;
      written = subst (AreLines r.body) (sym s.written) r.written;
      indented = s.indented;
      nesting = s.nesting;
      top = subst (λ now. IsTop s.layout (text_node now)) (sym s.place) (root_node s.layout s.root);
    }

through_spells : (lines : List (List ℕ)) (place : Place) → through started lines ≡ Some place → SpellsNode lines (text_node place.1)
through_spells lines place e =
    reached_spells place lines (at_some (through started lines) place (λ new. Reached new lines) e (reached_through lines started [] reached_first))

-- ---- what is spelled is read

-- the lines that count, one after another
others : Place → List (List ℕ) → Option Place
others place [] = Some place
others place (line ∷ lines) = then_read (other_step place.0 place.1 line) (λ new. others new lines)

line_step_counts : (place : Place) (line : List ℕ) → IsUtf8 line → line_step place line ≡ cond (is_blank_line line) (Some place) (other_step place.0 place.1 line)
unfolding line_step
line_step_counts place line text =
    cond-true (is_utf8 line) (cond (is_blank_line line) (Some place) (other_step place.0 place.1 line)) None (is_utf8-from_IsUtf8 line text)

after_counted : (o : Option Place) (lines : List (List ℕ)) → ((new : Place) → through new lines ≡ others new (other_lines lines))
    → then_read o (λ new. through new lines) ≡ then_read o (λ new. others new (other_lines lines))
after_counted None lines h = refl
after_counted (Some new) lines h = h new

through_others : (lines : List (List ℕ)) (place : Place) → All IsUtf8 lines → through place lines ≡ others place (other_lines lines)
unfolding through others
through_others [] place all = refl
through_others (line ∷ lines) place all =
    let rest = All-tail IsUtf8 line lines all in
    ap (λ o. then_read o (λ new. through new lines)) (line_step_counts place line (All-head IsUtf8 line lines all))
    ∙ ⊎_elim
    (λ e. ap (λ o. then_read o (λ new. through new lines)) (cond-true (is_blank_line line) (Some place) (other_step place.0 place.1 line) e)
    ∙ through_others lines place rest
    ∙ ap (others place) (sym (cond-false (not (is_blank_line line)) (line ∷ other_lines lines) (other_lines lines) (not_from_true _ e))))
    (λ e. ap (λ o. then_read o (λ new. through new lines)) (cond-false (is_blank_line line) (Some place) (other_step place.0 place.1 line) e)
    ∙ after_counted (other_step place.0 place.1 line) lines (λ new. through_others lines new rest)
    ∙ ap (others place) (sym (cond-true (not (is_blank_line line)) (line ∷ other_lines lines) (other_lines lines) (not_from_false _ e))))
    (cases_Bool (is_blank_line line))

others-append : (place : Place) (xs ys : List (List ℕ)) → others place (xs ++ ys) ≡ then_read (others place xs) (λ new. others new ys)
unfolding others
others-append place [] ys = refl
others-append place (x ∷ xs) ys =
    elim (other_step place.0 place.1 x) as (λ o. then_read o (λ new. others new (xs ++ ys)) ≡ then_read (then_read o (λ new. others new xs)) (λ new. others new ys))
    [ None ↦ refl | Some new ↦ others-append new xs ys ]

-- a phase in which lines of a tree may come
abbrev IsGoing : Phase → Type 0
IsGoing Start = Unit {0}
IsGoing Body = Unit {0}
IsGoing Ended = ⊥

marker_again : (byte : ℕ) (line rest : List ℕ) → line ≡ byte ∷ byte ∷ byte ∷ rest → is_end rest ≡ true → is_marker byte line ≡ true
marker_again byte line rest e end =
    ap (is_marker byte) e
    ∙ and_from (((eqb byte byte) && (eqb byte byte)) && (eqb byte byte)) (is_end rest)
    (and_from ((eqb byte byte) && (eqb byte byte)) (eqb byte byte) (and_from (eqb byte byte) (eqb byte byte) same same) same) end
  where
    same : eqb byte byte ≡ true
    same = eq-eqb byte byte refl

start_again : (open_now : Open) (start : List (List ℕ)) → MayBeMarker (codes "---") start
    → (phase : Phase) × IsGoing phase × (others (Start, open_now) start ≡ Some (phase, open_now))
unfolding others
start_again open_now start (inl e) = (Start, tt, ap (others (Start, open_now)) e)
start_again open_now start (inr (line, e, (rest, is, end))) = (
  Body,
  tt,
  ap (others (Start, open_now)) e
      ∙ ap (λ o. then_read o (λ new. others new [])) (cond-true (is_marker 45 line) (Some (Body, open_now)) _ (marker_again 45 line rest is end)),
)

end_again : (phase : Phase) → IsGoing phase → (open_now : Open) (finish : List (List ℕ)) → MayBeMarker (codes "...") finish
    → (last : Phase) × (others (phase, open_now) finish ≡ Some (last, open_now))
unfolding others
end_again phase going open_now finish (inl e) = (phase, ap (others (phase, open_now)) e)
end_again Ended going open_now finish (inr m) = absurd going
end_again Body going open_now finish (inr (line, e, (rest, is, end))) = (
  Ended,
  ap (others (Body, open_now)) e
      ∙ ap (λ o. then_read o (λ new. others new [])) (cond-true (is_marker 46 line) (Some (Ended, open_now)) (body_step open_now line) (marker_again 46 line rest is end)),
)
end_again Start going open_now finish (inr (line, e, (rest, is, end))) = (
  Ended,
  ap (others (Start, open_now)) e
      ∙ ap (λ o. then_read o (λ new. others new []))
      (cond-false (is_marker 45 line) (Some (Body, open_now)) _ (ap (is_marker 45) is)
      ∙ cond-true (is_marker 46 line) (Some (Ended, open_now)) (body_step open_now line) (marker_again 46 line rest is end)),
)

-- a line of a tree is read as one
other_again : (phase : Phase) → IsGoing phase → (open_now : Open) (line : List ℕ) (marks : List Mark) → IsLine line marks → other_step phase open_now line ≡ body_step open_now line
other_again Start going open_now line marks is =
    cond-false (is_marker 45 line) (Some (Body, open_now)) _ (no_marker 45 dashes_bare line marks is)
    ∙ cond-false (is_marker 46 line) (Some (Ended, open_now)) (body_step open_now line) (no_marker 46 dots_bare line marks is)
other_again Body going open_now line marks is = cond-false (is_marker 46 line) (Some (Ended, open_now)) (body_step open_now line) (no_marker 46 dots_bare line marks is)
other_again Ended going open_now line marks is = absurd going

body_again : (open_now : Open) (line : List ℕ) (marks : List Mark) (after : Open) → IsLine line marks → steps open_now marks ≡ Some after → body_step open_now line ≡ Some (Body, after)
body_again open_now line marks after is e =
    ap (λ o. mapped (λ new. (Body, new)) (then_read o (steps open_now))) (line_marks_again line marks is) ∙ ap (mapped (λ new. (Body, new))) e

lines_again : (lines : List (List ℕ)) (phase : Phase) → IsGoing phase → (open_now : Open) (marks : List Mark) (after : Open) → AreLines lines marks → steps open_now marks ≡ Some after
    → (last : Phase) × IsGoing last × (others (phase, open_now) lines ≡ Some (last, after))
unfolding others
lines_again [] phase going open_now marks after none e =
    (phase, going, ap (λ o. then_read o (λ now. Some (phase, now))) (ap (steps open_now) (sym none) ∙ e))
lines_again (line ∷ lines) phase going open_now marks after (first, rest, cut, here, there) e =
    let parts = then_parts (steps open_now first) (λ new. steps new rest) after (sym (steps-append open_now first rest) ∙ ap (steps open_now) (sym cut) ∙ e) in
    let more = lines_again lines Body tt parts.0 rest after there parts.2 in (
      more.0,
      more.1,
      ap (λ o. then_read o (λ new. others new lines)) (other_again phase going open_now line first here ∙ body_again open_now line first parts.0 here parts.1)
          ∙ more.2,
    )

spelled_through : (lines : List (List ℕ)) (node : Node) → SpellsNode lines node → (place : Place) × (through started lines ≡ Some place) × (text_node place.1 ≡ node)
spelled_through lines node s =
    let open_last : Open = open_of s.layout in
    let all : steps ([], None) (marks_of s.layout) ≡ Some open_last =
    written_steps (length (marks_of s.layout)) s.layout refl (top_root s.layout node s.top) s.indented s.nesting in
    let first = start_again ([], None) s.start s.starts in
    let middle = lines_again s.body first.0 first.1 ([], None) (marks_of s.layout) open_last s.written all in
    let last = end_again middle.0 middle.1 open_last s.finish s.finishes in (
      (last.0, open_last),
      through_others lines started s.utf8 ∙ ap (others started) s.others
          ∙ others-append started (s.start ++ s.body) s.finish
          ∙ ap (λ o. then_read o (λ new. others new s.finish)) (others-append started s.start s.body ∙ ap (λ o. then_read o (λ new. others new s.body)) first.2 ∙ middle.2)
          ∙ last.1,
      top_node s.layout node s.top,
    )

-- ---- the answer and the line

-- a run that stops: the lines before, which are read, and the line that is not
record Stops (place : Place) (lines : List (List ℕ)) (n k : ℕ) : Type 0 where
  before : List (List ℕ)
  line : List ℕ
  after : List (List ℕ)
  last : Place
  all : lines ≡ before ++ line ∷ after
  count : k ≡ n + length before + 1
  read : through place before ≡ Some last
  refused : line_step last line ≡ None

-- what a run comes to
abbrev Comes : Place → List (List ℕ) → ℕ → Result Node ℕ → Type 0
Comes place lines n (Ok node) = (last : Place) × (through place lines ≡ Some last) × (node ≡ text_node last.1)
Comes place lines n (Err k) = Stops place lines n k

comes_more : (place : Place) (line : List ℕ) (lines : List (List ℕ)) (n : ℕ) (new : Place) → line_step place line ≡ Some new
    → (r : Result Node ℕ) → Comes new lines (n + 1) r → Comes place (line ∷ lines) n r
unfolding through
comes_more place line lines n new e (Ok node) (last, read, is) = (last, ap (λ o. then_read o (λ p. through p lines)) e ∙ read, is)
comes_more place line lines n new e (Err k) s = record {
  before = line ∷ s.before;
  line = s.line;
  after = s.after;
  last = s.last;
  all = ap (λ ls. line ∷ ls) s.all;
  count = let c = s.count in omega arith;
  read = ap (λ o. then_read o (λ p. through p s.before)) e ∙ s.read;
  refused = s.refused;
}

comes_by : (place : Place) (line : List ℕ) (lines : List (List ℕ)) (n : ℕ) → ((new : Place) → Comes new lines (n + 1) (run (n + 1) new lines))
    → (o : Option Place) → line_step place line ≡ o
    → Comes place (line ∷ lines) n (elim o as (λ _. Result Node ℕ) [ None ↦ Err (n + 1) | Some after ↦ run (n + 1) after lines ])
unfolding through
comes_by place line lines n h None e = record { before = []; line = line; after = lines; last = place; all = refl; count = omega arith; read = refl; refused = e }
comes_by place line lines n h (Some new) e = comes_more place line lines n new e (run (n + 1) new lines) (h new)

comes : (lines : List (List ℕ)) (n : ℕ) (place : Place) → Comes place lines n (run n place lines)
unfolding through
comes [] n place = (place, refl, refl)
comes (line ∷ lines) n place = comes_by place line lines n (λ new. comes lines (n + 1) new) (line_step place line) refl

-- lines that are read begin a text
through_begins : (lines : List (List ℕ)) (place : Place) → through started lines ≡ Some place → Begins lines
through_begins lines place e =
    ([], text_node place.1, through_spells (lines ++ []) place (ap (through started) (append_nil lines) ∙ e))

front_read : (m : ℕ) (lines : List (List ℕ)) (last : Place) → through started lines ≡ Some last → Begins (take m lines)
front_read m lines last e =
    let parts = then_parts (through started (take m lines)) (λ new. through new (drop m lines)) last
    (sym (through-append started (take m lines) (drop m lines)) ∙ ap (through started) (take-append-drop m lines) ∙ e) in
    through_begins (take m lines) parts.0 parts.1

-- no text begins so
stop_begins : (lines : List (List ℕ)) (k : ℕ) (s : Stops started lines 0 k) → Begins (s.before ++ s.line ∷ []) → ⊥
unfolding through
stop_begins lines k s (more, node, spells) =
    let found = spelled_through ((s.before ++ s.line ∷ []) ++ more) node spells in
    let none : through started ((s.before ++ s.line ∷ []) ++ more) ≡ None =
    through-append started (s.before ++ s.line ∷ []) more
    ∙ ap (λ o. then_read o (λ new. through new more))
    (through-append started s.before (s.line ∷ []) ∙ ap (λ o. then_read o (λ new. through new (s.line ∷ []))) s.read ∙ ap (λ o. then_read o (λ new. through new [])) s.refused) in
    let both : None ≡ Some found.0 = sym none ∙ found.1 in absurd (cc both)

stop_line : (lines : List (List ℕ)) (k : ℕ) → Stops started lines 0 k → IsFaultLine lines k
stop_line lines k s =
    let front : k ≡ length (s.before ++ s.line ∷ []) = let c = s.count in omega (arith, length-append s.before (s.line ∷ [])) in
    let whole : lines ≡ (s.before ++ s.line ∷ []) ++ s.after = s.all ∙ sym (append_assoc s.before (s.line ∷ []) s.after) in
    let cut : take k lines ≡ s.before ++ s.line ∷ [] = ap (λ i. take i lines) front ∙ ap (take (length (s.before ++ s.line ∷ []))) whole ∙ take-append_seam (s.before ++ s.line ∷ []) s.after in
    inl (
      omega (arith, ap length whole, length-append (s.before ++ s.line ∷ []) s.after),
      (λ b. stop_begins lines k s (subst Begins cut b)),
      (λ m below. subst Begins
          (sym (ap (take m) s.all ∙ take-append-le m s.before (s.line ∷ s.after) (let c = s.count in omega arith)))
          (front_read m s.before s.last s.read)),
    )

stop_none : (lines : List (List ℕ)) (k : ℕ) → Stops started lines 0 k → (node : Node) → SpellsNode lines node → ⊥
stop_none lines k s node spells =
    let whole : lines ≡ (s.before ++ s.line ∷ []) ++ s.after = s.all ∙ sym (append_assoc s.before (s.line ∷ []) s.after) in
    stop_begins lines k s (s.after, node, subst (λ ls. SpellsNode ls node) whole spells)

-- ---- the clauses

pub run_spells : (lines : List (List ℕ)) (node : Node) → run_all lines ≡ Ok node → SpellsNode lines node
unfolding run_all
run_spells lines node e =
    let c : Comes started lines 0 (Ok node) = subst (Comes started lines 0) e (comes lines 0 started) in
    subst (SpellsNode lines) (sym c.2) (through_spells lines c.0 c.1)

pub one_node : (lines : List (List ℕ)) (first second : Node) → SpellsNode lines first → SpellsNode lines second → first ≡ second
one_node lines first second a b =
    let found = spelled_through lines first a in
    let again = spelled_through lines second b in
    let both : Some found.0 ≡ Some again.0 = sym found.1 ∙ again.1 in
    let same : found.0 ≡ again.0 = cc both in
    sym found.2 ∙ ap (λ place. text_node place.1) same ∙ again.2

pub run_none : (lines : List (List ℕ)) (k : ℕ) → run_all lines ≡ Err k → (node : Node) → SpellsNode lines node → ⊥
unfolding run_all
run_none lines k e node spells = stop_none lines k (subst (Comes started lines 0) e (comes lines 0 started)) node spells

pub run_line : (lines : List (List ℕ)) (k : ℕ) → run_all lines ≡ Err k → IsFaultLine lines k
unfolding run_all
run_line lines k e = stop_line lines k (subst (Comes started lines 0) e (comes lines 0 started))

pub comes_node : (lines : List (List ℕ)) (r : Result Node (Fail YamlFault)) → RunComes r (run_all lines) → IfOk r (λ node. SpellsNode lines node)
comes_node lines (Ok node) h = run_spells lines node h
comes_node lines (Err e) h = tt

pub comes_refused : (lines : List (List ℕ)) (r : Result Node (Fail YamlFault)) → RunComes r (run_all lines) → IfErr r (IsRefused lines)
comes_refused lines (Ok node) h = tt
comes_refused lines (Err (Fault fault)) (n, h, is) = (run_none lines n h, (n, run_line lines n h, is))
comes_refused lines (Err OutOfMemory) h = tt

pub ruleset answer_rules = (comes_node, comes_refused)

-- the line of a text of fewer lines than its type holds
pub line_told : (lines : List (List ℕ)) (fault : YamlFault) → length lines < 2 ^ 32 - 1 → IsRefused lines (Fault fault) → IsFaultLine lines fault.line
line_told lines fault few (none, (n, is, told)) =
    let within : n ≤ length lines = ⊎_elim (λ f. f.0) (λ f. omega (arith, f.0)) is in
    let same : n ≡ fault.line = omega arith in subst (IsFaultLine lines) same is

-- ---- UTF-8

pub utf8_yes : (bytes : List ℕ) → IsUtf8 bytes → true ≡ is_utf8 bytes
utf8_yes bytes h = sym (is_utf8-from_IsUtf8 bytes h)

pub utf8_no : (bytes : List ℕ) → (IsUtf8 bytes → ⊥) → false ≡ is_utf8 bytes
utf8_no bytes h = sym (false_from_ne_true (is_utf8 bytes) (λ e. h (IsUtf8-from_is_utf8 bytes e)))

pub ruleset utf8_rules = (utf8_yes, utf8_no)
