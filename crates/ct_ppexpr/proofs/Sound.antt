-- What is read is spelled so, and the grammar makes it.
use Rattle.std.proofs.Common.{◌≡◌, ℕ, ◌<◌, ◌≤◌, ltb, List, [], ◌∷◌, Option, Some, None, refl, ap, subst, ◌∙◌, arith}
use Rattle.std.proofs.lemmas.Bool.{ltb-true, ltb-false, cond_both}
use Rattle.ct_base.specs.declared.operators.BinaryOp.TheVariants as op
use Rattle.ct_ppexpr.specs.declared.words.Infix.TheVariants.{Compute}
use Rattle.ct_ppexpr.specs.declared.words.Mark.{Mark}
use Rattle.ct_ppexpr.specs.declared.words.Mark.TheVariants as m
use Rattle.ct_ppexpr.specs.declared.words.Word.{Word}
use Rattle.ct_ppexpr.specs.declared.words.Word.TheVariants as w
use Rattle.ct_ppexpr.specs.Trees.{Tree, prefix_mark, infix_level, tree_level, spell, IsWellFormed}
use Rattle.ct_ppexpr.specs.Machine.{Frame, InParen, InPrefix, InBetween, InYes, InNo, Stack, Mode, Want, Have, Step, holds, plug, reduced, pull, on_close, on_colon, act, after, begin, step, whole, finish, then_run, run, run_all, trees}
use Rattle.ct_ppexpr.proofs.Levels.{infix_range, pull_range, needs, stack_needs, stack_holds, modest, room, lowest}

-- the words of an open production, and then others
abbrev pub frame_words : Frame Tree → List Word → List Word
frame_words InParen ws = w.Mark m.Open ∷ ws
frame_words (InPrefix o) ws = w.Mark (prefix_mark o) ∷ ws
frame_words (InBetween o l) ws = spell l (w.Mark (m.Infix o) ∷ ws)
frame_words (InYes c) ws = spell c (w.Mark m.Question ∷ ws)
frame_words (InNo c y) ws = spell c (w.Mark m.Question ∷ spell y (w.Mark m.Colon ∷ ws))

-- the words of all that is open, from the first on
abbrev pub unwind : Stack Tree → List Word → List Word
unwind [] ws = ws
unwind (f ∷ s) ws = unwind s (frame_words f ws)

abbrev pub mode_words : Mode Tree → List Word → List Word
mode_words Want ws = ws
mode_words (Have x) ws = spell x ws

-- the production that a frame becomes
abbrev gives : Frame Tree → ℕ
gives (InPrefix o) = 13
gives (InBetween o l) = infix_level o
gives (InYes c) = 2
gives (InNo c y) = 2
gives InParen = 14

abbrev Fits : Frame Tree → Type 0
Fits InParen = Unit {0}
Fits (InPrefix o) = Unit {0}
Fits (InBetween o l) = (infix_level o ≤ tree_level l) × IsWellFormed l
Fits (InYes c) = (3 ≤ tree_level c) × IsWellFormed c
Fits (InNo c y) = (3 ≤ tree_level c) × IsWellFormed c × IsWellFormed y

abbrev IsStack : Stack Tree → Type 0
IsStack [] = Unit {0}
IsStack (f ∷ s) = Fits f × (stack_needs s ≤ gives f) × IsStack s

abbrev IsMode : Mode Tree → Type 0
IsMode Want = Unit {0}
IsMode (Have x) = IsWellFormed x × (14 ≤ tree_level x)

-- a frame that is ended
record Plugged (f : Frame Tree) (x : Tree) : Type 0 where
  well_formed : IsWellFormed (plug trees f x)
  high : tree_level (plug trees f x) ≡ holds f
  same : gives f ≡ holds f
  spelled : (ws : List Word) → spell (plug trees f x) ws ≡ frame_words f (spell x ws)

plugged : (f : Frame Tree) (x : Tree) → 1 ≤ holds f → Fits f → needs f ≤ tree_level x → IsWellFormed x → Plugged f x
plugged InParen x h fits n wf = absurd (omega arith)
plugged (InPrefix o) x h fits n wf = record { well_formed = (n, wf); high = refl; same = refl; spelled = λ ws. refl }
plugged (InBetween o l) x h fits n wf = record { well_formed = (fits.0, n, fits.1, wf); high = refl; same = refl; spelled = λ ws. refl }
plugged (InYes c) x h fits n wf = absurd (omega arith)
plugged (InNo c y) x h fits n wf = record { well_formed = (fits.0, n, fits.1, fits.2, wf); high = refl; same = refl; spelled = λ ws. refl }

record Reduced (p : ℕ) (s : Stack Tree) (x : Tree) (r : Stack Tree × Tree) : Type 0 where
  stack : IsStack r.0
  well_formed : IsWellFormed r.1
  fits : stack_needs r.0 ≤ tree_level r.1
  loose : stack_holds r.0 < p
  high : p ≤ tree_level r.1
  spelled : (ws : List Word) → unwind r.0 (spell r.1 ws) ≡ unwind s (spell x ws)

reduces : (p : ℕ) (s : Stack Tree) (x : Tree) → 1 ≤ p → IsStack s → IsWellFormed x → stack_needs s ≤ tree_level x → p ≤ tree_level x → Reduced p s x (reduced trees p s x)
reduces p [] x one st wf fits high = record { stack = st; well_formed = wf; fits = fits; loose = one; high = high; spelled = λ ws. refl }
reduces p (f ∷ s) x one st wf fits high =
    cond_both (ltb (holds f) p) (f ∷ s, x) (reduced trees p s (plug trees f x)) (Reduced p (f ∷ s) x)
    (λ e. record { stack = st; well_formed = wf; fits = fits; loose = ltb-true (holds f) p e; high = high; spelled = λ ws. refl })
    (λ e.
    let le : p ≤ holds f = ltb-false (holds f) p e in
    let q = plugged f x (omega arith) st.0 fits wf in
    let r = reduces p s (plug trees f x) one st.2 q.well_formed (omega (arith, q.high, q.same, st.1)) (omega (arith, q.high)) in
    record { stack = r.stack; well_formed = r.well_formed; fits = r.fits; loose = r.loose; high = r.high; spelled = λ ws. r.spelled ws ∙ ap (unwind s) (q.spelled ws) })

-- a step that goes on, from what the words so far are
abbrev Goes : (List Word → List Word) → Step Tree → Type 0
Goes before None = Unit {0}
Goes before (Some (s, mode)) = IsStack s × IsMode mode × ((ws : List Word) → unwind s (mode_words mode ws) ≡ before ws)

close_goes : (s : Stack Tree) (x : Tree) → IsWellFormed x → IsStack s → Goes (λ ws. unwind s (spell x (w.Mark m.Close ∷ ws))) (on_close trees s x)
close_goes [] x wf st = tt
close_goes (InParen ∷ s) x wf st = (st.2, (wf, omega arith), λ ws. refl)
close_goes (_ ∷ s) x wf st = tt

colon_goes : (s : Stack Tree) (x : Tree) → IsWellFormed x → IsStack s → Goes (λ ws. unwind s (spell x (w.Mark m.Colon ∷ ws))) (on_colon trees s x)
colon_goes [] x wf st = tt
colon_goes (InYes c ∷ s) x wf st = (((st.0.0, st.0.1, wf), st.1, st.2), tt, λ ws. refl)
colon_goes (_ ∷ s) x wf st = tt

act_goes : (k : Mark) (s : Stack Tree) (x : Tree) → IsWellFormed x → IsStack s → stack_holds s < pull k → pull k ≤ tree_level x → Goes (λ ws. unwind s (spell x (w.Mark k ∷ ws))) (act trees k s x)
act_goes (m.Infix o) s x wf st lt le = (((le, wf), room s (infix_level o) lt (infix_range o).0 (infix_range o).1, st), tt, λ ws. refl)
act_goes m.Question s x wf st lt le = (((le, wf), lowest s lt, st), tt, λ ws. refl)
act_goes m.Close s x wf st lt le = close_goes s x wf st
act_goes m.Colon s x wf st lt le = colon_goes s x wf st
act_goes m.Open s x wf st lt le = tt
act_goes m.Tilde s x wf st lt le = tt
act_goes m.Bang s x wf st lt le = tt

goes_from : (f g : List Word → List Word) → ((ws : List Word) → f ws ≡ g ws) → (r : Step Tree) → Goes f r → Goes g r
goes_from f g e None h = tt
goes_from f g e (Some (s, mode)) h = (h.0, h.1, λ ws. h.2 ws ∙ e ws)

after_goes : (s : Stack Tree) (x : Tree) (word : Word) → IsStack s → IsMode (Have x) → Goes (λ ws. unwind s (spell x (word ∷ ws))) (after trees s x word)
after_goes s x (w.Constant v) st md = tt
after_goes s x w.Stray st md = tt
after_goes s x (w.Mark k) st md =
    let r = reduces (pull k) s x (pull_range k).0 st md.0 (omega (arith, modest s, md.1)) (omega (arith, pull_range k, md.1)) in
    let p = reduced trees (pull k) s x in
    goes_from (λ ws. unwind p.0 (spell p.1 (w.Mark k ∷ ws))) (λ ws. unwind s (spell x (w.Mark k ∷ ws))) (λ ws. r.spelled (w.Mark k ∷ ws)) (act trees k p.0 p.1) (act_goes k p.0 p.1 r.well_formed r.stack r.loose r.high)

begin_goes : (s : Stack Tree) (word : Word) → IsStack s → Goes (λ ws. unwind s (word ∷ ws)) (begin trees s word)
begin_goes s (w.Constant v) st = (st, (tt, omega arith), λ ws. refl)
begin_goes s w.Stray st = tt
begin_goes s (w.Mark m.Open) st = ((tt, omega (arith, modest s), st), tt, λ ws. refl)
begin_goes s (w.Mark m.Tilde) st = ((tt, modest s, st), tt, λ ws. refl)
begin_goes s (w.Mark m.Bang) st = ((tt, modest s, st), tt, λ ws. refl)
begin_goes s (w.Mark (m.Infix (Compute op.Add))) st = ((tt, modest s, st), tt, λ ws. refl)
begin_goes s (w.Mark (m.Infix (Compute op.Subtract))) st = ((tt, modest s, st), tt, λ ws. refl)
begin_goes s (w.Mark _) st = tt

step_goes : (s : Stack Tree) (mode : Mode Tree) (word : Word) → IsStack s → IsMode mode → Goes (λ ws. unwind s (mode_words mode (word ∷ ws))) (step trees s mode word)
step_goes s Want word st md = begin_goes s word st
step_goes s (Have x) word st md = after_goes s x word st md

-- a tree, with its words
abbrev pub Found : List Word → Option Tree → Type 0
Found ws None = Unit {0}
Found ws (Some t) = IsWellFormed t × (spell t [] ≡ ws)

whole_found : (p : Stack Tree × Tree) (ws : List Word) → IsWellFormed p.1 → unwind p.0 (spell p.1 []) ≡ ws → Found ws (whole trees p)
whole_found ([], x) ws wf e = (wf, e)
whole_found (f ∷ s, x) ws wf e = tt

finish_found : (s : Stack Tree) (mode : Mode Tree) → IsStack s → IsMode mode → Found (unwind s (mode_words mode [])) (finish trees s mode)
finish_found s Want st md = tt
finish_found s (Have x) st md =
    let r = reduces 1 s x (omega arith) st md.0 (omega (arith, modest s, md.1)) (omega (arith, md.1)) in
    whole_found (reduced trees 1 s x) (unwind s (spell x [])) r.well_formed (r.spelled [])

then_found : (ws : List Word) (r : Step Tree) → ((s : Stack Tree) (mode : Mode Tree) → IsStack s → IsMode mode → Found (unwind s (mode_words mode ws)) (run trees ws s mode)) → (f : List Word → List Word) → Goes f r → Found (f ws) (then_run trees (run trees ws) r)
then_found ws None go f h = tt
then_found ws (Some (s, mode)) go f h = subst (λ (vs : List Word). Found vs (run trees ws s mode)) (h.2 ws) (go s mode h.0 h.1)

run_found : (ws : List Word) (s : Stack Tree) (mode : Mode Tree) → IsStack s → IsMode mode → Found (unwind s (mode_words mode ws)) (run trees ws s mode)
run_found [] s mode st md = finish_found s mode st md
run_found (word ∷ ws) s mode st md =
    then_found ws (step trees s mode word) (λ s' mode' st' md'. run_found ws s' mode' st' md') (λ vs. unwind s (mode_words mode (word ∷ vs))) (step_goes s mode word st md)

pub found : (ws : List Word) → Found ws (run_all trees ws)
found ws = run_found ws [] Want tt tt
