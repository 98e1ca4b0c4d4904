-- The marks of a text are put together exactly where a layout is written by them.
use Rattle.std.proofs.Common.{◌≡◌, ℕ, suc, ◌+◌, ◌≤◌, true, leb, eqb, zero, max, List, [], ◌∷◌, ◌++◌, length, Option, Some, None, refl, sym, ap, ◌∙◌, subst, append_assoc, arith, length-append}
use Rattle.std.specs.Option.{IfSome}
use Rattle.std.proofs.lemmas.Bool.{cond_both, cond-true, le-leb, leb-true}
use Rattle.ct_yaml.specs.declared.node.Node.{Node}
use Rattle.ct_yaml.specs.declared.mark.Mark.{Mark}
use Rattle.ct_yaml.specs.declared.mark.Mark.TheVariants.{Dash, Key, Value}
use Rattle.ct_yaml.specs.declared.stack.Block.TheVariants as block
use Rattle.ct_yaml.specs.Block.{Layout, nothing, on_line, map_at, list_at, Entries, no_entry, entry, marks_of, entry_marks, IsIndented, depth_of, entries_of}
use Rattle.ct_yaml.specs.Text.{IsTop}
use Rattle.ct_yaml.specs.Reading.{mapped, then_read}
use Rattle.ct_yaml.specs.Stack.{Open, is_inside, put, checked, may_begin, step, steps, text_node, value_depth}
use Rattle.ct_yaml.proofs.Grow.{spine, tip, open_of, open_depth, closed_spine, add, next_map, put_add, Grows, add_grows}
use Rattle.ct_yaml.proofs.Undo.{map_back, map_again, map_left, last_behind}

-- a layout of a whole text: a map, or nothing yet
abbrev pub IsRoot : Layout → Type 0
IsRoot nothing = Unit {0}
IsRoot (on_line value) = ⊥
IsRoot (map_at column before key value) = Unit {0}
IsRoot (list_at column before value) = ⊥

-- what is open after these marks
pub record Stands (now : Open) (marks : List Mark) : Type 0 where
  pub layout : Layout
  pub place : now ≡ open_of layout
  pub root : IsRoot layout
  pub indented : IsIndented layout
  pub nesting : depth_of layout ≤ 32
  pub written : marks_of layout ≡ marks

pub stands_first : Stands ([], None) []
stands_first = record { layout = nothing; place = refl; root = tt; indented = tt; nesting = omega arith; written = refl }

-- ---- what is put together is written so

next_map_root : (m : Mark) (at : ℕ) (before : Entries) (last : List ℕ) (value : Layout) → IfSome (next_map m at before last value) IsRoot
next_map_root (Key column key) at before last value = cond_both (eqb at column) (Some (map_at at (entry before last value) key nothing)) None (λ o. IfSome o IsRoot) (λ _. tt) (λ _. tt)
next_map_root (Dash column) at before last value = tt
next_map_root (Value v) at before last value = tt

mapped_root : (at : ℕ) (before : Entries) (last : List ℕ) (o : Option Layout) → IfSome (mapped (map_at at before last) o) IsRoot
mapped_root at before last None = tt
mapped_root at before last (Some l) = tt

begun_root : (m : Mark) → may_begin [] m ≡ true → IfSome (add m nothing) IsRoot
begun_root (Key column key) h = tt
begun_root (Dash column) h = cc
begun_root (Value v) h = cc

add_root : (m : Mark) (l : Layout) → IsRoot l → may_begin (spine l) m ≡ true → IfSome (add m l) IsRoot
add_root m nothing r h = begun_root m h
add_root m (on_line v) r h = tt
add_root m (map_at at before last value) r h =
    cond_both (is_inside m (block.Map at (entries_of before) last)) _ _ (λ o. IfSome o IsRoot)
    (λ _. mapped_root at before last (add m value)) (λ _. next_map_root m at before last value)
add_root m (list_at at before value) r h = absurd r

both_some : {A : Type 0} (o : Option A) (P Q : A → Type 0) → IfSome o P → IfSome o Q → IfSome o (λ a. P a × Q a)
both_some None P Q p q = tt
both_some (Some a) P Q p q = (p, q)

checked_stands : (m : Mark) (l : Layout) (marks : List Mark) → IsIndented l → depth_of l ≤ 32 → marks_of l ≡ marks
    → (o : Option Layout) → IfSome o (λ new. Grows m l new × IsRoot new)
    → IfSome (then_read (mapped open_of o) checked) (λ new. Stands new (marks ++ m ∷ []))
checked_stands m l marks all few is None h = tt
checked_stands m l marks all few is (Some new) h =
    cond_both (leb (length (spine new) + value_depth (tip new)) 32) (Some (open_of new)) None (λ o. IfSome o (λ now. Stands now (marks ++ m ∷ [])))
    (λ fits. let d = h.0.depth in let f = leb-true (length (spine new) + value_depth (tip new)) 32 fits in record {
      layout = new;
      place = refl;
      root = h.1;
      indented = h.0.indented all;
      nesting = omega arith;
      written = h.0.written ∙ ap (λ ms. ms ++ m ∷ []) is;
    })
    (λ no. tt)

step_of_layout : (m : Mark) (l : Layout) (marks : List Mark) → IsRoot l → IsIndented l → depth_of l ≤ 32 → marks_of l ≡ marks
    → IfSome (step (open_of l) m) (λ new. Stands new (marks ++ m ∷ []))
unfolding step
step_of_layout m l marks root all few is =
    cond_both (may_begin (spine l) m) (then_read (put m (spine l) (tip l)) checked) None (λ o. IfSome o (λ new. Stands new (marks ++ m ∷ [])))
    (λ may. subst (λ o. IfSome (then_read o checked) (λ new. Stands new (marks ++ m ∷ []))) (sym (put_add m l))
    (checked_stands m l marks all few is (add m l) (both_some (add m l) (Grows m l) IsRoot (add_grows m l) (add_root m l root may))))
    (λ no. tt)

pub step_stands : (now : Open) (marks : List Mark) → Stands now marks → (m : Mark) → IfSome (step now m) (λ new. Stands new (marks ++ m ∷ []))
step_stands now marks s m =
    subst (λ o. IfSome (step o m) (λ new. Stands new (marks ++ m ∷ []))) (sym s.place)
    (step_of_layout m s.layout marks s.root s.indented s.nesting s.written)

pub then_some : {A B : Type 0} (o : Option A) (f : A → Option B) (P : A → Type 0) (Q : B → Type 0)
    → IfSome o P → ((a : A) → P a → IfSome (f a) Q) → IfSome (then_read o f) Q
then_some None f P Q h k = tt
then_some (Some a) f P Q h k = k a h

pub steps_stand : (marks : List Mark) (now : Open) (before : List Mark) → Stands now before → IfSome (steps now marks) (λ new. Stands new (before ++ marks))
steps_stand [] now before s = subst (Stands now) (sym (append_nil before)) s
  where
    append_nil : (ms : List Mark) → ms ++ [] ≡ ms
    append_nil [] = refl
    append_nil (m ∷ ms) = ap (λ rest. m ∷ rest) (append_nil ms)
steps_stand (m ∷ marks) now before s =
    then_some (step now m) (λ new. steps new marks) (λ new. Stands new (before ++ m ∷ [])) (λ new. Stands new (before ++ m ∷ marks))
    (step_stands now before s m)
    (λ new at. subst (λ ms. IfSome (steps new marks) (λ end. Stands end ms)) (append_assoc before (m ∷ []) marks) (steps_stand marks new (before ++ m ∷ []) at))

-- ---- what is written so is put together

pub steps-append : (now : Open) (xs ys : List Mark) → steps now (xs ++ ys) ≡ then_read (steps now xs) (λ new. steps new ys)
steps-append now [] ys = refl
steps-append now (x ∷ xs) ys =
    elim (step now x) as (λ o. then_read o (λ new. steps new (xs ++ ys)) ≡ then_read (then_read o (λ new. steps new xs)) (λ new. steps new ys))
    [ None ↦ refl | Some new ↦ steps-append new xs ys ]

pub at_some : {A : Type 0} (o : Option A) (a : A) (P : A → Type 0) → o ≡ Some a → IfSome o P → P a
at_some {A = A} o a P e h = let f : Option A → Type 0 = λ x. IfSome x P in subst f e h

back_root : (column : ℕ) (before : Entries) (key : List ℕ) (value : Layout) → IsRoot (map_back column before key value)
back_root column no_entry key nothing = tt
back_root column (entry before last old) key nothing = tt
back_root column before key (on_line value) = tt
back_root column before key (map_at inner before' next value) = tt
back_root column before key (list_at inner before' value) = tt

back_begins : (column : ℕ) (before : Entries) (key : List ℕ) (value : Layout)
    → may_begin (spine (map_back column before key value)) (last_behind (Key column key) value) ≡ true
back_begins column no_entry key nothing = refl
back_begins column (entry before last old) key nothing = refl
back_begins column before key (on_line value) = refl
back_begins column before key (map_at inner before' next value) = refl
back_begins column before key (list_at inner before' value) = refl

-- the step that adds a layout's last mark
step_again : (m : Mark) (l new : Layout) → may_begin (spine l) m ≡ true → add m l ≡ Some new → open_depth new ≤ 32 → step (open_of l) m ≡ Some (open_of new)
unfolding step
step_again m l new may e few =
    cond-true (may_begin (spine l) m) (then_read (put m (spine l) (tip l)) checked) None may
    ∙ ap (λ o. then_read o checked) (put_add m l ∙ ap (mapped open_of) e)
    ∙ cond-true (leb (open_depth new) 32) (Some (open_of new)) None (le-leb (open_depth new) 32 few)

nothing_written : (l : Layout) → IsRoot l → length (marks_of l) ≡ 0 → l ≡ nothing
nothing_written nothing root h = refl
nothing_written (on_line v) root h = absurd root
nothing_written (list_at column before value) root h = absurd root
nothing_written (map_at column before key value) root h =
    absurd (omega (arith, length-append (entry_marks column before) (Key column key ∷ marks_of value)))

pub written_steps : (n : ℕ) (l : Layout) → length (marks_of l) ≡ n → IsRoot l → IsIndented l → depth_of l ≤ 32 → steps ([], None) (marks_of l) ≡ Some (open_of l)
written_steps zero l h root all few = let e = nothing_written l root h in subst (λ x. steps ([], None) (marks_of x) ≡ Some (open_of x)) (sym e) refl
written_steps (suc n) nothing h root all few = refl
written_steps (suc n) (on_line v) h root all few = absurd root
written_steps (suc n) (list_at column before value) h root all few = absurd root
written_steps (suc n) (map_at column before key value) h root all few =
    let l : Layout = map_at column before key value in
    let old : Layout = map_back column before key value in
    let m : Mark = last_behind (Key column key) value in
    let e : add m old ≡ Some l = map_again column before key value all in
    let g : Grows m old l = at_some (add m old) l (Grows m old) e (add_grows m old) in
    let d : depth_of l ≡ max (depth_of old) (open_depth l) = g.depth in
    let w : marks_of l ≡ marks_of old ++ m ∷ [] = g.written in
    let shorter : length (marks_of old) ≡ n = omega (arith, ap length w, length-append (marks_of old) (m ∷ [])) in
    let before_it : steps ([], None) (marks_of old) ≡ Some (open_of old) =
    written_steps n old shorter (back_root column before key value) (map_left column before key value all) (omega arith) in
    let last_step : step (open_of old) m ≡ Some (open_of l) = step_again m old l (back_begins column before key value) e (omega arith) in
    ap (steps ([], None)) w ∙ steps-append ([], None) (marks_of old) (m ∷ [])
    ∙ ap (λ o. then_read o (λ new. steps new (m ∷ []))) before_it ∙ ap (λ o. then_read o (λ new. Some new)) last_step

-- ---- the node

pub root_node : (l : Layout) → IsRoot l → IsTop l (text_node (open_of l))
root_node nothing root = refl
root_node (on_line v) root = root
root_node (list_at column before value) root = root
root_node (map_at column before key value) root = closed_spine (map_at column before key value)

pub top_root : (l : Layout) (node : Node) → IsTop l node → IsRoot l
top_root nothing node h = tt
top_root (on_line v) node h = h
top_root (list_at column before value) node h = h
top_root (map_at column before key value) node h = tt

pub top_node : (l : Layout) (node : Node) → IsTop l node → text_node (open_of l) ≡ node
top_node nothing node h = sym h
top_node (on_line v) node h = absurd h
top_node (list_at column before value) node h = absurd h
top_node (map_at column before key value) node h = closed_spine (map_at column before key value) ∙ sym h
