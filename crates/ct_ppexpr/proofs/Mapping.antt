-- The machine does the same whatever it builds: values are those of the trees.
use Rattle.std.proofs.Common.{◌≡◌, ℕ, Bool, true, false, cond, ltb, List, [], ◌∷◌, Option, Some, None, refl, ap, ◌∙◌}
use Rattle.ct_base.specs.declared.operators.UnaryOp.{UnaryOp}
use Rattle.ct_ppexpr.specs.declared.values.Value.{Value}
use Rattle.ct_ppexpr.specs.declared.words.Mark.{Mark}
use Rattle.ct_ppexpr.specs.declared.words.Mark.TheVariants as m
use Rattle.ct_ppexpr.specs.declared.words.Word.{Word}
use Rattle.ct_ppexpr.specs.declared.words.Word.TheVariants as w
use Rattle.ct_ppexpr.specs.Trees.{Tree, value_of}
use Rattle.ct_ppexpr.specs.Machine.{Frame, InParen, InPrefix, InBetween, InYes, InNo, Stack, Mode, Want, Have, Step, holds, plug, reduced, pull, prefix_of, with_prefix, on_close, on_colon, act, at, after, begin, step, whole, finish, then_run, run, run_all, trees, values}

abbrev frame_map : Frame Tree → Frame Value
frame_map InParen = InParen
frame_map (InPrefix o) = InPrefix o
frame_map (InBetween o l) = InBetween o (value_of l)
frame_map (InYes c) = InYes (value_of c)
frame_map (InNo c y) = InNo (value_of c) (value_of y)

abbrev stack_map : Stack Tree → Stack Value
stack_map [] = []
stack_map (f ∷ s) = frame_map f ∷ stack_map s

abbrev pair_map : Stack Tree × Tree → Stack Value × Value
pair_map p = (stack_map p.0, value_of p.1)

abbrev mode_map : Mode Tree → Mode Value
mode_map Want = Want
mode_map (Have x) = Have (value_of x)

abbrev pub tree_map : Option Tree → Option Value
tree_map None = None
tree_map (Some x) = Some (value_of x)

abbrev step_map : Step Tree → Step Value
step_map None = None
step_map (Some (s, mode)) = Some (stack_map s, mode_map mode)

holds_map : (f : Frame Tree) → holds (frame_map f) ≡ holds f
holds_map InParen = refl
holds_map (InPrefix o) = refl
holds_map (InBetween o l) = refl
holds_map (InYes c) = refl
holds_map (InNo c y) = refl

plug_map : (f : Frame Tree) (x : Tree) → plug values (frame_map f) (value_of x) ≡ value_of (plug trees f x)
plug_map InParen x = refl
plug_map (InPrefix o) x = refl
plug_map (InBetween o l) x = refl
plug_map (InYes c) x = refl
plug_map (InNo c y) x = refl

cond_map : {X Y : Type 0} (f : X → Y) (c : Bool) (x y : X) → cond c (f x) (f y) ≡ f (cond c x y)
cond_map f true x y = refl
cond_map f false x y = refl

reduced_map : (p : ℕ) (s : Stack Tree) (x : Tree) → reduced values p (stack_map s) (value_of x) ≡ pair_map (reduced trees p s x)
reduced_map p [] x = refl
reduced_map p (f ∷ s) x =
    rw (holds_map f, plug_map f x, reduced_map p s (plug trees f x)) (cond_map pair_map (ltb (holds f) p) (f ∷ s, x) (reduced trees p s (plug trees f x)))

close_map : (s : Stack Tree) (x : Tree) → on_close values (stack_map s) (value_of x) ≡ step_map (on_close trees s x)
close_map [] x = refl
close_map (InParen ∷ s) x = refl
close_map (_ ∷ s) x = refl

colon_map : (s : Stack Tree) (x : Tree) → on_colon values (stack_map s) (value_of x) ≡ step_map (on_colon trees s x)
colon_map [] x = refl
colon_map (InYes c ∷ s) x = refl
colon_map (_ ∷ s) x = refl

act_map : (k : Mark) (s : Stack Tree) (x : Tree) → act values k (stack_map s) (value_of x) ≡ step_map (act trees k s x)
act_map (m.Infix o) s x = refl
act_map m.Question s x = refl
act_map m.Close s x = close_map s x
act_map m.Colon s x = colon_map s x
act_map m.Open s x = refl
act_map m.Tilde s x = refl
act_map m.Bang s x = refl

after_map : (s : Stack Tree) (x : Tree) (word : Word) → after values (stack_map s) (value_of x) word ≡ step_map (after trees s x word)
after_map s x (w.Constant v) = refl
after_map s x w.Stray = refl
after_map s x (w.Mark k) = ap (at values k) (reduced_map (pull k) s x) ∙ act_map k (reduced trees (pull k) s x).0 (reduced trees (pull k) s x).1

prefix_map : (s : Stack Tree) (o : Option UnaryOp) → with_prefix (stack_map s) o ≡ step_map (with_prefix s o)
prefix_map s None = refl
prefix_map s (Some o) = refl

begin_map : (s : Stack Tree) (word : Word) → begin values (stack_map s) word ≡ step_map (begin trees s word)
begin_map s (w.Constant v) = refl
begin_map s w.Stray = refl
begin_map s (w.Mark m.Open) = refl
begin_map s (w.Mark k) = prefix_map s (prefix_of k)

each_map : (s : Stack Tree) (mode : Mode Tree) (word : Word) → step values (stack_map s) (mode_map mode) word ≡ step_map (step trees s mode word)
each_map s Want word = begin_map s word
each_map s (Have x) word = after_map s x word

whole_map : (p : Stack Tree × Tree) → whole values (pair_map p) ≡ tree_map (whole trees p)
whole_map ([], x) = refl
whole_map (f ∷ s, x) = refl

finish_map : (s : Stack Tree) (mode : Mode Tree) → finish values (stack_map s) (mode_map mode) ≡ tree_map (finish trees s mode)
finish_map s Want = refl
finish_map s (Have x) = ap (whole values) (reduced_map 1 s x) ∙ whole_map (reduced trees 1 s x)

then_map : (go : Stack Tree → Mode Tree → Option Tree) (go' : Stack Value → Mode Value → Option Value) → ((s : Stack Tree) (mode : Mode Tree) → go' (stack_map s) (mode_map mode) ≡ tree_map (go s mode)) → (r : Step Tree) → then_run values go' (step_map r) ≡ tree_map (then_run trees go r)
then_map go go' e None = refl
then_map go go' e (Some (s, mode)) = e s mode

run_map : (ws : List Word) (s : Stack Tree) (mode : Mode Tree) → run values ws (stack_map s) (mode_map mode) ≡ tree_map (run trees ws s mode)
run_map [] s mode = finish_map s mode
run_map (word ∷ ws) s mode =
    ap (then_run values (run values ws)) (each_map s mode word) ∙ then_map (run trees ws) (run values ws) (λ s' mode'. run_map ws s' mode') (step trees s mode word)

pub all_map : (ws : List Word) → run_all values ws ≡ tree_map (run_all trees ws)
all_map ws = run_map ws [] Want
