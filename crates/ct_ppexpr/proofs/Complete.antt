-- A tree that the grammar makes is read from its words, whatever stands before and after it.
use Rattle.std.proofs.Common.{◌≡◌, ℕ, ◌<◌, ◌≤◌, List, [], ◌∷◌, Some, refl, ap, ◌∙◌, arith}
use Rattle.std.proofs.lemmas.Bool.{le-ltb, lt-ltb}
use Rattle.ct_base.specs.declared.operators.UnaryOp.{UnaryOp}
use Rattle.ct_base.specs.declared.operators.UnaryOp.TheVariants as prefix
use Rattle.ct_ppexpr.specs.declared.words.Infix.{Infix}
use Rattle.ct_ppexpr.specs.declared.words.Mark.{Mark}
use Rattle.ct_ppexpr.specs.declared.words.Mark.TheVariants as m
use Rattle.ct_ppexpr.specs.declared.words.Word.{Word}
use Rattle.ct_ppexpr.specs.declared.words.Word.TheVariants as w
use Rattle.ct_ppexpr.specs.Trees.{Tree, Constant, Paren, Prefix, Between, Choice, prefix_mark, infix_level, tree_level, spell, IsWellFormed}
use Rattle.ct_ppexpr.specs.Machine.{Frame, InParen, InPrefix, InBetween, InYes, InNo, Stack, Mode, Want, Have, holds, plug, reduced, pull, act, at, step, whole, then_run, run, trees}
use Rattle.ct_ppexpr.proofs.Levels.{infix_range, infix_apart, level_positive, stack_needs, stack_holds, loose, low}

-- how far the word behind a tree reaches back
abbrev pub next_pull : List Word → ℕ
next_pull (w.Mark k ∷ ws) = pull k
next_pull _ = 1

reduced_more : (p : ℕ) (f : Frame Tree) (s : Stack Tree) (x : Tree) → p ≤ holds f → reduced trees p (f ∷ s) x ≡ reduced trees p s (plug trees f x)
reduced_more p f s x le = rw (le-ltb (holds f) p le) refl

kept : (p : ℕ) (s : Stack Tree) (x : Tree) → stack_holds s < p → reduced trees p s x ≡ (s, x)
kept p [] x lt = refl
kept p (f ∷ s) x lt = rw (lt-ltb (holds f) p lt) refl

go : (word : Word) (ws : List Word) (s : Stack Tree) (mode : Mode Tree) (s' : Stack Tree) (mode' : Mode Tree) → step trees s mode word ≡ Some (s', mode') → run trees (word ∷ ws) s mode ≡ run trees ws s' mode'
go word ws s mode s' mode' e = ap (then_run trees (run trees ws)) e

-- a frame that the next word ends
ended : (f : Frame Tree) (s : Stack Tree) (x : Tree) (rest : List Word) → 1 ≤ holds f → next_pull rest ≤ holds f → run trees rest (f ∷ s) (Have x) ≡ run trees rest s (Have (plug trees f x))
ended f s x [] one le = ap (whole trees) (reduced_more 1 f s x one)
ended f s x (w.Mark k ∷ ws) one le = ap (λ r. then_run trees (run trees ws) (at trees k r)) (reduced_more (pull k) f s x le)
ended f s x (w.Constant v ∷ ws) one le = refl
ended f s x (w.Stray ∷ ws) one le = refl

-- a mark that ends nothing
acts : (k : Mark) (s : Stack Tree) (x : Tree) (rest : List Word) (s' : Stack Tree) (mode : Mode Tree) → stack_holds s < pull k → act trees k s x ≡ Some (s', mode) → run trees (w.Mark k ∷ rest) s (Have x) ≡ run trees rest s' mode
acts k s x rest s' mode lt e = go (w.Mark k) rest s (Have x) s' mode (ap (at trees k) (kept (pull k) s x lt) ∙ e)

prefixed : (o : UnaryOp) (s : Stack Tree) (rest : List Word) → run trees (w.Mark (prefix_mark o) ∷ rest) s Want ≡ run trees rest (InPrefix o ∷ s) Want
prefixed prefix.Plus s rest = refl
prefixed prefix.Minus s rest = refl
prefixed prefix.Complement s rest = refl
prefixed prefix.Not s rest = refl

infix_read : (o : Infix) (s : Stack Tree) (l : Tree) (rest : List Word) → stack_needs s ≤ infix_level o → run trees (w.Mark (m.Infix o) ∷ rest) s (Have l) ≡ run trees rest (InBetween o l ∷ s) Want
infix_read o s l rest n =
    let range = infix_range o in
    acts (m.Infix o) s l rest (InBetween o l ∷ s) Want (loose s (infix_level o) n (infix_apart o) range.0 range.1) refl

pub reads : (t : Tree) (s : Stack Tree) (rest : List Word) → IsWellFormed t → stack_needs s ≤ tree_level t → next_pull rest ≤ tree_level t → run trees (spell t rest) s Want ≡ run trees rest s (Have t)
reads (Constant v) s rest wf n p = refl
reads (Paren x) s rest wf n p =
    reads x (InParen ∷ s) (w.Mark m.Close ∷ rest) wf (level_positive x) (level_positive x)
    ∙ acts m.Close (InParen ∷ s) x rest s (Have (Paren x)) (omega arith) refl
reads (Prefix o x) s rest wf n p =
    prefixed o s (spell x rest)
    ∙ reads x (InPrefix o ∷ s) rest wf.1 wf.0 (omega (arith, p, wf.0))
    ∙ ended (InPrefix o) s x rest (omega arith) p
reads (Between o l r) s rest wf n p =
    reads l s (w.Mark (m.Infix o) ∷ spell r rest) wf.2 (omega (arith, n, wf.0)) wf.0
    ∙ infix_read o s l (spell r rest) n
    ∙ reads r (InBetween o l ∷ s) rest wf.3 wf.1 (omega (arith, p, wf.1))
    ∙ ended (InBetween o l) s r rest (omega (arith, infix_range o)) p
reads (Choice c y z) s rest wf n p =
    reads c s (w.Mark m.Question ∷ spell y (w.Mark m.Colon ∷ spell z rest)) wf.2 (omega (arith, n, wf.0)) wf.0
    ∙ acts m.Question s c (spell y (w.Mark m.Colon ∷ spell z rest)) (InYes c ∷ s) Want (low s n) refl
    ∙ reads y (InYes c ∷ s) (w.Mark m.Colon ∷ spell z rest) wf.3 (level_positive y) (level_positive y)
    ∙ acts m.Colon (InYes c ∷ s) y (spell z rest) (InNo c y ∷ s) Want (omega arith) refl
    ∙ reads z (InNo c y ∷ s) rest wf.4 wf.1 (omega (arith, p, wf.1))
    ∙ ended (InNo c y) s z rest (omega arith) p

-- a tree is read from its own words
pub again : (t : Tree) → IsWellFormed t → run trees (spell t []) [] Want ≡ Some t
again t wf = reads t [] [] wf (level_positive t) (level_positive t)
