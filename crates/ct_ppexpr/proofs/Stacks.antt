-- The stack that a vector of frames is.
use Rattle.std.proofs.Common.{◌≡◌, ℕ, ◌<◌, ◌≤◌, List, [], ◌∷◌, ◌++◌, refl}
use Rattle.std.proofs.lemmas.Bool.{lt-ltb, le-ltb}
use Rattle.ct_ppexpr.specs.declared.open.Frame.{Frame}
use Rattle.ct_ppexpr.specs.Machine as m
use Rattle.ct_ppexpr.specs.View.{frame_of, stack_onto}

stack_onto-snoc : (fs : List Frame) (f : Frame) (s : _) → stack_onto (fs ++ f ∷ []) s ≡ frame_of f ∷ stack_onto fs s
stack_onto-snoc [] f s = refl
stack_onto-snoc (g ∷ fs) f s = stack_onto-snoc fs f (frame_of g ∷ s)

pub stack_snoc : (fs : List Frame) (f : Frame) → stack_onto (fs ++ f ∷ []) [] ≡ frame_of f ∷ stack_onto fs []
stack_snoc fs f = stack_onto-snoc fs f []

module _ {A : Type 0} (build : m.Algebra A) (p : ℕ) (f : m.Frame A) (s : m.Stack A) (x : A) where
  pub reduce_stops : m.holds f < p → m.reduced build p (f ∷ s) x ≡ (f ∷ s, x)
  reduce_stops lt = rw (lt-ltb (m.holds f) p lt) refl

  pub reduce_goes : p ≤ m.holds f → m.reduced build p (f ∷ s) x ≡ m.reduced build p s (m.plug build f x)
  reduce_goes le = rw (le-ltb (m.holds f) p le) refl
