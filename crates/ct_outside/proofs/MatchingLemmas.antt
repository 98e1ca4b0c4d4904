-- Patterns that are matched from the left, and a run as short as it can be.
use Rattle.std.proofs.Common.{◌≡◌, suc, ◌+◌, ◌≤◌, inl, inr, ◌↔◌, Bool, true, false, IsTrue, List, [], ◌∷◌, ◌++◌, length, refl, sym, ap, subst, ◌∙◌, arith, append_assoc, length-append}
use Rattle.std.proofs.lemmas.Bool.{false≢true}
use Rattle.ct_outside.specs.Matching.{Matches}
use Rattle.ct_outside.specs.Skipping.{FitOneToOne, FitsUpTo, IsSkipped, MatchesEnd, Stops}

pub none_from_length : {A : Type 0} (xs : List A) → length xs ≡ 0 → xs ≡ []
none_from_length [] e = refl
none_from_length (x ∷ xs) e = absurd (omega arith)

module _ {P X : Type 0} (is_run : P → Bool) (Fits : P → X → Type 0) where
  -- what a run and what another part matches
  pub run_from : (p : P) (ps : List P) (xs : List X) → is_run p ≡ true → Matches is_run Fits (p ∷ ps) xs → MatchesEnd is_run Fits ps xs
  run_from p ps xs e h = rw e at h

  pub run_to : (p : P) (ps : List P) (xs : List X) → is_run p ≡ true → MatchesEnd is_run Fits ps xs → Matches is_run Fits (p ∷ ps) xs
  run_to p ps xs e h = rw e h

  One : P → List P → List X → Type 0
  One p ps xs = (x : X) × (rest : List X) × (xs ≡ x ∷ rest) × Fits p x × Matches is_run Fits ps rest

  one_from : (p : P) (ps : List P) (xs : List X) → is_run p ≡ false → Matches is_run Fits (p ∷ ps) xs → One p ps xs
  unfolding One
  one_from p ps xs e h = rw e at h

  one_to : (p : P) (ps : List P) (xs : List X) → is_run p ≡ false → One p ps xs → Matches is_run Fits (p ∷ ps) xs
  unfolding One
  one_to p ps xs e h = rw e h

  -- the fixed front of a pattern takes as many items
  fixed_to : (seg : List P) (u : List X) (ps : List P) (xs : List X) → FitOneToOne is_run Fits seg u → Matches is_run Fits ps xs → Matches is_run Fits (seg ++ ps) (u ++ xs)
  unfolding One
  fixed_to [] [] ps xs fixed h = h
  fixed_to [] (x ∷ u) ps xs fixed h = absurd fixed
  fixed_to (p ∷ seg) [] ps xs fixed h = absurd fixed
  fixed_to (p ∷ seg) (x ∷ u) ps xs fixed h = one_to p (seg ++ ps) (x ∷ u ++ xs) fixed.0 (x, u ++ xs, refl, fixed.1, fixed_to seg u ps xs fixed.2 h)

  tail : (x y : X) (xs ys : List X) → x ∷ xs ≡ y ∷ ys → xs ≡ ys
  tail x y xs ys e = cc

  head : (x y : X) (xs ys : List X) → x ∷ xs ≡ y ∷ ys → x ≡ y
  head x y xs ys e = cc

  fixed_from : (seg : List P) (u : List X) (ps : List P) (xs : List X) → FitOneToOne is_run Fits seg u → Matches is_run Fits (seg ++ ps) (u ++ xs) → Matches is_run Fits ps xs
  unfolding One
  fixed_from [] [] ps xs fixed h = h
  fixed_from [] (x ∷ u) ps xs fixed h = absurd fixed
  fixed_from (p ∷ seg) [] ps xs fixed h = absurd fixed
  fixed_from (p ∷ seg) (x ∷ u) ps xs fixed h =
      let r = one_from p (seg ++ ps) (x ∷ u ++ xs) fixed.0 h in
      let e : u ++ xs ≡ r.1 = tail x r.0 (u ++ xs) r.1 r.2 in
      fixed_from seg u ps xs fixed.2 (subst (λ (ys : List X). Matches is_run Fits (seg ++ ps) ys) (sym e) r.4)

  -- a fixed front takes as many items wherever it matches
  fixed_takes : (seg : List P) (u : List X) (ps : List P) (xs : List X) → FitOneToOne is_run Fits seg u → Matches is_run Fits (seg ++ ps) xs
      → (w z : List X) × (xs ≡ w ++ z) × (length w ≡ length u) × Matches is_run Fits ps z
  unfolding One
  fixed_takes [] [] ps xs fixed h = ([], xs, refl, refl, h)
  fixed_takes [] (x ∷ u) ps xs fixed h = absurd fixed
  fixed_takes (p ∷ seg) [] ps xs fixed h = absurd fixed
  fixed_takes (p ∷ seg) (x ∷ u) ps xs fixed h =
      let r = one_from p (seg ++ ps) xs fixed.0 h in
      let more = fixed_takes seg u ps r.1 fixed.2 r.4 in
      (r.0 ∷ more.0, more.1, r.2 ∙ ap (λ (ys : List X). r.0 ∷ ys) more.2, ap suc more.3, more.4)

  -- of two ends of a list the shorter one is an end of the longer one
  end_of_end : (a : List X) (b c d : List X) → a ++ b ≡ c ++ d → length d ≤ length b → (m : List X) × (b ≡ m ++ d)
  end_of_end [] b c d e l = (c, e)
  end_of_end (x ∷ a) b [] d e l = absurd (let k : length (x ∷ a ++ b) ≡ length d = ap length e in omega (arith, length-append a b))
  end_of_end (x ∷ a) b (y ∷ c) d e l = end_of_end a b c d (tail x y (a ++ b) (c ++ d) e) l

  -- an end of an end
  pub end_in : (ps : List P) (m xs : List X) → MatchesEnd is_run Fits ps xs → MatchesEnd is_run Fits ps (m ++ xs)
  end_in ps m xs h = (m ++ h.0, h.1, ap (λ (ys : List X). m ++ ys) h.2 ∙ sym (append_assoc m h.0 h.1), h.3)

  -- where the fixed front fits here, a later place is no better for the run behind it
  pub at_run : (seg : List P) (u : List X) (p : P) (ps : List P) (xs : List X) → FitOneToOne is_run Fits seg u → is_run p ≡ true
      → MatchesEnd is_run Fits (seg ++ p ∷ ps) (u ++ xs) ↔ MatchesEnd is_run Fits ps xs
  at_run seg u p ps xs fixed e = (
    λ h.
        let t = fixed_takes seg u (p ∷ ps) h.1 fixed h.3 in
        let lengths : length u + length xs ≡ length h.0 + (length t.0 + length t.1) = sym (length-append u xs) ∙ ap length h.2 ∙ length-append h.0 h.1 ∙ ap (λ n. length h.0 + n) (ap length t.2 ∙ length-append t.0 t.1) in
        let same : length t.0 ≡ length u = t.3 in
        let within : length t.1 ≤ length xs = omega arith in
        let whole : u ++ xs ≡ (h.0 ++ t.0) ++ t.1 = h.2 ∙ ap (λ (ys : List X). h.0 ++ ys) t.2 ∙ sym (append_assoc h.0 t.0 t.1) in
        let m = end_of_end u xs (h.0 ++ t.0) t.1 whole within in
        subst (λ (ys : List X). MatchesEnd is_run Fits ps ys) (sym m.1) (end_in ps m.0 t.1 (run_from p ps t.1 e t.4)),
    λ h. ([], u ++ xs, refl, fixed_to seg u (p ∷ ps) xs fixed (run_to p ps xs e h)),
  )

  -- what is left does not match where it stops without a run, and is not empty on both sides
  stopped : (ps : List P) (xs : List X) → Stops is_run Fits ps xs → ((p : P) (more : List P) → ps ≡ p ∷ more → is_run p ≡ false) → ((ps ≡ []) × (xs ≡ []) → ⊥) → Matches is_run Fits ps xs → ⊥
  unfolding One
  stopped [] xs stops none some h = some (refl, h)
  stopped (p ∷ ps) [] stops none some h =
      let r = one_from p ps [] (none p ps refl) h in
      let e : [] ≡ r.0 ∷ r.1 = r.2 in absurd (let k : 0 ≡ suc (length r.1) = ap length e in omega arith)
  stopped (p ∷ ps) (x ∷ xs) stops none some h =
      let r = one_from p ps (x ∷ xs) (none p ps refl) h in
      elim stops [
        | inl run ↦ false≢true (sym (none p ps refl) ∙ run)
        | inr misfit ↦ misfit (subst (λ (y : X). Fits p y) (sym (head x r.0 xs r.1 r.2)) r.3)
      ]

  -- a pattern whose fixed front was skipped matches where the rest does
  pub skipped_to : (ps ps' : List P) (xs xs' : List X) → IsSkipped is_run Fits ps xs ps' xs' → Matches is_run Fits ps' xs' → Matches is_run Fits ps xs
  skipped_to ps ps' xs xs' s h =
      let fits = s.0 in
      let P' : List P → Type 0 = λ qs. Matches is_run Fits qs xs in
      let X' : List X → Type 0 = λ ys. Matches is_run Fits (fits.0 ++ ps') ys in
      subst P' (sym fits.2) (subst X' (sym fits.3) (fixed_to fits.0 fits.1 ps' xs' fits.4 h))

  pub skipped_from : (ps ps' : List P) (xs xs' : List X) → IsSkipped is_run Fits ps xs ps' xs' → Matches is_run Fits ps xs → Matches is_run Fits ps' xs'
  skipped_from ps ps' xs xs' s h =
      let fits = s.0 in
      let P' : List P → Type 0 = λ qs. Matches is_run Fits qs xs in
      let X' : List X → Type 0 = λ ys. Matches is_run Fits (fits.0 ++ ps') ys in
      fixed_from fits.0 fits.1 ps' xs' fits.4 (subst X' fits.3 (subst P' fits.2 h))

  -- a run behind the skipped front
  pub skipped_run : (ps ps' : List P) (xs xs' : List X) (p : P) (more : List P) → IsSkipped is_run Fits ps xs ps' xs' → ps' ≡ p ∷ more → is_run p ≡ true
      → MatchesEnd is_run Fits ps xs ↔ MatchesEnd is_run Fits more xs'
  skipped_run ps ps' xs xs' p more s is e =
      let fits = s.0 in
      let whole : ps ≡ fits.0 ++ p ∷ more = fits.2 ∙ ap (λ (qs : List P). fits.0 ++ qs) is in
      let both = at_run fits.0 fits.1 p more xs' fits.4 e in
      let to : MatchesEnd is_run Fits ps xs → MatchesEnd is_run Fits (fits.0 ++ p ∷ more) (fits.1 ++ xs') =
      λ h. subst (λ (qs : List P). MatchesEnd is_run Fits qs (fits.1 ++ xs')) whole (subst (λ (ys : List X). MatchesEnd is_run Fits ps ys) fits.3 h) in
      let back : MatchesEnd is_run Fits (fits.0 ++ p ∷ more) (fits.1 ++ xs') → MatchesEnd is_run Fits ps xs =
      λ h. subst (λ (ys : List X). MatchesEnd is_run Fits ps ys) (sym fits.3) (subst (λ (qs : List P). MatchesEnd is_run Fits qs (fits.1 ++ xs')) (sym whole) h) in
      (λ h. both.0 (to h), λ h. back (both.1 h))

  -- no match at this place
  pub skipped_none : (ps ps' : List P) (xs xs' : List X) → IsSkipped is_run Fits ps xs ps' xs'
      → ((p : P) (more : List P) → ps' ≡ p ∷ more → is_run p ≡ false) → ((ps' ≡ []) × (xs' ≡ []) → ⊥) → Matches is_run Fits ps xs → ⊥
  skipped_none ps ps' xs xs' s none some h = stopped ps' xs' s.1 none some (skipped_from ps ps' xs xs' s h)

  -- so a match is at a later place, if there is one
  pub later : (ps : List P) (x : X) (xs : List X) → (Matches is_run Fits ps (x ∷ xs) → ⊥) → MatchesEnd is_run Fits ps (x ∷ xs) ↔ MatchesEnd is_run Fits ps xs
  later ps x xs n = (λ h. later_from h.0 h.1 h.2 h.3, end_in ps (x ∷ []) xs)
    where
      later_from : (front rest : List X) → x ∷ xs ≡ front ++ rest → Matches is_run Fits ps rest → MatchesEnd is_run Fits ps xs
      later_from [] rest e m = absurd (n (subst (λ (ys : List X). Matches is_run Fits ps ys) (sym e) m))
      later_from (y ∷ front) rest e m = (front, rest, tail x y xs (front ++ rest) e, m)

  pub never : (ps : List P) → (Matches is_run Fits ps [] → ⊥) → MatchesEnd is_run Fits ps [] → ⊥
  never ps n h = never_from h.0 h.1 h.2 h.3
    where
      never_from : (front rest : List X) → [] ≡ front ++ rest → Matches is_run Fits ps rest → ⊥
      never_from [] rest e m = n (subst (λ (ys : List X). Matches is_run Fits ps ys) (sym e) m)
      never_from (y ∷ front) rest e m = absurd (let k : 0 ≡ suc (length (front ++ rest)) = ap length e in omega arith)

  -- one more part that fits
  push_fits : (seg : List P) (u : List X) (p : P) (x : X) → FitOneToOne is_run Fits seg u → is_run p ≡ false → Fits p x → FitOneToOne is_run Fits (seg ++ p ∷ []) (u ++ x ∷ [])
  push_fits [] [] p x fixed e f = (e, f, tt)
  push_fits [] (y ∷ u) p x fixed e f = absurd fixed
  push_fits (q ∷ seg) [] p x fixed e f = absurd fixed
  push_fits (q ∷ seg) (y ∷ u) p x fixed e f = (fixed.0, fixed.1, push_fits seg u p x fixed.2 e f)

  pub fits_none : (ps : List P) (xs : List X) → FitsUpTo is_run Fits ps xs ps xs
  fits_none ps xs = ([], [], refl, refl, tt)

  pub fits_more : (ps0 : List P) (xs0 : List X) (ps : List P) (xs : List X) (p : P) (more_ps : List P) (x : X) (more_xs : List X) → FitsUpTo is_run Fits ps0 xs0 ps xs
      → ps ≡ p ∷ more_ps → xs ≡ x ∷ more_xs → is_run p ≡ false → Fits p x → FitsUpTo is_run Fits ps0 xs0 more_ps more_xs
  fits_more ps0 xs0 ps xs p more_ps x more_xs h e f run fits = (
    h.0 ++ p ∷ [],
    h.1 ++ x ∷ [],
    h.2 ∙ ap (λ (qs : List P). h.0 ++ qs) e ∙ sym (append_assoc h.0 (p ∷ []) more_ps),
    h.3 ∙ ap (λ (ys : List X). h.1 ++ ys) f ∙ sym (append_assoc h.1 (x ∷ []) more_xs),
    push_fits h.0 h.1 p x h.4 run fits,
  )

  -- the steps of the loop that looks for an end which matches
  pub found : (ps ps' : List P) (xs xs' : List X) (Whole : Type 0) → IsSkipped is_run Fits ps xs ps' xs' → (ps' ≡ []) × (xs' ≡ []) → (MatchesEnd is_run Fits ps xs ↔ Whole) → Whole
  found ps ps' xs xs' Whole s e whole =
      let here : Matches is_run Fits ps' xs' = subst (λ (qs : List P). Matches is_run Fits qs xs') (sym e.0) e.1 in
      whole.0 ([], xs, refl, skipped_to ps ps' xs xs' s here)

  pub next_run : (ps ps' : List P) (xs xs' : List X) (p : P) (more : List P) (Whole : Type 0) → IsSkipped is_run Fits ps xs ps' xs' → ps' ≡ p ∷ more → is_run p ≡ true
      → (MatchesEnd is_run Fits ps xs ↔ Whole) → MatchesEnd is_run Fits more xs' ↔ Whole
  next_run ps ps' xs xs' p more Whole s is e whole =
      let both = skipped_run ps ps' xs xs' p more s is e in
      (λ h. whole.0 (both.1 h), λ h. both.0 (whole.1 h))

  pub next_item : (ps ps' : List P) (xs xs' : List X) (x : X) (more : List X) (Whole : Type 0) → IsSkipped is_run Fits ps xs ps' xs'
      → ((p : P) (qs : List P) → ps' ≡ p ∷ qs → is_run p ≡ false) → ((ps' ≡ []) × (xs' ≡ []) → ⊥) → xs ≡ x ∷ more
      → (MatchesEnd is_run Fits ps xs ↔ Whole) → MatchesEnd is_run Fits ps more ↔ Whole
  next_item ps ps' xs xs' x more Whole s none some is whole =
      let no = skipped_none ps ps' xs xs' s none some in
      let both = later ps x more (λ m. no (subst (λ (ys : List X). Matches is_run Fits ps ys) (sym is) m)) in (
        λ h. whole.0 (subst (λ (ys : List X). MatchesEnd is_run Fits ps ys) (sym is) (both.1 h)),
        λ h. both.0 (subst (λ (ys : List X). MatchesEnd is_run Fits ps ys) is (whole.1 h)),
      )

  pub no_item : (ps ps' : List P) (xs xs' : List X) (Whole : Type 0) → IsSkipped is_run Fits ps xs ps' xs'
      → ((p : P) (qs : List P) → ps' ≡ p ∷ qs → is_run p ≡ false) → ((ps' ≡ []) × (xs' ≡ []) → ⊥) → xs ≡ []
      → (MatchesEnd is_run Fits ps xs ↔ Whole) → Whole → ⊥
  no_item ps ps' xs xs' Whole s none some is whole h =
      let no = skipped_none ps ps' xs xs' s none some in
      never ps (λ m. no (subst (λ (ys : List X). Matches is_run Fits ps ys) (sym is) m)) (subst (λ (ys : List X). MatchesEnd is_run Fits ps ys) is (whole.1 h))

  -- the whole pattern, by what is left behind its fixed front
  pub run_left : (ps ps' : List P) (xs xs' : List X) (p : P) (more : List P) → IsSkipped is_run Fits ps xs ps' xs' → ps' ≡ p ∷ more → is_run p ≡ true
      → MatchesEnd is_run Fits more xs' ↔ Matches is_run Fits ps xs
  run_left ps ps' xs xs' p more s is e = (
    λ h. skipped_to ps ps' xs xs' s (subst (λ (qs : List P). Matches is_run Fits qs xs') (sym is) (run_to p more xs' e h)),
    λ h. run_from p more xs' e (subst (λ (qs : List P). Matches is_run Fits qs xs') is (skipped_from ps ps' xs xs' s h)),
  )

  pub none_left : (ps ps' : List P) (xs xs' : List X) (r : Bool) → IsSkipped is_run Fits ps xs ps' xs'
      → ((p : P) (qs : List P) → ps' ≡ p ∷ qs → is_run p ≡ false) → (IsTrue r ↔ ((ps' ≡ []) × (xs' ≡ []))) → IsTrue r ↔ Matches is_run Fits ps xs
  none_left ps ps' xs xs' true s none empty = (
    λ _. let e = empty.0 refl in skipped_to ps ps' xs xs' s (subst (λ (qs : List P). Matches is_run Fits qs xs') (sym e.0) e.1),
    λ _. refl,
  )
  none_left ps ps' xs xs' false s none empty = (λ h. absurd (false≢true h), λ h. absurd (skipped_none ps ps' xs xs' s none (λ e. false≢true (empty.1 e)) h))
