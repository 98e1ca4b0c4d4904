-- How the arguments of a call are collected, token by token.
use Rattle.std.proofs.Common.{◌≡◌, ℕ, ◌+◌, Bool, true, false, List, [], ◌∷◌, ◌++◌, Option, ◌⊎◌, inl, inr, refl, sym, ap, ◌∙◌, subst, arith, append_assoc}
use Rattle.std.specs.Prelude.{codes}
use Rattle.std.specs.Str.{bytes_eq}
use Rattle.std.proofs.lemmas.List.{append-nil}
use Rattle.std.proofs.lemmas.Grind.{common_steps}
use Rattle.ct_macro_call.specs.declared.marked.Marked.{Marked}
use Rattle.ct_macro_call.specs.Words.{is_open, is_close}
use Rattle.ct_macro_call.specs.Calls.{opens, closes, closes_call, separates, IsLevel, NoneAtLevel, IsCall, MaySeparate, fewer, AreArguments}
use Rattle.ct_macro_call.proofs.Texts.{same_text}
use Rattle.ct_macro_call.specs.Collected.{Collected, count_of, IsDepthBehind}

module _ {A : Type 0} where
  -- where an item stands in a list with one more at its end
  pub split_last : (xs : List A) (t : A) (before : List A) (x : A) (after : List A) → xs ++ t ∷ [] ≡ before ++ x ∷ after
      → ((rest : List A) × (xs ≡ before ++ x ∷ rest)) ⊎ ((xs ≡ before) × (t ≡ x))
  split_last [] t [] x after e = inr (refl, cc)
  split_last [] t (b ∷ []) x after e = absurd (let bad : [] ≡ x ∷ after = cc in cc)
  split_last [] t (b ∷ c ∷ bs) x after e = absurd (let bad : [] ≡ c ∷ (bs ++ x ∷ after) = cc in cc)
  split_last (y ∷ ys) t [] x after e = inl (ys, ap (λ h. h ∷ ys) (let same : y ≡ x = cc in same))
  split_last (y ∷ ys) t (b ∷ bs) x after e =
      let head : y ≡ b = cc in
      let tail : ys ++ t ∷ [] ≡ bs ++ x ∷ after = cc in
      elim (split_last ys t bs x after tail) [ inl p ↦ inl (p.0, ap (λ h. h ∷ ys) head ∙ ap (λ l. b ∷ l) p.1) | inr p ↦ inr (ap (λ h. h ∷ ys) head ∙ ap (λ l. b ∷ l) p.0, p.1) ]

pub none_more : (test : Marked → Bool) (xs : List Marked) (t : Marked) → NoneAtLevel test xs → (IsLevel xs → test t ≡ false)
    → NoneAtLevel test (xs ++ t ∷ [])
none_more test xs t none at_end = λ before x after e level. elim (split_last xs t before x after e) [ inl p ↦ none before x p.0 p.1 level | inr p ↦ ap test (sym p.1) ∙ at_end (ap opens p.0 ∙ level ∙ sym (ap closes p.0)) ]

opens_more : (xs : List Marked) (t : Marked) → opens (xs ++ t ∷ []) ≡ opens xs + count_of (is_open t.token)
opens_more xs t = by_test (is_open t.token) refl
  where
    by_test : (b : Bool) → is_open t.token ≡ b → opens (xs ++ t ∷ []) ≡ opens xs + count_of (is_open t.token)
    by_test true e = grind (arith, common_steps)
    by_test false e = grind (arith, common_steps)

closes_more : (xs : List Marked) (t : Marked) → closes (xs ++ t ∷ []) ≡ closes xs + count_of (is_close t.token)
closes_more xs t = by_test (is_close t.token) refl
  where
    by_test : (b : Bool) → is_close t.token ≡ b → closes (xs ++ t ∷ []) ≡ closes xs + count_of (is_close t.token)
    by_test true e = grind (arith, common_steps)
    by_test false e = grind (arith, common_steps)

-- the open parentheses behind one more token
depth_more : (xs : List Marked) (t : Marked) (depth behind : ℕ) → depth + closes xs ≡ opens xs → IsDepthBehind depth t.token behind
    → behind + closes (xs ++ t ∷ []) ≡ opens (xs ++ t ∷ [])
depth_more xs t depth behind before step = rw (closes_more xs t, opens_more xs t) (omega arith)

at_level : (xs : List Marked) (depth : ℕ) → depth + closes xs ≡ opens xs → IsLevel xs → depth ≡ 0
at_level xs depth before level = omega arith

level_at : (xs : List Marked) (depth : ℕ) → depth + closes xs ≡ opens xs → depth ≡ 0 → IsLevel xs
level_at xs depth before zero = omega arith

pub nil_split : {A : Type 0} (before : List A) (x : A) (after : List A) → [] ≡ before ++ x ∷ after → ⊥
nil_split [] x after e = cc
nil_split (b ∷ bs) x after e = cc

-- a token that belongs to the last argument
pub pushed : (most left : Option ℕ) (tokens rest : List Marked) (arguments : List (List Marked)) (last : List Marked) (t : Marked) (depth behind : ℕ)
    → Collected most tokens (t ∷ rest) arguments last depth left → (depth ≡ 0 → closes_call t ≡ false) → (MaySeparate left → depth ≡ 0 → separates t ≡ false)
    → IsDepthBehind depth t.token behind → Collected most tokens rest arguments (last ++ t ∷ []) behind left
pushed most left tokens rest arguments last t depth behind c not_end not_comma step =
    record {
      spent = c.spent ++ t ∷ [];
      split = c.split ∙ sym (append_assoc c.spent (t ∷ []) rest);
      depth_spent = depth_more c.spent t depth behind c.depth_spent step;
      depth_last = depth_more last t depth behind c.depth_last step;
      unclosed = none_more closes_call c.spent t c.unclosed (λ level. not_end (at_level c.spent depth c.depth_spent level));
      unseparated = λ may. none_more separates last t (c.unseparated may) (λ level. not_comma may (at_level last depth c.depth_last level));
      goes_on = λ more others are. subst (λ (l : List Marked). AreArguments most l (arguments ++ others)) (sym (append_assoc c.spent (t ∷ []) more)) (c.goes_on (t ∷ more) others (subst (λ (l : List Marked). AreArguments left l others) (append_assoc last (t ∷ []) more) are));
    }

closes_not_comma : (t : Marked) → separates t ≡ true → (count_of (is_close t.token) ≡ 0) × (count_of (is_open t.token) ≡ 0)
closes_not_comma t h =
    let is : t.token.text ≡ codes "," = same_text t.token.text (codes ",") h in
    (ap (λ text. count_of (bytes_eq text (codes ")"))) is, ap (λ text. count_of (bytes_eq text (codes "("))) is)

-- a comma that separates
pub cut : (most left : Option ℕ) (tokens rest : List Marked) (arguments : List (List Marked)) (last : List Marked) (t : Marked) (depth : ℕ)
    → Collected most tokens (t ∷ rest) arguments last depth left → depth ≡ 0 → separates t ≡ true → MaySeparate left
    → Collected most tokens rest (arguments ++ last ∷ []) [] depth (fewer left)
cut most left tokens rest arguments last t depth c zero comma may =
    let plain = closes_not_comma t comma in
    let is : t.token.text ≡ codes "," = same_text t.token.text (codes ",") comma in
    let no_close : closes_call t ≡ false = ap (λ text. bytes_eq text (codes ")")) is in
    record {
      spent = c.spent ++ t ∷ [];
      split = c.split ∙ sym (append_assoc c.spent (t ∷ []) rest);
      depth_spent = depth_more c.spent t depth depth c.depth_spent (omega (arith, plain.0, plain.1));
      depth_last = omega arith;
      unclosed = none_more closes_call c.spent t c.unclosed (λ level. no_close);
      unseparated = λ more. none_at_all separates;
      goes_on = λ more others are. subst (λ (l : List Marked). AreArguments most l ((arguments ++ last ∷ []) ++ others)) (sym (append_assoc c.spent (t ∷ []) more))
          (subst (λ (l : List (List Marked)). AreArguments most (c.spent ++ t ∷ more) l) (sym (append_assoc arguments (last ∷ []) others)) (c.goes_on (t ∷ more) (last ∷ others) (one_more more others are)));
    }
  where
    none_at_all : (test : Marked → Bool) → NoneAtLevel test []
    none_at_all test = λ before x after e level. absurd (nil_split before x after e)

    one_more : (more : List Marked) (others : List (List Marked)) → AreArguments (fewer left) more others → AreArguments left (last ++ t ∷ more) (last ∷ others)
    one_more more [] are = absurd are
    one_more more (next ∷ others) are = (may, (t, more, refl, comma, level_at last depth c.depth_last zero, c.unseparated may, are))

-- the parenthesis that closes the call
pub closed : (most left : Option ℕ) (tokens rest : List Marked) (arguments : List (List Marked)) (last : List Marked) (close : Marked) (depth : ℕ)
    → Collected most tokens (close ∷ rest) arguments last depth left → depth ≡ 0 → closes_call close ≡ true
    → (inside : List Marked) × IsCall tokens inside close rest × AreArguments most inside (arguments ++ last ∷ [])
closed most left tokens rest arguments last close depth c zero closing =
    let whole = c.goes_on [] (last ∷ []) (append-nil last, λ may. subst (λ (l : List Marked). NoneAtLevel separates l) (sym (append-nil last)) (c.unseparated may)) in (
      c.spent,
      record { split = c.split; closing = closing; level = level_at c.spent depth c.depth_spent zero; first = c.unclosed },
      subst (λ (l : List Marked). AreArguments most l (arguments ++ last ∷ [])) (append-nil c.spent) whole,
    )

-- nothing is collected yet
pub nothing_collected : (most : Option ℕ) (tokens : List Marked) → Collected most tokens tokens [] [] 0 most
nothing_collected most tokens =
    record {
      spent = [];
      split = refl;
      depth_spent = refl;
      depth_last = refl;
      unclosed = λ before x after e level. absurd (nil_split before x after e);
      unseparated = λ may before x after e level. absurd (nil_split before x after e);
      goes_on = λ more others are. are;
    }

-- the list ends before the call does
pub never_closed : (most left : Option ℕ) (tokens rest : List Marked) (arguments : List (List Marked)) (last : List Marked) (depth : ℕ)
    → Collected most tokens rest arguments last depth left → rest ≡ [] → NoneAtLevel closes_call tokens
never_closed most left tokens rest arguments last depth c end =
    subst (λ (l : List Marked). NoneAtLevel closes_call l) (sym (c.split ∙ ap (λ l. c.spent ++ l) end ∙ append-nil c.spent)) c.unclosed
