-- A call puts a list, or none.
use Rattle.std.proofs.Common.{◌≡◌, ℕ, Bool, true, false, List, [], ◌∷◌, ◌++◌, refl, sym, ap, ◌∙◌, subst, ◌⊎◌, inl, inr, MatchBool}
use Rattle.std.specs.Prelude.{map, filter}
use Rattle.ct_base.specs.declared.lexical.TokenKind.{TokenKind}
use Rattle.ct_macro_call.specs.declared.marked.Marked.{Marked}
use Rattle.ct_macro_call.specs.declared.call.Operand.{Operand}
use Rattle.ct_macro_call.specs.declared.call.Call.{Call}
use Rattle.ct_macro_call.specs.Spelled.{IsOneToken, PastesTexts, Pastes, Joins, respaced}
use Rattle.ct_macro_call.specs.Substitution.{Puts, IsReplacement, placed, dressed, has_bytes, tokens_at}
use Rattle.ct_macro_call.proofs.Pasting.{OneTokenization, pasted_of, not_joined}
use Rattle.ct_macro_call.proofs.Collecting.{nil_split}
use Rattle.ct_macro_call.proofs.Substituting.{one_joint}

-- something passes, or nothing
abbrev pub SomeOrNone : (A : Type 0) → (A → Type 0) → Type 0
SomeOrNone A P = ((a : A) × P a) ⊎ ((a : A) → P a → ⊥)

-- each text is one token of some kind, or of none
abbrev pub EachIsOne : Type 0
EachIsOne = (text : List ℕ) → SomeOrNone TokenKind (IsOneToken text)

module _ (tells : EachIsOne) (law : OneTokenization) where
  pastes_texts : (lt rt : List ℕ) (left right : Marked) → SomeOrNone Marked (λ pasted. PastesTexts lt rt left right pasted)
  pastes_texts [] rt left right = inl (respaced left.token.spaced right, refl)
  pastes_texts (b ∷ bs) [] left right = inl (left, refl)
  pastes_texts (b ∷ bs) (c ∷ cs) left right =
      elim (tells (b ∷ bs ++ c ∷ cs)) [
        | inl one ↦ inl (pasted_of (b ∷ bs ++ c ∷ cs) one.0 left right, (one.1, refl))
        | inr none ↦ inr (λ pasted is. none pasted.token.kind is.0)
      ]

  pastes : (left right : Marked) → SomeOrNone Marked (λ pasted. Pastes left right pasted)
  pastes left right = pastes_texts left.token.text right.token.text left right

  last_of : (tokens : List Marked) → (tokens ≡ []) ⊎ ((front : List Marked) × (last : Marked) × (tokens ≡ front ++ last ∷ []))
  last_of [] = inl refl
  last_of (t ∷ tokens) =
      elim (last_of tokens) [
        | inl none ↦ inr ([], t, ap (λ l. t ∷ l) none)
        | inr some ↦ inr (t ∷ some.0, some.1, ap (λ l. t ∷ l) some.2)
      ]

  joins : (left right : List Marked) → SomeOrNone (List Marked) (λ joint. Joins left right joint)
  joins left right = by_ends (last_of left) right refl
    where
      by_ends : ((left ≡ []) ⊎ ((front : List Marked) × (last : Marked) × (left ≡ front ++ last ∷ []))) → (these : List Marked) → right ≡ these
          → SomeOrNone (List Marked) (λ joint. Joins left right joint)
      by_ends (inl none) these is = inr (λ joint joined. nil_split joined.front joined.last [] (sym none ∙ joined.left_is))
      by_ends (inr some) [] is = inr (λ joint joined. absurd (let bad : [] ≡ joined.first ∷ joined.back = sym is ∙ joined.right_is in cc))
      by_ends (inr some) (first ∷ back) is =
          elim (pastes some.1 first) [
            | inl one ↦ inl (some.0 ++ one.0 ∷ back, record { front = some.0; last = some.1; first = first; back = back; pasted = one.0; left_is = some.2; right_is = is; pastes = one.1; joint_is = refl })
            | inr none ↦ inr (not_joined left right some.0 some.1 first back some.2 is none)
          ]

  body_puts : (tokens : Operand → List Marked) (body : List Operand) (left : List Marked) → SomeOrNone (List Marked) (λ put. Puts tokens left body put)
  body_puts tokens [] left = inl (left, refl)
  body_puts tokens (operand ∷ body) left = by_paste operand.behind_paste (λ left. body_puts tokens body left)
    where
      by_paste : (behind : Bool) → ((left : List Marked) → SomeOrNone (List Marked) (λ put. Puts tokens left body put))
          → SomeOrNone (List Marked) (λ put. MatchBool behind ((joint : List Marked) × Joins left (tokens operand) joint × Puts tokens joint body put) ((rest : List Marked) × Puts tokens (tokens operand) body rest × (put ≡ left ++ rest)))
      by_paste true more =
          elim (joins left (tokens operand)) [
            | inr none ↦ inr (λ put is. none is.0 is.1)
            | inl one ↦ elim (more one.0) [
              | inl rest ↦ inl (rest.0, (one.0, one.1, rest.1))
              | inr none ↦ inr (λ put is. none put (subst (λ (j : List Marked). Puts tokens j body put) (one_joint law left (tokens operand) is.0 one.0 is.1 one.1) is.2))
            ]
          ]
      by_paste false more =
          elim (more (tokens operand)) [
            | inl rest ↦ inl (left ++ rest.0, (rest.0, rest.1, refl))
            | inr none ↦ inr (λ put is. none is.0 is.1)
          ]

  pub call_puts : (call : Call) (fulls : List (List Marked)) → SomeOrNone (List Marked) (λ put. IsReplacement call fulls put)
  call_puts call fulls =
      elim (body_puts (tokens_at call.names call.raws fulls) call.body []) [
        | inl one ↦ inl (placed call.name.token (map (dressed call) (filter has_bytes one.0)), record { tokens = one.0; puts = one.1; put_is = refl })
        | inr none ↦ inr (λ put is. none is.tokens is.puts)
      ]
