-- What `##` makes of two tokens.
use Rattle.std.proofs.Common.{◌≡◌, ℕ, List, [], ◌∷◌, ◌++◌, length, refl, sym, ap, ◌∙◌, subst, arith, length-append, inl, inr}
use Rattle.std.specs.Prelude.{Option, Some, None, MatchOption, slice_get}
use Rattle.std.specs.List.{remove}
use Rattle.ct_base.specs.declared.lexical.Token.{Token}
use Rattle.ct_base.specs.declared.lexical.TokenKind.{TokenKind}
use Rattle.ct_token.specs.Lexing.{IsTokenization}
use Rattle.ct_macro_call.specs.declared.marked.Marked.{Marked}
use Rattle.ct_macro_call.specs.Sets.{common}
use Rattle.ct_macro_call.proofs.Collecting.{split_last}
use Rattle.ct_macro_call.specs.Spelled.{IsOneToken, PastesTexts, Pastes, Joins, respaced}

-- a text has one list of tokens at most
abbrev pub OneTokenization : Type 0
OneTokenization = (file : ℕ) (text : List ℕ) (a b : List Token) → IsTokenization file text a → IsTokenization file text b → a ≡ b

abbrev pub pasted_of : List ℕ → TokenKind → Marked → Marked → Marked
pasted_of text kind left right =
    record { token = record { kind = kind; text = text; span = left.token.span; spaced = left.token.spaced }; hidden = common left.hidden right.hidden }

-- two tokens that are no placemarkers
pub pastes_both : (lt rt : List ℕ) (left right pasted : Marked) → (lt ≡ [] → ⊥) → (rt ≡ [] → ⊥) → IsOneToken (lt ++ rt) pasted.token.kind
    → pasted ≡ pasted_of (lt ++ rt) pasted.token.kind left right → PastesTexts lt rt left right pasted
pastes_both [] rt left right pasted l r one is = absurd (l refl)
pastes_both (b ∷ bs) [] left right pasted l r one is = absurd (r refl)
pastes_both (b ∷ bs) (c ∷ cs) left right pasted l r one is = (one, is)

pub one_of_both : (lt rt : List ℕ) (left right pasted : Marked) → (lt ≡ [] → ⊥) → (rt ≡ [] → ⊥) → PastesTexts lt rt left right pasted
    → IsOneToken (lt ++ rt) pasted.token.kind × (pasted ≡ pasted_of (lt ++ rt) pasted.token.kind left right)
one_of_both [] rt left right pasted l r pastes = absurd (l refl)
one_of_both (b ∷ bs) [] left right pasted l r pastes = absurd (r refl)
one_of_both (b ∷ bs) (c ∷ cs) left right pasted l r pastes = pastes

pub left_placemarker : (lt rt : List ℕ) (left right : Marked) → lt ≡ [] → PastesTexts lt rt left right (respaced left.token.spaced right)
left_placemarker [] rt left right e = refl
left_placemarker (b ∷ bs) rt left right e = cc

pub right_placemarker : (lt rt : List ℕ) (left right : Marked) → (lt ≡ [] → ⊥) → rt ≡ [] → PastesTexts lt rt left right left
right_placemarker [] rt left right l e = absurd (l refl)
right_placemarker (b ∷ bs) [] left right l e = refl
right_placemarker (b ∷ bs) (c ∷ cs) left right l e = cc

-- a text is a token of one kind at most
pub one_kind : OneTokenization → (text : List ℕ) (a b : TokenKind) → IsOneToken text a → IsOneToken text b → a ≡ b
one_kind law text a b one other =
    let same : one.0 ∷ [] ≡ other.0 ∷ [] = law 0 text (one.0 ∷ []) (other.0 ∷ []) one.1 other.1 in
    let token : one.0 ≡ other.0 = cc in
    sym one.3 ∙ ap (λ (t : Token). t.kind) token ∙ other.3

-- a text with other tokens is not one token
pub not_one : OneTokenization → (text : List ℕ) (tokens : List Token) → IsTokenization 0 text tokens
    → ((token : Token) → tokens ≡ token ∷ [] → token.text ≡ text → ⊥) → (kind : TokenKind) → IsOneToken text kind → ⊥
not_one law text tokens all none kind one = none one.0 (law 0 text tokens (one.0 ∷ []) all one.1) one.2

same_pasted : OneTokenization → (lt rt : List ℕ) (left right a b : Marked) → PastesTexts lt rt left right a → PastesTexts lt rt left right b → a ≡ b
same_pasted law [] rt left right a b one other = one ∙ sym other
same_pasted law (c ∷ cs) [] left right a b one other = one ∙ sym other
same_pasted law (c ∷ cs) (d ∷ ds) left right a b one other =
    let kind = one_kind law ((c ∷ cs) ++ (d ∷ ds)) a.token.kind b.token.kind one.0 other.0 in
    one.1 ∙ ap (λ k. pasted_of ((c ∷ cs) ++ (d ∷ ds)) k left right) kind ∙ sym other.1

pub one_pasted : OneTokenization → (left right a b : Marked) → Pastes left right a → Pastes left right b → a ≡ b
one_pasted law left right a b one other = same_pasted law left.token.text right.token.text left right a b one other

-- the only token of a list tells whether a text is one token
pub kind_found : OneTokenization → (text : List ℕ) (tokens : List Token) (found : Option TokenKind) → IsTokenization 0 text tokens
    → MatchOption found ((token : Token) → tokens ≡ token ∷ [] → token.text ≡ text → ⊥)
    (λ kind. (token : Token) × (tokens ≡ token ∷ []) × (token.text ≡ text) × (token.kind ≡ kind))
    → MatchOption found ((kind : TokenKind) → IsOneToken text kind → ⊥) (λ kind. IsOneToken text kind)
kind_found law text tokens None all h = not_one law text tokens all h
kind_found law text tokens (Some kind) all h = (h.0, subst (λ (l : List Token). IsTokenization 0 text l) h.1 all, h.2, h.3)

-- a token that two would make, were there one
pub unpasted : (left right : Marked) (text : List ℕ) → (left.token.text ≡ [] → ⊥) → (right.token.text ≡ [] → ⊥) → text ≡ left.token.text ++ right.token.text
    → ((kind : TokenKind) → IsOneToken text kind → ⊥) → (pasted : Marked) → Pastes left right pasted → ⊥
unpasted left right text l r is none pasted pastes =
    none pasted.token.kind (subst (λ (t : List ℕ). IsOneToken t pasted.token.kind) (sym is) (one_of_both left.token.text right.token.text left right pasted l r pastes).0)

-- ---- the last token of one list and the first of another

-- the first item is taken away
pub first_removed : (xs : List Marked) (first : Marked) (back : List Marked) → slice_get xs 0 ≡ Some first → back ≡ remove xs 0 → xs ≡ first ∷ back
first_removed [] first back item rest = cc
first_removed (x ∷ xs) first back item rest = cc

pub same_last : {A : Type 0} (xs : List A) (x : A) (ys : List A) (y : A) → xs ++ x ∷ [] ≡ ys ++ y ∷ [] → (xs ≡ ys) × (x ≡ y)
same_last xs x ys y e =
    elim (split_last xs x ys y [] e) [
      | inl p ↦ absurd (omega (arith, ap length p.1, ap length e, length-append xs (x ∷ []), length-append ys (y ∷ []), length-append ys (y ∷ p.0)))
      | inr p ↦ p
    ]

pub not_joined : (left right front : List Marked) (last first : Marked) (back : List Marked) → left ≡ front ++ last ∷ [] → right ≡ first ∷ back
    → ((pasted : Marked) → Pastes last first pasted → ⊥) → (joint : List Marked) → Joins left right joint → ⊥
not_joined left right front last first back left_is right_is none joint joins =
    let ends = same_last front last joins.front joins.last (sym left_is ∙ joins.left_is) in
    let starts : first ∷ back ≡ joins.first ∷ joins.back = sym right_is ∙ joins.right_is in
    let head : first ≡ joins.first = cc in
    none joins.pasted (subst (λ (l : Marked). Pastes l first joins.pasted) (sym ends.1) (subst (λ (f : Marked). Pastes joins.last f joins.pasted) (sym head) joins.pastes))
