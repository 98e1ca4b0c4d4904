-- What a text between quotes spells, byte after byte.
use Rattle.std.proofs.Common.{◌≡◌, ℕ, List, [], ◌∷◌, ◌++◌, drop, refl, sym, ap, ◌∙◌, subst, Option, None, Some}
use Rattle.std.specs.Prelude.{MatchOption}
use Rattle.std.proofs.lemmas.List.{append-nil, append_assoc}
use Rattle.ct_token.specs.declared.constants.Element.{Element}
use Rattle.ct_token.specs.Constants.{element, element_of, SpellsBytes, Decodes}

-- What is spelled so far: what the rest spells comes behind it, and all that the whole spells begins with it.
pub record SpelledSoFar (quote : ℕ) (inside rest found : List ℕ) : Type 0 where
  pub joins : (bytes : List ℕ) → SpellsBytes quote rest bytes → SpellsBytes quote inside (found ++ bytes)
  pub cuts : (bytes : List ℕ) → SpellsBytes quote inside bytes → (more : List ℕ) × (bytes ≡ found ++ more) × SpellsBytes quote rest more

pub nothing_spelled : (quote : ℕ) (inside rest : List ℕ) → inside ≡ rest → SpelledSoFar quote inside rest []
nothing_spelled quote inside rest e =
    record {
      joins = λ bytes h. subst (λ l. SpellsBytes quote l bytes) (sym e) h;
      cuts = λ bytes h. (bytes, refl, subst (λ l. SpellsBytes quote l bytes) e h);
    }

-- an element of a rest that spells bytes
pub first_of_rest : (quote : ℕ) (rest : List ℕ) (byte count : ℕ) (bytes : List ℕ) → element_of quote rest ≡ Some (element byte count) → SpellsBytes quote rest bytes → (more : List ℕ) × (bytes ≡ byte ∷ more) × SpellsBytes quote (drop count rest) more
first_of_rest quote rest byte count [] is h =
    let wrong : None ≡ Some (element byte count) = sym (ap (element_of quote) h) ∙ is in absurd cc
first_of_rest quote rest byte count (b ∷ bytes) is h =
    let same : Some (element b h.0) ≡ Some (element byte count) = sym h.1 ∙ is in
    let inner : element b h.0 ≡ element byte count = cc in
    let bytes_same : b ≡ byte = ap (λ (e : Element). e.byte) inner in
    let counts : h.0 ≡ count = ap (λ (e : Element). e.count) inner in
    (bytes, ap (λ x. x ∷ bytes) bytes_same, subst (λ n. SpellsBytes quote (drop n rest) bytes) counts h.2)

pub one_more : (quote : ℕ) (inside rest found after found' : List ℕ) (byte count : ℕ) → SpelledSoFar quote inside rest found → element_of quote rest ≡ Some (element byte count) → after ≡ drop count rest → found' ≡ found ++ byte ∷ [] → SpelledSoFar quote inside after found'
one_more quote inside rest found after found' byte count so_far is cut pushed =
    record {
      joins = λ bytes h.
          subst (SpellsBytes quote inside) (sym (ap (λ l. l ++ bytes) pushed ∙ append_assoc found (byte ∷ []) bytes))
          (so_far.joins (byte ∷ bytes) (count, is, subst (λ l. SpellsBytes quote l bytes) cut h));
      cuts = λ bytes h.
          let before = so_far.cuts bytes h in
          let first = first_of_rest quote rest byte count before.0 is before.2 in (
            first.0,
            before.1 ∙ ap (λ l. found ++ l) first.1 ∙ sym (append_assoc found (byte ∷ []) first.0) ∙ ap (λ l. l ++ first.0) (sym pushed),
            subst (λ l. SpellsBytes quote l first.0) (sym cut) first.2,
          );
    }

pub all_spelled : (quote : ℕ) (inside rest found : List ℕ) → SpelledSoFar quote inside rest found → rest ≡ [] → SpellsBytes quote inside found
all_spelled quote inside rest found so_far none =
    subst (SpellsBytes quote inside) (append-nil found) (so_far.joins [] none)

-- no element stands at the front of a rest that is not empty
pub not_spelled : (quote : ℕ) (inside rest found : List ℕ) → SpelledSoFar quote inside rest found → (rest ≡ [] → ⊥) → element_of quote rest ≡ None → (bytes : List ℕ) → SpellsBytes quote inside bytes → ⊥
not_spelled quote inside rest found so_far some none bytes h =
    let cut = so_far.cuts bytes h in never cut.0 cut.2
  where
    never : (more : List ℕ) → SpellsBytes quote rest more → ⊥
    never [] h = some h
    never (b ∷ more) h =
        let wrong : None ≡ Some (element b h.0) = sym none ∙ h.1 in absurd cc

-- two lists that a text spells are one
pub same_bytes : (quote : ℕ) (inside a b : List ℕ) → SpellsBytes quote inside a → SpellsBytes quote inside b → a ≡ b
same_bytes quote inside [] [] one other = refl
same_bytes quote inside [] (y ∷ b) one other =
    let wrong : None ≡ Some (element y other.0) = sym (ap (element_of quote) one) ∙ other.1 in absurd cc
same_bytes quote inside (x ∷ a) [] one other =
    let wrong : None ≡ Some (element x one.0) = sym (ap (element_of quote) other) ∙ one.1 in absurd cc
same_bytes quote inside (x ∷ a) (y ∷ b) one other =
    let same : Some (element x one.0) ≡ Some (element y other.0) = sym one.1 ∙ other.1 in
    let inner : element x one.0 ≡ element y other.0 = cc in
    let head : x ≡ y = ap (λ (e : Element). e.byte) inner in
    let counts : one.0 ≡ other.0 = ap (λ (e : Element). e.count) inner in
    let tail = same_bytes quote (drop other.0 inside) a b (subst (λ n. SpellsBytes quote (drop n inside) a) counts one.2) other.2 in
    λ i. head i ∷ tail i

-- what stands between the quotes is one
inside_is : (q r : ℕ) (inside inner : List ℕ) → q ∷ inside ++ q ∷ [] ≡ r ∷ inner ++ r ∷ [] → (q ≡ r) × (inside ≡ inner)
inside_is q r inside inner e =
    let head : q ≡ r = cc in
    let tail : inside ++ q ∷ [] ≡ inner ++ r ∷ [] = cc in
    (head, front inside inner tail)
  where
    front : (xs ys : List ℕ) → xs ++ q ∷ [] ≡ ys ++ r ∷ [] → xs ≡ ys
    front [] [] e = refl
    front [] (y ∷ []) e = absurd cc
    front [] (y ∷ z ∷ ys) e = absurd cc
    front (x ∷ []) [] e = absurd cc
    front (x ∷ z ∷ xs) [] e = absurd cc
    front (x ∷ xs) (y ∷ ys) e =
        let head : x ≡ y = cc in
        let tail : xs ++ q ∷ [] ≡ ys ++ r ∷ [] = cc in
        λ i. head i ∷ front xs ys tail i

pub same_decoding : (text a b : List ℕ) → Decodes text a → Decodes text b → a ≡ b
same_decoding text a b one other =
    let same = inside_is one.quote other.quote one.inside other.inside (sym one.quotes ∙ other.quotes) in
    same_bytes other.quote other.inside a b (subst (λ l. SpellsBytes other.quote l a) same.1 (subst (λ q. SpellsBytes q one.inside a) same.0 one.spells)) other.spells

-- the text has these quotes, and so no others
pub decodes_from : (text : List ℕ) (quote : ℕ) (inside bytes : List ℕ) → text ≡ quote ∷ inside ++ quote ∷ [] → Decodes text bytes → SpellsBytes quote inside bytes
decodes_from text quote inside bytes e h =
    let same = inside_is h.quote quote h.inside inside (sym h.quotes ∙ e) in
    subst (λ l. SpellsBytes quote l bytes) same.1 (subst (λ q. SpellsBytes q h.inside bytes) same.0 h.spells)

-- and a character constant spells a byte at least
pub some_from : (text : List ℕ) (quote : ℕ) (inside bytes : List ℕ) → text ≡ quote ∷ inside ++ quote ∷ [] → Decodes text bytes → quote ≡ 39 → bytes ≡ [] → ⊥
some_from text quote inside bytes e h is =
    let same = inside_is h.quote quote h.inside inside (sym h.quotes ∙ e) in
    h.some (same.0 ∙ is)

-- what is said of an option that has a value
pub value_of : {T : Type 0} (o : Option T) (v : T) (P : Type 0) (Q : T → Type 0) → o ≡ Some v → MatchOption o P Q → Q v
value_of o v P Q e h = subst (λ o. MatchOption o P Q) e h

-- what stands between the quotes of a character constant spells nothing
pub empty_constant : (text : List ℕ) (quote : ℕ) (inside found : List ℕ) → text ≡ quote ∷ inside ++ quote ∷ [] → SpellsBytes quote inside found → quote ≡ 39 → found ≡ [] → (bytes : List ℕ) → Decodes text bytes → ⊥
empty_constant text quote inside found e spelled is none bytes h =
    some_from text quote inside bytes e h is (same_bytes quote inside bytes found (decodes_from text quote inside bytes e h) spelled ∙ none)
