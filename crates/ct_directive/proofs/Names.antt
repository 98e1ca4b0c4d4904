-- A name between two bytes.
use Rattle.std.proofs.Common.{◌≡◌, ℕ, ◌&&◌, ◌||◌, ◌==◌, Bool, true, false, if◌then◌else◌, List, [], ◌∷◌, ◌++◌, length, refl, sym, ap, ◌∙◌, arith, Option, Some, None, eq-eqb, ne_eqb}
use Rattle.std.specs.Option.{option_map}
use Rattle.std.specs.List.{list_any}
use Rattle.std.specs.Str.{bytes_eq}
use Rattle.std.proofs.lemmas.Bool.{false≢true}
use Rattle.ct_directive.specs.Forms.{name_before, name_between}

abbrev step : Bool → Bool → ℕ → Option (List ℕ) → Option (List ℕ)
step own ended byte more = if own then None else if ended then Some (byte ∷ []) else option_map (λ name. byte ∷ name) more

neither : (a b : Bool) → (a || b) ≡ false → (a ≡ false) × (b ≡ false)
neither true b e = absurd (false≢true (sym e))
neither false b e = (refl, e)

no_and : (a b : Bool) → b ≡ false → (a && b) ≡ false
no_and true b e = e
no_and false b e = refl

yes_and : (a : Bool) → a ≡ true → (a && true) ≡ true
yes_and true e = refl
yes_and false e = e

longer : (xs : List ℕ) (x : ℕ) → bytes_eq (xs ++ x ∷ []) [] ≡ false
longer [] x = refl
longer (y ∷ xs) x = refl

not_ended : (last next : ℕ) (name : List ℕ) (end : ℕ) → bytes_eq (next ∷ name ++ end ∷ []) (last ∷ []) ≡ false
not_ended last next name end = no_and (next == last) (bytes_eq (name ++ end ∷ []) []) (longer name end)

good : (last byte : ℕ) (name : List ℕ) (end : ℕ) → (end == last) ≡ true → list_any (λ b. b == last) (byte ∷ name) ≡ false
    → name_before last (byte ∷ name ++ end ∷ []) ≡ Some (byte ∷ name)
good last byte [] end e free =
    ap (λ (b : Bool). step b (bytes_eq (end ∷ []) (last ∷ [])) byte None) (neither (byte == last) false free).0
    ∙ ap (λ (b : Bool). step false b byte None) (yes_and (end == last) e)
good last byte (next ∷ name) end e free =
    let parts = neither (byte == last) (list_any (λ b. b == last) (next ∷ name)) free in
    ap (λ (b : Bool). step b (bytes_eq (next ∷ name ++ end ∷ []) (last ∷ [])) byte (name_before last (next ∷ name ++ end ∷ []))) parts.0
    ∙ ap (λ (b : Bool). step false b byte (name_before last (next ∷ name ++ end ∷ []))) (not_ended last next name end)
    ∙ ap (λ (o : Option (List ℕ)). step false false byte o) (good last next name end e parts.1)

skipped : (own ended : Bool) (byte : ℕ) (more : Option (List ℕ)) → ended ≡ false → more ≡ None → step own ended byte more ≡ None
skipped true ended byte more e none = refl
skipped false ended byte more e none = ap (λ (b : Bool). step false b byte more) e ∙ ap (λ (o : Option (List ℕ)). step false false byte o) none

other : (last end : ℕ) (name : List ℕ) → (end == last) ≡ false → name_before last (name ++ end ∷ []) ≡ None
other last end [] e = refl
other last end (byte ∷ []) e = skipped (byte == last) (bytes_eq (end ∷ []) (last ∷ [])) byte None (ap (λ (b : Bool). b && true) e) refl
other last end (byte ∷ next ∷ name) e =
    skipped (byte == last) (bytes_eq (next ∷ name ++ end ∷ []) (last ∷ [])) byte (name_before last (next ∷ name ++ end ∷ [])) (not_ended last next name end) (other last end (next ∷ name) e)

twice_at : (own : Bool) (last byte end : ℕ) (name : List ℕ) → (own || list_any (λ b. b == last) name) ≡ true
    → (list_any (λ b. b == last) name ≡ true → name_before last (name ++ end ∷ []) ≡ None)
    → step own (bytes_eq (name ++ end ∷ []) (last ∷ [])) byte (name_before last (name ++ end ∷ [])) ≡ None
twice_at true last byte end name e more = refl
twice_at false last byte end [] e more = absurd (false≢true e)
twice_at false last byte end (next ∷ name) e more =
    skipped false (bytes_eq (next ∷ name ++ end ∷ []) (last ∷ [])) byte (name_before last (next ∷ name ++ end ∷ [])) (not_ended last next name end) (more e)

twice : (last end : ℕ) (name : List ℕ) → list_any (λ b. b == last) name ≡ true → name_before last (name ++ end ∷ []) ≡ None
twice last end [] e = refl
twice last end (byte ∷ []) e = twice_at (byte == last) last byte end [] e (λ f. absurd (false≢true f))
twice last end (byte ∷ next ∷ name) e = twice_at (byte == last) last byte end (next ∷ name) e (λ f. twice last end (next ∷ name) f)

-- ---- the same, by how a text is taken apart

begins : (first last begin : ℕ) (text rest : List ℕ) → text ≡ begin ∷ rest → (begin == first) ≡ true → name_between first last text ≡ name_before last rest
begins first last begin text rest t b = ap (name_between first last) t ∙ ap (λ (c : Bool). if c then name_before last rest else None) b

pub name_is : (first last begin end : ℕ) (text rest name : List ℕ) → text ≡ begin ∷ rest → rest ≡ name ++ end ∷ [] → (begin == first) ≡ true → (end == last) ≡ true
    → (name ≡ [] → ⊥) → list_any (λ b. b == last) name ≡ false → Some name ≡ name_between first last text
name_is first last begin end text rest [] t r b e some free = absurd (some refl)
name_is first last begin end text rest (byte ∷ name) t r b e some free =
    sym (begins first last begin text rest t b ∙ ap (name_before last) r ∙ good last byte name end e free)

pub no_text : (first last : ℕ) (text : List ℕ) → length text ≡ 0 → None ≡ name_between first last text
no_text first last [] e = refl
no_text first last (byte ∷ bytes) e = absurd (omega arith)

no_rest_at : (b : Bool) → None ≡ (if b then (let x : Option (List ℕ) = None in x) else None)
no_rest_at true = refl
no_rest_at false = refl

pub no_rest : (first last begin : ℕ) (text rest : List ℕ) → text ≡ begin ∷ rest → length rest ≡ 0 → None ≡ name_between first last text
no_rest first last begin text [] t e = no_rest_at (begin == first) ∙ sym (ap (name_between first last) t)
no_rest first last begin text (byte ∷ rest) t e = absurd (omega arith)

pub other_begin : (first last begin : ℕ) (text rest : List ℕ) → text ≡ begin ∷ rest → (begin == first) ≡ false → None ≡ name_between first last text
other_begin first last begin text rest t b = sym (ap (name_between first last) t ∙ ap (λ (c : Bool). if c then name_before last rest else None) b)

pub other_end : (first last begin end : ℕ) (text rest name : List ℕ) → text ≡ begin ∷ rest → rest ≡ name ++ end ∷ [] → (begin == first) ≡ true → (end == last) ≡ false
    → None ≡ name_between first last text
other_end first last begin end text rest name t r b e = sym (begins first last begin text rest t b ∙ ap (name_before last) r ∙ other last end name e)

pub no_name : (first last begin end : ℕ) (text rest name : List ℕ) → text ≡ begin ∷ rest → rest ≡ name ++ end ∷ [] → (begin == first) ≡ true → name ≡ []
    → None ≡ name_between first last text
no_name first last begin end text rest name t r b e =
    sym (begins first last begin text rest t b ∙ ap (name_before last) (r ∙ ap (λ (n : List ℕ). n ++ end ∷ []) e))

pub name_twice : (first last begin end : ℕ) (text rest name : List ℕ) → text ≡ begin ∷ rest → rest ≡ name ++ end ∷ [] → (begin == first) ≡ true
    → list_any (λ b. b == last) name ≡ true → None ≡ name_between first last text
name_twice first last begin end text rest name t r b e = sym (begins first last begin text rest t b ∙ ap (name_before last) r ∙ twice last end name e)

-- ---- and by what the tests of the bytes say

has_bytes : (name : List ℕ) → false ≡ (length name == 0) → name ≡ [] → ⊥
has_bytes name e none = false≢true (e ∙ ap (λ (n : List ℕ). length n == 0) none)

pub other_end_at : (first last begin end : ℕ) (text rest name : List ℕ) → text ≡ begin ∷ rest → rest ≡ name ++ end ∷ [] → begin ≡ first → (end ≡ last → ⊥)
    → None ≡ name_between first last text
other_end_at first last begin end text rest name t r b e = other_end first last begin end text rest name t r (eq-eqb begin first b) (ne_eqb end last e)

pub name_twice_at : (first last begin end : ℕ) (text rest name : List ℕ) → text ≡ begin ∷ rest → rest ≡ name ++ end ∷ [] → begin ≡ first
    → true ≡ list_any (λ b. b == last) name → None ≡ name_between first last text
name_twice_at first last begin end text rest name t r b e = name_twice first last begin end text rest name t r (eq-eqb begin first b) (sym e)

pub name_is_at : (first last begin end : ℕ) (text rest name : List ℕ) → text ≡ begin ∷ rest → rest ≡ name ++ end ∷ [] → begin ≡ first → end ≡ last
    → false ≡ (length name == 0) → false ≡ list_any (λ b. b == last) name → Some name ≡ name_between first last text
name_is_at first last begin end text rest name t r b e some free =
    name_is first last begin end text rest name t r (eq-eqb begin first b) (eq-eqb end last e) (has_bytes name some) (sym free)

pub ruleset name_rules = (no_text, no_rest, other_begin, no_name)
