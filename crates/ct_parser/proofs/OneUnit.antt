-- The items at the beginning of words are determined by the words, and so is the place where no item is.
use Rattle.std.proofs.Common.{◌≡◌, ◌⊎◌, inl, inr, List, [], ◌∷◌, ◌++◌, length, Option, Some, None, refl, sym, ap, subst, ◌∙◌, arith, length-append}
use Rattle.ct_syntax.specs.Words.{Word}
use Rattle.ct_syntax.specs.Scopes.{Scope, after_item, after_unit}
use Rattle.ct_syntax.specs.Grammar.{IsItem, IsTranslationUnit}
use Rattle.ct_syntax.specs.Spelling.{spell_item, spell_unit}
use Rattle.ct_syntax.specs.Units.{NoItem}
use Rattle.ct_syntax.specs.Trees as t
use Rattle.ct_grammar_machine.specs.Algebra.{Tree}
use Rattle.ct_grammar_machine.specs.Frames.{InUnit, Begin, State}
use Rattle.ct_grammar_laws.proofs.Basics.{R}
use Rattle.ct_grammar_laws.proofs.CompleteStatements.{reads_item}
use Rattle.ct_grammar_laws.proofs.Append.{item-append}
use Rattle.ct_grammar_laws.proofs.Map.{map_step}
use Rattle.ct_grammar_laws.proofs.Growing.{grow, grown}
use Rattle.ct_parser.proofs.ItemRead.{item_some}

abbrev first_item : Option (State Tree) → Option t.Item
first_item (Some (sc, InUnit (x ∷ is) ∷ [], Begin)) = Some x
first_item _ = None

some_same : {T : Type 0} → (x y : T) → Some x ≡ Some y → x ≡ y
some_same x y e = cc

first_grown : (x y : t.Item) (r : Option (State Tree)) → first_item (map_step (grow x) r) ≡ Some y → x ≡ y
first_grown x y (Some (sc, InUnit is ∷ [], Begin)) e = some_same x y e
first_grown x y _ e = absurd cc

no_length : (ws : List Word) → length ws ≡ 0 → ws ≡ []
no_length [] e = refl
no_length (w ∷ ws) e = absurd (omega (arith, e))

-- an item that begins with the words of another is that one
same_words : (x y : t.Item) (sc : Scope) (vs : List Word) → IsItem sc x → IsItem sc y → spell_item y [] ≡ spell_item x [] ++ vs → (x ≡ y) × (vs ≡ [])
same_words x y sc vs wfx wfy e =
    let joined = item-append x [] vs ∙ sym e in
    let reading = sym (grown x vs (after_item sc x)) ∙ sym (reads_item x sc [] [] vs wfx) ∙ ap (λ us. R us sc (InUnit [] ∷ []) Begin) joined ∙ reads_item y sc [] [] [] wfy in
    let same = first_grown x y (R vs (after_item sc x) (InUnit [] ∷ []) Begin) (ap first_item reading) in
    let lengths = ap length e ∙ length-append (spell_item x []) vs in
    let one = ap (λ z. length (spell_item z [])) same in
    (same, no_length vs (omega (arith, lengths, one)))

abbrev Aligned : List Word → List Word → List Word → List Word → Type 0
Aligned us vs a b = ((ws : List Word) × (vs ≡ us ++ ws) × (a ≡ ws ++ b)) ⊎ ((ws : List Word) × (us ≡ vs ++ ws) × (b ≡ ws ++ a))

tails : (x y : Word) (us vs : List Word) → ◌≡◌ {A = List Word} (x ∷ us) (y ∷ vs) → us ≡ vs
tails x y us vs e = cc

heads : (x y : Word) (us vs : List Word) → ◌≡◌ {A = List Word} (x ∷ us) (y ∷ vs) → x ≡ y
heads x y us vs e = cc

align : (us vs a b : List Word) → us ++ a ≡ vs ++ b → Aligned us vs a b
align [] vs a b e = inl (vs, refl, e)
align (u ∷ us) [] a b e = inr (u ∷ us, refl, sym e)
align (u ∷ us) (v ∷ vs) a b e = by (align us vs a b (tails u v (us ++ a) (vs ++ b) e)) (heads u v (us ++ a) (vs ++ b) e)
  where
    by : Aligned us vs a b → u ≡ v → Aligned (u ∷ us) (v ∷ vs) a b
    by (inl h) k = inl (h.0, ap (λ ws. v ∷ ws) h.1 ∙ ap (λ w. w ∷ (us ++ h.0)) (sym k), h.2)
    by (inr h) k = inr (h.0, ap (λ ws. u ∷ ws) h.1 ∙ ap (λ w. w ∷ (vs ++ h.0)) k, h.2)

-- two items at the beginning of the same words are one
pub same_item : (x y : t.Item) (sc : Scope) (a b : List Word) → IsItem sc x → IsItem sc y → spell_item x a ≡ spell_item y b → (x ≡ y) × (a ≡ b)
same_item x y sc a b wfx wfy e = by (align (spell_item x []) (spell_item y []) a b (sym (item-append x [] a) ∙ e ∙ item-append y [] b))
  where
    by : Aligned (spell_item x []) (spell_item y []) a b → (x ≡ y) × (a ≡ b)
    by (inl h) = let same = same_words x y sc h.0 wfx wfy h.1 in (same.0, h.2 ∙ ap (λ z. z ++ b) same.1)
    by (inr h) = let same = same_words y x sc h.0 wfy wfx h.1 in (sym same.0, sym (h.2 ∙ ap (λ z. z ++ a) same.1))

-- no word stands before an item
nothing_spelled : (x : t.Item) (sc : Scope) (a : List Word) → IsItem sc x → spell_item x a ≡ [] → ⊥
nothing_spelled x sc a wf e =
    let lengths = sym (length-append (spell_item x []) a) ∙ ap length (sym (item-append x [] a) ∙ e) in
    item_some x sc wf (no_length (spell_item x []) (omega (arith, lengths)))

-- Where items stand before a place at which no item begins, and which is not the end, the whole is no unit.
pub no_unit : (is : List t.Item) (sc : Scope) (v : Word) (rest : List Word) → IsTranslationUnit sc is → NoItem (after_unit sc is) (v ∷ rest) → (js : List t.Item) → IsTranslationUnit sc js → spell_unit js [] ≡ spell_unit is (v ∷ rest) → ⊥
no_unit [] sc v rest wf none [] wfj e = absurd cc
no_unit [] sc v rest wf none (j ∷ js) wfj e = none j (spell_unit js []) wfj.0 e
no_unit (x ∷ is) sc v rest wf none [] wfj e = nothing_spelled x sc (spell_unit is (v ∷ rest)) wf.0 (sym e)
no_unit (x ∷ is) sc v rest wf none (j ∷ js) wfj e =
    let same = same_item j x sc (spell_unit js []) (spell_unit is (v ∷ rest)) wfj.0 wf.0 e in
    no_unit is (after_item sc x) v rest wf.1 none js (subst (λ z. IsTranslationUnit (after_item sc z) js) same.0 wfj.1) same.1

-- There is one such place.
pub one_place : (is js : List t.Item) (sc : Scope) (v w : Word) (a b : List Word) → IsTranslationUnit sc is → NoItem (after_unit sc is) (v ∷ a) → IsTranslationUnit sc js → NoItem (after_unit sc js) (w ∷ b) → spell_unit is (v ∷ a) ≡ spell_unit js (w ∷ b) → is ≡ js
one_place [] [] sc v w a b wf none wfj nonej e = refl
one_place [] (j ∷ js) sc v w a b wf none wfj nonej e = absurd (none j (spell_unit js (w ∷ b)) wfj.0 (sym e))
one_place (x ∷ is) [] sc v w a b wf none wfj nonej e = absurd (nonej x (spell_unit is (v ∷ a)) wf.0 e)
one_place (x ∷ is) (j ∷ js) sc v w a b wf none wfj nonej e =
    let same = same_item x j sc (spell_unit is (v ∷ a)) (spell_unit js (w ∷ b)) wf.0 wfj.0 e in
    ap (λ z. z ∷ is) same.0 ∙ ap (λ z. j ∷ z) (one_place is js (after_item sc j) v w a b (subst (λ z. IsTranslationUnit (after_item sc z) is) same.0 wf.1) (subst (λ z. NoItem (after_unit (after_item sc z) is) (v ∷ a)) same.0 none) wfj.1 nonej same.1)
