-- What the functions' proofs use.
use Rattle.std.proofs.Common.{◌≡◌, ◌-◌, Bool, true, false, if◌then◌else◌, List, [], ◌∷◌, ◌++◌, Some, None, unwrap_or, reverse, length, slice_get, refl, sym, ap, ◌∙◌, ◌<◌, arith, length-append}
use Rattle.std.proofs.lemmas.Option.{none-some, slice_get-get_or}
use Rattle.std.proofs.Math.Seq.{get_or-append_seam}
use Rattle.std.proofs.lemmas.List.{reverse-append, reverse-reverse}
use Rattle.std.specs.Str.{bytes_eq}
use Rattle.ct_syntax.specs.Words.{Text}
use Rattle.ct_parser_state.specs.declared.entries.Entry.{Entry}
use Rattle.ct_parser_state.specs.declared.entries.Entry.TheVariants as e
use Rattle.ct_parser_state.specs.declared.frames.Frame.{Frame}
use Rattle.ct_grammar_machine.specs.Frames.{needs, stack_needs}
use Rattle.ct_parser_state.specs.Names.{meaning}
use Rattle.ct_parser_state.specs.Code.{scope_of, stack_of, frame_of}

pub reverse_last : {A : Type 0} (xs : List A) (x : A) → reverse (xs ++ x ∷ []) ≡ x ∷ reverse xs
reverse_last xs x = reverse-append xs (x ∷ [])

-- The latest entry of a name says whether it is a typedef name.
pub scope_by_meaning : (es : List Entry) (text : Text) → unwrap_or (meaning es text) false ≡ scope_of es text
scope_by_meaning [] text = refl
scope_by_meaning (e.Scope ∷ es) text = scope_by_meaning es text
scope_by_meaning (e.Name name is_type ∷ es) text = go (bytes_eq name text) (scope_by_meaning es text)
  where
    go : (here : Bool) → unwrap_or (meaning es text) false ≡ scope_of es text → unwrap_or (if here then Some is_type else meaning es text) false ≡ (if here then is_type else scope_of es text)
    go true rest = refl
    go false rest = rest

same_inside : {A : Type 0} (x y : A) → Some x ≡ Some y → x ≡ y
same_inside x y h = cc

last_length : {A : Type 0} (gs : List A) (g : A) → length (gs ++ g ∷ []) - 1 ≡ length gs
last_length gs g = omega (arith, length-append gs (g ∷ []))

last_within : {A : Type 0} (gs : List A) (g : A) → length gs < length (gs ++ g ∷ [])
last_within gs g = omega (arith, length-append gs (g ∷ []))

-- The last of a list with one more is that one.
last_of : {A : Type 0} (gs : List A) (g : A) → slice_get (gs ++ g ∷ []) (length (gs ++ g ∷ []) - 1) ≡ Some g
last_of gs g = ap (slice_get (gs ++ g ∷ [])) (last_length gs g) ∙ slice_get-get_or (gs ++ g ∷ []) (length gs) g (last_within gs g) ∙ ap Some (get_or-append_seam gs g [] g)

last_reversed : {A : Type 0} (fs : List A) (g : A) (gs : List A) → fs ≡ reverse (g ∷ gs) → slice_get fs (length fs - 1) ≡ Some g
last_reversed fs g gs e = ap (λ z. slice_get z (length z - 1)) (e ∙ reverse-append (g ∷ []) gs) ∙ last_of (reverse gs) g

-- The last production of the list is the innermost one.
needs_of : (os : List Entry) (fs gs : List Frame) (x : Frame) → fs ≡ reverse gs → slice_get fs (length fs - 1) ≡ Some x → stack_needs (stack_of os gs) ≡ needs (frame_of os x)
needs_of os fs [] x e h = absurd (none-some x (ap (λ z. slice_get z (length z - 1)) (sym e) ∙ h))
needs_of os fs (g ∷ gs) x e h = ap (λ z. needs (frame_of os z)) (same_inside g x (sym (last_reversed fs g gs e) ∙ h))

pub needs_last : (os : List Entry) (fs : List Frame) (x : Frame) → slice_get fs (length fs - 1) ≡ Some x → stack_needs (stack_of os (reverse fs)) ≡ needs (frame_of os x)
needs_last os fs x h = needs_of os fs (reverse fs) x (sym (reverse-reverse fs)) h

no_needs_of : (os : List Entry) (fs gs : List Frame) → fs ≡ reverse gs → slice_get fs (length fs - 1) ≡ None → stack_needs (stack_of os gs) ≡ 1
no_needs_of os fs [] e h = refl
no_needs_of os fs (g ∷ gs) e h = absurd (none-some g (sym h ∙ last_reversed fs g gs e))

pub needs_none : (os : List Entry) (fs : List Frame) → slice_get fs (length fs - 1) ≡ None → stack_needs (stack_of os (reverse fs)) ≡ 1
needs_none os fs h = no_needs_of os fs (reverse fs) (sym (reverse-reverse fs)) h
