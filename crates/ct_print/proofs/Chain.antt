-- One text after the other.
use Rattle.std.proofs.Common.{◌≡◌, ℕ, suc, ◌+◌, ◌<◌, List, [], ◌∷◌, ◌++◌, length, get_or, drop, refl, sym, ap, ◌∙◌, append_assoc, add-one, drop-cons}
use Rattle.std.proofs.lemmas.List.{append-nil}
use Rattle.ct_syntax.specs.Words.{Text, Word}
use Rattle.ct_syntax.specs.Trees.{Specs, no_spec, Body, no_part}
use Rattle.ct_syntax.specs.Spelling.{spell_specs, spell_body}
use Rattle.ct_syntax.specs.Views.{view_spec}
use Rattle.ct_syntax.specs.UnitViews.{view_part}
use Rattle.ct_syntax.specs.declared.expressions.Spec.{Spec}
use Rattle.ct_syntax.specs.declared.expressions.Spec.TheVariants as s
use Rattle.ct_syntax.specs.declared.statements.BlockItem.{BlockItem}
use Rattle.ct_syntax.specs.declared.statements.BlockItem.TheVariants as b
use Rattle.ct_print.specs.Text.{Appends, text_of}

-- a word and what stands behind it
pub appends_word : (old new text : Text) (gap : ℕ) (rest : Text) → new ≡ old ++ (text ++ gap ∷ []) → new ++ rest ≡ old ++ (text ++ gap ∷ rest)
appends_word old new text gap rest e =
    ap (λ s. s ++ rest) e ∙ append_assoc old (text ++ gap ∷ []) rest ∙ ap (λ s. old ++ s) (append_assoc text (gap ∷ []) rest)

-- With the text of what is left to append, the text is what it has to be
abbrev pub Continues : Text → Text → (List Word → List Word) → (List Word → List Word) → Type 0
Continues old now left all = (rest : List Word) → now ++ text_of (left rest) ≡ old ++ text_of (all rest)

-- one specifier, and then the others
pub specs_first : (x : Spec) (specs : Specs) (rest : List Word) → spell_specs (view_spec x specs) rest ≡ spell_specs (view_spec x no_spec) (spell_specs specs rest)
specs_first (s.Word at word) specs rest = refl
specs_first (s.TypedefName at name) specs rest = refl
specs_first (s.StructTag at tag) specs rest = refl
specs_first (s.StructList' at tag shape members) specs rest = refl
specs_first (s.EnumTag at tag) specs rest = refl
specs_first (s.EnumList' at tag shape enumerators comma) specs rest = refl

-- one part of a block, and then the others
pub part_first : (x : BlockItem) (body : Body) (rest : List Word) → spell_body (view_part x body) rest ≡ spell_body (view_part x no_part) (spell_body body rest)
part_first (b.Case at value) body rest = refl
part_first (b.Default at) body rest = refl
part_first (b.Declaration d) body rest = refl
part_first (b.Statement x) body rest = refl

-- what is spelled for an equal value
pub spelled_as : {A : Type 0} (spells : A → List Word) (x y : A) → x ≡ y → (old new : Text) (rest : List Word) → new ++ text_of rest ≡ old ++ text_of (spells y) → new ++ text_of rest ≡ old ++ text_of (spells x)
spelled_as spells x y e old new rest h = h ∙ ap (λ z. old ++ text_of (spells z)) (sym e)

-- the next item of a list
pub next_item : {A : Type 0} (xs : List A) (i : ℕ) (x : A) → i < length xs → x ≡ get_or xs i x → drop i xs ≡ x ∷ drop (i + 1) xs
next_item xs i x within is = rw add-one (drop-cons xs i x within ∙ ap (λ y. y ∷ drop (suc i) xs) (sym is))

-- all of it
pub appended_all : (old new : Text) (f : List Word → List Word) → Appends old new f → new ≡ old ++ text_of (f [])
appended_all old new f h = sym (append-nil new) ∙ h []

pub ruleset chaining = (appends_word)
