-- Examples of the definitions, worked out by hand.
use Rattle.std.proofs.Common.{◌≡◌, true, false, refl, codes}
use Rattle.ct_base.specs.declared.lexical.TokenKind.TheVariants as k
use Rattle.ct_syntax.specs.declared.words.AssignOp.TheVariants as a
use Rattle.ct_syntax.specs.declared.words.Mark.TheVariants as m
use Rattle.ct_syntax.specs.declared.words.Keyword.TheVariants as w
use Rattle.ct_syntax.specs.declared.words.SpecWord.TheVariants as s
use Rattle.ct_syntax.specs.Words.{Named, Sign, Key, Stray, word_by}
use Rattle.ct_syntax.specs.Trees.{no_spec, spec_word, typedef_name, Called, Group}
use Rattle.ct_syntax.specs.TypeWords.{form_type}
use Rattle.ct_syntax.specs.Scopes.{no_names, with_name}
use Rattle.ct_syntax.specs.Grammar.{IsDeclarator}

words_are : (word_by k.Punct (codes "<<=") ≡ Sign (m.Assign a.ShiftLeft)) × (word_by k.Name (codes "sizeof") ≡ Key w.Sizeof) × (word_by k.Name (codes "goto") ≡ Stray) × (word_by k.Name (codes "if_") ≡ Named (codes "if_")) × (word_by k.Punct (codes "#") ≡ Stray)
words_are = (refl, refl, refl, refl, refl)

type_forms : (form_type (spec_word s.Int (spec_word s.Const (spec_word s.Long (spec_word s.Unsigned (spec_word s.Long no_spec))))) ≡ true) × (form_type (spec_word s.Int (spec_word s.Int no_spec)) ≡ false) × (form_type (typedef_name (codes "T") (spec_word s.Static no_spec)) ≡ true) × (form_type (typedef_name (codes "T") (spec_word s.Unsigned no_spec)) ≡ false) × (form_type (spec_word s.Const no_spec) ≡ false)
type_forms = (refl, refl, refl, refl, refl)

-- `(T)` behind `int` in a parameter, where T is a typedef name, and where it is none
group_or_list : (IsDeclarator true (with_name no_names (codes "T") true) (Group (Called (codes "T"))) → ⊥) × IsDeclarator true no_names (Group (Called (codes "T")))
group_or_list = ((λ h. absurd (let e = h.0 in cc)), (refl, tt))
