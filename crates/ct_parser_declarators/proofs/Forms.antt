-- Which specifiers form a type, by how many whole types stand among them.
use Rattle.std.proofs.Common.{◌≡◌, ℕ, ◌==◌, Bool, true, false, ◌&&◌, ◌||◌, List, [], refl, ap, ◌∙◌}
use Rattle.std.specs.Prelude.{not}
use Rattle.std.specs.List.{list_any}
use Rattle.ct_syntax.specs.declared.words.SpecWord.{SpecWord}
use Rattle.ct_syntax.specs.TypeWords.{same_words, type_lists}
use Rattle.ct_parser_parts.specs.Parts.{form_words, has_part}

or_false : (a : Bool) → (a || false) ≡ a
or_false true = refl
or_false false = refl

first_of : (a b : Bool) (n : ℕ) → n ≡ 0 → (((n == 0) && a) || ((n == 1) && b)) ≡ a
first_of a b n h = ap (λ k. ((k == 0) && a) || ((k == 1) && b)) h ∙ or_false a

second_of : (a b : Bool) (n : ℕ) → n ≡ 1 → (((n == 0) && a) || ((n == 1) && b)) ≡ b
second_of a b n h = ap (λ k. ((k == 0) && a) || ((k == 1) && b)) h

pub form_words_alone : (ws : List SpecWord) (n : ℕ) → n ≡ 0 → form_words ws n ≡ list_any (same_words ws) type_lists
form_words_alone ws n h = first_of (list_any (same_words ws) type_lists) (same_words ws []) n h

pub form_words_beside : (ws : List SpecWord) (n : ℕ) → n ≡ 1 → form_words ws n ≡ same_words ws []
form_words_beside ws n h = second_of (list_any (same_words ws) type_lists) (same_words ws []) n h

pub has_part_words : (ws : List SpecWord) (n : ℕ) → n ≡ 0 → has_part ws n ≡ not (same_words ws [])
has_part_words ws n h = ap (λ k. not ((k == 0) && same_words ws [])) h
