-- Which specifiers form a type (C11 6.7.2p2).
use Rattle.std.specs.Prelude.{ℕ, ◌+◌, ◌==◌, ◌&&◌, ◌||◌, Bool, List, [], ◌∷◌, count_by}
use Rattle.std.specs.List.{list_all, list_any}
use Rattle.ct_syntax.specs.declared.words.SpecWord.{SpecWord}
use Rattle.ct_syntax.specs.declared.words.SpecWord.TheVariants as s
use Rattle.ct_syntax.specs.Trees.{Specs, no_spec, spec_word, typedef_name, struct_tag, struct_list, enum_tag, enum_list}

-- a number of each word that is a part of a type
abbrev pub type_number : SpecWord → ℕ
type_number s.Void = 1
type_number s.Bool = 2
type_number s.Char = 3
type_number s.Short = 4
type_number s.Int = 5
type_number s.Long = 6
type_number s.Signed = 7
type_number s.Unsigned = 8
type_number _ = 0

-- how often a word stands in a list
abbrev pub count_word : SpecWord → List SpecWord → ℕ
count_word w words = count_by (λ v. type_number v == type_number w) words

abbrev pub type_words : List SpecWord
type_words = s.Void ∷ s.Bool ∷ s.Char ∷ s.Short ∷ s.Int ∷ s.Long ∷ s.Signed ∷ s.Unsigned ∷ []

-- the same words, in any order
abbrev pub same_words : List SpecWord → List SpecWord → Bool
same_words us vs = list_all (λ w. count_word w us == count_word w vs) type_words

abbrev pub type_lists : List (List SpecWord)
type_lists =
    (s.Void ∷ [])
    ∷ (s.Char ∷ [])
    ∷ (s.Signed ∷ s.Char ∷ [])
    ∷ (s.Unsigned ∷ s.Char ∷ [])
    ∷ (s.Short ∷ []) ∷ (s.Signed ∷ s.Short ∷ []) ∷ (s.Short ∷ s.Int ∷ []) ∷ (s.Signed ∷ s.Short ∷ s.Int ∷ [])
    ∷ (s.Unsigned ∷ s.Short ∷ []) ∷ (s.Unsigned ∷ s.Short ∷ s.Int ∷ [])
    ∷ (s.Int ∷ []) ∷ (s.Signed ∷ []) ∷ (s.Signed ∷ s.Int ∷ [])
    ∷ (s.Unsigned ∷ []) ∷ (s.Unsigned ∷ s.Int ∷ [])
    ∷ (s.Long ∷ []) ∷ (s.Signed ∷ s.Long ∷ []) ∷ (s.Long ∷ s.Int ∷ []) ∷ (s.Signed ∷ s.Long ∷ s.Int ∷ [])
    ∷ (s.Unsigned ∷ s.Long ∷ []) ∷ (s.Unsigned ∷ s.Long ∷ s.Int ∷ [])
    ∷ (s.Long ∷ s.Long ∷ []) ∷ (s.Signed ∷ s.Long ∷ s.Long ∷ []) ∷ (s.Long ∷ s.Long ∷ s.Int ∷ []) ∷ (s.Signed ∷ s.Long ∷ s.Long ∷ s.Int ∷ [])
    ∷ (s.Unsigned ∷ s.Long ∷ s.Long ∷ []) ∷ (s.Unsigned ∷ s.Long ∷ s.Long ∷ s.Int ∷ [])
    ∷ (s.Bool ∷ [])
    ∷ []

-- the words of specifiers
abbrev pub specifier_words : Specs → List SpecWord
specifier_words no_spec = []
specifier_words (spec_word w ss) = w ∷ specifier_words ss
specifier_words (typedef_name t ss) = specifier_words ss
specifier_words (struct_tag t ss) = specifier_words ss
specifier_words (struct_list tag ms ss) = specifier_words ss
specifier_words (enum_tag t ss) = specifier_words ss
specifier_words (enum_list tag es comma ss) = specifier_words ss

-- how many of them are a whole type by themselves: a struct, an enumeration or a typedef name
abbrev pub whole_types : Specs → ℕ
whole_types no_spec = 0
whole_types (spec_word w ss) = whole_types ss
whole_types (typedef_name t ss) = whole_types ss + 1
whole_types (struct_tag t ss) = whole_types ss + 1
whole_types (struct_list tag ms ss) = whole_types ss + 1
whole_types (enum_tag t ss) = whole_types ss + 1
whole_types (enum_list tag es comma ss) = whole_types ss + 1

-- one of the lists of 6.7.2p2, or one whole type alone; the other words stand beside it in any order
abbrev pub form_type : Specs → Bool
form_type ss =
    ((whole_types ss == 0) && list_any (same_words (specifier_words ss)) type_lists)
    || ((whole_types ss == 1) && same_words (specifier_words ss) [])
