-- Specifiers that form a type have a part of one, and a typedef name among them is the only part.
use Rattle.std.proofs.Common.{◌≡◌, ℕ, ◌+◌, ◌≤◌, ◌==◌, ◌&&◌, ◌||◌, not, Bool, true, false, List, [], ◌∷◌, ◌++◌, cond, refl, ap, subst, arith}
use Rattle.std.specs.List.{list_any}
use Rattle.std.proofs.lemmas.Bool.{eqb-true}
use Rattle.std.proofs.lemmas.List.Sums.{sum_by-append}
use Rattle.ct_syntax.specs.declared.words.SpecWord.{SpecWord}
use Rattle.ct_syntax.specs.declared.words.SpecWord.TheVariants as s
use Rattle.ct_syntax.specs.Words.{Text}
use Rattle.ct_syntax.specs.Trees as t
use Rattle.ct_syntax.specs.TypeWords.{type_number, count_word, same_words, type_lists, specifier_words, whole_types, form_type}
use Rattle.ct_grammar_machine.specs.Algebra.{specs_then, has_type_part}

-- how often each word of a type stands
pub record AreNone (us : List SpecWord) : Type 0 where
  pub void : count_word s.Void us ≡ 0
  pub bool : count_word s.Bool us ≡ 0
  pub char : count_word s.Char us ≡ 0
  pub short : count_word s.Short us ≡ 0
  pub int : count_word s.Int us ≡ 0
  pub long : count_word s.Long us ≡ 0
  pub signed : count_word s.Signed us ≡ 0
  pub unsigned : count_word s.Unsigned us ≡ 0

and_true : (a b : Bool) → (a && b) ≡ true → (a ≡ true) × (b ≡ true)
and_true true b h = (refl, h)
and_true false b h = absurd cc

is_zero : (n : ℕ) → (n == 0) ≡ true → n ≡ 0
is_zero n h = eqb-true n 0 h

none_same : (us : List SpecWord) → same_words us [] ≡ true → AreNone us
none_same us h =
    let a = and_true (count_word s.Void us == 0) _ h in
    let b = and_true (count_word s.Bool us == 0) _ a.1 in
    let c = and_true (count_word s.Char us == 0) _ b.1 in
    let d = and_true (count_word s.Short us == 0) _ c.1 in
    let e = and_true (count_word s.Int us == 0) _ d.1 in
    let f = and_true (count_word s.Long us == 0) _ e.1 in
    let g = and_true (count_word s.Signed us == 0) _ f.1 in
    let k = and_true (count_word s.Unsigned us == 0) _ g.1 in
    record {
      void = is_zero _ a.0;
      bool = is_zero _ b.0;
      char = is_zero _ c.0;
      short = is_zero _ d.0;
      int = is_zero _ e.0;
      long = is_zero _ f.0;
      signed = is_zero _ g.0;
      unsigned = is_zero _ k.0;
    }

same_none : (us : List SpecWord) → AreNone us → same_words us [] ≡ true
same_none us h = rw (h.void, h.bool, h.char, h.short, h.int, h.long, h.signed, h.unsigned) refl

no_list : (us : List SpecWord) → AreNone us → list_any (same_words us) type_lists ≡ false
no_list us h = rw (h.void, h.bool, h.char, h.short, h.int, h.long, h.signed, h.unsigned) refl

form_none : (n : ℕ) (us : List SpecWord) → n ≡ 0 → AreNone us → (((n == 0) && list_any (same_words us) type_lists) || ((n == 1) && same_words us [])) ≡ false
form_none n us e h = rw (e, no_list us h) refl

-- specifiers that form a type have a part of one
pub form_has : (ss : t.Specs) → form_type ss ≡ true → has_type_part ss ≡ true
form_has ss h = by_value ((whole_types ss == 0) && same_words (specifier_words ss) []) refl
  where
    by_value : (v : Bool) → ((whole_types ss == 0) && same_words (specifier_words ss) []) ≡ v → not v ≡ true
    by_value false e = refl
    by_value true e =
        let p = and_true (whole_types ss == 0) (same_words (specifier_words ss) []) e in
        let no = form_none (whole_types ss) (specifier_words ss) (is_zero _ p.0) (none_same (specifier_words ss) p.1) in
        absurd cc

pub whole_then : (ss us : t.Specs) → whole_types (specs_then ss us) ≡ whole_types ss + whole_types us
whole_then t.no_spec us = omega arith
whole_then (t.spec_word w ss) us = whole_then ss us
whole_then (t.typedef_name n ss) us = omega (arith, whole_then ss us)
whole_then (t.struct_tag n ss) us = omega (arith, whole_then ss us)
whole_then (t.struct_list tag ms ss) us = omega (arith, whole_then ss us)
whole_then (t.enum_tag n ss) us = omega (arith, whole_then ss us)
whole_then (t.enum_list tag es c ss) us = omega (arith, whole_then ss us)

pub words_then : (ss us : t.Specs) → specifier_words (specs_then ss us) ≡ specifier_words ss ++ specifier_words us
words_then t.no_spec us = refl
words_then (t.spec_word w ss) us = ap (λ ws. w ∷ ws) (words_then ss us)
words_then (t.typedef_name n ss) us = words_then ss us
words_then (t.struct_tag n ss) us = words_then ss us
words_then (t.struct_list tag ms ss) us = words_then ss us
words_then (t.enum_tag n ss) us = words_then ss us
words_then (t.enum_list tag es c ss) us = words_then ss us

count_none : (w : SpecWord) (us vs : List SpecWord) → count_word w (us ++ vs) ≡ 0 → count_word w us ≡ 0
count_none w us vs h = omega (arith, sum_by-append (λ v. cond (type_number v == type_number w) 1 0) us vs, h)

front_none : (us vs : List SpecWord) → AreNone (us ++ vs) → AreNone us
front_none us vs h = record {
  void = count_none s.Void us vs h.void;
  bool = count_none s.Bool us vs h.bool;
  char = count_none s.Char us vs h.char;
  short = count_none s.Short us vs h.short;
  int = count_none s.Int us vs h.int;
  long = count_none s.Long us vs h.long;
  signed = count_none s.Signed us vs h.signed;
  unsigned = count_none s.Unsigned us vs h.unsigned;
}

or_false : (a b : Bool) → (a || b) ≡ true → a ≡ false → b ≡ true
or_false false b h e = h
or_false true b h e = absurd cc

above_zero : (n : ℕ) (b : Bool) → 1 ≤ n → ((n == 0) && b) ≡ false
above_zero n b le = by_value (n == 0) refl
  where
    by_value : (v : Bool) → (n == 0) ≡ v → (v && b) ≡ false
    by_value false e = refl
    by_value true e = absurd (omega (arith, eqb-true n 0 e))

no_part : (n : ℕ) (us : List SpecWord) → n ≡ 0 → AreNone us → not ((n == 0) && same_words us []) ≡ false
no_part n us e h = rw (e, same_none us h) refl

-- where a typedef name stands among them, no part of a type stands before it
pub typedef_alone : (ss : t.Specs) (n : Text) (us : t.Specs) → form_type (specs_then ss (t.typedef_name n us)) ≡ true → has_type_part ss ≡ false
typedef_alone ss n us h =
    let all = specs_then ss (t.typedef_name n us) in
    let size = whole_then ss (t.typedef_name n us) in
    let some : 1 ≤ whole_types all = omega (arith, size) in
    let one = or_false _ _ h (above_zero (whole_types all) (list_any (same_words (specifier_words all)) type_lists) some) in
    let p = and_true (whole_types all == 1) (same_words (specifier_words all) []) one in
    let only : whole_types all ≡ 1 = eqb-true (whole_types all) 1 p.0 in
    let none : AreNone (specifier_words ss ++ specifier_words us) = subst AreNone (words_then ss (t.typedef_name n us)) (none_same (specifier_words all) p.1) in
    no_part (whole_types ss) (specifier_words ss) (omega (arith, size, only)) (front_none (specifier_words ss) (specifier_words us) none)
