-- Which include stands at the front of tokens, or that none does, by what was read of it.
use Rattle.std.proofs.Common.{◌≡◌, ◌≢◌, ℕ, Bool, List, [], ◌∷◌, ◌++◌, All, true, false, refl, sym, ap, ◌∙◌, subst, inl, inr, append_assoc}
use Rattle.std.specs.Prelude.{◌⊎◌, Option, Some, None, IfNone, IfSome, IsTrue, codes, if◌then◌else◌}
use Rattle.std.proofs.lemmas.List.Elements.{All-nil, All-cons, All-head}
use Rattle.ct_base.specs.declared.lexical.Token.{Token}
use Rattle.ct_form.specs.Words.{Stands, first_word, is_line}
use Rattle.ct_form.specs.Form.{SpellEach, EndsLine, StandsInclude, include_words}
use Rattle.ct_form.proofs.OneWord.{pair_parts}
use Rattle.ct_form.proofs.OneFile.{first_word-lines}

pub if_none : {A : Type 0} {P : Type 0} (o : Option A) → P → IfNone o P
if_none (Some x) p = tt
if_none None p = p

none_or_some : {A : Type 0} {o : Option A} {x : A} → o ≡ None → o ≡ Some x → ⊥
none_or_some p q = cc

-- the three tokens of an include
pub record IncludeParts (tokens rest : List Token) : Type 0 where
  pub hash : Token
  pub word : Token
  pub header : Token
  pub first : first_word tokens ≡ Some (hash, word ∷ header ∷ rest)
  pub is_hash : hash.text ≡ codes "#"
  pub is_word : SpellEach (codes "include" ∷ []) (word ∷ [])
  pub is_header : SpellEach ((34 ∷ codes "unity.h" ++ 34 ∷ []) ∷ []) (header ∷ [])
  pub ends_line : EndsLine rest

parts_of : {tokens rest : List Token} (lines directive : List Token) → tokens ≡ lines ++ directive ++ rest → All (λ token. IsTrue (is_line token)) lines
    → SpellEach include_words directive → EndsLine rest → IncludeParts tokens rest
parts_of lines [] e a f z = absurd f
parts_of lines (hash ∷ []) e a f z = absurd f.2
parts_of lines (hash ∷ word ∷ []) e a f z = absurd f.2.2
parts_of {rest = rest} lines (hash ∷ word ∷ header ∷ []) e a f z = record {
  hash = hash;
  word = word;
  header = header;
  first = ap first_word (e ∙ append_assoc lines (hash ∷ word ∷ header ∷ []) rest) ∙ first_word-lines lines hash (word ∷ header ∷ rest) a f.0;
  is_hash = f.1;
  is_word = (f.2.0, f.2.1, tt);
  is_header = (f.2.2.0, f.2.2.1, tt);
  ends_line = z;
}
parts_of lines (hash ∷ word ∷ header ∷ x ∷ directive) e a f z = absurd f.2.2.2

pub include_parts : {is_first : Bool} {tokens rest : List Token} → StandsInclude is_first tokens rest → IncludeParts tokens rest
include_parts s = parts_of s.lines s.directive s.split s.are_lines s.spelled s.ends_line

pub no_word : {is_first : Bool} {tokens : List Token} → first_word tokens ≡ None → (rest : List Token) → StandsInclude is_first tokens rest → ⊥
no_word e rest s = none_or_some e (include_parts s).first

pub no_hash : {is_first : Bool} {tokens behind : List Token} {hash : Token} → first_word tokens ≡ Some (hash, behind) → (hash.text ≡ codes "#" → ⊥)
    → (rest : List Token) → StandsInclude is_first tokens rest → ⊥
no_hash e n rest s =
    let p = include_parts s in
    n (ap (λ (t : Token). t.text) (pair_parts e p.first).0 ∙ p.is_hash)

pub no_include_word : {is_first : Bool} {tokens behind : List Token} {hash : Token} → first_word tokens ≡ Some (hash, behind)
    → ((middle : List Token) → (token : Token) × (behind ≡ token ∷ middle) × SpellEach (codes "include" ∷ []) (token ∷ []) → ⊥)
    → (rest : List Token) → StandsInclude is_first tokens rest → ⊥
no_include_word e n rest s =
    let p = include_parts s in
    n (p.header ∷ rest) (p.word, (pair_parts e p.first).1, p.is_word)

tail_of : {a b : Token} {l m : List Token} → (a ∷ l) ≡ (b ∷ m) → l ≡ m
tail_of e = cc

pub no_header : {is_first : Bool} {tokens behind middle : List Token} {hash word : Token} → first_word tokens ≡ Some (hash, behind) → behind ≡ word ∷ middle
    → ((after : List Token) → (token : Token) × (middle ≡ token ∷ after) × SpellEach ((34 ∷ codes "unity.h" ++ 34 ∷ []) ∷ []) (token ∷ []) → ⊥)
    → (rest : List Token) → StandsInclude is_first tokens rest → ⊥
no_header e f n rest s =
    let p = include_parts s in
    n rest (p.header, tail_of (sym f ∙ (pair_parts e p.first).1), p.is_header)

pub no_line_end : {is_first : Bool} {tokens behind middle after : List Token} {hash word header : Token} → first_word tokens ≡ Some (hash, behind) → behind ≡ word ∷ middle
    → middle ≡ header ∷ after → (EndsLine after → ⊥) → (rest : List Token) → StandsInclude is_first tokens rest → ⊥
no_line_end e f g n rest s =
    let p = include_parts s in
    let same = tail_of (sym g ∙ tail_of (sym f ∙ (pair_parts e p.first).1)) in
    n (subst EndsLine (sym same) p.ends_line)

-- tokens before their first word are ends of lines
record Split (tokens : List Token) (token : Token) (after : List Token) : Type 0 where
  lines : List Token
  split : tokens ≡ lines ++ token ∷ after
  are_lines : All (λ token. IsTrue (is_line token)) lines
  is_word : is_line token ≡ false

split_by : (line : Bool) (head : Token) (tokens : List Token) {token : Token} {after : List Token} → is_line head ≡ line
    → (first_word tokens ≡ Some (token, after) → Split tokens token after)
    → (if line then first_word tokens else Some (head, tokens)) ≡ Some (token, after) → Split (head ∷ tokens) token after
split_by true head tokens h f e =
    let s = f e in
    record { lines = head ∷ s.lines; split = ap (λ l. head ∷ l) s.split; are_lines = All-cons (λ (y : Token). IsTrue (is_line y)) head s.lines h s.are_lines; is_word = s.is_word }
split_by false head tokens h f e =
    let p = pair_parts refl e in
    record { lines = []; split = rw (p.0, p.1) refl; are_lines = All-nil (λ (y : Token). IsTrue (is_line y)); is_word = ap is_line (sym p.0) ∙ h }

first_word_split : (tokens : List Token) {token : Token} {after : List Token} → first_word tokens ≡ Some (token, after) → Split tokens token after
first_word_split [] e = absurd (cc)
first_word_split (head ∷ tokens) e = split_by (is_line head) head tokens refl (λ f. first_word_split tokens f) e

pub is_include : {tokens behind middle rest : List Token} {hash word header : Token} → first_word tokens ≡ Some (hash, behind) → hash.text ≡ codes "#"
    → behind ≡ word ∷ middle → SpellEach (codes "include" ∷ []) (word ∷ [])
    → middle ≡ header ∷ rest → SpellEach ((34 ∷ codes "unity.h" ++ 34 ∷ []) ∷ []) (header ∷ []) → EndsLine rest
    → StandsInclude true tokens rest
is_include {tokens} {rest = rest} {hash = hash} {word = word} {header = header} e h f w g k z =
    let s = first_word_split tokens e in
    record {
      lines = s.lines;
      directive = hash ∷ word ∷ header ∷ [];
      split = s.split ∙ ap (λ l. s.lines ++ hash ∷ l) (f ∙ ap (λ l. word ∷ l) g) ∙ sym (append_assoc s.lines (hash ∷ word ∷ header ∷ []) rest);
      are_lines = s.are_lines;
      begins_line = inl refl;
      spelled = (s.is_word, h, (w.0, w.1, (k.0, k.1, tt)));
      ends_line = z;
    }

-- an include begins a line, where the file begins or after the end of a line
pub anywhere : {is_first : Bool} {tokens rest : List Token} → StandsInclude is_first tokens rest → StandsInclude true tokens rest
anywhere s = record {
  lines = s.lines;
  directive = s.directive;
  split = s.split;
  are_lines = s.are_lines;
  begins_line = inl refl;
  spelled = s.spelled;
  ends_line = s.ends_line;
}

word_or_line : {line : Bool} → line ≡ false → IsTrue line → ⊥
word_or_line e h = cc

not_empty : {tokens : List Token} (lines directive rest : List Token) → tokens ≡ lines ++ directive ++ rest → SpellEach include_words directive → EndsLine tokens → lines ≢ []
not_empty lines [] rest e f z n = absurd f
not_empty {tokens} lines (hash ∷ directive) rest e f z n =
    word_or_line f.0 (subst EndsLine (e ∙ ap (λ l. l ++ (hash ∷ directive) ++ rest) n) z)

pub on_its_line : {is_first : Bool} {tokens rest : List Token} → StandsInclude true tokens rest → IsTrue is_first ⊎ EndsLine tokens → StandsInclude is_first tokens rest
on_its_line {is_first} {tokens} {rest} s b = record {
  lines = s.lines;
  directive = s.directive;
  split = s.split;
  are_lines = s.are_lines;
  begins_line = begins b;
  spelled = s.spelled;
  ends_line = s.ends_line;
}
  where
    begins : IsTrue is_first ⊎ EndsLine tokens → IsTrue is_first ⊎ (s.lines ≢ [])
    begins (inl h) = inl h
    begins (inr z) = inr (not_empty s.lines s.directive rest s.split s.spelled z)

begun_by : {tokens : List Token} (lines directive rest : List Token) → tokens ≡ lines ++ directive ++ rest → All (λ token. IsTrue (is_line token)) lines → lines ≢ [] → EndsLine tokens
begun_by [] directive rest e a n = absurd (n refl)
begun_by (line ∷ lines) directive rest e a n = subst EndsLine (sym e) (All-head (λ y. IsTrue (is_line y)) line lines a)

pub not_on_its_line : {is_first : Bool} {tokens : List Token} → (IsTrue is_first → ⊥) → (EndsLine tokens → ⊥) → (rest : List Token) → StandsInclude is_first tokens rest → ⊥
not_on_its_line {is_first} n m rest s = by s.begins_line
  where
    by : IsTrue is_first ⊎ (s.lines ≢ []) → ⊥
    by (inl h) = n h
    by (inr d) = m (begun_by s.lines s.directive rest s.split s.are_lines d)

pub none_by : {A P Q : Type 0} (o : Option A) → IfNone o P → (P → Q) → IfNone o Q
none_by (Some x) p f = tt
none_by None p f = f p

pub some_by : {A : Type 0} {P Q : A → Type 0} (o : Option A) → IfSome o P → ((x : A) → P x → Q x) → IfSome o Q
some_by (Some x) p f = f x p
some_by None p f = tt

pub begins_by : {is_first ends : Bool} (tokens : List Token) → (is_first ≡ true) ⊎ ((is_first ≡ false) × (ends ≡ true)) → (IsTrue ends → EndsLine tokens)
    → IsTrue is_first ⊎ EndsLine tokens
begins_by tokens (inl h) f = inl h
begins_by tokens (inr p) f = inr (f p.1)
