-- A text is a token of some kind or of none, and a byte that is no white space begins a token.
use Rattle.std.proofs.Common.{◌≡◌, ℕ, true, false, ◌||◌, List, [], ◌∷◌, ◌++◌, refl, ap, ◌∙◌, subst, ◌⊎◌, inl, inr}
use Rattle.std.specs.Prelude.{◌≢◌, All, IsTrue}
use Rattle.std.proofs.lemmas.List.Elements.{All-nil}
use Rattle.std.proofs.lemmas.Bool.{cases_Bool, cases_eq, eqb-true, or_from, not_from_false}
use Rattle.ct_base.specs.declared.lexical.TokenKind.{TokenKind}
use Rattle.ct_base.specs.declared.lexical.TokenKind.TheVariants.{Name, Number, Char, Text, Punct, Other, Line}
use Rattle.ct_base.specs.Bytes.{is_digit, is_nondigit, is_name_byte}
use Rattle.ct_token.specs.Bytes.{is_newline, is_blank}
use Rattle.ct_token.specs.Lexing.{is_punctuator, is_other, is_number, is_inside, is_prefix, IsQuoted, IsToken, IsLongest}
use Rattle.ct_token.proofs.Decided.{Decided, test_decided, same_decided, both_decided, all_decided, Cuts, cut_decided, Longest, longest_front, NoFront}

-- ---- names

name_decided : (text : List ℕ) → Decided (IsToken Name text)
name_decided [] = inr (λ is. absurd (let bad : [] ≡ is.0 ∷ is.1 = is.2 in cc))
name_decided (first ∷ more) = by_parts (test_decided (is_nondigit first)) (all_decided is_name_byte more)
  where
    by_parts : Decided (IsTrue (is_nondigit first)) → Decided (All (λ byte. IsTrue (is_name_byte byte)) more) → Decided (IsToken Name (first ∷ more))
    by_parts (inr fails) rest = inr (λ is.
        let whole : first ∷ more ≡ is.0 ∷ is.1 = is.2 in
        let head : is.0 ≡ first = cc in
        fails (subst (λ (b : ℕ). IsTrue (is_nondigit b)) head is.3))
    by_parts (inl letter) (inr fails) = inr (λ is.
        let whole : first ∷ more ≡ is.0 ∷ is.1 = is.2 in
        let tail : is.1 ≡ more = cc in
        fails (subst (λ (l : List ℕ). All (λ byte. IsTrue (is_name_byte byte)) l) tail is.4))
    by_parts (inl letter) (inl rest) = inl (first, more, refl, letter, rest)

-- ---- what stands between quotes

-- between two quotes stands something of which this holds
abbrev Between : ℕ → (List ℕ → Type 0) → List ℕ → Type 0
Between quote Q text = (inside : List ℕ) × Q inside × (text ≡ quote ∷ inside ++ quote ∷ []) × IsTrue (is_inside quote inside)

abbrev Ends : ℕ → (List ℕ → Type 0) → List ℕ → List ℕ → Type 0
Ends quote Q inside back = (back ≡ quote ∷ []) × (Q inside × IsTrue (is_inside quote inside))

between_decided : (quote : ℕ) (Q : List ℕ → Type 0) → ((inside : List ℕ) → Decided (Q inside)) → (text : List ℕ) → Decided (Between quote Q text)
between_decided quote Q tells [] = inr (λ is. absurd (let bad : [] ≡ quote ∷ is.0 ++ quote ∷ [] = is.2 in cc))
between_decided quote Q tells (first ∷ more) =
    by_parts (cases_eq first quote)
    (cut_decided (Ends quote Q)
    (λ inside back. both_decided (back ≡ quote ∷ []) (Q inside × IsTrue (is_inside quote inside)) (same_decided back (quote ∷ []))
    (both_decided (Q inside) (IsTrue (is_inside quote inside)) (tells inside) (test_decided (is_inside quote inside)))) more)
  where
    by_parts : ((first ≡ quote) ⊎ (first ≡ quote → ⊥)) → Decided (Cuts (Ends quote Q) more) → Decided (Between quote Q (first ∷ more))
    by_parts (inr fails) cut = inr (λ is.
        let whole : first ∷ more ≡ quote ∷ is.0 ++ quote ∷ [] = is.2 in
        let head : first ≡ quote = cc in
        fails head)
    by_parts (inl same) (inr fails) = inr (λ is.
        let whole : first ∷ more ≡ quote ∷ is.0 ++ quote ∷ [] = is.2 in
        let tail : more ≡ is.0 ++ quote ∷ [] = cc in
        fails (is.0, quote ∷ [], tail, (refl, (is.1, is.3))))
    by_parts (inl same) (inl cut) =
        inl (cut.0, cut.3.1.0, ap (λ (b : ℕ). b ∷ more) same ∙ ap (λ l. quote ∷ l) (cut.2 ∙ ap (λ l. cut.0 ++ l) cut.3.0), cut.3.1.1)

abbrev Quoted : ℕ → (List ℕ → Type 0) → List ℕ → Type 0
Quoted quote Q text = (inside : List ℕ) × Q inside × IsQuoted quote inside text

abbrev Fronted : ℕ → (List ℕ → Type 0) → List ℕ → List ℕ → Type 0
Fronted quote Q prefix back = IsTrue (is_prefix quote prefix) × Between quote Q back

quoted_decided : (quote : ℕ) (Q : List ℕ → Type 0) → ((inside : List ℕ) → Decided (Q inside)) → (text : List ℕ) → Decided (Quoted quote Q text)
quoted_decided quote Q tells text =
    elim (cut_decided (Fronted quote Q)
    (λ prefix back. both_decided (IsTrue (is_prefix quote prefix)) (Between quote Q back) (test_decided (is_prefix quote prefix)) (between_decided quote Q tells back)) text) [
      | inl cut ↦ inl (cut.3.1.0, cut.3.1.1, (cut.0, cut.3.0, cut.2 ∙ ap (λ l. cut.0 ++ l) cut.3.1.2, cut.3.1.3))
      | inr fails ↦ inr (λ is. fails (is.2.0, quote ∷ is.0 ++ quote ∷ [], is.2.2, (is.2.1, (is.0, is.1, refl, is.2.3))))
    ]

some_decided : (inside : List ℕ) → Decided (inside ≢ [])
some_decided [] = inr (λ not. not refl)
some_decided (b ∷ bytes) = inl (λ e. absurd (cc))

text_decided : (text : List ℕ) → Decided (IsToken Text text)
text_decided text =
    elim (quoted_decided 34 (λ inside. Unit {0}) (λ inside. inl tt) text) [ inl is ↦ inl (is.0, is.2) | inr fails ↦ inr (λ is. fails (is.0, tt, is.1)) ]

-- ---- any kind

other_decided : (text : List ℕ) → Decided (IsToken Other text)
other_decided [] = inr (λ is. absurd (let bad : [] ≡ is.0 ∷ [] = is.1 in cc))
other_decided (first ∷ []) =
    elim (test_decided (is_other first)) [
      | inl is ↦ inl (first, refl, is)
      | inr fails ↦ inr (λ is. let whole : first ∷ [] ≡ is.0 ∷ [] = is.1 in let head : is.0 ≡ first = cc in fails (subst (λ (b : ℕ). IsTrue (is_other b)) head is.2))
    ]
other_decided (first ∷ second ∷ more) =
    inr (λ is. let whole : first ∷ second ∷ more ≡ is.0 ∷ [] = is.1 in let tail : second ∷ more ≡ [] = cc in absurd (cc))

kind_decided : (kind : TokenKind) (text : List ℕ) → Decided (IsToken kind text)
kind_decided Name text = name_decided text
kind_decided Number text = test_decided (is_number text)
kind_decided Char text = quoted_decided 39 (λ inside. inside ≢ []) some_decided text
kind_decided Text text = text_decided text
kind_decided Punct text = test_decided (is_punctuator text)
kind_decided Other text = other_decided text
kind_decided Line text = same_decided text (10 ∷ [])

abbrev pub IsSome : List ℕ → Type 0
IsSome text = (kind : TokenKind) × IsToken kind text

no_kind : (text : List ℕ) → (IsToken Name text → ⊥) → (IsToken Number text → ⊥) → (IsToken Char text → ⊥) → (IsToken Text text → ⊥)
    → (IsToken Punct text → ⊥) → (IsToken Other text → ⊥) → (IsToken Line text → ⊥) → (kind : TokenKind) → IsToken kind text → ⊥
no_kind text name number char_ text_ punct other line Name is = name is
no_kind text name number char_ text_ punct other line Number is = number is
no_kind text name number char_ text_ punct other line Char is = char_ is
no_kind text name number char_ text_ punct other line Text is = text_ is
no_kind text name number char_ text_ punct other line Punct is = punct is
no_kind text name number char_ text_ punct other line Other is = other is
no_kind text name number char_ text_ punct other line Line is = line is

pub some_kind : (text : List ℕ) → Decided (IsSome text)
some_kind text =
    elim (kind_decided Name text) [
      | inl is ↦ inl (Name, is)
      | inr name ↦
          elim (kind_decided Number text) [
            | inl is ↦ inl (Number, is)
            | inr number ↦
                elim (kind_decided Char text) [
                  | inl is ↦ inl (Char, is)
                  | inr char_ ↦
                      elim (kind_decided Text text) [
                        | inl is ↦ inl (Text, is)
                        | inr text_ ↦
                            elim (kind_decided Punct text) [
                              | inl is ↦ inl (Punct, is)
                              | inr punct ↦
                                  elim (kind_decided Other text) [
                                    | inl is ↦ inl (Other, is)
                                    | inr other ↦
                                        elim (kind_decided Line text) [
                                          | inl is ↦ inl (Line, is)
                                          | inr line ↦
                                              inr (λ is. no_kind text name number char_ text_ punct other line is.0 is.1)
                                        ]
                                  ]
                            ]
                      ]
                ]
          ]
    ]

-- ---- the token at a place

byte_alone : (byte : ℕ) → is_blank byte ≡ false → IsSome (byte ∷ [])
byte_alone byte blank =
    by_class (cases_Bool (is_nondigit byte)) (cases_Bool (is_digit byte)) (cases_Bool (is_newline byte)) (cases_Bool (is_punctuator (byte ∷ [])))
  where
    by_class : ((is_nondigit byte ≡ true) ⊎ (is_nondigit byte ≡ false)) → ((is_digit byte ≡ true) ⊎ (is_digit byte ≡ false))
        → ((is_newline byte ≡ true) ⊎ (is_newline byte ≡ false)) → ((is_punctuator (byte ∷ []) ≡ true) ⊎ (is_punctuator (byte ∷ []) ≡ false)) → IsSome (byte ∷ [])
    by_class (inl letter) digit line mark = (Name, (byte, [], refl, letter, All-nil (λ b. IsTrue (is_name_byte b))))
    by_class (inr letter) (inl digit) line mark = (Number, digit)
    by_class (inr letter) (inr digit) (inl line) mark = (Line, ap (λ (b : ℕ). b ∷ []) (eqb-true byte 10 line))
    by_class (inr letter) (inr digit) (inr line) (inl mark) = (Punct, mark)
    by_class (inr letter) (inr digit) (inr line) (inr mark) =
        let name = or_from (is_nondigit byte) (is_digit byte) letter digit in
        let two = or_from (is_name_byte byte) (is_newline byte) name line in
        let three = or_from (is_name_byte byte || is_newline byte) (is_blank byte) two blank in
        let four = or_from (is_name_byte byte || is_newline byte || is_blank byte) (is_punctuator (byte ∷ [])) three mark in
        (Other, (byte, refl, not_from_false (is_name_byte byte || is_newline byte || is_blank byte || is_punctuator (byte ∷ [])) four))

pub record LongestToken (text : List ℕ) : Type 0 where
  pub kind : TokenKind
  pub front : List ℕ
  pub back : List ℕ
  pub split : text ≡ front ++ back
  pub is : IsLongest kind front back

pub longest_token : (first : ℕ) (more : List ℕ) → is_blank first ≡ false → LongestToken (first ∷ more)
longest_token first more blank = by_front (longest_front IsSome some_kind (first ∷ more))
  where
    by_front : (Longest IsSome (first ∷ more) ⊎ NoFront IsSome (first ∷ more)) → LongestToken (first ∷ more)
    by_front (inr none) = absurd (none (first ∷ []) more refl (byte_alone first blank))
    by_front (inl found) =
        record {
          kind = found.is.0;
          front = found.front;
          back = found.back;
          split = found.split;
          is = record { token = found.is.1; longest = λ other more rest e is. found.longest more rest e (other, is) };
        }
