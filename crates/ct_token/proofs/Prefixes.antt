-- Encoding prefixes, and the quotes behind them.
use Rattle.std.proofs.Common.{◌≡◌, ℕ, true, false, ◌&&◌, List, [], ◌∷◌, ◌++◌, sym, ap, ◌∙◌, subst, ◌⊎◌, inl, inr}
use Rattle.std.specs.Prelude.{◌==◌}
use Rattle.std.specs.List.{AllByRecursion}
use Rattle.std.proofs.lemmas.Bool.{and_parts, false≢true, eqb-true}
use Rattle.ct_base.specs.Bytes.{is_nondigit, is_name_byte}
use Rattle.ct_token.specs.Lexing.{is_prefix, IsQuoted}
use Rattle.ct_token.proofs.Lists.{first_unlike, all_at}
use Rattle.ct_token.proofs.Bytes.{nondigit_is_name_byte, prefix_byte_is_nondigit}

abbrev pub NameByte : ℕ → Type 0
NameByte byte = is_name_byte byte ≡ true

-- the bytes of a name, or none
abbrev pub Leads : List ℕ → Type 0
Leads [] = Unit {0}
Leads (first ∷ more) = (is_nondigit first ≡ true) × AllByRecursion NameByte more

pub prefix_leads : (quote : ℕ) (prefix : List ℕ) → is_prefix quote prefix ≡ true → Leads prefix
prefix_leads quote [] h = tt
prefix_leads quote (byte ∷ []) h = (prefix_byte_is_nondigit byte h, tt)
prefix_leads quote (byte ∷ digit ∷ []) h =
    let both = and_parts ((quote == 34) && (byte == 117)) (digit == 56) h in
    let letter = and_parts (quote == 34) (byte == 117) both.0 in
    (ap is_nondigit (eqb-true byte 117 letter.1), (ap is_name_byte (eqb-true digit 56 both.1), tt))
prefix_leads quote (byte ∷ digit ∷ next ∷ bytes) h = absurd (false≢true h)

pub name_bytes : (prefix : List ℕ) → Leads prefix → AllByRecursion NameByte prefix
name_bytes [] h = tt
name_bytes (first ∷ more) h = (nondigit_is_name_byte first h.0, h.1)

no_name_byte_here : (byte : ℕ) → is_name_byte byte ≡ false → NameByte byte → ⊥
no_name_byte_here byte apart named = false≢true (sym apart ∙ named)

-- the first byte that is no part of a name stands at one place
pub same_prefix : (p q : List ℕ) (x y : ℕ) (u v : List ℕ) → Leads p → Leads q → is_name_byte x ≡ false → is_name_byte y ≡ false → p ++ x ∷ u ≡ q ++ y ∷ v → (p ≡ q) × (x ≡ y) × (u ≡ v)
same_prefix p q x y u v hp hq nx ny e =
    first_unlike NameByte p q x y u v (name_bytes p hp) (name_bytes q hq) (no_name_byte_here x nx) (no_name_byte_here y ny) e

-- and no name holds it
pub no_quote_in_name : (name prefix : List ℕ) (quote : ℕ) (bytes : List ℕ) → Leads name → is_name_byte quote ≡ false → name ≡ prefix ++ quote ∷ bytes → ⊥
no_quote_in_name name prefix quote bytes leads apart e =
    no_name_byte_here quote apart (all_at NameByte prefix quote bytes (subst (AllByRecursion NameByte) e (name_bytes name leads)))

head_of : (quote : ℕ) (prefix bytes : List ℕ) (first : ℕ) (more : List ℕ) → Leads prefix → first ∷ more ≡ prefix ++ quote ∷ bytes → (first ≡ quote) ⊎ (is_nondigit first ≡ true)
head_of quote [] bytes first more leads e = inl cc
head_of quote (p ∷ ps) bytes first more leads e =
    let same : p ≡ first = cc in
    inr (ap is_nondigit (sym same) ∙ leads.0)

-- what is quoted begins with its quote, or with a prefix's letter
pub quoted_first : (quote : ℕ) (plain : List ℕ) (first : ℕ) (more : List ℕ) → IsQuoted quote plain (first ∷ more) → (first ≡ quote) ⊎ (is_nondigit first ≡ true)
quoted_first quote plain first more h =
    head_of quote h.0 (plain ++ quote ∷ []) first more (prefix_leads quote h.0 h.1) h.2

-- what stands behind the first of its quotes
pub quoted_behind : (quote other : ℕ) (prefix plain more : List ℕ) → is_name_byte quote ≡ false → is_name_byte other ≡ false → Leads prefix → IsQuoted other plain (prefix ++ quote ∷ more) → (is_prefix other prefix ≡ true) × (quote ≡ other) × (more ≡ plain ++ other ∷ [])
quoted_behind quote other prefix plain more apart apart' leads h =
    let same = same_prefix prefix h.0 quote other more (plain ++ other ∷ []) leads (prefix_leads other h.0 h.1) apart apart' h.2 in
    (ap (is_prefix other) same.0 ∙ h.1, same.1, same.2)
