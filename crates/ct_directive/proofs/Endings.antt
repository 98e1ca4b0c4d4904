-- What stands at the ends of lists.
use Rattle.std.proofs.Common.{◌≡◌, ℕ, nat_eq, Bool, true, false, if◌then◌else◌, List, [], ◌∷◌, ◌++◌, length, drop, refl, sym, ap, subst, ◌∙◌, arith, Option, Some, None, Bor}
use Rattle.std.specs.Prelude.{MatchOption}
use Rattle.std.specs.Option.{option_copied}
use Rattle.std.specs.List.{starts_with}
use Rattle.std.specs.Str.{IsCharBoundary}
use Rattle.std.specs.Str.Pattern.{FindsTextPrefix, StripsPrefix}
use Rattle.std.proofs.lemmas.Str.Pattern.{starts_text}
use Rattle.ct_base.specs.declared.lexical.Token.{Token}
use Rattle.ct_directive.specs.Lines.{is_line_end, unended}

unended_at : (words : List Token) (last : Token) (ends : Bool) → is_line_end last ≡ ends → unended (words ++ last ∷ []) ≡ (if ends then words else words ++ last ∷ [])
unended_at [] last ends e = ap (λ (b : Bool). if b then [] else last ∷ []) e
unended_at (word ∷ []) last true e = ap (λ (ts : List Token). word ∷ ts) (unended_at [] last true e)
unended_at (word ∷ []) last false e = ap (λ (ts : List Token). word ∷ ts) (unended_at [] last false e)
unended_at (word ∷ next ∷ words) last true e = ap (λ (ts : List Token). word ∷ ts) (unended_at (next ∷ words) last true e)
unended_at (word ∷ next ∷ words) last false e = ap (λ (ts : List Token). word ∷ ts) (unended_at (next ∷ words) last false e)

pub unended_line : (tokens words : List Token) (last : Token) → tokens ≡ words ++ last ∷ [] → is_line_end last ≡ true → words ≡ unended tokens
unended_line tokens words last e ends = sym (ap unended e ∙ unended_at words last true ends)

pub unended_end : (tokens words : List Token) (last : Token) → tokens ≡ words ++ last ∷ [] → is_line_end last ≡ false → tokens ≡ unended tokens
unended_end tokens words last e ends = sym (ap unended e ∙ unended_at words last false ends ∙ sym e)

pub unended_none : (tokens : List Token) → length tokens ≡ 0 → tokens ≡ unended tokens
unended_none [] e = refl
unended_none (token ∷ tokens) e = absurd (omega arith)

pub ruleset unended_rules = (unended_line, unended_end, unended_none)

-- what a text has behind its front
pub behind_front : (prefix text : List ℕ) (found : Option (Bor (List ℕ)))
    → MatchOption found (FindsTextPrefix prefix text None) (λ x. StripsPrefix (FindsTextPrefix prefix) text x.now)
    → option_copied found ≡ (if starts_with nat_eq text prefix then Some (drop (length prefix) text) else None)
behind_front prefix text None h = ap (λ (b : Bool). if b then Some (drop (length prefix) text) else None) (starts_text false prefix text h)
behind_front prefix text (Some x) h =
    let n : h.0 ≡ length prefix = h.1.0 in
    let starts : true ≡ starts_with nat_eq text prefix = starts_text true prefix text (h.0, h.1, subst (λ (k : ℕ). IsCharBoundary text k) (sym n) h.1.2) in
    ap Some (h.2 ∙ ap (λ (k : ℕ). drop k text) n) ∙ ap (λ (b : Bool). if b then Some (drop (length prefix) text) else None) starts
