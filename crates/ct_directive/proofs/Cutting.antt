-- How tokens are cut into lines.
use Rattle.std.proofs.Common.{◌≡◌, Bool, true, false, List, [], ◌∷◌, ◌++◌, refl, sym, ap, ◌∙◌, length, arith, if◌then◌else◌, append_assoc, append-nil}
use Rattle.ct_base.specs.declared.lexical.Token.{Token}
use Rattle.ct_directive.specs.Lines.{begun, is_line_end, lines_of}

-- lines of which the first begins with these tokens too
abbrev pub begun_with : List Token → List (List Token) → List (List Token)
begun_with [] lines = lines
begun_with (token ∷ tokens) lines = begun token (begun_with tokens lines)

pub begun_more : (line : List Token) (token : Token) (lines : List (List Token)) → begun_with (line ++ token ∷ []) lines ≡ begun_with line (begun token lines)
begun_more [] token lines = refl
begun_more (first ∷ line) token lines = ap (begun first) (begun_more line token lines)

pub begun_end : (line : List Token) (token : Token) (lines : List (List Token)) → begun_with line ((token ∷ []) ∷ lines) ≡ (line ++ token ∷ []) ∷ lines
begun_end [] token lines = refl
begun_end (first ∷ line) token lines = ap (begun first) (begun_end line token lines)

pub begun_last : (first : Token) (line : List Token) → begun_with (first ∷ line) [] ≡ (first ∷ line) ∷ []
begun_last first [] = refl
begun_last first (next ∷ line) = ap (begun first) (begun_last next line)

-- what is cut stays the same while a token goes on with the line, or ends it
pub goes_on : (all lines : List (List Token)) (line : List Token) (token : Token) (rest : List Token)
    → all ≡ lines ++ begun_with line (lines_of (token ∷ rest)) → is_line_end token ≡ false → all ≡ lines ++ begun_with (line ++ token ∷ []) (lines_of rest)
goes_on all lines line token rest e kept =
    let cut : lines_of (token ∷ rest) ≡ begun token (lines_of rest) = ap (λ (b : Bool). if b then (token ∷ []) ∷ lines_of rest else begun token (lines_of rest)) kept in
    e ∙ ap (λ (ls : List (List Token)). lines ++ begun_with line ls) cut ∙ ap (λ (ls : List (List Token)). lines ++ ls) (sym (begun_more line token (lines_of rest)))

pub ends_here : (all lines : List (List Token)) (line : List Token) (token : Token) (rest : List Token)
    → all ≡ lines ++ begun_with line (lines_of (token ∷ rest)) → is_line_end token ≡ true
    → all ≡ (lines ++ (line ++ token ∷ []) ∷ []) ++ begun_with [] (lines_of rest)
ends_here all lines line token rest e ended =
    let cut : lines_of (token ∷ rest) ≡ (token ∷ []) ∷ lines_of rest = ap (λ (b : Bool). if b then (token ∷ []) ∷ lines_of rest else begun token (lines_of rest)) ended in
    e ∙ ap (λ (ls : List (List Token)). lines ++ begun_with line ls) cut ∙ ap (λ (ls : List (List Token)). lines ++ ls) (begun_end line token (lines_of rest))
    ∙ sym (append_assoc lines ((line ++ token ∷ []) ∷ []) (lines_of rest))

no_tokens : (rest : List Token) → length rest ≡ 0 → rest ≡ []
no_tokens [] e = refl
no_tokens (token ∷ rest) e = absurd (omega arith)

pub no_line : (all lines : List (List Token)) (line rest : List Token) → all ≡ lines ++ begun_with line (lines_of rest) → length rest ≡ 0 → line ≡ [] → lines ≡ all
no_line all lines line rest e done none =
    sym (e ∙ ap (λ (r : List Token). lines ++ begun_with line (lines_of r)) (no_tokens rest done) ∙ ap (λ (l : List Token). lines ++ begun_with l []) none ∙ append-nil lines)

pub last_line : (all lines : List (List Token)) (line rest : List Token) → all ≡ lines ++ begun_with line (lines_of rest) → length rest ≡ 0 → (line ≡ [] → ⊥)
    → lines ++ line ∷ [] ≡ all
last_line all lines [] rest e done some = absurd (some refl)
last_line all lines (first ∷ line) rest e done some =
    sym (e ∙ ap (λ (r : List Token). lines ++ begun_with (first ∷ line) (lines_of r)) (no_tokens rest done) ∙ ap (λ (ls : List (List Token)). lines ++ ls) (begun_last first line))

pub ruleset cutting_rules = (goes_on, ends_here, no_line, last_line)
