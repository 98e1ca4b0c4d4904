-- Tokens without the operator `_Pragma`.
use Rattle.std.proofs.Common.{◌≡◌, Bool, true, false, ◌&&◌, ◌||◌, List, [], ◌∷◌, refl, sym, ap, ◌∙◌}
use Rattle.std.specs.Prelude.{codes}
use Rattle.std.specs.List.{list_any}
use Rattle.std.proofs.lemmas.Bool.{cond-false, or_parts}
use Rattle.ct_base.specs.declared.lexical.Token.{Token}
use Rattle.ct_directive.specs.Forms.{is, is_text_kind, is_pragma, without_pragmas}

-- where no token is the word of the operator, all stay
pub none_left_out : (tokens : List Token) → list_any (is (codes "_Pragma")) tokens ≡ false → without_pragmas tokens ≡ tokens
none_left_out [] none = refl
none_left_out (first ∷ []) none = refl
none_left_out (first ∷ second ∷ []) none = refl
none_left_out (first ∷ second ∷ third ∷ []) none = refl
none_left_out (first ∷ second ∷ third ∷ fourth ∷ rest) none =
    let parts = or_parts (is (codes "_Pragma") first) (list_any (is (codes "_Pragma")) (second ∷ third ∷ fourth ∷ rest)) none in
    cond-false (is_pragma first second third fourth) (without_pragmas rest) (first ∷ without_pragmas (second ∷ third ∷ fourth ∷ rest))
    (ap (λ (b : Bool). b && is (codes "(") second && is_text_kind third.kind && is (codes ")") fourth) parts.0)
    ∙ ap (λ (tokens : List Token). first ∷ tokens) (none_left_out (second ∷ third ∷ fourth ∷ rest) parts.1)
