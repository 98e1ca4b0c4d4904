-- What the functions on definitions compute.
use Rattle.std.proofs.Common.{◌≡◌, ◌-◌, ◌≤◌, ◌||◌, List, [], ◌∷◌, length, get_or, refl, sym, ap, ◌∙◌, arith}
use Rattle.ct_base.specs.declared.lexical.Token.{Token}
use Rattle.ct_macro_call.specs.Words.{is_paste}
use Rattle.ct_macro_call.specs.Definition.{ends_in_paste, has_outer_paste}

ends_at_last : (first : Token) (rest : List Token) (d : Token) → ends_in_paste first rest ≡ is_paste (get_or (first ∷ rest) (length rest) d)
ends_at_last first [] d = refl
ends_at_last first (next ∷ rest) d = ends_at_last next rest d

pub outer_paste : (body : List Token) (first last : Token) → 2 ≤ length body → first ≡ get_or body 0 first → last ≡ get_or body (length body - 1) last
    → has_outer_paste body ≡ (is_paste first || is_paste last)
outer_paste [] first last long first_is last_is = absurd (omega arith)
outer_paste (f ∷ rest) first last long first_is last_is =
    let k : length (f ∷ rest) - 1 ≡ length rest = omega arith in
    let e : last ≡ get_or (f ∷ rest) (length rest) last = last_is ∙ ap (λ n. get_or (f ∷ rest) n last) k in
    ap (λ b. is_paste f || b) (ends_at_last f rest last ∙ ap is_paste (sym e)) ∙ ap (λ t. is_paste t || is_paste last) (sym first_is)
