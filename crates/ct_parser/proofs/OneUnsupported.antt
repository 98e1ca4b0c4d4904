-- There is one first token that is left out.
use Rattle.std.proofs.Common.{◌≡◌, ℕ, suc, List, [], ◌∷◌, ◌++◌, length, refl, sym, ap, ◌∙◌, subst}
use Rattle.std.specs.List.{AllByRecursion}
use Rattle.std.proofs.lemmas.List.Elements.{recursion_from_All}
use Rattle.ct_base.specs.declared.lexical.Token.{Token}
use Rattle.ct_parser.specs.Unsupported.{IsUnsupported, IsFirst}
use Rattle.ct_parser.proofs.FirstUnsupported.{IsSupported}

-- what stands before the first one has one length
same_before : (xs ys : List Token) (t u : Token) (r s : List Token) → AllByRecursion IsSupported xs → AllByRecursion IsSupported ys → IsUnsupported t → IsUnsupported u → xs ++ t ∷ r ≡ ys ++ u ∷ s → length xs ≡ length ys
same_before [] [] t u r s hx hy ht hu e = refl
same_before [] (y ∷ ys) t u r s hx hy ht hu e =
    let head : t ≡ y = cc in absurd (hy.0 (subst IsUnsupported head ht))
same_before (x ∷ xs) [] t u r s hx hy ht hu e =
    let head : x ≡ u = cc in absurd (hx.0 (subst IsUnsupported (sym head) hu))
same_before (x ∷ xs) (y ∷ ys) t u r s hx hy ht hu e =
    let tail : xs ++ t ∷ r ≡ ys ++ u ∷ s = cc in
    ap suc (same_before xs ys t u r s hx.1 hy.1 ht hu tail)

pub same_first : (tokens : List Token) (a b : ℕ) → IsFirst tokens a → IsFirst tokens b → a ≡ b
same_first tokens a b one other =
    one.place_is
    ∙ same_before one.before other.before one.token other.token one.after other.after
    (recursion_from_All IsSupported one.before one.supported) (recursion_from_All IsSupported other.before other.supported)
    one.unsupported other.unsupported (sym one.split ∙ other.split)
    ∙ sym other.place_is
