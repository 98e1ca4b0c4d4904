-- Lists of parameters behind names that were read.
use Rattle.std.proofs.Common.{◌≡◌, ℕ, Bool, List, [], ◌∷◌, ◌++◌, refl, sym, ap, ◌∙◌, Option, Some, None, append_assoc, append-nil}
use Rattle.ct_base.specs.declared.lexical.Token.{Token}
use Rattle.ct_directive.specs.declared.definitions.Parameters.{Parameters}
use Rattle.ct_directive.specs.Forms.{with_names}

abbrev pub made : List (List ℕ) → Bool → List Token → Option Parameters
made names variadic body = Some (record { names = names; variadic = variadic; body = body })

one_more : (names : List (List ℕ)) (name : List ℕ) (found : Option Parameters)
    → with_names (names ++ name ∷ []) found ≡ with_names names (with_names (name ∷ []) found)
one_more names name None = refl
one_more names name (Some list) =
    ap (λ (all : List (List ℕ)). made all list.variadic list.body) (append_assoc names (name ∷ []) list.names)

-- the name of the next parameter is read
pub goes_on : (names more : List (List ℕ)) (name : List ℕ) (before after whole : Option Parameters)
    → with_names names before ≡ whole → before ≡ with_names (name ∷ []) after → more ≡ names ++ name ∷ [] → with_names more after ≡ whole
goes_on names more name before after whole e next pushed =
    ap (λ (all : List (List ℕ)). with_names all after) pushed ∙ one_more names name after ∙ sym (ap (with_names names) next) ∙ e

-- the list ends here
pub ends : (names : List (List ℕ)) (before ending whole : Option Parameters) (variadic : Bool) (body : List Token)
    → with_names names before ≡ whole → before ≡ ending → ending ≡ made [] variadic body
    → made names variadic body ≡ whole
ends names before ending whole variadic body e last found =
    ap (λ (all : List (List ℕ)). made all variadic body) (sym (append-nil names))
    ∙ sym (ap (with_names names) (last ∙ found)) ∙ e

pub ends_not : (names : List (List ℕ)) (before ending whole : Option Parameters)
    → with_names names before ≡ whole → before ≡ ending → ending ≡ None → None ≡ whole
ends_not names before ending whole e last found = sym (ap (with_names names) (last ∙ found)) ∙ e

pub ruleset listing_rules = (goes_on, ends, ends_not)
