-- The words of a function spell one core tree, and end at one place.
use Rattle.std.proofs.Common.{◌≡◌, ℕ, ◌-◌, Bool, List, [], ◌∷◌, ◌++◌, length, refl, sym, ap, ◌∙◌}
use Rattle.ct_base.specs.declared.lexical.Token.{Token}
use Rattle.ct_core.specs.declared.trees.CoreStatement.{CoreStatement}
use Rattle.ct_core.specs.declared.trees.CoreStatement.TheVariants.{Block}
use Rattle.ct_core.specs.declared.units.Linkage.{Linkage}
use Rattle.ct_core.specs.declared.units.CoreFunction.{CoreFunction}
use Rattle.ct_form.specs.declared.names.Binding.{Binding}
use Rattle.ct_form.specs.declared.names.Signature.{Signature}
use Rattle.ct_form.specs.Words.{Stands, StandsName}
use Rattle.ct_form.specs.Names.{type_of}
use Rattle.ct_form.specs.Statements.{At, IsBody, mark, moved, begun, binding, declared, nested}
use Rattle.ct_form.specs.Functions.{IsLinkage, IsResult, IsParameters, IsParameterList, IsFunction, external, internal, nothing, value, last, more, none, some, signature_of}
use Rattle.ct_form.proofs.OneWord.{one_rest, not_both, one_name}
use Rattle.ct_form.proofs.OneStatement.{one_body}

pub Stands-at : {text : List ℕ} {t t' r : List Token} → t ≡ t' → Stands text t' r → Stands text t r
Stands-at p h = rw p h

pub StandsName-at : {t t' r : List Token} {name : Token} → t ≡ t' → StandsName t' name r → StandsName t name r
StandsName-at p h = rw p h

pub one_linkage : {t r r' : List Token} {l l' : Linkage} → IsLinkage t l r → IsLinkage t l' r' → (l ≡ l') × (r ≡ r')
one_linkage (external a) (external a') = (refl, refl)
one_linkage (external a) (internal w') = absurd (a _ w')
one_linkage (internal w) (external a') = absurd (a' _ w)
one_linkage (internal w) (internal w') = (refl, one_rest w w')

pub one_result : {t r r' : List Token} {v v' : Bool} → IsResult t v r → IsResult t v' r' → (v ≡ v') × (r ≡ r')
one_result (nothing w) (nothing w') = (refl, one_rest w w')
one_result (nothing w) (value w') = absurd (not_both w w' refl)
one_result (value w) (nothing w') = absurd (not_both w w' refl)
one_result (value w) (value w') = (refl, one_rest w w')

pub IsResult-at : {t t' r : List Token} {v : Bool} → t ≡ t' → IsResult t' v r → IsResult t v r
IsResult-at p h = rw p h

pub IsParameters-of : (own : List Binding) (at : At) {name name' : Token} {t t' : List Token} {all : List Binding} {after : At} → name ≡ name' → t ≡ t'
    → IsParameters (own ++ binding at name' ∷ []) (declared (moved at t') name') all after → IsParameters (own ++ binding at name ∷ []) (declared (moved at t) name) all after
IsParameters-of own at p q h = rw (p, q) h

same_declared : (at : At) {name name' : Token} {t t' : List Token} → name ≡ name' → t ≡ t' → declared (moved at t) name ≡ declared (moved at t') name'
same_declared at p q = rw (p, q)

one_parameters : {own all all' : List Binding} {at after after' : At}
    → IsParameters own at all after → IsParameters own at all' after' → (all ≡ all') × (after ≡ after')
one_parameters {own = own} {at = at} (last w v d l c) (last w' v' d' l' c') =
    let n = one_name v (StandsName-at (one_rest w w') v') in
    let e = one_rest c (Stands-at n.1 c') in
    (ap (λ (t : Token). own ++ binding at t ∷ []) n.0, same_declared at n.0 e)
one_parameters (last w v d l c) (more w' v' d' l' c' p') =
    let n = one_name v (StandsName-at (one_rest w w') v') in
    absurd (not_both c (Stands-at n.1 c') refl)
one_parameters (more w v d l c p) (last w' v' d' l' c') =
    let n = one_name v (StandsName-at (one_rest w w') v') in
    absurd (not_both c (Stands-at n.1 c') refl)
one_parameters {own = own} {at = at} (more w v d l c p) (more w' v' d' l' c' p') =
    let n = one_name v (StandsName-at (one_rest w w') v') in
    let e = one_rest c (Stands-at n.1 c') in
    one_parameters p (IsParameters-of own at n.0 e p')

pub one_parameter_list : {own own' : List Binding} {at after after' : At}
    → IsParameterList at own after → IsParameterList at own' after' → (own ≡ own') × (after ≡ after')
one_parameter_list {at = at} (none w c) (none w' c') = (refl, ap (moved at) (one_rest c (Stands-at (one_rest w w') c')))
one_parameter_list (none w c) (some a' p') = absurd (a' _ w)
one_parameter_list (some a p) (none w' c') = absurd (a _ w')
one_parameter_list (some a p) (some a' p') = one_parameters p p'

pub IsParameterList-of : {serial : ℕ} {t t' : List Token} {own : List Binding} {after : At} → t ≡ t'
    → IsParameterList (record { tokens = t'; serial = serial; variables = [] }) own after → IsParameterList (record { tokens = t; serial = serial; variables = [] }) own after
IsParameterList-of p h = rw p h

same_signature : {name name' : Token} {v v' : Bool} {own own' : List Binding} → name ≡ name' → v ≡ v' → own ≡ own' → signature_of name v own ≡ signature_of name' v' own'
same_signature p q r = rw (p, q, r)

IsBody-of : (signatures : List Signature) (unity : Bool) {s s' : Signature} {v v' : Bool} {own own' : List Binding} {at at' : At} {inside inside' : List Token} {n : List ℕ} {c : List CoreStatement} {after : At}
    → s ≡ s' → v ≡ v' → own ≡ own' → at ≡ at' → inside ≡ inside'
    → IsBody (signatures ++ s' ∷ []) unity v' (nested - 1) [] own' (begun at' inside') n c after → IsBody (signatures ++ s ∷ []) unity v (nested - 1) [] own (begun at inside) n c after
IsBody-of signatures unity p q r e f h = rw (p, q, r, e, f) h

function_of : Token → Signature → Linkage → List Binding → At → At → List ℕ → List CoreStatement → CoreFunction
function_of name signature linkage own heading ending numbers parts = record {
  name = name.text;
  kind = type_of signature;
  linkage = linkage;
  span = name.span;
  parameters = length own;
  variables = ending.variables;
  body = Block (mark heading) numbers parts;
}

same_function : {name name' : Token} {s s' : Signature} {l l' : Linkage} {own own' : List Binding} {h h' e e' : At} {n n' : List ℕ} {c c' : List CoreStatement}
    → name ≡ name' → s ≡ s' → l ≡ l' → own ≡ own' → h ≡ h' → e ≡ e' → n ≡ n' → c ≡ c'
    → function_of name s l own h e n c ≡ function_of name' s' l' own' h' e' n' c'
unfolding function_of
same_function p q r o h e n c = rw (p, q, r, o, h, e, n, c)

pub one_function : {signatures : List Signature} {unity : Bool} {serial : ℕ} {t r r' : List Token} {f f' : CoreFunction} {s s' : Signature} {n n' : ℕ}
    → IsFunction signatures unity serial t f s n r → IsFunction signatures unity serial t f' s' n' r' → (f ≡ f') × (s ≡ s') × (n ≡ n') × (r ≡ r')
unfolding function_of
one_function {signatures} {unity} a b =
    let l = one_linkage a.is_linkage b.is_linkage in
    let v = one_result a.is_result (IsResult-at l.1 b.is_result) in
    let m = one_name a.is_name (StandsName-at v.1 b.is_name) in
    let o = one_rest a.opened (Stands-at m.1 b.opened) in
    let p = one_parameter_list a.is_parameter_list (IsParameterList-of o b.is_parameter_list) in
    let s = a.signature_is ∙ same_signature m.0 v.0 p.0 ∙ sym b.signature_is in
    let i = one_rest a.braced (Stands-at (ap (λ (at : At). at.tokens) p.1) b.braced) in
    let y = one_body _ unity a.gives_value a.body (IsBody-of signatures unity s v.0 p.0 p.1 i b.body) in
    let e = same_function m.0 s l.0 p.0 p.1 y.2 y.0 y.1 in
    (a.function_is ∙ e ∙ sym b.function_is, s, a.next_is ∙ ap (λ (at : At). at.serial) y.2 ∙ sym b.next_is, a.rest_is ∙ ap (λ (at : At). at.tokens) y.2 ∙ sym b.rest_is)
