-- Which function stands at a place, or that none does, by what was read of it.
use Rattle.std.proofs.Common.{◌≡◌, ℕ, ◌-◌, ◌<◌, ◌≤◌, Bool, List, [], ◌∷◌, ◌++◌, length, false, refl, sym, ap, ◌∙◌, subst, arith}
use Rattle.std.specs.Prelude.{IsTrue, codes}
use Rattle.std.specs.List.{list_any}
use Rattle.ct_base.specs.declared.lexical.Token.{Token}
use Rattle.ct_ctype.specs.declared.types.FunctionType.{FunctionType}
use Rattle.ct_core.specs.declared.trees.CoreStatement.{CoreStatement}
use Rattle.ct_core.specs.declared.trees.CoreStatement.TheVariants.{Block}
use Rattle.ct_core.specs.declared.trees.Mark.{Mark}
use Rattle.ct_core.specs.declared.units.CoreFunction.{CoreFunction}
use Rattle.ct_core.specs.declared.units.Linkage.{Linkage}
use Rattle.ct_core.specs.declared.units.Variable.{Variable}
use Rattle.ct_form.specs.declared.names.Binding.{Binding}
use Rattle.ct_form.specs.declared.names.Signature.{Signature}
use Rattle.ct_form.specs.Words.{Nothing, Stands, Absent}
use Rattle.ct_form.specs.Names.{is_signed, type_of}
use Rattle.ct_form.specs.Functions.{IsLinkage, IsResult, IsParameterList, IsFunction, external, internal, nothing, value, is_allowed, signature_of}
use Rattle.ct_form.specs.Readers.{IsHeading, IsDefinition}
use Rattle.ct_form.specs.Statements.{At, IsBody, mark, begun, nested}
use Rattle.ct_form.proofs.OneWord.{one_rest, Stands-shorter, StandsName-shorter}
use Rattle.ct_form.proofs.OneFunction.{IsParameterList-of, one_parameter_list}
use Rattle.ct_form.proofs.Headings.{HeadingThere, one_heading, list-shorter}
use Rattle.ct_form.proofs.ShorterStatement.{body-shorter}

-- a function, as one thing with the signatures up to its own
abbrev pub FunctionThere : List Signature → Bool → ℕ → List Token → CoreFunction × List Signature × ℕ → List Token → Type 0
FunctionThere signatures unity serial tokens what rest =
    (signature : Signature) × IsFunction signatures unity serial tokens what.0 signature what.2 rest × (what.1 ≡ signatures ++ signature ∷ [])

abbrev pub DefinitionThere : List Signature → Bool → Linkage → Bool → Token → List Binding → At → CoreFunction × List Signature × ℕ → List Token → Type 0
DefinitionThere signatures unity linkage gives_value name own heading what rest =
    IsDefinition signatures unity linkage gives_value name own heading what.0 what.2 rest
    × (what.1 ≡ signatures ++ signature_of name gives_value own ∷ [])

-- where the parameters begin
abbrev pub first_place : ℕ → List Token → At
first_place serial tokens = record { tokens = tokens; serial = serial; variables = [] }

abbrev function_of : Token → FunctionType → Linkage → ℕ → List Variable → Mark → List ℕ → List CoreStatement → CoreFunction
function_of name kind linkage parameters variables m numbers parts = record {
  name = name.text;
  kind = kind;
  linkage = linkage;
  span = name.span;
  parameters = parameters;
  variables = variables;
  body = Block m numbers parts;
}

same_function : (name : Token) (linkage : Linkage) (numbers : List ℕ) (parts : List CoreStatement) {kind kind' : FunctionType} {n n' : ℕ} {v v' : List Variable} {m m' : Mark}
    → kind ≡ kind' → n ≡ n' → v ≡ v' → m ≡ m' → function_of name kind linkage n v m numbers parts ≡ function_of name kind' linkage n' v' m' numbers parts
same_function name linkage numbers parts p q r s = rw (p, q, r, s)

heading_of : {signatures : List Signature} {unity : Bool} {serial : ℕ} {t rest : List Token} {f : CoreFunction} {s : Signature} {next : ℕ}
    → (h : IsFunction signatures unity serial t f s next rest) → IsHeading t h.linkage h.gives_value h.name h.first_at
heading_of h = record {
  kind_at = h.kind_at;
  name_at = h.name_at;
  open_at = h.open_at;
  is_linkage = h.is_linkage;
  is_result = h.is_result;
  is_name = h.is_name;
  opened = h.opened;
}

definition_of : {signatures : List Signature} {unity : Bool} {serial : ℕ} {t rest : List Token} {f : CoreFunction} {s : Signature} {next : ℕ}
    → (h : IsFunction signatures unity serial t f s next rest) → IsDefinition signatures unity h.linkage h.gives_value h.name h.own h.heading f next rest
definition_of {signatures} {unity} {f = f} h = record {
  is_new = h.is_new;
  allowed = subst (λ (s : Signature). IsTrue (is_allowed s)) h.signature_is h.allowed;
  inside = h.inside;
  braced = h.braced;
  numbers = h.numbers;
  parts = h.parts;
  ending = h.ending;
  body = subst (λ (s : Signature). IsBody (signatures ++ s ∷ []) unity h.gives_value (nested - 1) [] h.own (begun h.heading h.inside) h.numbers h.parts h.ending) h.signature_is h.body;
  function_is = h.function_is ∙ same_function h.name h.linkage h.numbers h.parts (ap type_of h.signature_is) refl refl refl;
  next_is = h.next_is;
  rest_is = h.rest_is;
}

IsDefinition-of : {signatures : List Signature} {unity : Bool} {l l' : Linkage} {v v' : Bool} {name name' : Token} {own own' : List Binding} {at at' : At} {f : CoreFunction} {next : ℕ} {rest : List Token}
    → l ≡ l' → v ≡ v' → name ≡ name' → own ≡ own' → at ≡ at'
    → IsDefinition signatures unity l' v' name' own' at' f next rest → IsDefinition signatures unity l v name own at f next rest
IsDefinition-of p q r o a h = rw (p, q, r, o, a) h

same_signature : {name name' : Token} {v v' : Bool} {own own' : List Binding} → name ≡ name' → v ≡ v' → own ≡ own' → signature_of name v own ≡ signature_of name' v' own'
same_signature p q r = rw (p, q, r)

IsParameterList-in : {at at' after : At} {own : List Binding} → at ≡ at' → IsParameterList at' own after → IsParameterList at own after
IsParameterList-in p h = rw p h

-- the whole function
pub no_function_heading : {signatures : List Signature} {unity : Bool} {serial : ℕ} {t : List Token}
    → Nothing (HeadingThere t) → Nothing (FunctionThere signatures unity serial t)
no_function_heading n what rest h = n (h.1.linkage, h.1.gives_value, h.1.name) h.1.first_at (heading_of h.1)

pub no_function_list : {signatures : List Signature} {unity : Bool} {serial : ℕ} {t first : List Token} {l : Linkage} {v : Bool} {name : Token} {at : At}
    → IsHeading t l v name first → at ≡ first_place serial first → Nothing (IsParameterList at) → Nothing (FunctionThere signatures unity serial t)
no_function_list i e n what rest h =
    let o = one_heading i (heading_of h.1) in
    n _ _ (IsParameterList-in e (IsParameterList-of o.3 h.1.is_parameter_list))

pub no_function_definition : {signatures : List Signature} {unity : Bool} {serial : ℕ} {t first : List Token} {l : Linkage} {v : Bool} {name : Token} {own : List Binding} {at heading : At}
    → IsHeading t l v name first → at ≡ first_place serial first → IsParameterList at own heading
    → Nothing (DefinitionThere signatures unity l v name own heading) → Nothing (FunctionThere signatures unity serial t)
no_function_definition {signatures = signatures} i e p n what rest h =
    let o = one_heading i (heading_of h.1) in
    let q = one_parameter_list p (IsParameterList-in e (IsParameterList-of o.3 h.1.is_parameter_list)) in
    n what rest (
      IsDefinition-of o.0 o.1 o.2 q.0 q.1 (definition_of h.1),
      h.2 ∙ ap (λ (s : Signature). signatures ++ s ∷ []) (h.1.signature_is ∙ sym (same_signature o.2 o.1 q.0)),
    )

pub is_function : {signatures new : List Signature} {unity : Bool} {serial next : ℕ} {t first rest : List Token} {l : Linkage} {v : Bool} {name : Token} {own : List Binding} {at heading : At} {f : CoreFunction}
    → IsHeading t l v name first → at ≡ first_place serial first → IsParameterList at own heading
    → DefinitionThere signatures unity l v name own heading (f, new, next) rest → FunctionThere signatures unity serial t (f, new, next) rest
is_function {first = first} {l = l} {v = v} {name = name} {own = own} {heading = heading} i e p d = (
  signature_of name v own,
  record {
    linkage = l;
    kind_at = i.kind_at;
    is_linkage = i.is_linkage;
    gives_value = v;
    name_at = i.name_at;
    is_result = i.is_result;
    name = name;
    open_at = i.open_at;
    is_name = i.is_name;
    first_at = first;
    opened = i.opened;
    own = own;
    heading = heading;
    is_parameter_list = IsParameterList-in (sym e) p;
    signature_is = refl;
    is_new = d.0.is_new;
    allowed = d.0.allowed;
    inside = d.0.inside;
    braced = d.0.braced;
    numbers = d.0.numbers;
    parts = d.0.parts;
    ending = d.0.ending;
    body = d.0.body;
    function_is = d.0.function_is;
    next_is = d.0.next_is;
    rest_is = d.0.rest_is;
  },
  d.1,
)

-- what stands behind the parameters
IsBody-of : {signatures signatures' : List Signature} {unity v : Bool} {room : ℕ} {base base' own own' : List Binding} {at at' after : At} {n : List ℕ} {c : List CoreStatement}
    → signatures ≡ signatures' → base ≡ base' → own ≡ own' → at ≡ at'
    → IsBody signatures' unity v room base' own' at' n c after → IsBody signatures unity v room base own at n c after
IsBody-of p q r s h = rw (p, q, r, s) h

module _ (signatures : List Signature) (unity : Bool) (linkage : Linkage) (gives_value : Bool) (name : Token) (own : List Binding) (heading : At) where
  pub no_definition_brace : Absent (codes "{") heading.tokens → Nothing (DefinitionThere signatures unity linkage gives_value name own heading)
  no_definition_brace a what rest d = a _ d.0.braced

  pub no_definition_body : {inside : List Token} {new : List Signature} {base own' : List Binding} {at : At}
      → Stands (codes "{") heading.tokens inside → new ≡ signatures ++ signature_of name gives_value own ∷ []
      → base ≡ [] → own' ≡ own → at ≡ begun heading inside
      → Nothing {C = List ℕ × List CoreStatement} {R = At} (λ what. IsBody new unity gives_value (nested - 1) base own' at what.0 what.1)
      → Nothing (DefinitionThere signatures unity linkage gives_value name own heading)
  no_definition_body w e b o f n what rest d =
      n (d.0.numbers, d.0.parts) d.0.ending (IsBody-of e b o (f ∙ ap (begun heading) (one_rest w d.0.braced)) d.0.body)

-- what follows a function is shorter
linkage-shorter : {t r : List Token} {l : Linkage} → IsLinkage t l r → length r ≤ length t
linkage-shorter (external a) = omega arith
linkage-shorter (internal w) = let x = Stands-shorter w in omega arith

result-shorter : {t r : List Token} {v : Bool} → IsResult t v r → length r < length t
result-shorter (nothing w) = Stands-shorter w
result-shorter (value w) = Stands-shorter w

pub function-shorter : {signatures : List Signature} {unity : Bool} {serial next : ℕ} {t rest : List Token} {f : CoreFunction} {s : Signature}
    → IsFunction signatures unity serial t f s next rest → length rest < length t
function-shorter h =
    let a = linkage-shorter h.is_linkage in
    let b = result-shorter h.is_result in
    let c = StandsName-shorter h.is_name in
    let d = Stands-shorter h.opened in
    let e = list-shorter h.is_parameter_list in
    let f = Stands-shorter h.braced in
    let g = body-shorter _ _ _ h.body in
    let r = ap length h.rest_is in
    omega arith

-- where no variable is declared yet
pub place_begins : (serial : ℕ) (tokens : List Token) (variables : List Variable) → variables ≡ []
    → ◌≡◌ {A = At} (record { tokens = tokens; serial = serial; variables = variables }) (first_place serial tokens)
place_begins serial tokens variables e = rw e
