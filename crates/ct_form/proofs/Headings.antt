-- Which heading and which parameters stand at a place, or that none do, by what was read of them.
use Rattle.std.proofs.Common.{◌≡◌, ℕ, ◌<◌, ◌≤◌, ◌+◌, Bool, List, [], ◌∷◌, ◌++◌, length, false, refl, sym, ap, ◌∙◌, arith}
use Rattle.std.proofs.lemmas.List.{length-append}
use Rattle.std.specs.Prelude.{codes}
use Rattle.ct_base.specs.declared.lexical.Token.{Token}
use Rattle.ct_core.specs.declared.units.Linkage.{Linkage}
use Rattle.ct_form.specs.declared.names.Binding.{Binding}
use Rattle.ct_form.specs.Words.{Nothing, Stands, Absent, StandsName}
use Rattle.ct_form.specs.Names.{is_declared}
use Rattle.ct_form.specs.Functions.{IsLinkage, IsResult, IsParameters, IsParameterList, nothing, value, last, more, none, some}
use Rattle.ct_form.specs.Readers.{IsHeading, IsParameter}
use Rattle.ct_form.specs.Statements.{At, moved, binding, declared, most_variables}
use Rattle.ct_form.proofs.OneWord.{one_rest, not_both, one_name, Stands-shorter, StandsName-shorter}
use Rattle.ct_form.proofs.OneFunction.{one_linkage, one_result, IsResult-at, Stands-at, StandsName-at, IsParameters-of}

pub no_result : {t : List Token} → Absent (codes "void") t → Absent (codes "int") t → Nothing (IsResult t)
no_result a b what rest (nothing w) = a _ w
no_result a b what rest (value w) = b _ w

-- the heading of a function, as one thing
abbrev pub HeadingThere : List Token → Linkage × Bool × Token → List Token → Type 0
HeadingThere tokens what rest = IsHeading tokens what.0 what.1 what.2 rest

pub no_heading_result : {t kind_at : List Token} {l : Linkage} → IsLinkage t l kind_at → Nothing (IsResult kind_at) → Nothing (HeadingThere t)
no_heading_result l n what rest h = n _ _ (IsResult-at (one_linkage l h.is_linkage).1 h.is_result)

pub no_heading_name : {t kind_at name_at : List Token} {l : Linkage} {v : Bool}
    → IsLinkage t l kind_at → IsResult kind_at v name_at → Nothing (StandsName name_at) → Nothing (HeadingThere t)
no_heading_name l r n what rest h =
    let v = one_result r (IsResult-at (one_linkage l h.is_linkage).1 h.is_result) in
    n _ _ (StandsName-at v.1 h.is_name)

pub no_heading_open : {t kind_at name_at open_at : List Token} {l : Linkage} {v : Bool} {name : Token}
    → IsLinkage t l kind_at → IsResult kind_at v name_at → StandsName name_at name open_at → Absent (codes "(") open_at → Nothing (HeadingThere t)
no_heading_open l r n a what rest h =
    let v = one_result r (IsResult-at (one_linkage l h.is_linkage).1 h.is_result) in
    let m = one_name n (StandsName-at v.1 h.is_name) in
    a _ (Stands-at m.1 h.opened)

pub is_heading : {t kind_at name_at open_at rest : List Token} {l : Linkage} {v : Bool} {name : Token}
    → IsLinkage t l kind_at → IsResult kind_at v name_at → StandsName name_at name open_at → Stands (codes "(") open_at rest → IsHeading t l v name rest
is_heading {kind_at = kind_at} {name_at = name_at} {open_at = open_at} l r n w =
    record { kind_at = kind_at; name_at = name_at; open_at = open_at; is_linkage = l; is_result = r; is_name = n; opened = w }

-- one parameter
pub no_parameter_int : {own : List Binding} {at : At} → Absent (codes "int") at.tokens → Nothing (IsParameter own at)
no_parameter_int a what rest h = a _ h.is_int

pub no_parameter_name : {own : List Binding} {at : At} {behind : List Token} → Stands (codes "int") at.tokens behind → Nothing (StandsName behind) → Nothing (IsParameter own at)
no_parameter_name w n what rest h = n _ _ (StandsName-at (one_rest w h.is_int) h.is_name)

pub no_parameter_room : {own : List Binding} {at : At} {behind middle : List Token} {name : Token}
    → Stands (codes "int") at.tokens behind → StandsName behind name middle → (is_declared own name.text ≡ false → length at.variables < most_variables → ⊥)
    → Nothing (IsParameter own at)
no_parameter_room {own = own} w v n what rest h =
    let m = one_name v (StandsName-at (one_rest w h.is_int) h.is_name) in
    n (ap (λ (t : Token). is_declared own t.text) m.0 ∙ h.is_new) h.room

pub is_parameter : {own with_it : List Binding} {at after : At} {behind middle : List Token} {name : Token}
    → Stands (codes "int") at.tokens behind → StandsName behind name middle → is_declared own name.text ≡ false → length at.variables < most_variables
    → with_it ≡ own ++ binding at name ∷ [] → after ≡ declared (moved at middle) name → IsParameter own at with_it after
is_parameter {behind = behind} {middle = middle} {name = name} w v d l e f =
    record { behind = behind; name = name; middle = middle; is_int = w; is_name = v; is_new = d; room = l; with_it_is = e; after_is = f }

pub parameter-shorter : {own with_it : List Binding} {at after : At} → IsParameter own at with_it after → length after.tokens < length at.tokens
parameter-shorter h =
    let a = Stands-shorter h.is_int in
    let b = StandsName-shorter h.is_name in
    let c = ap (λ (at : At). length at.tokens) h.after_is in
    omega arith

same_after : (at : At) {name name' : Token} {t t' : List Token} → name ≡ name' → t ≡ t' → declared (moved at t) name ≡ declared (moved at t') name'
same_after at p q = rw (p, q)

-- one parameter or more
IsParameters-at : {own own' all : List Binding} {at at' after : At} → own ≡ own' → at ≡ at' → IsParameters own' at' all after → IsParameters own at all after
IsParameters-at p q h = rw (p, q) h

IsParameters-to : {own all all' : List Binding} {at after after' : At} → all ≡ all' → after ≡ after' → IsParameters own at all' after' → IsParameters own at all after
IsParameters-to p q h = rw (p, q) h

parameters_last : {own with_it : List Binding} {at middle after : At} {rest : List Token}
    → IsParameter own at with_it middle → Stands (codes ")") middle.tokens rest → after ≡ moved middle rest → IsParameters own at with_it after
parameters_last {rest = rest} h w e =
    let t = Stands-at (sym (ap (λ (at : At). at.tokens) h.after_is)) w in
    IsParameters-to h.with_it_is (e ∙ ap (λ (at : At). moved at rest) h.after_is) (last h.is_int h.is_name h.is_new h.room t)

parameters_more : {own with_it all : List Binding} {at middle next after : At} {rest : List Token}
    → IsParameter own at with_it middle → Stands (codes ",") middle.tokens rest → next ≡ moved middle rest → IsParameters with_it next all after → IsParameters own at all after
parameters_more {rest = rest} h w e p =
    let t = Stands-at (sym (ap (λ (at : At). at.tokens) h.after_is)) w in
    more h.is_int h.is_name h.is_new h.room t (IsParameters-at (sym h.with_it_is) (sym (e ∙ ap (λ (at : At). moved at rest) h.after_is)) p)

parameters_back : {own with_it all : List Binding} {at middle next after : At} {rest : List Token}
    → IsParameter own at with_it middle → Stands (codes ",") middle.tokens rest → next ≡ moved middle rest → IsParameters own at all after → IsParameters with_it next all after
parameters_back h w e (last w' v' d' l' c') =
    let m = one_name h.is_name (StandsName-at (one_rest h.is_int w') v') in
    let t = Stands-at (sym (ap (λ (at : At). at.tokens) h.after_is)) w in
    absurd (not_both t (Stands-at m.1 c') refl)
parameters_back {own = own} {at = at} {rest = rest} h w e (more w' v' d' l' c' p') =
    let m = one_name h.is_name (StandsName-at (one_rest h.is_int w') v') in
    let t = Stands-at (sym (ap (λ (at : At). at.tokens) h.after_is)) w in
    let r = one_rest t (Stands-at m.1 c') in
    IsParameters-at h.with_it_is (e ∙ ap (λ (at : At). moved at rest) h.after_is) (IsParameters-of own at m.0 r p')

-- Parameters are read from a first place up to some declarations and a place: they go on from there, and in no other way.
pub record ParametersRead (first : At) (own : List Binding) (at : At) : Type 0 where
  pub forth : (all : List Binding) (after : At) → IsParameters own at all after → IsParameters [] first all after
  pub back : (all : List Binding) (after : At) → IsParameters [] first all after → IsParameters own at all after

pub parameters_begin : (first : At) (own : List Binding) → own ≡ [] → ParametersRead first own first
parameters_begin first own e = record {
  forth = λ all after p. IsParameters-at (sym e) refl p;
  back = λ all after p. IsParameters-at e refl p;
}

pub parameters_go_on : {first : At} {own with_it : List Binding} {at middle next : At} {rest : List Token}
    → ParametersRead first own at → IsParameter own at with_it middle → Stands (codes ",") middle.tokens rest → next ≡ moved middle rest
    → ParametersRead first with_it next
parameters_go_on r h w e = record {
  forth = λ all after p. r.forth all after (parameters_more h w e p);
  back = λ all after p. parameters_back h w e (r.back all after p);
}

pub parameters_end : {first : At} {own with_it : List Binding} {at middle after : At} {rest : List Token}
    → ParametersRead first own at → IsParameter own at with_it middle → Stands (codes ")") middle.tokens rest → after ≡ moved middle rest
    → IsParameters [] first with_it after
parameters_end r h w e = r.forth _ _ (parameters_last h w e)

no_first : {own all : List Binding} {at after : At} → Nothing (IsParameter own at) → IsParameters own at all after → ⊥
no_first n (last w v d l c) = n _ _ (is_parameter w v d l refl refl)
no_first n (more w v d l c p) = n _ _ (is_parameter w v d l refl refl)

pub no_parameter : {first : At} {own : List Binding} {at : At} → ParametersRead first own at → Nothing (IsParameter own at) → Nothing (IsParameters [] first)
no_parameter r n all after p = no_first n (r.back all after p)

no_end : {own with_it all : List Binding} {at middle after : At}
    → IsParameter own at with_it middle → Absent (codes ")") middle.tokens → Absent (codes ",") middle.tokens → IsParameters own at all after → ⊥
no_end h a b (last w' v' d' l' c') =
    let m = one_name h.is_name (StandsName-at (one_rest h.is_int w') v') in
    a _ (Stands-at (ap (λ (at : At). at.tokens) h.after_is ∙ m.1) c')
no_end h a b (more w' v' d' l' c' p') =
    let m = one_name h.is_name (StandsName-at (one_rest h.is_int w') v') in
    b _ (Stands-at (ap (λ (at : At). at.tokens) h.after_is ∙ m.1) c')

pub no_parameter_end : {first : At} {own with_it : List Binding} {at middle : At}
    → ParametersRead first own at → IsParameter own at with_it middle → Absent (codes ")") middle.tokens → Absent (codes ",") middle.tokens
    → Nothing (IsParameters [] first)
no_parameter_end r h a b all after p = no_end h a b (r.back all after p)

-- the list of parameters
pub no_list_end : {at : At} {behind : List Token} → Stands (codes "void") at.tokens behind → Absent (codes ")") behind → Nothing (IsParameterList at)
no_list_end w a own after (none w' c') = a _ (Stands-at (one_rest w w') c')
no_list_end w a own after (some b p) = b _ w

pub is_none : {at after : At} {own : List Binding} {behind rest : List Token}
    → Stands (codes "void") at.tokens behind → Stands (codes ")") behind rest → own ≡ [] → after ≡ moved at rest → IsParameterList at own after
is_none w c e f = rw (e, f) (none w c)

pub no_list : {at : At} → Absent (codes "void") at.tokens → Nothing (IsParameters [] at) → Nothing (IsParameterList at)
no_list a n own after (none w c) = a _ w
no_list a n own after (some b p) = n _ _ p

few_parameters : {own all : List Binding} {at after : At} → length own ≡ length at.variables → IsParameters own at all after → length all ≤ most_variables
few_parameters {own = own} {at = at} e (last {name = name} w v d l c) = omega (arith, e, l, length-append own (binding at name ∷ []))
few_parameters {own = own} {at = at} e (more {name = name} w v d l c p) =
    few_parameters (length-append own (binding at name ∷ []) ∙ ap (λ n. n + 1) e ∙ sym (length-append at.variables _)) p

-- a function has at most as many parameters as variables
pub few : {at after : At} {own : List Binding} → at.variables ≡ [] → IsParameterList at own after → length own ≤ most_variables
few e (none w c) = omega arith
few e (some a p) = few_parameters (sym (ap length e)) p

-- a heading is read in one way
pub one_heading : {t r r' : List Token} {l l' : Linkage} {v v' : Bool} {n n' : Token}
    → IsHeading t l v n r → IsHeading t l' v' n' r' → (l ≡ l') × (v ≡ v') × (n ≡ n') × (r ≡ r')
one_heading a b =
    let l = one_linkage a.is_linkage b.is_linkage in
    let v = one_result a.is_result (IsResult-at l.1 b.is_result) in
    let m = one_name a.is_name (StandsName-at v.1 b.is_name) in
    (l.0, v.0, m.0, one_rest a.opened (Stands-at m.1 b.opened))

-- what follows the parameters is shorter
parameters-shorter : {own all : List Binding} {at after : At} → IsParameters own at all after → length after.tokens < length at.tokens
parameters-shorter (last w v d l c) =
    let a = Stands-shorter w in
    let b = StandsName-shorter v in
    let e = Stands-shorter c in
    omega arith
parameters-shorter (more w v d l c p) =
    let a = Stands-shorter w in
    let b = StandsName-shorter v in
    let e = Stands-shorter c in
    let f = parameters-shorter p in
    omega arith

pub list-shorter : {at after : At} {own : List Binding} → IsParameterList at own after → length after.tokens < length at.tokens
list-shorter (none w c) =
    let a = Stands-shorter w in
    let b = Stands-shorter c in
    omega arith
list-shorter (some a p) = parameters-shorter p
