-- The units of the form as test projects.
use Rattle.std.proofs.Common.{◌≡◌, ◌≢◌, ℕ, zero, suc, ◌+◌, ◌<◌, ◌≤◌, Bool, true, false, List, [], ◌∷◌, ◌++◌, map, length, refl, sym, ap, subst, ◌∙◌, ⊎_elim, arith}
use Rattle.std.specs.Prelude.{All, Option, Some, None, Result, Ok, Err, bytes_eq, codes, filter, slice_get, slice_index_or}
use Rattle.std.specs.List.{Contains, list_any}
use Rattle.std.proofs.lemmas.Bool.{or_cases, or_left, or_right, true≢false, false≢true}
use Rattle.std.proofs.lemmas.List.Elements.{All-cons, All-nil}
use Rattle.std.proofs.lemmas.Slice.Eq.{bytes_eq-Decides}
use Rattle.ct_base.specs.declared.lexical.Token.{Token}
use Rattle.ct_core.specs.declared.values.Space.TheVariants.{Project}
use Rattle.ct_core.specs.declared.units.CoreUnit.{CoreUnit}
use Rattle.ct_core.specs.declared.units.CoreFunction.{CoreFunction}
use Rattle.ct_form.specs.declared.names.Signature.{Signature}
use Rattle.ct_form.specs.Names.{is_signed}
use Rattle.ct_form.specs.Functions.{IsFunction}
use Rattle.ct_form.specs.Statements.{mark}
use Rattle.ct_form.specs.Form.{Before, HasForm, Reads, StandsFunction, ends, include, function, outside, led_by, most_functions, start, unit_of, with_function, with_include}
use Rattle.ct_phases.specs.Linked.{AreNamedApart, IsProjectFunction, IsProjectUnit, IsTestProject, function_in, is_ordinary, runner_of, table_in_order}
use Rattle.ct_meaning_laws.specs.Names.{statement_names}
use Rattle.ct_meaning.specs.Written.{is_test, written_log, written_world}
use Rattle.ct_meaning_laws.proofs.NameLaws.{block_names}
use Rattle.ct_outside.specs.Files.{EachOnce}
use Rattle.ct_top.specs.Meaning.{step_budget, unit_log}
use Rattle.ct_top.proofs.BodyNames.{body_ordinary}
use Rattle.ct_top.proofs.FreeNames.{free_parts, not_reserved, whole_name}
use Rattle.ct_top.proofs.Members.{contains_first, contains_more, contains_cases, contains_none}
use Rattle.ct_top.proofs.NameLemmas.{once_push}
use Rattle.std.specs.List.{starts_with}
use Rattle.std.proofs.Common.{nat_eq}

-- what the form says of a function but for its line
pub record IsNamed (f : CoreFunction) : Type 0 where
  pub whole : All (λ (b : ℕ). b ≢ 0) f.name
  pub unreserved : starts_with nat_eq f.name (codes "ceedling_run_") ≡ false
  pub no_main : f.name ≢ codes "main"
  pub names : statement_names is_ordinary f.body ≡ true

differs : (text : List ℕ) → bytes_eq text (codes "main") ≡ false → text ≢ codes "main"
differs text e same = false≢true (sym e ∙ (bytes_eq-Decides text (codes "main")).1 same)

function_named : (signatures : List Signature) (unity : Bool) (serial next : ℕ) (tokens rest : List Token) (f : CoreFunction) (signature : Signature)
    → IsFunction signatures unity serial tokens f signature next rest → IsNamed f
function_named signatures unity serial next tokens rest f signature h =
    let parts = free_parts h.name.text h.is_name.free in
    subst IsNamed (sym h.function_is) (record {
      whole = whole_name h.name.text parts.0;
      unreserved = not_reserved h.name.text parts.1;
      no_main = differs h.name.text parts.2;
      names = block_names is_ordinary (mark h.heading) h.numbers h.parts ∙ body_ordinary (signatures ++ signature ∷ []) unity h.gives_value h.body;
    })

-- ---- names that stand once

abbrev pub signed : List Signature → List (List ℕ)
signed signatures = map (λ (s : Signature). s.name) signatures

abbrev pub named : List CoreFunction → List (List ℕ)
named functions = map (λ (f : CoreFunction). f.name) functions

name_found : (name : List ℕ) (signatures : List Signature) → Contains (signed signatures) name → list_any (is_signed name) signatures ≡ true
name_found name [] h = absurd (contains_none name h)
name_found name (s ∷ ss) h = ⊎_elim
    (λ same. or_left (bytes_eq s.name name) (list_any (is_signed name) ss) ((bytes_eq-Decides s.name name).1 same))
    (λ later. or_right (bytes_eq s.name name) (list_any (is_signed name) ss) (name_found name ss later))
    (contains_cases s.name (signed ss) name h)

signed_push : (signatures : List Signature) (s : Signature) → signed (signatures ++ s ∷ []) ≡ signed signatures ++ s.name ∷ []
signed_push [] s = refl
signed_push (x ∷ xs) s = ap (λ names. x.name ∷ names) (signed_push xs s)

moved : (xs ys : List (List ℕ)) (x : List ℕ) → (xs ++ x ∷ []) ++ ys ≡ xs ++ x ∷ ys
moved [] ys x = refl
moved (y ∷ xs) ys x = ap (λ names. y ∷ names) (moved xs ys x)

length_push : (signatures : List Signature) (s : Signature) → length (signatures ++ s ∷ []) ≡ length signatures + 1
length_push [] s = refl
length_push (x ∷ xs) s = let r = length_push xs s in omega (arith, r)

-- ---- the functions of a file

-- what holds of the functions that are read from a place on
pub record AreRead (before : Before) (functions : List CoreFunction) : Type 0 where
  pub are : All IsNamed functions
  pub few : length before.signatures ≤ most_functions → length before.signatures + length functions ≤ most_functions
  pub once : EachOnce (signed before.signatures) → EachOnce (signed before.signatures ++ named functions)

abbrev pub IfRead : Before → Result (List CoreFunction) Token → Type 0
IfRead before (Ok functions) = AreRead before functions
IfRead before (Err token) = Unit {0}

no_more : (xs : List (List ℕ)) → xs ++ [] ≡ xs
no_more [] = refl
no_more (x ∷ xs) = ap (λ ys. x ∷ ys) (no_more xs)

one_more : (before : Before) (tokens rest : List Token) (f : CoreFunction) (signature : Signature) (next : ℕ) (outcome : Result (List CoreFunction) Token)
    → StandsFunction before tokens f signature next rest → IfRead (with_function before signature next) outcome → IfRead before (led_by f outcome)
one_more before tokens rest f signature next (Err token) stands read = tt
one_more before tokens rest f signature next (Ok functions) stands read =
    let is = stands.1 in
    let name : signature.name ≡ f.name = ap (λ (s : Signature). s.name) is.signature_is ∙ sym (ap (λ (g : CoreFunction). g.name) is.function_is) in
    let new : Contains (signed before.signatures) signature.name → ⊥ =
    λ h. false≢true (sym is.is_new ∙ name_found is.name.text before.signatures (subst (Contains (signed before.signatures)) (ap (λ (s : Signature). s.name) is.signature_is) h)) in
    record {
      are = All-cons IsNamed f functions (function_named before.signatures before.unity before.serial next tokens rest f signature is) read.are;
      few = λ at_most. let l = length_push before.signatures signature in let r = read.few (omega (arith, l, stands.0)) in omega (arith, l, r);
      once = λ once. subst EachOnce
          (ap (λ names. names ++ named functions) (signed_push before.signatures signature)
          ∙ moved (signed before.signatures) (named functions) signature.name
          ∙ ap (λ n. signed before.signatures ++ n ∷ named functions) name)
          (read.once (subst EachOnce (sym (signed_push before.signatures signature)) (once_push (signed before.signatures) signature.name new once)));
    }

all_read : (before : Before) (tokens : List Token) (outcome : Result (List CoreFunction) Token) → Reads before tokens outcome → IfRead before outcome
all_read before tokens _ (ends e) =
    record { are = All-nil IsNamed; few = λ at_most. omega (arith, at_most); once = λ once. subst EachOnce (sym (no_more (signed before.signatures))) once }
all_read before tokens outcome (include {rest = rest} i r) =
    let read = all_read (with_include before) rest outcome r in same_read before outcome read
  where
    same_read : (before : Before) (outcome : Result (List CoreFunction) Token) → IfRead (with_include before) outcome → IfRead before outcome
    same_read before (Ok functions) read = record { are = read.are; few = read.few; once = read.once }
    same_read before (Err token) read = tt
all_read before tokens _ (function {rest = rest} {outcome = outcome} {function = f} {signature = signature} {next = next} s r) =
    one_more before tokens rest f signature next outcome s (all_read (with_function before signature next) rest outcome r)
all_read before tokens _ (outside e i f) = tt

-- ---- places of names

none_or_some : (f : CoreFunction) → ◌≡◌ {A = Option CoreFunction} None (Some f) → ⊥
none_or_some f e = cc

same_some : (f g : CoreFunction) → ◌≡◌ {A = Option CoreFunction} (Some f) (Some g) → f ≡ g
same_some f g e = cc

stands_named : (functions : List CoreFunction) (place : ℕ) (f : CoreFunction) → slice_get functions place ≡ Some f → Contains (named functions) f.name
stands_named [] place f e = absurd (none_or_some f e)
stands_named (x ∷ xs) zero f e = subst (λ (g : CoreFunction). Contains (named (x ∷ xs)) g.name) (same_some x f e) (contains_first x.name (named xs))
stands_named (x ∷ xs) (suc place) f e = contains_more x.name (named xs) f.name (stands_named xs place f e)

one_place : (functions : List CoreFunction) (i j : ℕ) (f g : CoreFunction) → EachOnce (named functions)
    → slice_get functions i ≡ Some f → slice_get functions j ≡ Some g → f.name ≡ g.name → i ≡ j
one_place [] i j f g once e h same = absurd (none_or_some f e)
one_place (x ∷ xs) zero zero f g once e h same = refl
one_place (x ∷ xs) zero (suc j) f g once e h same =
    let name : g.name ≡ x.name = sym same ∙ ap (λ (y : CoreFunction). y.name) (sym (same_some x f e)) in
    absurd (once.0 (subst (Contains (named xs)) name (stands_named xs j g h)))
one_place (x ∷ xs) (suc i) zero f g once e h same =
    let name : f.name ≡ x.name = same ∙ ap (λ (y : CoreFunction). y.name) (sym (same_some x g h)) in
    absurd (once.0 (subst (Contains (named xs)) name (stands_named xs i f e)))
one_place (x ∷ xs) (suc i) (suc j) f g once e h same = ap suc (one_place xs i j f g once.1 e h same)

apart : (u : CoreUnit) → EachOnce (named u.functions) → AreNamedApart (u ∷ [])
apart u once zero place zero at f g e h p q same = (refl, one_place u.functions place at f g once e h same)
apart u once zero place (suc other) at f g e h p q same = absurd (none_or_some g h)
apart u once (suc unit) place other at f g e h p q same = absurd (none_or_some f e)

fewer : (functions : List CoreFunction) → length (filter is_test functions) ≤ length functions
fewer [] = omega arith
fewer (f ∷ fs) = let r = fewer fs in by_case (is_test f) r
  where
    by_case : (b : Bool) → length (filter is_test fs) ≤ length fs → length (Rattle.std.specs.Prelude.cond b (f ∷ filter is_test fs) (filter is_test fs)) ≤ suc (length fs)
    by_case true r = omega (arith, r)
    by_case false r = omega (arith, r)

-- ---- the unit of a test file

-- The unit of a test file of the form, with lines that a compiler can count, is a test project, in which no two
-- functions have one name and none is `main`.
pub form_is_project : (path : List ℕ) (tokens : List Token) (unit : CoreUnit) → HasForm path tokens (Ok unit)
    → All (λ (f : CoreFunction). f.span.line < 4294967296) unit.functions
    → IsTestProject (unit ∷ []) × AreNamedApart (unit ∷ []) × All (λ (f : CoreFunction). f.name ≢ codes "main") unit.functions
form_is_project path tokens unit form lines =
    let read = all_read start tokens (Ok form.0) form.1 in
    let are : All IsNamed unit.functions = subst (λ (u : CoreUnit). All IsNamed u.functions) (sym form.2) read.are in
    let few : length unit.functions ≤ most_functions = subst (λ (u : CoreUnit). length u.functions ≤ most_functions) (sym form.2) (let few = read.few (omega arith) in omega (arith, few)) in
    let once : EachOnce (named unit.functions) = subst (λ (u : CoreUnit). EachOnce (named u.functions)) (sym form.2) (read.once tt) in
    let space : unit.space ≡ Project = ap (λ (u : CoreUnit). u.space) form.2 in
    let own : IsProjectUnit unit = record {
      space = space;
      functions = λ k d l. record { whole = (are k d l).whole; line = lines k d l; unreserved = (are k d l).unreserved; names = (are k d l).names };
    } in (
      record { first = unit; is_first = refl; own = All-cons IsProjectUnit unit [] own (All-nil IsProjectUnit); few = omega (arith, fewer unit.functions, few) },
      apart unit once,
      λ k d l. (are k d l).no_main,
    )

-- the log of a unit of the form, whose own path is that of the file
pub log_of_form : (path : List ℕ) (tokens : List Token) (unit : CoreUnit) → HasForm path tokens (Ok unit)
    → written_log (written_world (unit ∷ []) (table_in_order (unit ∷ runner_of (Rattle.std.specs.Prelude.unwrap_or (slice_get unit.files 0) []) (unit ∷ []) ∷ [])) step_budget) ≡ unit_log path unit
log_of_form path tokens unit form =
    let found : Rattle.std.specs.Prelude.unwrap_or (slice_get unit.files 0) [] ≡ path = ap (λ (u : CoreUnit). Rattle.std.specs.Prelude.unwrap_or (slice_get u.files 0) []) form.2 in
    ap (λ (p : List ℕ). written_log (written_world (unit ∷ []) (table_in_order (unit ∷ runner_of p (unit ∷ []) ∷ [])) step_budget)) found
