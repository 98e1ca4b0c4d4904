-- What header names mean.
use Rattle.std.proofs.Common.{◌≡◌, ℕ, Bool, List, ◌∷◌, sym, subst, refl, Option, None, IfOk, inr}
use Rattle.std.specs.Prelude.{Result}
use Rattle.std.specs.Bool.{MatchBool}
use Rattle.std.specs.Str.{IsUtf8, is_utf8}
use Rattle.std.proofs.lemmas.Str.{IsUtf8-from_is_utf8, is_utf8-from_IsUtf8}
use Rattle.std.proofs.lemmas.Bool.{false_from_ne_true}
use Rattle.ct_outside.specs.Files.{Files}
use Rattle.ct_directive.specs.declared.forms.Header.{Header}
use Rattle.ct_directive.specs.declared.heads.Heads.{Heads}
use Rattle.ct_directive.specs.declared.search.Target.{Target}
use Rattle.ct_directive.specs.Headers.{BuiltIn}
use Rattle.ct_directive.specs.Search.{IsFound, IsNotAt, Means, NameMeans}
use Rattle.ct_directive.proofs.Choosing.{ok_true, ok_map}

-- a name that is no UTF-8 means nothing
pub no_text : (files : Files) (folders : List (List ℕ)) (heads : Heads) (headers : List BuiltIn) (path : List ℕ) (header : Header)
    → (IsUtf8 header.name → ⊥) → Means files folders heads headers path header None
no_text files folders heads headers path header h =
    subst (λ (b : Bool). MatchBool b (NameMeans files folders heads headers path header None) (◌≡◌ {A = Option Target} None None))
    (sym (false_from_ne_true (is_utf8 header.name) (λ e. h (IsUtf8-from_is_utf8 header.name e)))) refl

-- another one means what its bytes mean
pub text_means : {E : Type 0} (r : Result (Option Target) E) (files : Files) (folders : List (List ℕ)) (heads : Heads) (headers : List BuiltIn) (path : List ℕ) (header : Header) (name : List ℕ)
    → (name ≡ header.name) × IsUtf8 header.name
    → IfOk r (λ target. NameMeans files folders heads headers path (record { name = name; quoted = header.quoted }) target)
    → IfOk r (λ target. Means files folders heads headers path header target)
text_means r files folders heads headers path header name same h =
    ok_true (is_utf8 header.name) r (λ target. NameMeans files folders heads headers path header target) (λ target. target ≡ None)
    (is_utf8-from_IsUtf8 header.name same.1)
    (subst (λ (n : List ℕ). IfOk r (λ target. NameMeans files folders heads headers path (record { name = n; quoted = header.quoted }) target)) same.0 h)

pub ruleset naming_rules = (no_text, text_means)

-- a name that the folder of the file does not have is searched in the folders
pub found_behind : {E : Type 0} (r : Result (Option Target) E) (files : Files) (folder folder_is : List ℕ) (folders : List (List ℕ)) (name : List ℕ)
    → folder_is ≡ folder → IsNotAt files folder_is name → IfOk r (λ found. IsFound files folders name found)
    → IfOk r (λ found. IsFound files (folder ∷ folders) name found)
found_behind r files folder folder_is folders name same none h =
    ok_map r (λ found. IsFound files folders name found) (λ found. IsFound files (folder ∷ folders) name found)
    (λ found k. inr (subst (λ (f : List ℕ). IsNotAt files f name) same none, k)) h
