-- Each header name has a meaning.
use Rattle.std.proofs.Common.{◌≡◌, ℕ, Bool, true, false, List, [], ◌∷◌, ◌++◌, Option, Some, None, refl, ap, subst, ◌⊎◌, inl, inr}
use Rattle.std.specs.Prelude.{◌||◌, is_some, MatchOption}
use Rattle.std.specs.Bool.{MatchBool}
use Rattle.std.specs.Option.{option_map}
use Rattle.std.specs.Str.{is_utf8}
use Rattle.std.specs.FinMap.{get}
use Rattle.ct_outside.specs.Files.{Files}
use Rattle.ct_outside.specs.Paths.{IsJoined, Leads, Steps, is_here, is_parent, joined_components, path_of}
use Rattle.ct_directive.specs.declared.heads.Heads.{Heads}
use Rattle.ct_directive.specs.declared.forms.Header.{Header}
use Rattle.ct_directive.specs.declared.search.Target.{Target}
use Rattle.ct_directive.specs.Headers.{BuiltIn}
use Rattle.ct_directive.specs.Search.{IsAt, IsFound, IsNotAt, IsThere, IsHeadTarget, Means, NameMeans, SearchMeans, built_in_named, head_target, is_own, mocked, or_built_in, places_of, scan_text, text_named}
use Rattle.ct_directive.proofs.Joining.{not_at_path, one_step}

-- something has this property
abbrev HasSome : {A : Type 0} → (A → Type 0) → Type 0
HasSome {A} Has = (a : A) × Has a

-- by a choice, or by a case
choice_some : {A : Type 0} (t : Bool) (P Q : A → Type 0) → HasSome P → HasSome Q → HasSome (λ (a : A). MatchBool t (P a) (Q a))
choice_some true P Q p q = p
choice_some false P Q p q = q

case_some : {A T : Type 0} (o : Option T) (P : A → Type 0) (Q : T → A → Type 0) → HasSome P → ((v : T) → HasSome (Q v))
    → HasSome (λ (a : A). MatchOption o (P a) (λ v. Q v a))
case_some None P Q p q = p
case_some (Some v) P Q p q = q v

-- it leads somewhere, or nowhere
abbrev Somewhere : {A : Type 0} → (A → Type 0) → Type 0
Somewhere {A} Leads = HasSome Leads ⊎ ((a : A) → Leads a → ⊥)

-- ---- where components lead

abbrev Parent : List (List ℕ) → Type 0
Parent xs = ((front : List (List ℕ)) × (name : List ℕ) × (xs ≡ front ++ name ∷ [])) ⊎ (xs ≡ [])

parent_of : (xs : List (List ℕ)) → Parent xs
parent_of [] = inr refl
parent_of (x ∷ xs) = by_rest (parent_of xs)
  where
    by_rest : Parent xs → Parent (x ∷ xs)
    by_rest (inl found) = inl (x ∷ found.0, found.1, ap (λ (l : List (List ℕ)). x ∷ l) found.2)
    by_rest (inr none) = inl ([], x, ap (λ (l : List (List ℕ)). x ∷ l) none)

nothing_before : (xs : List (List ℕ)) (x : List ℕ) → [] ≡ xs ++ x ∷ [] → ⊥
nothing_before [] x e = absurd (cc)
nothing_before (y ∷ xs) x e = absurd (cc)

step_at : (here up : Bool) (c : List ℕ) (from : List (List ℕ))
    → Somewhere (λ (to : List (List ℕ)). MatchBool here (to ≡ from) (MatchBool up ((name : List ℕ) × (from ≡ to ++ name ∷ [])) (to ≡ from ++ c ∷ [])))
step_at true up c from = inl (from, refl)
step_at false false c from = inl (from ++ c ∷ [], refl)
step_at false true c from = by_parent (parent_of from)
  where
    by_parent : Parent from → Somewhere (λ (to : List (List ℕ)). (name : List ℕ) × (from ≡ to ++ name ∷ []))
    by_parent (inl found) = inl (found.0, (found.1, found.2))
    by_parent (inr none) = inr (λ to up. nothing_before to up.0 (subst (λ (l : List (List ℕ)). l ≡ to ++ up.0 ∷ []) none up.1))

step_of : (c : List ℕ) (from : List (List ℕ)) → Somewhere (Steps c from)
step_of c from = step_at (is_here c) (is_parent c) c from

lead : (cs from : List (List ℕ)) → Somewhere (Leads cs from)
lead [] from = inl (from, refl)
lead (c ∷ cs) from = by_step (step_of c from) (λ next. lead cs next)
  where
    by_rest : (next : List (List ℕ)) → Steps c from next → Somewhere (Leads cs next) → Somewhere (Leads (c ∷ cs) from)
    by_rest next step (inl found) = inl (found.0, (next, step, found.1))
    by_rest next step (inr none) =
        inr (λ to leads. none to (subst (λ (f : List (List ℕ)). Leads cs f to) (one_step c from leads.0 next leads.1 step) leads.2))

    by_step : Somewhere (Steps c from) → ((next : List (List ℕ)) → Somewhere (Leads cs next)) → Somewhere (Leads (c ∷ cs) from)
    by_step (inl step) behind = by_rest step.0 step.1 (behind step.0)
    by_step (inr none) behind = inr (λ to leads. none leads.0 leads.1)

joined_path : (folder rest : List ℕ) → Somewhere (IsJoined folder rest)
joined_path folder rest = by_lead (lead (joined_components folder rest) [])
  where
    by_lead : Somewhere (Leads (joined_components folder rest) []) → Somewhere (IsJoined folder rest)
    by_lead (inl found) = inl (path_of found.0, (found.0, found.1, refl))
    by_lead (inr none) = inr (λ path joined. none joined.0 joined.1)

-- ---- the first folder with a file of a name

at_or_not : (files : Files) (folder name : List ℕ) → HasSome (IsAt files folder name) ⊎ IsNotAt files folder name
at_or_not files folder name = by_path (joined_path folder name)
  where
    by_text : (path : List ℕ) → IsJoined folder name path → (text : Option (List ℕ)) → get files path ≡ text → HasSome (IsAt files folder name) ⊎ IsNotAt files folder name
    by_text path joined (Some text) e = inl (record { path = path; text = text; built_in = false }, (joined, e, refl))
    by_text path joined None e = inr (not_at_path files folder name path joined e)

    by_path : Somewhere (IsJoined folder name) → HasSome (IsAt files folder name) ⊎ IsNotAt files folder name
    by_path (inl found) = by_text found.0 found.1 (get files found.0) refl
    by_path (inr none) = inr (λ path joined. absurd (none path joined))

each_found : (files : Files) (folders : List (List ℕ)) (name : List ℕ) → HasSome (IsFound files folders name)
each_found files [] name = (None, refl)
each_found files (folder ∷ folders) name = by_folder (at_or_not files folder name) (each_found files folders name)
  where
    by_folder : (HasSome (IsAt files folder name) ⊎ IsNotAt files folder name) → HasSome (IsFound files folders name) → HasSome (IsFound files (folder ∷ folders) name)
    by_folder (inl found) rest = (Some found.0, inl (found.0, found.1, refl))
    by_folder (inr none) rest = (rest.0, inr (none, rest.1))

-- ---- header names

each_search : (files : Files) (folders : List (List ℕ)) (headers : List BuiltIn) (path : List ℕ) (header : Header) → HasSome (SearchMeans files folders headers path header)
each_search files folders headers path header =
    let found = each_found files (places_of folders path header.quoted) header.name in
    (or_built_in headers header.name found.0, (found.0, found.1, refl))

each_there : (files : Files) (folders : List (List ℕ)) (prefix name : List ℕ) → HasSome (IsThere files folders prefix name)
each_there files folders prefix name =
    let found = each_found files folders name in
    choice_some (is_own name || is_some (mocked prefix name)) (λ answer. answer ≡ false)
    (λ answer. (found : Option Target) × IsFound files folders name found × (answer ≡ is_some found))
    (false, refl) (is_some found.0, (found.0, found.1, refl))

each_head : (files : Files) (folders : List (List ℕ)) (heads : Heads) (name header : List ℕ) → HasSome (IsHeadTarget files folders heads name header)
each_head files folders heads name header =
    let there = each_there files folders heads.prefix header in
    choice_some heads.scan
    (λ target. (there : Bool) × IsThere files folders heads.prefix header there × (target ≡ Some (head_target heads.folder name (scan_text header there))))
    (λ target. target ≡ option_map (head_target heads.folder name) (text_named heads.texts name))
    (Some (head_target heads.folder name (scan_text header there.0)), (there.0, there.1, refl))
    (option_map (head_target heads.folder name) (text_named heads.texts name), refl)

each_name : (files : Files) (folders : List (List ℕ)) (heads : Heads) (headers : List BuiltIn) (path : List ℕ) (header : Header)
    → HasSome (NameMeans files folders heads headers path header)
each_name files folders heads headers path header =
    choice_some (is_own header.name) (λ target. target ≡ built_in_named headers header.name)
    (λ target. MatchOption (mocked heads.prefix header.name) (SearchMeans files folders headers path header target) (λ head. IsHeadTarget files folders heads header.name head target))
    (built_in_named headers header.name, refl)
    (case_some (mocked heads.prefix header.name) (SearchMeans files folders headers path header) (IsHeadTarget files folders heads header.name)
    (each_search files folders headers path header) (each_head files folders heads header.name))

pub each_means : (files : Files) (folders : List (List ℕ)) (heads : Heads) (headers : List BuiltIn) (path : List ℕ) (header : Header)
    → (target : Option Target) × Means files folders heads headers path header target
each_means files folders heads headers path header =
    choice_some (is_utf8 header.name) (NameMeans files folders heads headers path header) (λ target. target ≡ None)
    (each_name files folders heads headers path header) (None, refl)
