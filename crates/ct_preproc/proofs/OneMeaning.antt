-- An include means one thing at most.
use Rattle.std.proofs.Common.{◌≡◌, ℕ, inl, inr, Bool, true, false, List, [], ◌∷◌, ◌++◌, Option, Some, None, refl, sym, ap, subst, ◌∙◌}
use Rattle.std.specs.Prelude.{◌||◌, is_some, MatchOption}
use Rattle.std.specs.Bool.{MatchBool}
use Rattle.std.specs.Option.{option_map}
use Rattle.std.specs.Str.{is_utf8}
use Rattle.std.specs.FinMap.{get}
use Rattle.ct_outside.specs.Files.{Files}
use Rattle.ct_outside.specs.Paths.{IsJoined, Leads, Steps, is_here, is_parent, joined_components, path_of}
use Rattle.ct_directive.specs.declared.heads.Heads.{Heads}
use Rattle.ct_directive.specs.declared.forms.Header.{Header}
use Rattle.ct_directive.specs.declared.search.Target.{Target}
use Rattle.ct_directive.specs.Headers.{BuiltIn}
use Rattle.ct_directive.specs.Search.{IsAt, IsFound, IsNotAt, IsThere, IsHeadTarget, Means, NameMeans, SearchMeans, built_in_named, head_target, is_own, mocked, or_built_in, places_of, scan_text, text_named}
use Rattle.ct_preproc.proofs.OneAnswer.{HasOne, this_one, choice_one, case_one}

-- ---- where components lead

one_parent : (xs ys : List (List ℕ)) (x y : List ℕ) → xs ++ x ∷ [] ≡ ys ++ y ∷ [] → xs ≡ ys
one_parent [] [] x y e = refl
one_parent [] (b ∷ []) x y e = absurd (cc)
one_parent [] (b ∷ c ∷ ys) x y e = absurd (cc)
one_parent (a ∷ []) [] x y e = absurd (cc)
one_parent (a ∷ c ∷ xs) [] x y e = absurd (cc)
one_parent (a ∷ xs) (b ∷ ys) x y e =
    let first : a ≡ b = cc in
    let others : xs ++ x ∷ [] ≡ ys ++ y ∷ [] = cc in
    let more : xs ≡ ys = one_parent xs ys x y others in cc

one_step_at : (here up : Bool) (c : List ℕ) (from to to' : List (List ℕ))
    → MatchBool here (to ≡ from) (MatchBool up ((name : List ℕ) × (from ≡ to ++ name ∷ [])) (to ≡ from ++ c ∷ []))
    → MatchBool here (to' ≡ from) (MatchBool up ((name : List ℕ) × (from ≡ to' ++ name ∷ [])) (to' ≡ from ++ c ∷ [])) → to ≡ to'
one_step_at true up c from to to' s t = s ∙ sym t
one_step_at false true c from to to' s t = one_parent to to' s.0 t.0 (sym s.1 ∙ t.1)
one_step_at false false c from to to' s t = s ∙ sym t

one_step : (c : List ℕ) (from to to' : List (List ℕ)) → Steps c from to → Steps c from to' → to ≡ to'
one_step c from to to' s t = one_step_at (is_here c) (is_parent c) c from to to' s t

leads_one : (cs from : List (List ℕ)) → HasOne (Leads cs from)
leads_one [] from a b f g = f ∙ sym g
leads_one (c ∷ cs) from a b f g =
    leads_one cs g.0 a b (subst (λ (next : List (List ℕ)). Leads cs next a) (one_step c from f.0 g.0 f.1 g.1) f.2) g.2

joined_one : (folder rest : List ℕ) → HasOne (IsJoined folder rest)
joined_one folder rest a b f g = f.2 ∙ ap path_of (leads_one (joined_components folder rest) [] f.0 g.0 f.1 g.1) ∙ sym g.2

-- ---- the first folder with a file of a name

same_text : (a b : List ℕ) → ◌≡◌ {A = Option (List ℕ)} (Some a) (Some b) → a ≡ b
same_text a b e = cc

no_text : (a : List ℕ) → ◌≡◌ {A = Option (List ℕ)} (Some a) None → ⊥
no_text a e = cc

same_target : (a b : Target) → a.path ≡ b.path → a.text ≡ b.text → a.built_in ≡ b.built_in → a ≡ b
same_target a b path text built_in =
    ap (λ (p : List ℕ). record { path = p; text = a.text; built_in = a.built_in }) path
    ∙ ap (λ (t : List ℕ). record { path = b.path; text = t; built_in = a.built_in }) text
    ∙ ap (λ (t : Bool). record { path = b.path; text = b.text; built_in = t }) built_in

at_one : (files : Files) (folder name : List ℕ) → HasOne (IsAt files folder name)
at_one files folder name a b f g =
    let path : a.path ≡ b.path = joined_one folder name a.path b.path f.0 g.0 in
    let text : a.text ≡ b.text = same_text a.text b.text (sym f.1 ∙ ap (λ (p : List ℕ). get files p) path ∙ g.1) in
    same_target a b path text (f.2 ∙ sym g.2)

at_or_not : (files : Files) (folder name : List ℕ) (a : Target) → IsAt files folder name a → IsNotAt files folder name → ⊥
at_or_not files folder name a f none = no_text a.text (sym f.1 ∙ none a.path f.0)

found_one : (files : Files) (folders : List (List ℕ)) (name : List ℕ) → HasOne (IsFound files folders name)
found_one files [] name a b f g = f ∙ sym g
found_one files (folder ∷ folders) name a b (inl f) (inl g) = f.2 ∙ ap Some (at_one files folder name f.0 g.0 f.1 g.1) ∙ sym g.2
found_one files (folder ∷ folders) name a b (inl f) (inr g) = absurd (at_or_not files folder name f.0 f.1 g.0)
found_one files (folder ∷ folders) name a b (inr f) (inl g) = absurd (at_or_not files folder name g.0 g.1 f.0)
found_one files (folder ∷ folders) name a b (inr f) (inr g) = found_one files folders name a b f.1 g.1

-- ---- header names

search_one : (files : Files) (folders : List (List ℕ)) (headers : List BuiltIn) (path : List ℕ) (header : Header)
    → HasOne (SearchMeans files folders headers path header)
search_one files folders headers path header a b f g =
    f.2 ∙ ap (or_built_in headers header.name) (found_one files (places_of folders path header.quoted) header.name f.0 g.0 f.1 g.1) ∙ sym g.2

there_some : (files : Files) (folders : List (List ℕ)) (name : List ℕ)
    → HasOne (λ (a : Bool). (found : Option Target) × IsFound files folders name found × (a ≡ is_some found))
there_some files folders name a b f g = f.2 ∙ ap is_some (found_one files folders name f.0 g.0 f.1 g.1) ∙ sym g.2

there_one : (files : Files) (folders : List (List ℕ)) (prefix name : List ℕ) → HasOne (IsThere files folders prefix name)
there_one files folders prefix name =
    choice_one (is_own name || is_some (mocked prefix name)) (λ a. a ≡ false)
    (λ a. (found : Option Target) × IsFound files folders name found × (a ≡ is_some found))
    (this_one false) (there_some files folders name)

scan_one : (files : Files) (folders : List (List ℕ)) (heads : Heads) (name header : List ℕ)
    → HasOne (λ (a : Option Target). (there : Bool) × IsThere files folders heads.prefix header there × (a ≡ Some (head_target heads.folder name (scan_text header there))))
scan_one files folders heads name header a b f g =
    f.2 ∙ ap (λ (there : Bool). Some (head_target heads.folder name (scan_text header there))) (there_one files folders heads.prefix header f.0 g.0 f.1 g.1) ∙ sym g.2

head_one : (files : Files) (folders : List (List ℕ)) (heads : Heads) (name header : List ℕ) → HasOne (IsHeadTarget files folders heads name header)
head_one files folders heads name header =
    choice_one heads.scan
    (λ a. (there : Bool) × IsThere files folders heads.prefix header there × (a ≡ Some (head_target heads.folder name (scan_text header there))))
    (λ a. a ≡ option_map (head_target heads.folder name) (text_named heads.texts name))
    (scan_one files folders heads name header) (this_one (option_map (head_target heads.folder name) (text_named heads.texts name)))

name_one : (files : Files) (folders : List (List ℕ)) (heads : Heads) (headers : List BuiltIn) (path : List ℕ) (header : Header)
    → HasOne (NameMeans files folders heads headers path header)
name_one files folders heads headers path header =
    choice_one (is_own header.name) (λ a. a ≡ built_in_named headers header.name)
    (λ a. MatchOption (mocked heads.prefix header.name) (SearchMeans files folders headers path header a) (λ head. IsHeadTarget files folders heads header.name head a))
    (this_one (built_in_named headers header.name))
    (case_one (mocked heads.prefix header.name) (SearchMeans files folders headers path header) (IsHeadTarget files folders heads header.name)
    (search_one files folders headers path header) (head_one files folders heads header.name))

pub means_one : (files : Files) (folders : List (List ℕ)) (heads : Heads) (headers : List BuiltIn) (path : List ℕ) (header : Header)
    → HasOne (Means files folders heads headers path header)
means_one files folders heads headers path header =
    choice_one (is_utf8 header.name) (NameMeans files folders heads headers path header) (λ a. a ≡ None)
    (name_one files folders heads headers path header) (this_one None)
