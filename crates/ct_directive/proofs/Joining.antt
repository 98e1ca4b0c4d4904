-- Where a folder and a name lead.
use Rattle.std.proofs.Common.{◌≡◌, ℕ, Bool, true, false, List, [], ◌∷◌, ◌++◌, refl, sym, subst, ap, ◌∙◌, None}
use Rattle.std.specs.Bool.{MatchBool}
use Rattle.std.specs.FinMap.{get}
use Rattle.ct_outside.specs.Files.{Files}
use Rattle.ct_outside.specs.Paths.{IsJoined, Leads, LeavesRoot, Steps, is_here, is_parent, joined_components, parent, path_of}
use Rattle.ct_directive.specs.Search.{IsNotAt}

one_parent : (xs ys : List (List ℕ)) (x y : List ℕ) → xs ++ x ∷ [] ≡ ys ++ y ∷ [] → xs ≡ ys
one_parent [] [] x y e = refl
one_parent [] (b ∷ []) x y e = absurd (cc)
one_parent [] (b ∷ c ∷ ys) x y e = absurd (cc)
one_parent (a ∷ []) [] x y e = absurd (cc)
one_parent (a ∷ c ∷ xs) [] x y e = absurd (cc)
one_parent (a ∷ xs) (b ∷ ys) x y e =
    let first : a ≡ b = cc in
    let others : xs ++ x ∷ [] ≡ ys ++ y ∷ [] = cc in
    let more : xs ≡ ys = one_parent xs ys x y others in cc

one_step_at : (here up : Bool) (c : List ℕ) (from to to' : List (List ℕ))
    → MatchBool here (to ≡ from) (MatchBool up ((name : List ℕ) × (from ≡ to ++ name ∷ [])) (to ≡ from ++ c ∷ []))
    → MatchBool here (to' ≡ from) (MatchBool up ((name : List ℕ) × (from ≡ to' ++ name ∷ [])) (to' ≡ from ++ c ∷ [])) → to ≡ to'
one_step_at true up c from to to' s t = s ∙ sym t
one_step_at false true c from to to' s t = one_parent to to' s.0 t.0 (sym s.1 ∙ t.1)
one_step_at false false c from to to' s t = s ∙ sym t

pub one_step : (c : List ℕ) (from to to' : List (List ℕ)) → Steps c from to → Steps c from to' → to ≡ to'
one_step c from to to' s t = one_step_at (is_here c) (is_parent c) c from to to' s t

no_parent : (next : List (List ℕ)) → Steps parent [] next → ⊥
no_parent [] s = absurd (let e : [] ≡ s.0 ∷ [] = s.1 in cc)
no_parent (a ∷ next) s = absurd (let e : [] ≡ a ∷ next ++ s.0 ∷ [] = s.1 in cc)

stays : (front rest from to : List (List ℕ)) → Leads front from [] → Leads (front ++ parent ∷ rest) from to → ⊥
stays [] rest from to at leads = no_parent leads.0 (subst (λ (f : List (List ℕ)). Steps parent f leads.0) (sym at) leads.1)
stays (c ∷ front) rest from to at leads =
    stays front rest leads.0 to (subst (λ (f : List (List ℕ)). Leads front f []) (one_step c from at.0 leads.0 at.1 leads.1) at.2) leads.2

leads_once : (cs from a b : List (List ℕ)) → Leads cs from a → Leads cs from b → a ≡ b
leads_once [] from a b h k = h ∙ sym k
leads_once (c ∷ cs) from a b h k =
    leads_once cs h.0 a b h.2 (subst (λ (f : List (List ℕ)). Leads cs f b) (one_step c from k.0 h.0 k.1 h.1) k.2)

joined_once : (folder name a b : List ℕ) → IsJoined folder name a → IsJoined folder name b → a ≡ b
joined_once folder name a b h k = h.2 ∙ ap path_of (leads_once (joined_components folder name) [] h.0 k.0 h.1 k.1) ∙ sym k.2

-- a folder has no file of a name that leads out of the root
pub not_at_root : (files : Files) (folder name : List ℕ) → LeavesRoot (joined_components folder name) [] → IsNotAt files folder name
not_at_root files folder name h path k =
    absurd (stays h.0 h.1 [] k.0 h.3 (subst (λ (cs : List (List ℕ)). Leads cs [] k.0) h.2 k.1))

-- nor of one that leads where no file is
pub not_at_path : (files : Files) (folder name path : List ℕ) → IsJoined folder name path → get files path ≡ None → IsNotAt files folder name
not_at_path files folder name path joined none other k = ap (get files) (joined_once folder name other path k joined) ∙ none
