-- Components of paths.
use Rattle.std.proofs.Common.{◌≡◌, ℕ, zero, suc, ◌+◌, ◌-◌, ◌<◌, ◌≤◌, Bool, true, false, cond, not, List, [], ◌∷◌, ◌++◌, length, get_or, take, filter, refl, sym, ap, subst, ◌∙◌, arith, rules, nat_lt, append_assoc, length-drop}
use Rattle.std.specs.Bool.{MatchBool}
use Rattle.std.specs.List.{All, position_or_len, before_first, after_first, slice_split}
use Rattle.std.proofs.lemmas.Bool.{false≢true}
use Rattle.std.proofs.lemmas.Bool.Decides.{nat_tests}
use Rattle.std.proofs.lemmas.List.{take_more}
use Rattle.std.proofs.lemmas.List.Elements.{All-cons}
use Rattle.std.proofs.lemmas.List.Splits.{slice_split_none, slice_split_first}
use Rattle.ct_outside.specs.Files.{is_slash}
use Rattle.ct_outside.specs.Paths.{Leads, LeavesRoot, Steps, components_of, is_here, is_parent, parent, path_of}

some : List ℕ → Bool
some piece = nat_lt 0 (length piece)

pub components_keep : (x : List ℕ) (xs : List (List ℕ)) → 0 < length x → filter (λ piece. nat_lt 0 (length piece)) (x ∷ xs) ≡ x ∷ filter (λ piece. nat_lt 0 (length piece)) xs
components_keep x xs h =
    let t : nat_lt 0 (length x) ≡ true = grind (arith, nat_tests) in
    ap (λ (b : Bool). cond b (x ∷ filter (λ piece. nat_lt 0 (length piece)) xs) (filter (λ piece. nat_lt 0 (length piece)) xs)) t

-- the first piece is a component
components_of-first : (path : List ℕ) → position_or_len is_slash path < length path → 0 < length (before_first is_slash path)
    → components_of path ≡ before_first is_slash path ∷ components_of (after_first is_slash path)
components_of-first path within there =
    ap (λ (ps : List (List ℕ)). filter (λ piece. nat_lt 0 (length piece)) ps) (slice_split_first is_slash path 0 within)
    ∙ components_keep (before_first is_slash path) (slice_split is_slash (after_first is_slash path)) there

no_slash_at : (b : ℕ) (bs : List ℕ) (t : Bool) → is_slash b ≡ t → cond (not t) (1 + position_or_len is_slash bs) 0 ≡ suc (length bs) → (t ≡ false) × (position_or_len is_slash bs ≡ length bs)
no_slash_at b bs true i h = absurd (omega arith)
no_slash_at b bs false i h = (refl, omega arith)

no_slashes : (path : List ℕ) → position_or_len is_slash path ≡ length path → All (λ b. is_slash b ≡ false) path
no_slashes [] e = search rules
no_slashes (b ∷ bs) e =
    let parts = no_slash_at b bs (is_slash b) refl e in
    All-cons (λ c. is_slash c ≡ false) b bs parts.0 (no_slashes bs parts.1)

-- the path is one component
components_of-last : (path : List ℕ) → position_or_len is_slash path ≡ length path → 0 < length path → components_of path ≡ path ∷ []
components_of-last path none there =
    ap (λ (ps : List (List ℕ)). filter (λ piece. nat_lt 0 (length piece)) ps) (slice_split_none is_slash path (no_slashes path none)) ∙ components_keep path [] there

pub first_piece : (path rest piece behind : List ℕ) → components_of path ≡ components_of rest → length rest ≤ length path
    → (piece ≡ before_first is_slash rest) × (behind ≡ after_first is_slash rest) × (position_or_len is_slash rest < length rest) → 0 < length piece
    → components_of path ≡ piece ∷ components_of behind
first_piece path rest piece behind same within cut there =
    let some_piece : 0 < length (before_first is_slash rest) = subst (λ (p : List ℕ). 0 < length p) cut.0 there in
    same ∙ components_of-first rest cut.2 some_piece
    ∙ ap (λ (p : List ℕ). p ∷ components_of (after_first is_slash rest)) (sym cut.0) ∙ ap (λ (p : List ℕ). piece ∷ components_of p) (sym cut.1)

pub shorter : (path rest piece behind : List ℕ) → length rest ≤ length path
    → (piece ≡ before_first is_slash rest) × (behind ≡ after_first is_slash rest) × (position_or_len is_slash rest < length rest) → length behind < length path
shorter path rest piece behind within cut =
    let k : length behind ≡ length rest - (position_or_len is_slash rest + 1) = ap length cut.1 ∙ length-drop (position_or_len is_slash rest + 1) rest in omega (arith, cut.2)

pub last_piece : (path rest : List ℕ) → components_of path ≡ components_of rest → position_or_len is_slash rest ≡ length rest → 0 < length rest → components_of path ≡ rest ∷ []
last_piece path rest same none there = same ∙ components_of-last rest none there

-- one more component
pub path_of-push : (xs : List (List ℕ)) (x y : List ℕ) → path_of ((x ∷ xs) ++ y ∷ []) ≡ path_of (x ∷ xs) ++ 47 ∷ y
path_of-push [] x y = refl
path_of-push (z ∷ zs) x y = ap (λ (t : List ℕ). x ++ 47 ∷ t) (path_of-push zs z y) ∙ sym (append_assoc x (47 ∷ path_of (z ∷ zs)) (47 ∷ y))

pub path_of-more : (cs : List (List ℕ)) (i : ℕ) (c old new : List ℕ) → i < length cs → c ≡ get_or cs i c → old ≡ path_of (take i cs)
    → (0 < i → new ≡ (old ++ 47 ∷ []) ++ c) → (i ≡ 0 → new ≡ old ++ c) → new ≡ path_of (take (i + 1) cs)
path_of-more [] i c old new within read was more first = absurd (omega arith)
path_of-more (x ∷ xs) zero c old new within read was more first = first refl ∙ ap (λ (t : List ℕ). t ++ c) was ∙ read
path_of-more (x ∷ xs) (suc i) c old new within read was more first =
    let step : take (suc i + 1) (x ∷ xs) ≡ (x ∷ take i xs) ++ c ∷ [] = take_more (x ∷ xs) (suc i) c within ∙ ap (λ (d : List ℕ). take (suc i) (x ∷ xs) ++ d ∷ []) (sym read) in
    more (omega arith) ∙ append_assoc old (47 ∷ []) c ∙ ap (λ (t : List ℕ). t ++ 47 ∷ c) was ∙ sym (path_of-push (take i xs) x c) ∙ ap path_of (sym step)

-- where components lead from a folder
pub leads_more : (cs : List (List ℕ)) (c : List ℕ) (more from next to : List (List ℕ)) → cs ≡ c ∷ more → Steps c from next → Leads more next to → Leads cs from to
leads_more cs c more from next to e step leads = subst (λ (ds : List (List ℕ)). Leads ds from to) (sym e) (next, step, leads)

pub leaves_more : (cs : List (List ℕ)) (c : List ℕ) (more from next : List (List ℕ)) → cs ≡ c ∷ more → Steps c from next → LeavesRoot more next → LeavesRoot cs from
leaves_more cs c more from next e step leaves =
    subst (λ (ds : List (List ℕ)). LeavesRoot ds from) (sym e) (c ∷ leaves.0, leaves.1, ap (λ (ds : List (List ℕ)). c ∷ ds) leaves.2, (next, step, leaves.3))

pub leads_on : (xs ys from mid to : List (List ℕ)) → Leads xs from mid → Leads ys mid to → Leads (xs ++ ys) from to
leads_on [] ys from mid to first second = subst (λ (f : List (List ℕ)). Leads ys f to) first second
leads_on (x ∷ xs) ys from mid to first second = (first.0, first.1, leads_on xs ys first.0 mid to first.2 second)

pub leaves_first : (xs ys from : List (List ℕ)) → LeavesRoot xs from → LeavesRoot (xs ++ ys) from
leaves_first xs ys from h = (h.0, h.1 ++ ys, ap (λ (cs : List (List ℕ)). cs ++ ys) h.2 ∙ append_assoc h.0 (parent ∷ h.1) ys, h.3)

pub leaves_second : (xs ys from mid : List (List ℕ)) → Leads xs from mid → LeavesRoot ys mid → LeavesRoot (xs ++ ys) from
leaves_second xs ys from mid first h = (xs ++ h.0, h.1, ap (λ (cs : List (List ℕ)). xs ++ cs) h.2 ∙ sym (append_assoc xs h.0 (parent ∷ h.1)), leads_on xs h.0 from mid [] first h.3)

one_parent : (xs ys : List (List ℕ)) (x y : List ℕ) → xs ++ x ∷ [] ≡ ys ++ y ∷ [] → xs ≡ ys
one_parent [] [] x y e = refl
one_parent [] (b ∷ []) x y e = absurd (cc)
one_parent [] (b ∷ c ∷ ys) x y e = absurd (cc)
one_parent (a ∷ []) [] x y e = absurd (cc)
one_parent (a ∷ c ∷ xs) [] x y e = absurd (cc)
one_parent (a ∷ xs) (b ∷ ys) x y e =
    let first : a ≡ b = cc in
    let others : xs ++ x ∷ [] ≡ ys ++ y ∷ [] = cc in
    let more : xs ≡ ys = one_parent xs ys x y others in cc

one_step_at : (here up : Bool) (c : List ℕ) (from to to' : List (List ℕ))
    → MatchBool here (to ≡ from) (MatchBool up ((name : List ℕ) × (from ≡ to ++ name ∷ [])) (to ≡ from ++ c ∷ []))
    → MatchBool here (to' ≡ from) (MatchBool up ((name : List ℕ) × (from ≡ to' ++ name ∷ [])) (to' ≡ from ++ c ∷ [])) → to ≡ to'
one_step_at true up c from to to' s t = s ∙ sym t
one_step_at false true c from to to' s t = one_parent to to' s.0 t.0 (sym s.1 ∙ t.1)
one_step_at false false c from to to' s t = s ∙ sym t

one_step : (c : List ℕ) (from to to' : List (List ℕ)) → Steps c from to → Steps c from to' → to ≡ to'
one_step c from to to' s t = one_step_at (is_here c) (is_parent c) c from to to' s t

no_parent : (next : List (List ℕ)) → Steps parent [] next → ⊥
no_parent [] s = absurd (let e : [] ≡ s.0 ∷ [] = s.1 in cc)
no_parent (a ∷ next) s = absurd (let e : [] ≡ a ∷ next ++ s.0 ∷ [] = s.1 in cc)

stays : (front rest from to : List (List ℕ)) → Leads front from [] → Leads (front ++ parent ∷ rest) from to → ⊥
stays [] rest from to at leads = no_parent leads.0 (subst (λ (f : List (List ℕ)). Steps parent f leads.0) (sym at) leads.1)
stays (c ∷ front) rest from to at leads =
    stays front rest leads.0 to (subst (λ (f : List (List ℕ)). Leads front f []) (one_step c from at.0 leads.0 at.1 leads.1) at.2) leads.2

-- what leads somewhere does not leave the root
pub leads_within : (cs from to : List (List ℕ)) → Leads cs from to → LeavesRoot cs from → ⊥
leads_within cs from to leads h = stays h.0 h.1 from to h.3 (subst (λ (ds : List (List ℕ)). Leads ds from to) h.2 leads)

pub inside : (b : Bool) (P Q : Type 0) → b ≡ true → MatchBool b P Q → P
inside true P Q e h = h
inside false P Q e h = absurd (false≢true e)

pub outside : (b : Bool) (P Q : Type 0) → b ≡ false → MatchBool b P Q → Q
outside false P Q e h = h
outside true P Q e h = absurd (false≢true (sym e))
