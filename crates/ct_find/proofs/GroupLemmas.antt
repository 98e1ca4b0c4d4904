-- The listed folders of a group are the folders that its patterns match.
use Rattle.std.proofs.Common.{◌≡◌, ℕ, ◌+◌, inl, inr, ◌↔◌, List, [], ◌∷◌, ◌++◌, Bool, true, false, cond, not, ◌||◌, take, refl, sym, ap, subst, ◌∙◌, arith, suc}
use Rattle.std.specs.Prelude.{◌==◌, take_while}
use Rattle.std.specs.List.{Contains, list_any, prefix_len}
use Rattle.std.proofs.lemmas.Bool.{false≢true, or_parts}
use Rattle.std.proofs.lemmas.Bool.Decides.{Decides-eqb}
use Rattle.std.proofs.lemmas.List.{append-nil}
use Rattle.std.proofs.lemmas.Slice.Eq.{bytes_eq-Decides}
use Rattle.ct_outside.specs.declared.tree.Entry.{Entry}
use Rattle.ct_outside.specs.Files.{Files, IsFolder, IsListing}
use Rattle.ct_outside.specs.Matching.{FitsByte, Matches, MatchesName, double_star, is_double_star, is_star}
use Rattle.ct_outside.specs.Paths.{components_of, path_of}
use Rattle.ct_settings.specs.declared.record.Pattern.{Pattern}
use Rattle.ct_find.specs.declared.starts.Start.{Start}
use Rattle.ct_find.specs.declared.rows.Row.{Row}
use Rattle.ct_find.specs.Folders.{InGroup, IsAdded, IsPath, is_at_or_below}
use Rattle.ct_find.specs.Order.{AreStarts, IsStart, has_wildcard, is_deep, start_of}
use Rattle.ct_find.specs.Rows.{IsMatched, IsMatchedRow, IsWalked, Lists}
use Rattle.ct_find.proofs.Members.{contains_first, contains_map, contains_none, contains_right, map_contains}
use Rattle.ct_find.proofs.NameLemmas.{component_name, components_of-path_of, start_path, while_in}
use Rattle.ct_find.proofs.OrderLemmas.{places_from, places_have}
use Rattle.ct_find.proofs.ReachLemmas.{ArePaths, listed_paths, reach, reach_own}

-- a part that is no run matches one item
one_item : {P X : Type 0} (is_run : P → Bool) (Fits : P → X → Type 0) (p : P) (ps : List P) (xs : List X) → is_run p ≡ false → Matches is_run Fits (p ∷ ps) xs
    → (x : X) × (rest : List X) × (xs ≡ x ∷ rest) × Fits p x × Matches is_run Fits ps rest
one_item is_run Fits p ps xs e h = rw e at h

-- a component without a wildcard matches itself alone
plain_matches : (p n : List ℕ) → has_wildcard p ≡ false → MatchesName p n → p ≡ n
plain_matches [] n plain h = sym h
plain_matches (b ∷ bs) n plain h =
    let here = or_parts ((b == 42) || (b == 63)) (has_wildcard bs) plain in
    let tests = or_parts (b == 42) (b == 63) here.0 in
    let one = one_item is_star FitsByte b bs n tests.0 h in
    let same : b ≡ one.0 = elim one.3 [
      | inl mark ↦ absurd (false≢true (sym tests.1 ∙ (Decides-eqb b 63).1 mark))
      | inr own ↦ own
    ] in
    let more : bs ≡ one.1 = plain_matches bs one.1 here.1 one.4 in
    ap (λ (x : ℕ). x ∷ bs) same ∙ ap (λ (xs : List ℕ). one.0 ∷ xs) more ∙ sym one.2

no_star : (p : List ℕ) (t : Bool) → is_double_star p ≡ t → has_wildcard p ≡ false → is_double_star p ≡ false
no_star p true e plain = absurd (false≢true (sym plain ∙ ap has_wildcard ((bytes_eq-Decides p double_star).0 e)))
no_star p false e plain = e

fixed : List (List ℕ) → List (List ℕ)
fixed ps = take_while (λ component. not (has_wildcard component)) ps

first_fixed : (p : List ℕ) (ps : List (List ℕ)) → has_wildcard p ≡ false → fixed (p ∷ ps) ≡ p ∷ fixed ps
unfolding fixed
first_fixed p ps e =
    let one : 1 + prefix_len (λ component. not (has_wildcard component)) ps ≡ suc (prefix_len (λ component. not (has_wildcard component)) ps) = omega arith in
    ap (λ (b : Bool). take (cond (not b) (1 + prefix_len (λ component. not (has_wildcard component)) ps) 0) (p ∷ ps)) e ∙ ap (λ n. take n (p ∷ ps)) one

none_fixed : (p : List ℕ) (ps : List (List ℕ)) → has_wildcard p ≡ true → fixed (p ∷ ps) ≡ []
unfolding fixed
none_fixed p ps e = ap (λ (b : Bool). take (cond (not b) (1 + prefix_len (λ component. not (has_wildcard component)) ps) 0) (p ∷ ps)) e

-- a matched folder begins with the components before the first wildcard, and ends there where there is none
matched_front : (ps fs : List (List ℕ)) → Matches is_double_star MatchesName ps fs → (more : List (List ℕ)) × (fs ≡ fixed ps ++ more) × (list_any has_wildcard ps ≡ false → more ≡ [])
unfolding fixed
matched_front [] fs h = ([], h, λ _. refl)
matched_front (p ∷ ps) fs h = at (has_wildcard p) refl (matched_front ps)
  where
    at : (t : Bool) → has_wildcard p ≡ t → ((gs : List (List ℕ)) → Matches is_double_star MatchesName ps gs → (more : List (List ℕ)) × (gs ≡ fixed ps ++ more) × (list_any has_wildcard ps ≡ false → more ≡ []))
        → (more : List (List ℕ)) × (fs ≡ fixed (p ∷ ps) ++ more) × (list_any has_wildcard (p ∷ ps) ≡ false → more ≡ [])
    at true e rest = (fs, ap (λ (x : List (List ℕ)). x ++ fs) (sym (none_fixed p ps e)), λ none. absurd (false≢true (sym (or_parts (has_wildcard p) (list_any has_wildcard ps) none).0 ∙ e)))
    at false e rest =
        let one = one_item is_double_star MatchesName p ps fs (no_star p (is_double_star p) refl e) h in
        let r = rest one.1 one.4 in
        let same : p ≡ one.0 = plain_matches p one.0 e one.3 in (
          r.0,
          one.2 ∙ ap (λ (x : List ℕ). x ∷ one.1) (sym same) ∙ ap (λ (xs : List (List ℕ)). p ∷ xs) r.1 ∙ ap (λ (xs : List (List ℕ)). xs ++ r.0) (sym (first_fixed p ps e)),
          λ none. r.2 (or_parts (has_wildcard p) (list_any has_wildcard ps) none).1,
        )

fixed_names : (pattern : List ℕ) → components_of (start_of pattern) ≡ fixed (components_of pattern)
unfolding fixed
fixed_names pattern =
    components_of-path_of (take_while (λ component. not (has_wildcard component)) (components_of pattern))
    (λ n m. component_name pattern n (while_in (λ component. not (has_wildcard component)) (components_of pattern) n m))

-- the starts of a group are paths
pub group_paths : (patterns : List Pattern) (group : List Start) → AreStarts patterns group → ArePaths group
group_paths patterns group are s m =
    let h : IsStart patterns s.path = (are.paths.each s.path).0 (contains_map (λ (x : Start). x.path) group s m) in
    subst IsPath (sym h.2.1) (start_path h.0.path)

-- a folder that an adding pattern of the group matches is listed
added_listed : (files : Files) (build : List ℕ) (starts : List Start) (folders : List (List ℕ)) (patterns : List Pattern) (group : List Start) → Lists files build starts folders [] → ArePaths starts → AreStarts patterns group
    → ((s : Start) → Contains group s → Contains starts s) → (f : List ℕ) → IsAdded patterns f → IsPath f → IsFolder files f → is_at_or_below build f ≡ false → Contains folders f
added_listed files build starts folders patterns group lists paths are within f added is folder out =
    let pattern : Pattern = added.0 in
    let at = map_contains (λ (x : Start). x.path) group (start_of pattern.path) ((are.paths.each (start_of pattern.path)).1 (pattern, added.1, (added.2, refl))) in
    let s : Start = at.0 in
    let front = matched_front (components_of pattern.path) (components_of f) added.3 in
    let names : components_of (start_of pattern.path) ≡ fixed (components_of pattern.path) = fixed_names pattern.path in
    by_depth (is_deep pattern.path) refl s at.1 at.2 front names
  where
    by_depth : (t : Bool) → is_deep added.0.path ≡ t → (s : Start) → Contains group s → s.path ≡ start_of added.0.path
        → (more : List (List ℕ)) × (components_of f ≡ fixed (components_of added.0.path) ++ more) × (list_any has_wildcard (components_of added.0.path) ≡ false → more ≡ [])
        → components_of (start_of added.0.path) ≡ fixed (components_of added.0.path) → Contains folders f
    by_depth true e s m at front names =
        let deep : s.deep ≡ true = (are.deep s m).shallow (added.0, added.1, (added.2, at, e)) in
        let whole : f ≡ path_of (components_of s.path ++ front.0) =
        sym is ∙ ap path_of (front.1 ∙ ap (λ (x : List (List ℕ)). x ++ front.0) (sym (ap components_of at ∙ names))) in
        reach files build starts [] folders lists refl paths s (within s m) deep front.0
        (λ k i. component_name f k (subst (λ (x : List (List ℕ)). Contains x k) (sym front.1) (contains_right (fixed (components_of added.0.path)) front.0 k i))) f whole folder out
    by_depth false e s m at front names =
        let same : f ≡ s.path =
        sym is ∙ ap path_of (front.1 ∙ ap (λ (x : List (List ℕ)). fixed (components_of added.0.path) ++ x) (front.2 e) ∙ append-nil (fixed (components_of added.0.path)) ∙ sym names) ∙ start_path added.0.path ∙ sym at in
        subst (λ (x : List ℕ). Contains folders x) (sym same) (reach_own files build starts [] folders lists refl s (within s m) (subst (λ (x : List ℕ). is_at_or_below build x ≡ false) same out))

some_entry : (entries : List Entry) (e : Entry) → Contains entries e → entries ≡ [] → ⊥
some_entry entries e m none = contains_none e (subst (λ (es : List Entry). Contains es e) none m)

first_entry : (entries : List Entry) → (entries ≡ [] → ⊥) → (e : Entry) × Contains entries e
first_entry [] some = absurd (some refl)
first_entry (e ∷ entries) some = (e, contains_first e entries)

-- the listed folders of a group are its folders
pub matched_group : (files : Files) (build : List ℕ) (starts : List Start) (rows : List Row) (count : ℕ) (patterns : List Pattern) (group : List Start) → IsWalked files build starts [] rows count → ArePaths starts
    → AreStarts patterns group → ((s : Start) → Contains group s → Contains starts s) → (f : List ℕ) → IsMatchedRow rows patterns f ↔ InGroup files build patterns f
matched_group files build starts rows count patterns group w paths are within f = (
  λ h.
      let row : Row = h.0 in
      let listing : IsListing files row.folder row.entries = w.listings row h.1 in
      let e = first_entry row.entries h.2.0 in
      let member : Contains w.folders row.folder = places_from [] w.folders row.folder (subst (λ (fs : List (List ℕ)). Contains fs row.folder) w.rows_are (contains_map (λ (r : Row). r.folder) rows row h.1)) in
      let about = listed_paths files build starts [] w.folders w.lists paths row.folder member in
      let there : IsFolder files row.folder = (e.0, (listing.each e.0).0 e.1) in
      let own : InGroup files build patterns row.folder = record { there = there; path = about.0; outside = about.1; added = h.2.1.0; kept = h.2.1.1 } in
      subst (λ (x : List ℕ). InGroup files build patterns x) (sym h.2.2) own,
  λ g.
      let member : Contains w.folders f = added_listed files build starts w.folders patterns group w.lists paths are within f g.added g.path g.there g.outside in
      let place = places_have [] w.folders f member (contains_none f) in
      let r = map_contains (λ (x : Row). x.folder) rows f (subst (λ (fs : List (List ℕ)). Contains fs f) (sym w.rows_are) place) in
      let row : Row = r.0 in
      let listing : IsListing files row.folder row.entries = w.listings row r.1 in
      let lies : IsFolder files row.folder = subst (λ (x : List ℕ). IsFolder files x) (sym r.2) g.there in
      let some : row.entries ≡ [] → ⊥ = some_entry row.entries lies.0 ((listing.each lies.0).1 lies.1) in
      let matched : IsMatched patterns row.folder = subst (λ (x : List ℕ). IsMatched patterns x) (sym r.2) (g.added, g.kept) in
      (row, r.1, (some, matched, sym r.2)),
)
