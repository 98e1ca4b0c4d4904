-- The walk lists paths outside the build root, and reaches every folder below a deep start.
use Rattle.std.proofs.Common.{◌≡◌, ℕ, suc, ◌+◌, ◌⊎◌, inl, inr, List, [], ◌∷◌, ◌++◌, Bool, true, false, cond, not, ◌||◌, Option, Some, None, is_some, length, take, drop, refl, sym, ap, subst, ◌∙◌, arith, append_assoc, nat_eq, length-append}
use Rattle.std.specs.Option.{option_map}
use Rattle.std.specs.Str.{bytes_eq}
use Rattle.std.specs.List.{Contains, before_first, list_any, position_or_len, starts_with}
use Rattle.std.proofs.lemmas.Bool.{false≢true, or_parts, or_cases}
use Rattle.std.proofs.lemmas.Bool.Decides.{Decides-eqb}
use Rattle.std.proofs.lemmas.List.{append-nil}
use Rattle.std.proofs.lemmas.List.Prefix.{front_rest}
use Rattle.std.proofs.lemmas.Slice.Eq.{bytes_eq-Decides, starts_is}
use Rattle.ct_outside.specs.declared.tree.Entry.{Entry}
use Rattle.ct_outside.specs.Files.{Files, IsFolder, entry_at, is_slash, rest_below}
use Rattle.ct_outside.specs.Paths.{components_of, path_of}
use Rattle.ct_find.specs.declared.starts.Start.{Start}
use Rattle.ct_find.specs.Folders.{IsPath, is_at_or_below}
use Rattle.ct_find.specs.Order.{AreChildren, IsChild, deep_starts, inside}
use Rattle.ct_find.proofs.Members.{contains_append, contains_cases, contains_first, contains_left, contains_map, contains_more, contains_none, contains_right, map_contains}
use Rattle.ct_find.proofs.NameLemmas.{IsName, child_name, component_name, components_inside, inside_is_path, inside_names, inside_some}
use Rattle.ct_find.specs.Rows.{Lists, alone, hidden, nothing, with_all_below}

abbrev pub ArePaths : List Start → Type 0
ArePaths starts = (s : Start) → Contains starts s → IsPath s.path

next_paths : (files : Files) (folder : List ℕ) (children : List (List ℕ)) (starts : List Start) → IsPath folder → AreChildren files folder children → ArePaths starts → ArePaths (deep_starts children ++ starts)
next_paths files folder children starts is are h s m = elim (contains_append (deep_starts children) starts s m) [
  | inl n ↦
      let r = map_contains (λ (f : List ℕ). record { path = f; deep = true }) children s n in
      let child : IsChild files folder r.0 = (are.each r.0).0 r.1 in
      subst (λ (x : Start). IsPath x.path) r.2 (subst IsPath (sym child.1) (inside_is_path folder child.0 is (child_name files folder r.0 child)))
  | inr n ↦ h s n
]

-- each folder that is listed is a path outside the build root
pub listed_paths : (files : Files) (build : List ℕ) (starts left : List Start) (folders : List (List ℕ)) → Lists files build starts folders left → ArePaths starts → (f : List ℕ) → Contains folders f
    → IsPath f × (is_at_or_below build f ≡ false)
listed_paths files build starts left folders nothing h f m = absurd (contains_none f m)
listed_paths files build starts left folders (hidden {starts = ss} out more) h f m = listed_paths files build ss left folders more (λ s n. h s (contains_more _ ss s n)) f m
listed_paths files build starts left folders (alone {start = st} {starts = ss} {folders = fs} out flat more) h f m = elim (contains_cases st.path fs f m) [
  | inl same ↦ (subst IsPath same (h st (contains_first st ss)), subst (λ (g : List ℕ). is_at_or_below build g ≡ false) same out)
  | inr n ↦ listed_paths files build ss left fs more (λ s k. h s (contains_more st ss s k)) f n
]
listed_paths files build starts left folders (with_all_below {start = st} {starts = ss} {folders = fs} children out deep are more) h f m = elim (contains_cases st.path fs f m) [
  | inl same ↦ (subst IsPath same (h st (contains_first st ss)), subst (λ (g : List ℕ). is_at_or_below build g ≡ false) same out)
  | inr n ↦ listed_paths files build (deep_starts children ++ ss) left fs more (next_paths files st.path children ss (h st (contains_first st ss)) are (λ s k. h s (contains_more st ss s k))) f n
]

-- below the root lies every path, and below another folder what goes on with a slash
starts_on : (folder rest : List ℕ) → (folder ≡ [] → ⊥) → rest_below folder (folder ++ 47 ∷ rest) ≡ Some rest
starts_on [] rest some = absurd (some refl)
starts_on (c ∷ cs) rest some =
    let front : List ℕ = (c ∷ cs) ++ 47 ∷ [] in
    let whole : (c ∷ cs) ++ 47 ∷ rest ≡ front ++ rest = sym (append_assoc (c ∷ cs) (47 ∷ []) rest) in
    let test : starts_with nat_eq ((c ∷ cs) ++ 47 ∷ rest) front ≡ true = (starts_is Decides-eqb ((c ∷ cs) ++ 47 ∷ rest) front _ refl).1 rest whole in
    let len : length front ≡ length cs + 2 = omega (arith, length-append (c ∷ cs) (47 ∷ [])) in
    ap (λ (t : Bool). cond t (Some (drop (length cs + 2) ((c ∷ cs) ++ 47 ∷ rest))) None) test
    ∙ ap Some (ap (λ (n : ℕ). drop n ((c ∷ cs) ++ 47 ∷ rest)) (sym len) ∙ front_rest ((c ∷ cs) ++ 47 ∷ rest) front rest whole)

-- what lies below a folder is its path, a slash and the rest
below_at : (c : ℕ) (cs path rest : List ℕ) (t : Bool) → starts_with nat_eq path ((c ∷ cs) ++ 47 ∷ []) ≡ t → cond t (Some (drop (length cs + 2) path)) None ≡ Some rest → path ≡ (c ∷ cs) ++ 47 ∷ rest
below_at c cs path rest false e h = absurd (cc)
below_at c cs path rest true e h =
    let front : List ℕ = (c ∷ cs) ++ 47 ∷ [] in
    let len : length front ≡ length cs + 2 = omega (arith, length-append (c ∷ cs) (47 ∷ [])) in
    let same : drop (length cs + 2) path ≡ rest = cc in
    (starts_is Decides-eqb path front _ refl).0 e ∙ append_assoc (c ∷ cs) (47 ∷ []) (drop (length front) path) ∙ ap (λ (r : List ℕ). (c ∷ cs) ++ 47 ∷ r) (ap (λ (n : ℕ). drop n path) len ∙ same)

pub below_is : (folder path rest : List ℕ) → rest_below folder path ≡ Some rest → path ≡ inside folder rest
below_is [] path rest h = let same : path ≡ rest = cc in same
below_is (c ∷ cs) path rest h = below_at c cs path rest (starts_with nat_eq path ((c ∷ cs) ++ 47 ∷ [])) refl h

pub inside_below : (folder rest : List ℕ) → rest_below folder (inside folder rest) ≡ Some rest
inside_below [] rest = refl
inside_below (c ∷ cs) rest = starts_on (c ∷ cs) rest (λ e. let k : c ∷ cs ≡ [] = e in cc)

inside_append : (g n x : List ℕ) → inside g n ++ x ≡ inside g (n ++ x)
inside_append [] n x = refl
inside_append (b ∷ bs) n x = append_assoc (b ∷ bs) (47 ∷ n) x

-- what goes on behind a name: nothing, or a slash and more names
tail_of : List (List ℕ) → List ℕ
tail_of [] = []
tail_of (m ∷ ms) = 47 ∷ path_of (m ∷ ms)

joined_tail : (x : List ℕ) (xs : List (List ℕ)) (more : List (List ℕ)) → path_of ((x ∷ xs) ++ more) ≡ path_of (x ∷ xs) ++ tail_of more
unfolding tail_of
joined_tail x xs [] = ap path_of (append-nil (x ∷ xs)) ∙ sym (append-nil (path_of (x ∷ xs)))
joined_tail x [] (m ∷ ms) = refl
joined_tail x (z ∷ zs) (m ∷ ms) = ap (λ (t : List ℕ). x ++ 47 ∷ t) (joined_tail z zs (m ∷ ms)) ∙ sym (append_assoc x (47 ∷ path_of (z ∷ zs)) (47 ∷ path_of (m ∷ ms)))

-- a path by the path of its front and what goes on
front_tail : (front : List (List ℕ)) (n : List ℕ) (more : List (List ℕ)) → path_of (front ++ n ∷ more) ≡ path_of (front ++ n ∷ []) ++ tail_of more
front_tail [] n more = joined_tail n [] more
front_tail (x ∷ xs) n more = ap path_of (sym (append_assoc (x ∷ xs) (n ∷ []) more)) ∙ joined_tail x (xs ++ n ∷ []) more

front_step : (b : ℕ) (bs rest : List ℕ) (t : Bool) → t ≡ false → before_first is_slash rest ≡ bs → take (cond (not t) (1 + position_or_len is_slash rest) 0) (b ∷ rest) ≡ b ∷ bs
front_step b bs rest true e h = absurd (false≢true (sym e))
front_step b bs rest false e h =
    let one : 1 + position_or_len is_slash rest ≡ suc (position_or_len is_slash rest) = omega arith in
    rw one (ap (λ (x : List ℕ). b ∷ x) h)

name_before : (n tail : List ℕ) → list_any is_slash n ≡ false → before_first is_slash (n ++ 47 ∷ tail) ≡ n
name_before [] tail plain = refl
name_before (b ∷ bs) tail plain =
    let r = or_parts (is_slash b) (list_any is_slash bs) plain in
    front_step b bs (bs ++ 47 ∷ tail) (is_slash b) r.0 (name_before bs tail r.1)

pub or_right : (x y : Bool) → y ≡ true → (x || y) ≡ true
or_right true y h = refl
or_right false y h = h

pub slash_in : (n tail : List ℕ) → list_any is_slash (n ++ 47 ∷ tail) ≡ true
slash_in [] tail = refl
slash_in (b ∷ bs) tail = or_right (is_slash b) (list_any is_slash (bs ++ 47 ∷ tail)) (slash_in bs tail)

-- a path that goes on behind a name in a folder lies under this entry
entry_under : (g n tail : List ℕ) → IsName n → entry_at g (inside g n ++ 47 ∷ tail) ≡ Some (record { name = n; folder = true })
entry_under g n tail own =
    let below : rest_below g (inside g n ++ 47 ∷ tail) ≡ Some (n ++ 47 ∷ tail) = ap (rest_below g) (inside_append g n (47 ∷ tail)) ∙ inside_below g (n ++ 47 ∷ tail) in
    ap (option_map (λ (r : List ℕ). record { name = before_first is_slash r; folder = list_any is_slash r })) below
    ∙ (λ i. Some (record { name = name_before n tail own.plain i; folder = slash_in n tail i }))

-- a folder that goes on behind a name
goes_on : (front : List (List ℕ)) (n : List ℕ) (more : List (List ℕ)) (g f : List ℕ) → path_of front ≡ g → ((k : List ℕ) → Contains front k → IsName k) → f ≡ path_of (front ++ n ∷ more) → f ≡ inside g n ++ tail_of more
goes_on front n more g f is names e =
    e ∙ front_tail front n more ∙ ap (λ (x : List ℕ). x ++ tail_of more) (sym (inside_names front n names) ∙ ap (λ (x : List ℕ). inside x n) is)

name_some : (g n tail : List ℕ) → IsName n → inside g n ++ tail ≡ [] → ⊥
name_some [] [] tail own e = own.some refl
name_some [] (b ∷ bs) tail own e = absurd (cc)
name_some (c ∷ cs) n tail own e = absurd (cc)

tail_on : (more : List (List ℕ)) (r : List ℕ) → (tail : List ℕ) × (tail_of more ++ 47 ∷ r ≡ 47 ∷ tail)
unfolding tail_of
tail_on [] r = (r, refl)
tail_on (m ∷ ms) r = (path_of (m ∷ ms) ++ 47 ∷ r, refl)

-- a file below a folder that goes on behind a name makes a child
pub child_on_way : (files : Files) (front : List (List ℕ)) (n : List ℕ) (more : List (List ℕ)) (g f : List ℕ) → path_of front ≡ g → ((k : List ℕ) → Contains front k → IsName k) → IsName n
    → f ≡ path_of (front ++ n ∷ more) → IsFolder files f → IsChild files g (inside g n)
child_on_way files front n more g f is names own e folder =
    let way : f ≡ inside g n ++ tail_of more = goes_on front n more g f is names e in
    let some : f ≡ [] → ⊥ = λ h. name_some g n (tail_of more) own (sym way ∙ h) in
    let r = some_below (rest_below f folder.1.0) folder.0 folder.1.2 in
    let lies : folder.1.0 ≡ f ++ 47 ∷ r.0 = below_is f folder.1.0 r.0 r.1 ∙ inside_some f r.0 some in
    let tail = tail_on more r.0 in
    let whole : folder.1.0 ≡ inside g n ++ 47 ∷ tail.0 =
    lies ∙ ap (λ (x : List ℕ). x ++ 47 ∷ r.0) way ∙ append_assoc (inside g n) (tail_of more) (47 ∷ r.0) ∙ ap (λ (x : List ℕ). inside g n ++ x) tail.1 in
    (n, refl, own.some, (folder.1.0, folder.1.1, ap (entry_at g) whole ∙ entry_under g n tail.0 own))
  where
    some_below : (o : Option (List ℕ)) (x : Entry) → option_map (λ (r : List ℕ). record { name = before_first is_slash r; folder = list_any is_slash r }) o ≡ Some x → (r : List ℕ) × (o ≡ Some r)
    some_below None x h = absurd (cc)
    some_below (Some r) x h = (r, refl)

below_root : (build g x : List ℕ) → is_at_or_below build g ≡ true → (x ≡ [] → ⊥) → (tail : List ℕ) → x ≡ 47 ∷ tail → (g ≡ [] → ⊥) → is_at_or_below build (g ++ x) ≡ true
below_root [] g x below some tail e there = or_right (bytes_eq (g ++ x) []) true refl
below_root (c ∷ cs) g x below some tail e there = elim (or_cases (bytes_eq g (c ∷ cs)) (is_some (rest_below (c ∷ cs) g)) below) [
  | inl same ↦
      let is : g ≡ c ∷ cs = (bytes_eq-Decides g (c ∷ cs)).0 same in
      let on : rest_below (c ∷ cs) (g ++ x) ≡ Some tail = ap (rest_below (c ∷ cs)) (ap (λ (y : List ℕ). y ++ x) is ∙ ap (λ (y : List ℕ). (c ∷ cs) ++ y) e) ∙ inside_below (c ∷ cs) tail in
      or_right (bytes_eq (g ++ x) (c ∷ cs)) (is_some (rest_below (c ∷ cs) (g ++ x))) (ap is_some on)
  | inr lies ↦
      let r = the_rest (rest_below (c ∷ cs) g) lies in
      let on : rest_below (c ∷ cs) (g ++ x) ≡ Some (r.0 ++ x) =
      ap (rest_below (c ∷ cs)) (ap (λ (y : List ℕ). y ++ x) (below_is (c ∷ cs) g r.0 r.1) ∙ inside_append (c ∷ cs) r.0 x) ∙ inside_below (c ∷ cs) (r.0 ++ x) in
      or_right (bytes_eq (g ++ x) (c ∷ cs)) (is_some (rest_below (c ∷ cs) (g ++ x))) (ap is_some on)
]
  where
    the_rest : (o : Option (List ℕ)) → is_some o ≡ true → (r : List ℕ) × (o ≡ Some r)
    the_rest None h = absurd (false≢true h)
    the_rest (Some r) h = (r, refl)

none_more : (g : List ℕ) → IsPath g → path_of (components_of g ++ []) ≡ g
none_more g is = ap path_of (append-nil (components_of g)) ∙ is

slash_on : (g n x : List ℕ) → (g ≡ [] → ⊥) → inside g n ++ x ≡ g ++ 47 ∷ (n ++ x)
slash_on g n x some = ap (λ (y : List ℕ). y ++ x) (inside_some g n some) ∙ append_assoc g (47 ∷ n) x

-- what goes on behind a hidden folder is hidden
hidden_on : (build g n x : List ℕ) → is_at_or_below build g ≡ true → is_at_or_below build (inside g n ++ x) ≡ true
hidden_on [] g n x below = or_right (bytes_eq (inside g n ++ x) []) true refl
hidden_on (c ∷ cs) [] n x below = absurd (false≢true below)
hidden_on (c ∷ cs) (b ∷ bs) n x below =
    let some : b ∷ bs ≡ [] → ⊥ = λ h. cc in
    let other : 47 ∷ (n ++ x) ≡ [] → ⊥ = λ h. cc in
    subst (λ (y : List ℕ). is_at_or_below (c ∷ cs) y ≡ true) (sym (slash_on (b ∷ bs) n x some))
    (below_root (c ∷ cs) (b ∷ bs) (47 ∷ (n ++ x)) below other (n ++ x) refl some)

hidden_below : (build g f : List ℕ) (more : List (List ℕ)) → IsPath g → f ≡ path_of (components_of g ++ more) → is_at_or_below build g ≡ true → is_at_or_below build f ≡ true
hidden_below build g f [] is e below = subst (λ (y : List ℕ). is_at_or_below build y ≡ true) (sym (e ∙ none_more g is)) below
hidden_below build g f (n ∷ more) is e below =
    subst (λ (y : List ℕ). is_at_or_below build y ≡ true) (sym (goes_on (components_of g) n more g f is (component_name g) e)) (hidden_on build g n (tail_of more) below)

-- every folder below a deep start is listed
pub reach : (files : Files) (build : List ℕ) (starts left : List Start) (folders : List (List ℕ)) → Lists files build starts folders left → left ≡ [] → ArePaths starts
    → (s : Start) → Contains starts s → s.deep ≡ true → (more : List (List ℕ)) → ((k : List ℕ) → Contains more k → IsName k) → (f : List ℕ) → f ≡ path_of (components_of s.path ++ more)
    → IsFolder files f → is_at_or_below build f ≡ false → Contains folders f
reach files build starts left folders nothing none paths s m deep more names f e folder out = absurd (contains_none s (subst (λ (ls : List Start). Contains ls s) none m))
reach files build starts left folders (hidden {start = st} {starts = ss} below rest) none paths s m deep more names f e folder out = elim (contains_cases st ss s m) [
  | inl same ↦ absurd (false≢true (sym out ∙ hidden_below build s.path f more (paths s m) e (ap (λ (x : Start). is_at_or_below build x.path) (sym same) ∙ below)))
  | inr n ↦ reach files build ss left folders rest none (λ t k. paths t (contains_more st ss t k)) s n deep more names f e folder out
]
reach files build starts left folders (alone {start = st} {starts = ss} {folders = fs} visible flat rest) none paths s m deep more names f e folder out = elim (contains_cases st ss s m) [
  | inl same ↦ absurd (false≢true (sym flat ∙ ap (λ (x : Start). x.deep) same ∙ deep))
  | inr n ↦ contains_more st.path fs f (reach files build ss left fs rest none (λ t k. paths t (contains_more st ss t k)) s n deep more names f e folder out)
]
reach files build starts left folders (with_all_below {start = st} {starts = ss} {folders = fs} children visible is are rest) none paths s m deep [] names f e folder out = elim (contains_cases st ss s m) [
  | inl same ↦ subst (λ (x : List ℕ). Contains (st.path ∷ fs) x) (ap (λ (x : Start). x.path) same ∙ sym (e ∙ none_more s.path (paths s m))) (contains_first st.path fs)
  | inr n ↦ contains_more st.path fs f (reach files build (deep_starts children ++ ss) left fs rest none (next_paths files st.path children ss (paths st (contains_first st ss)) are (λ t k. paths t (contains_more st ss t k)))
      s (contains_right (deep_starts children) ss s n) deep [] names f e folder out)
]
reach files build starts left folders (with_all_below {start = st} {starts = ss} {folders = fs} children visible is are rest) none paths s m deep (n ∷ more) names f e folder out = elim (contains_cases st ss s m) [
  | inl same ↦
      let g : List ℕ = st.path in
      let own : IsPath g = paths st (contains_first st ss) in
      let name : IsName n = names n (contains_first n more) in
      let way : f ≡ path_of (components_of g ++ n ∷ more) = e ∙ ap (λ (x : Start). path_of (components_of x.path ++ n ∷ more)) (sym same) in
      let child : IsChild files g (inside g n) = child_on_way files (components_of g) n more g f own (component_name g) name way folder in
      let there : Contains children (inside g n) = (are.each (inside g n)).1 child in
      let on : f ≡ path_of (components_of (inside g n) ++ more) = way ∙ ap path_of (sym (append_assoc (components_of g) (n ∷ []) more) ∙ ap (λ (cs : List (List ℕ)). cs ++ more) (sym (components_inside g n own name))) in
      contains_more g fs f (reach files build (deep_starts children ++ ss) left fs rest none (next_paths files g children ss own are (λ t k. paths t (contains_more st ss t k)))
      (record { path = inside g n; deep = true }) (contains_left (deep_starts children) ss _ (contains_map (λ (x : List ℕ). record { path = x; deep = true }) children (inside g n) there)) refl more
      (λ k i. names k (contains_more n more k i)) f on folder out)
  | inr k ↦ contains_more st.path fs f (reach files build (deep_starts children ++ ss) left fs rest none (next_paths files st.path children ss (paths st (contains_first st ss)) are (λ t j. paths t (contains_more st ss t j)))
      s (contains_right (deep_starts children) ss s k) deep (n ∷ more) names f e folder out)
]

-- every start outside the build root is listed
pub reach_own : (files : Files) (build : List ℕ) (starts left : List Start) (folders : List (List ℕ)) → Lists files build starts folders left → left ≡ []
    → (s : Start) → Contains starts s → is_at_or_below build s.path ≡ false → Contains folders s.path
reach_own files build starts left folders nothing none s m out = absurd (contains_none s (subst (λ (ls : List Start). Contains ls s) none m))
reach_own files build starts left folders (hidden {start = st} {starts = ss} below rest) none s m out = elim (contains_cases st ss s m) [
  | inl same ↦ absurd (false≢true (sym out ∙ ap (λ (x : Start). is_at_or_below build x.path) (sym same) ∙ below))
  | inr n ↦ reach_own files build ss left folders rest none s n out
]
reach_own files build starts left folders (alone {start = st} {starts = ss} {folders = fs} visible flat rest) none s m out = elim (contains_cases st ss s m) [
  | inl same ↦ subst (λ (x : List ℕ). Contains (st.path ∷ fs) x) (ap (λ (x : Start). x.path) same) (contains_first st.path fs)
  | inr n ↦ contains_more st.path fs s.path (reach_own files build ss left fs rest none s n out)
]
reach_own files build starts left folders (with_all_below {start = st} {starts = ss} {folders = fs} children visible is are rest) none s m out = elim (contains_cases st ss s m) [
  | inl same ↦ subst (λ (x : List ℕ). Contains (st.path ∷ fs) x) (ap (λ (x : Start). x.path) same) (contains_first st.path fs)
  | inr n ↦ contains_more st.path fs s.path (reach_own files build (deep_starts children ++ ss) left fs rest none s (contains_right (deep_starts children) ss s n) out)
]
