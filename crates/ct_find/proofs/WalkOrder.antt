-- The order of listing: each tree has one, and the walk that goes a start at a time keeps it.
use Rattle.std.proofs.Common.{◌≡◌, ℕ, zero, suc, ◌+◌, ◌<◌, ◌≤◌, List, [], ◌∷◌, ◌++◌, Bool, true, false, length, refl, sym, ap, subst, ◌∙◌, arith, append_assoc}
use Rattle.std.specs.FinMap.{keys}
use Rattle.std.specs.List.{Contains}
use Rattle.std.proofs.lemmas.Bool.{false≢true}
use Rattle.ct_outside.specs.Files.{Files}
use Rattle.ct_find.specs.declared.starts.Start.{Start}
use Rattle.ct_find.specs.Folders.{is_at_or_below}
use Rattle.ct_find.specs.Order.{AreChildren, AreWalks, IsChild, IsWalk, nothing, followed, hidden, alone, with_all_below, deep_starts}
use Rattle.ct_find.specs.Rows.{Lists, nothing as no_more, hidden as passed_over, alone as listed_alone, with_all_below as opened}
use Rattle.ct_find.proofs.Children.{child_longer, child_short, children_exist, total_length}
use Rattle.ct_find.proofs.Members.{contains_first, contains_more, contains_none}
use Rattle.ct_find.proofs.Ordered.{one_set}

-- ---- each start has a walk

made_at : (files : Files) (build : List ℕ) (start : Start) (children below : List (List ℕ)) → AreChildren files start.path children → AreWalks files build (deep_starts children) below
    → (b : Bool) → is_at_or_below build start.path ≡ b → (d : Bool) → start.deep ≡ d → (walk : List (List ℕ)) × IsWalk files build start walk
made_at files build start children below are walks true e d f = ([], hidden e)
made_at files build start children below are walks false e false f = (start.path ∷ [], alone e f)
made_at files build start children below are walks false e true f = (start.path ∷ below, with_all_below children e f are walks)

made : (files : Files) (build : List ℕ) (start : Start) (children below : List (List ℕ)) → AreChildren files start.path children → AreWalks files build (deep_starts children) below
    → (walk : List (List ℕ)) × IsWalk files build start walk
made files build start children below are walks = made_at files build start children below are walks (is_at_or_below build start.path) refl start.deep refl

all_walks : (files : Files) (build : List ℕ) (folders : List (List ℕ))
    → ((p : List ℕ) → Contains folders p → (walk : List (List ℕ)) × IsWalk files build (record { path = p; deep = true }) walk)
    → (walks : List (List ℕ)) × AreWalks files build (deep_starts folders) walks
all_walks files build [] each = ([], nothing)
all_walks files build (p ∷ ps) each =
    let walk = each p (contains_first p ps) in
    let others = all_walks files build ps (λ q m. each q (contains_more p ps q m)) in
    (walk.0 ++ others.0, followed walk.1 others.1)

no_children : (files : Files) (folder : List ℕ) → total_length (keys files) < length folder → AreChildren files folder []
no_children files folder long = record {
  each = λ p. (
    (λ m. absurd (contains_none p m)),
    (λ h.
        let longer : length folder < length p = child_longer files folder p h in
        let short : length p ≤ total_length (keys files) = child_short files folder p h in
        absurd (omega arith)),
  );
  once = tt;
  sorted = λ k d low within. absurd (omega arith);
}

-- the paths grow from folder to folder, so the walk ends
walk_at : (files : Files) (build : List ℕ) (room : ℕ) (start : Start) → total_length (keys files) < room + length start.path → (walk : List (List ℕ)) × IsWalk files build start walk
walk_at files build zero start long = made files build start [] [] (no_children files start.path (omega arith)) nothing
walk_at files build (suc room) start long =
    let children = children_exist files start.path in
    let below = all_walks files build children.0 (λ p m.
    let longer : length start.path < length p = child_longer files start.path p ((children.1.each p).0 m) in
    walk_at files build room (record { path = p; deep = true }) (omega arith)) in
    made files build start children.0 below.0 children.1 below.1

pub walks_exist : (files : Files) (build : List ℕ) (starts : List Start) → (walks : List (List ℕ)) × AreWalks files build starts walks
walks_exist files build [] = ([], nothing)
walks_exist files build (start ∷ starts) =
    let walk = walk_at files build (total_length (keys files) + 1) start (omega arith) in
    let others = walks_exist files build starts in
    (walk.0 ++ others.0, followed walk.1 others.1)

-- ---- and one alone

mutual
  one_walk : (files : Files) (build : List ℕ) (start : Start) (xs ys : List (List ℕ)) → IsWalk files build start xs → IsWalk files build start ys → xs ≡ ys
  one_walk files build start xs ys (hidden under) (hidden again) = refl
  one_walk files build start xs ys (hidden under) (alone out flat) = absurd (false≢true (sym out ∙ under))
  one_walk files build start xs ys (hidden under) (with_all_below children out deep are walks) = absurd (false≢true (sym out ∙ under))
  one_walk files build start xs ys (alone out flat) (hidden under) = absurd (false≢true (sym out ∙ under))
  one_walk files build start xs ys (alone out flat) (alone again level) = refl
  one_walk files build start xs ys (alone out flat) (with_all_below children again deep are walks) = absurd (false≢true (sym flat ∙ deep))
  one_walk files build start xs ys (with_all_below children out deep are walks) (hidden under) = absurd (false≢true (sym out ∙ under))
  one_walk files build start xs ys (with_all_below children out deep are walks) (alone again flat) = absurd (false≢true (sym flat ∙ deep))
  one_walk files build start xs ys (with_all_below children {below = below} out deep are walks) (with_all_below others {below = again} outside low same more) =
      let moved : AreWalks files build (deep_starts children) again =
      subst (λ (cs : List (List ℕ)). AreWalks files build (deep_starts cs) again) (one_set (IsChild files start.path) others children same are) more in
      ap (λ (fs : List (List ℕ)). start.path ∷ fs) (one_walks files build (deep_starts children) below again walks moved)

  pub one_walks : (files : Files) (build : List ℕ) (starts : List Start) (xs ys : List (List ℕ)) → AreWalks files build starts xs → AreWalks files build starts ys → xs ≡ ys
  one_walks files build starts xs ys nothing nothing = refl
  one_walks files build starts xs ys (followed {start = start} {starts = after} {walk = a} {walks = more} walk walks) (followed {walk = b} {walks = rest} other others) =
      ap (λ (fs : List (List ℕ)). fs ++ more) (one_walk files build start a b walk other) ∙ ap (λ (fs : List (List ℕ)). b ++ fs) (one_walks files build after more rest walks others)

-- ---- what is listed a start at a time, and the walks of the starts that are left

parts : (files : Files) (build : List ℕ) (xs ys : List Start) (walks : List (List ℕ)) → AreWalks files build (xs ++ ys) walks
    → (a b : List (List ℕ)) × AreWalks files build xs a × AreWalks files build ys b × (walks ≡ a ++ b)
parts files build [] ys walks w = ([], walks, nothing, w, refl)
parts files build (x ∷ xs) ys walks (followed {walk = v} {walks = vs} walk w) =
    let r = parts files build xs ys vs w in
    (v ++ r.0, r.1, followed walk r.2, r.3, ap (λ (fs : List (List ℕ)). v ++ fs) r.4 ∙ sym (append_assoc v r.0 r.1))

pub walks_of : (files : Files) (build : List ℕ) (starts left : List Start) (folders rest : List (List ℕ)) → Lists files build starts folders left → AreWalks files build left rest
    → AreWalks files build starts (folders ++ rest)
walks_of files build starts left folders rest no_more w = w
walks_of files build starts left folders rest (passed_over {starts = after} under lists) w = followed (hidden under) (walks_of files build after left folders rest lists w)
walks_of files build starts left folders rest (listed_alone {starts = after} {folders = more} out flat lists) w = followed (alone out flat) (walks_of files build after left more rest lists w)
walks_of files build starts left folders rest (opened {start = start} {starts = after} {folders = more} children out deep are lists) w =
    let whole = walks_of files build (deep_starts children ++ after) left more rest lists w in
    let r = parts files build (deep_starts children) after (more ++ rest) whole in
    subst (λ (fs : List (List ℕ)). AreWalks files build (start ∷ after) (start.path ∷ fs)) (sym r.4) (followed (with_all_below children out deep are r.2) r.3)

-- the walk of a start that is not below the build root begins with its folder
begins : (files : Files) (build : List ℕ) (start : Start) (walk : List (List ℕ)) → is_at_or_below build start.path ≡ false → IsWalk files build start walk
    → (below : List (List ℕ)) × (walk ≡ start.path ∷ below)
begins files build start walk out (hidden under) = absurd (false≢true (sym out ∙ under))
begins files build start walk out (alone again flat) = ([], refl)
begins files build start walk out (with_all_below children {below = below} again deep are walks) = (below, refl)

pub walks_begin : (files : Files) (build : List ℕ) (start : Start) (left : List Start) (walks : List (List ℕ)) → is_at_or_below build start.path ≡ false
    → AreWalks files build (start ∷ left) walks → (rest : List (List ℕ)) × (walks ≡ start.path ∷ rest)
walks_begin files build start left walks out (followed {walk = walk} {walks = others} first after) =
    let r = begins files build start walk out first in (r.0 ++ others, ap (λ (fs : List (List ℕ)). fs ++ others) r.1)
