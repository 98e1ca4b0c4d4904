-- Each project has an order of listing.
use Rattle.std.proofs.Common.{◌≡◌, ℕ, inl, inr, List, [], ◌∷◌, ◌++◌, Bool, true, false, cond, ◌||◌, map, refl, sym, ap, subst, ◌∙◌}
use Rattle.std.specs.Prelude.{◌&&◌}
use Rattle.std.specs.List.{Contains}
use Rattle.std.specs.Str.{bytes_eq}
use Rattle.std.proofs.lemmas.Bool.{false≢true, and_parts, or_cases}
use Rattle.std.proofs.lemmas.Slice.Eq.{bytes_eq-Decides}
use Rattle.ct_outside.specs.Files.{Files}
use Rattle.ct_settings.specs.declared.record.Pattern.{Pattern}
use Rattle.ct_settings.specs.declared.record.ProjectSettings.{ProjectSettings}
use Rattle.ct_find.specs.declared.starts.Start.{Start}
use Rattle.ct_find.specs.Order.{AreStarts, IsDeep, IsDeepStart, IsOrder, IsStart, first_places, is_deep, start_of}
use Rattle.ct_find.specs.Sets.{AreSorted}
use Rattle.ct_find.proofs.Children.{sorted_of}
use Rattle.ct_find.proofs.Members.{contains_cases, contains_first, contains_more, contains_none, map_contains}
use Rattle.ct_find.proofs.ReachLemmas.{or_right}
use Rattle.ct_find.proofs.SetLemmas.{sorted_as}
use Rattle.ct_find.proofs.WalkOrder.{walks_exist}

-- the starts of the adding patterns
abbrev start_list : List Pattern → List (List ℕ)
start_list [] = []
start_list (pattern ∷ patterns) = cond pattern.add (start_of pattern.path ∷ start_list patterns) (start_list patterns)

later : (p : Pattern) (ps : List Pattern) (f : List ℕ) → IsStart ps f → IsStart (p ∷ ps) f
later p ps f h = (h.0, contains_more p ps h.0 h.1, h.2)

in_at : (p : Pattern) (ps : List Pattern) (f : List ℕ) (b : Bool) → p.add ≡ b → (Contains (start_list ps) f → IsStart ps f)
    → Contains (cond b (start_of p.path ∷ start_list ps) (start_list ps)) f → IsStart (p ∷ ps) f
in_at p ps f true e more m = elim (contains_cases (start_of p.path) (start_list ps) f m) [
  | inl same ↦ (p, contains_first p ps, (e, sym same))
  | inr n ↦ later p ps f (more n)
]
in_at p ps f false e more m = later p ps f (more m)

starts_in : (patterns : List Pattern) (f : List ℕ) → Contains (start_list patterns) f → IsStart patterns f
starts_in [] f m = absurd (contains_none f m)
starts_in (p ∷ ps) f m = in_at p ps f p.add refl (starts_in ps f) m

have_at : (p : Pattern) (ps : List Pattern) (f : List ℕ) → IsStart (p ∷ ps) f → (b : Bool) → p.add ≡ b → (IsStart ps f → Contains (start_list ps) f)
    → Contains (cond b (start_of p.path ∷ start_list ps) (start_list ps)) f
have_at p ps f h true e more = elim (contains_cases p ps h.0 h.1) [
  | inl same ↦ subst (λ (g : List ℕ). Contains (start_of p.path ∷ start_list ps) g) (ap (λ (q : Pattern). start_of q.path) same ∙ sym h.2.1) (contains_first (start_of p.path) (start_list ps))
  | inr n ↦ contains_more (start_of p.path) (start_list ps) f (more (h.0, n, h.2))
]
have_at p ps f h false e more = elim (contains_cases p ps h.0 h.1) [
  | inl same ↦ absurd (false≢true (sym e ∙ ap (λ (q : Pattern). q.add) same ∙ h.2.0))
  | inr n ↦ more (h.0, n, h.2)
]

starts_have : (patterns : List Pattern) (f : List ℕ) → IsStart patterns f → Contains (start_list patterns) f
starts_have [] f h = absurd (contains_none h.0 h.1)
starts_have (p ∷ ps) f h = have_at p ps f h p.add refl (starts_have ps f)

-- some adding pattern with a wildcard starts at this folder
abbrev starts_deep : List Pattern → List ℕ → Bool
starts_deep [] f = false
starts_deep (p ∷ ps) f = (p.add && (bytes_eq f (start_of p.path) && is_deep p.path)) || starts_deep ps f

all_true : (a b c d : Bool) → a ≡ true → b ≡ true → c ≡ true → ((a && (b && c)) || d) ≡ true
all_true true true true d e f g = refl
all_true true true false d e f g = absurd (false≢true g)
all_true true false c d e f g = absurd (false≢true f)
all_true false b c d e f g = absurd (false≢true e)

deep_in : (patterns : List Pattern) (f : List ℕ) → starts_deep patterns f ≡ true → IsDeepStart patterns f
deep_in [] f e = absurd (false≢true e)
deep_in (p ∷ ps) f e = elim (or_cases (p.add && (bytes_eq f (start_of p.path) && is_deep p.path)) (starts_deep ps f) e) [
  | inl h ↦
      let adds = and_parts p.add (bytes_eq f (start_of p.path) && is_deep p.path) h in
      let is = and_parts (bytes_eq f (start_of p.path)) (is_deep p.path) adds.1 in
      (p, contains_first p ps, (adds.0, (bytes_eq-Decides f (start_of p.path)).0 is.0, is.1))
  | inr h ↦ let r = deep_in ps f h in (r.0, contains_more p ps r.0 r.1, r.2)
]

deep_has : (patterns : List Pattern) (f : List ℕ) → IsDeepStart patterns f → starts_deep patterns f ≡ true
deep_has [] f h = absurd (contains_none h.0 h.1)
deep_has (p ∷ ps) f h = elim (contains_cases p ps h.0 h.1) [
  | inl same ↦ all_true p.add (bytes_eq f (start_of p.path)) (is_deep p.path) (starts_deep ps f)
      (ap (λ (q : Pattern). q.add) same ∙ h.2.0)
      ((bytes_eq-Decides f (start_of p.path)).1 (h.2.1 ∙ ap (λ (q : Pattern). start_of q.path) (sym same)))
      (ap (λ (q : Pattern). is_deep q.path) same ∙ h.2.2)
  | inr n ↦ or_right (p.add && (bytes_eq f (start_of p.path) && is_deep p.path)) (starts_deep ps f) (deep_has ps f (h.0, n, h.2))
]

abbrev start_at : List Pattern → List ℕ → Start
start_at patterns f = record { path = f; deep = starts_deep patterns f }

paths_at : (patterns : List Pattern) (folders : List (List ℕ)) → map (λ (s : Start). s.path) (map (start_at patterns) folders) ≡ folders
paths_at patterns [] = refl
paths_at patterns (f ∷ folders) = ap (λ (fs : List (List ℕ)). f ∷ fs) (paths_at patterns folders)

starts_exist : (patterns : List Pattern) → (starts : List Start) × AreStarts patterns starts
starts_exist patterns =
    let set = sorted_of (start_list patterns) in (
      map (start_at patterns) set.0,
      record {
        paths = subst (λ (fs : List (List ℕ)). AreSorted (IsStart patterns) fs) (sym (paths_at patterns set.0))
            (sorted_as (Contains (start_list patterns)) (IsStart patterns) set.0 (λ f. (starts_in patterns f, starts_have patterns f)) set.1);
        deep = λ s m.
            let r = map_contains (start_at patterns) set.0 s m in
            subst (λ (t : Start). IsDeep patterns t) r.2 (record { deep = deep_in patterns r.0; shallow = deep_has patterns r.0 });
      },
    )

pub order_exists : (settings : ProjectSettings) (files : Files) → (folders : List (List ℕ)) × IsOrder settings files folders
order_exists settings files =
    let test = starts_exist settings.test in
    let source = starts_exist settings.source in
    let include = starts_exist settings.include in
    let support = starts_exist settings.support in
    let starts : List Start = test.0 ++ source.0 ++ include.0 ++ support.0 in
    let walks = walks_exist files settings.build_root starts in (
      first_places walks.0,
      record {
        starts = starts;
        whole = record {
          test = test.0;
          source = source.0;
          include = include.0;
          support = support.0;
          test_starts = test.1;
          source_starts = source.1;
          include_starts = include.1;
          support_starts = support.1;
          whole = refl;
        };
        walks = walks.0;
        are = walks.1;
        once = refl;
      },
    )
