-- What the search makes of a project.
use Rattle.std.proofs.Common.{◌≡◌, ℕ, List, [], ◌∷◌, ap, subst, inl, inr}
use Rattle.std.specs.Prelude.{Ok, Err, unwrap_or}
use Rattle.std.specs.List.{Contains}
use Rattle.std.specs.FinMap.{get}
use Rattle.ct_find.specs.declared.files.Files.{Files as Found}
use Rattle.ct_find.specs.Results.{Finds}
use Rattle.ct_outside.specs.Files.{Files}
use Rattle.ct_settings.specs.declared.record.ProjectSettings.{ProjectSettings}
use Rattle.ct_top.specs.Meaning.{FileMeans}
use Rattle.ct_top.specs.Project.{FilesMean, LogsOrRefusal, SearchMeans, TestsMean, text_at}
use Rattle.ct_top.proofs.Members.{contains_first, contains_more}

-- the same texts of these paths mean the same
files_mean : (texts files : Files) (paths : List (List ℕ)) (o : LogsOrRefusal) → ((path : List ℕ) → Contains paths path → get texts path ≡ get files path)
    → FilesMean texts paths o → FilesMean files paths o
files_mean texts files [] o same means = means
files_mean texts files (path ∷ paths) o same (inl h) =
    let text : text_at texts path ≡ text_at files path = ap (λ t. unwrap_or t []) (same path (contains_first path paths)) in
    inl (h.0, subst (λ t. FileMeans path t (Err h.0)) text h.1, h.2)
files_mean texts files (path ∷ paths) o same (inr h) =
    let text : text_at texts path ≡ text_at files path = ap (λ t. unwrap_or t []) (same path (contains_first path paths)) in
    inr (
      h.0,
      h.1,
      subst (λ t. FileMeans path t (Ok h.0)) text h.2,
      files_mean texts files paths h.1 (λ p m. same p (contains_more path paths p m)) h.3,
      h.4,
    )

tests_mean : (texts files : Files) (paths : List (List ℕ)) (o : LogsOrRefusal) → ((path : List ℕ) → Contains paths path → get texts path ≡ get files path)
    → TestsMean texts paths o → TestsMean files paths o
tests_mean texts files paths o same (inl h) = inl h
tests_mean texts files paths o same (inr h) = inr (h.0, files_mean texts files paths o same h.1)

-- what the tests mean that were found, the project means
pub search_goes_on : (settings : ProjectSettings) (files : Files) (found : Found) → Finds settings files (Ok found)
    → (o : LogsOrRefusal) → TestsMean found.texts found.tests o → SearchMeans files settings o
search_goes_on settings files found finds o means =
    inl (found, finds, tests_mean found.texts files found.tests o (λ path m. finds.1.texts.listed path (inl ((finds.1.tests.each path).0 m))) means)
