-- A project has at most one outcome.
use Rattle.std.proofs.Common.{◌≡◌, ℕ, inl, inr, ◌⊎◌, List, [], ◌∷◌, ◌++◌, Bool, true, false, length, map, sym, ap, subst, ◌∙◌, ⊎_elim, arith}
use Rattle.std.specs.Prelude.{Option, Some, None, Result, Ok, Err, nat_lt}
use Rattle.std.specs.List.{Contains}
use Rattle.std.specs.FinMap.{get}
use Rattle.std.proofs.lemmas.Bool.{cases_lt}
use Rattle.ct_base.specs.declared.lexical.Token.{Token}
use Rattle.ct_base.specs.declared.limits.LimitKind.{LimitKind}
use Rattle.ct_base.specs.declared.refusals.Refusal.{Refusal}
use Rattle.ct_find.specs.declared.files.Files.{Files as Found}
use Rattle.ct_find.specs.Limits.{most_file_bytes}
use Rattle.ct_find.specs.Results.{IsFound, Passes, Stays}
use Rattle.ct_outside.specs.Files.{Files, EachOnce}
use Rattle.ct_report.specs.declared.logs.RunLog.{RunLog}
use Rattle.ct_settings.specs.declared.record.ProjectSettings.{ProjectSettings}
use Rattle.ct_settings.specs.declared.record.SettingFault.{SettingFault}
use Rattle.ct_settings.specs.Table.{settings_of}
use Rattle.ct_token.specs.Lexing.{IsTokenization, LeavesOpen}
use Rattle.ct_yaml.specs.declared.node.Node.{Node}
use Rattle.ct_yaml.specs.Text.{text_lines, IsFaultLine, SpellsNode}
use Rattle.ct_core.specs.declared.units.CoreUnit.{CoreUnit}
use Rattle.ct_form.specs.declared.outside.Outside.{Outside}
use Rattle.ct_form.specs.Form.{HasForm}
use Rattle.ct_top.specs.Meaning.{FileMeans, answer_of, open_comment}
use Rattle.ct_top.specs.Project.{FilesMean, HasOutcome, IsSameTest, LongTextMeans, LogsOrRefusal, ProjectMeans, SearchMeans, SettingsMean, TestsMean, TextMeans, base_name, limit_passed, no_yaml, project_path, same_test, text_at, with_log}
use Rattle.ct_top.proofs.Members.{contains_first, contains_more, contains_cases, contains_none}

same_refusal : (r q : Refusal) → ◌≡◌ {A = Result RunLog Refusal} (Err r) (Err q) → r ≡ q
same_refusal r q e = cc

same_log : (a b : RunLog) → ◌≡◌ {A = Result RunLog Refusal} (Ok a) (Ok b) → a ≡ b
same_log a b e = cc

log_or_refusal : (log : RunLog) (refusal : Refusal) → ◌≡◌ {A = Result RunLog Refusal} (Ok log) (Err refusal) → ⊥
log_or_refusal log refusal e = cc

-- ---- the line of a text that is refused

one_line : (lines : List (List ℕ)) (n m : ℕ) → IsFaultLine lines n → IsFaultLine lines m → n ≡ m
one_line lines n m (inl f) (inl g) = ⊎_elim
    (λ below. absurd (f.1 (g.2 n below)))
    (λ above. ⊎_elim (λ below. absurd (g.1 (f.2 m below))) (λ same. omega arith) (cases_lt m n))
    (cases_lt n m)
one_line lines n m (inl f) (inr g) = absurd (f.1 (g.1 n f.0))
one_line lines n m (inr f) (inl g) = absurd (g.1 (f.1 m g.0))
one_line lines n m (inr f) (inr g) = f.0 ∙ sym g.0

-- ---- the first test file whose name an earlier one has

in_middle : (before after : List (List ℕ)) (path : List ℕ) → Contains (map base_name (before ++ path ∷ after)) (base_name path)
in_middle [] after path = contains_first (base_name path) (map base_name after)
in_middle (x ∷ xs) after path = contains_more (base_name x) (map base_name (xs ++ path ∷ after)) (base_name path) (in_middle xs after path)

name_again : (before after : List (List ℕ)) (path : List ℕ) → Contains (map base_name before) (base_name path)
    → EachOnce (map base_name (before ++ path ∷ after)) → ⊥
name_again [] after path again once = contains_none (base_name path) again
name_again (x ∷ xs) after path again once = ⊎_elim
    (λ same. once.0 (subst (Contains (map base_name (xs ++ path ∷ after))) (sym same) (in_middle xs after path)))
    (λ later. name_again xs after path later once.1)
    (contains_cases (base_name x) (map base_name xs) (base_name path) again)

-- two places in a list: the same, or one stands before the other
Places : List (List ℕ) → List (List ℕ) → List ℕ → List ℕ → Type 0
Places xs ys p q = (p ≡ q) ⊎ (((rest : List (List ℕ)) × (ys ≡ xs ++ p ∷ rest)) ⊎ ((rest : List (List ℕ)) × (xs ≡ ys ++ q ∷ rest)))

places : (xs ys zs ws : List (List ℕ)) (p q : List ℕ) → xs ++ p ∷ zs ≡ ys ++ q ∷ ws → Places xs ys p q
unfolding Places
places [] [] zs ws p q e = let same : p ≡ q = cc in inl same
places [] (y ∷ ys) zs ws p q e = let same : p ≡ y = cc in inr (inl (ys, ap (λ x. x ∷ ys) (sym same)))
places (x ∷ xs) [] zs ws p q e = let same : x ≡ q = cc in inr (inr (xs, ap (λ y. y ∷ xs) same))
places (x ∷ xs) (y ∷ ys) zs ws p q e =
    let first : x ≡ y = cc in
    let others : xs ++ p ∷ zs ≡ ys ++ q ∷ ws = cc in
    ⊎_elim
    (λ same. inl same)
    (λ apart. ⊎_elim
    (λ h. let is : y ∷ ys ≡ x ∷ (xs ++ p ∷ h.0) = ap (λ t. t ∷ ys) (sym first) ∙ ap (λ t. x ∷ t) h.1 in inr (inl (h.0, is)))
    (λ h. let is : x ∷ xs ≡ y ∷ (ys ++ q ∷ h.0) = ap (λ t. t ∷ xs) first ∙ ap (λ t. y ∷ t) h.1 in inr (inr (h.0, is)))
    apart)
    (places xs ys zs ws p q others)

one_same : (paths : List (List ℕ)) (p q : List ℕ) → IsSameTest paths p → IsSameTest paths q → p ≡ q
unfolding Places
one_same paths p q f g = ⊎_elim
    (λ same. same)
    (λ apart. ⊎_elim
    (λ h. absurd (name_again f.before h.0 p f.again (subst (λ ps. EachOnce (map base_name ps)) h.1 g.apart)))
    (λ h. absurd (name_again g.before h.0 q g.again (subst (λ ps. EachOnce (map base_name ps)) h.1 f.apart)))
    apart)
    (places f.before g.before f.after g.after p q (sym f.split ∙ g.split))

none_same : (paths : List (List ℕ)) (p : List ℕ) → IsSameTest paths p → EachOnce (map base_name paths) → ⊥
none_same paths p f once = name_again f.before f.after p f.again (subst (λ ps. EachOnce (map base_name ps)) f.split once)

module _ (one : (file : ℕ) (text : List ℕ) (a b : List Token) → IsTokenization file text a → IsTokenization file text b → a ≡ b)
    (one_open : (text : List ℕ) (a b : ℕ) → LeavesOpen text a → LeavesOpen text b → a ≡ b)
    (closed : (file : ℕ) (text : List ℕ) (tokens : List Token) (line : ℕ) → IsTokenization file text tokens → LeavesOpen text line → ⊥)
    (one_form : (path : List ℕ) (tokens : List Token) (a b : Result CoreUnit Outside) → HasForm path tokens a → HasForm path tokens b → a ≡ b)
    (one_limit : (settings : ProjectSettings) (files : Files) (kind other : LimitKind) (path place : List ℕ)
    → Passes settings files kind path → Passes settings files other place → (kind ≡ other) × (path ≡ place))
    (apart : (settings : ProjectSettings) (files : Files) (kind : LimitKind) (path : List ℕ) → Stays settings files → Passes settings files kind path → ⊥)
    (one_found : (settings : ProjectSettings) (files : Files) (found other : Found) → IsFound settings files found → IsFound settings files other → found ≡ other)
    (one_node : (lines : List (List ℕ)) (first second : Node) → SpellsNode lines first → SpellsNode lines second → first ≡ second) where
  file-unique : (path text : List ℕ) (r q : Result RunLog Refusal) → FileMeans path text r → FileMeans path text q → r ≡ q
  file-unique path text r q (inl f) (inr g) = absurd (closed 0 text f.0 g.0 f.1 g.1)
  file-unique path text r q (inr f) (inl g) = absurd (closed 0 text g.0 f.0 g.1 f.1)
  file-unique path text r q (inr f) (inr g) = f.2 ∙ ap (λ line. Err (open_comment path line)) (one_open text f.0 g.0 f.1 g.1) ∙ sym g.2
  file-unique path text r q (inl f) (inl g) =
      let tokens = one 0 text f.0 g.0 f.1 g.1 in
      let form = one_form path g.0 f.2.0 g.2.0 (subst (λ ts. HasForm path ts f.2.0) tokens f.2.1) g.2.1 in
      f.2.2 ∙ ap (answer_of path) form ∙ sym g.2.2

  files-unique : (files : Files) (paths : List (List ℕ)) (a b : LogsOrRefusal) → FilesMean files paths a → FilesMean files paths b → a ≡ b
  files-unique files [] a b f g = f ∙ sym g
  files-unique files (path ∷ paths) a b (inl f) (inl g) =
      f.2 ∙ ap Err (same_refusal f.0 g.0 (file-unique path (text_at files path) (Err f.0) (Err g.0) f.1 g.1)) ∙ sym g.2
  files-unique files (path ∷ paths) a b (inl f) (inr g) =
      absurd (log_or_refusal g.0 f.0 (file-unique path (text_at files path) (Ok g.0) (Err f.0) g.2 f.1))
  files-unique files (path ∷ paths) a b (inr f) (inl g) =
      absurd (log_or_refusal f.0 g.0 (file-unique path (text_at files path) (Ok f.0) (Err g.0) f.2 g.1))
  files-unique files (path ∷ paths) a b (inr f) (inr g) =
      let log : f.0 ≡ g.0 = same_log f.0 g.0 (file-unique path (text_at files path) (Ok f.0) (Ok g.0) f.2 g.2) in
      let others : f.1 ≡ g.1 = files-unique files paths f.1 g.1 f.3 g.3 in
      f.4 ∙ ap (λ l. with_log l f.1) log ∙ ap (λ o. with_log g.0 o) others ∙ sym g.4

  tests-unique : (files : Files) (tests : List (List ℕ)) (a b : LogsOrRefusal) → TestsMean files tests a → TestsMean files tests b → a ≡ b
  tests-unique files tests a b (inl f) (inl g) = f.2 ∙ ap (λ p. Err (same_test p)) (one_same tests f.0 g.0 f.1 g.1) ∙ sym g.2
  tests-unique files tests a b (inl f) (inr g) = absurd (none_same tests f.0 f.1 g.0)
  tests-unique files tests a b (inr f) (inl g) = absurd (none_same tests g.0 g.1 f.0)
  tests-unique files tests a b (inr f) (inr g) = files-unique files tests a b f.1 g.1

  search-unique : (files : Files) (settings : ProjectSettings) (a b : LogsOrRefusal) → SearchMeans files settings a → SearchMeans files settings b → a ≡ b
  search-unique files settings a b (inl f) (inl g) =
      let found = one_found settings files f.0 g.0 f.1.1 g.1.1 in
      tests-unique files g.0.tests a b (subst (λ (o : Found). TestsMean files o.tests a) found f.2) g.2
  search-unique files settings a b (inl f) (inr g) = absurd (apart settings files g.0 g.1 f.1.0 g.2)
  search-unique files settings a b (inr f) (inl g) = absurd (apart settings files f.0 f.1 g.1.0 f.2)
  search-unique files settings a b (inr f) (inr g) =
      let same = one_limit settings files f.0 g.0 f.1 g.1 f.2 g.2 in
      f.3 ∙ ap (λ kind. Err (limit_passed kind f.1)) same.0 ∙ ap (λ path. Err (limit_passed g.0 path)) same.1 ∙ sym g.3

  settings-unique : (files : Files) (read : Result ProjectSettings SettingFault) (a b : LogsOrRefusal) → SettingsMean files read a → SettingsMean files read b → a ≡ b
  settings-unique files (Err fault) a b f g = f ∙ sym g
  settings-unique files (Ok settings) a b f g = search-unique files settings a b f g

  text-unique : (files : Files) (text : List ℕ) (a b : LogsOrRefusal) → TextMeans files text a → TextMeans files text b → a ≡ b
  text-unique files text a b (inl f) (inl g) =
      let node = one_node (text_lines text) f.0 g.0 f.1 g.1 in
      settings-unique files (settings_of g.0) a b (subst (λ n. SettingsMean files (settings_of n) a) node f.2) g.2
  text-unique files text a b (inl f) (inr g) = absurd (g.1.0 f.0 f.1)
  text-unique files text a b (inr f) (inl g) = absurd (f.1.0 g.0 g.1)
  text-unique files text a b (inr f) (inr g) = f.2 ∙ ap (λ n. Err (no_yaml n)) (one_line (text_lines text) f.0 g.0 f.1.1 g.1.1) ∙ sym g.2

  long-unique : (long : Bool) (files : Files) (text : List ℕ) (a b : LogsOrRefusal) → LongTextMeans long files text a → LongTextMeans long files text b → a ≡ b
  long-unique true files text a b f g = f ∙ sym g
  long-unique false files text a b f g = text-unique files text a b f g

  project-unique : (files : Files) (text : Option (List ℕ)) (a b : LogsOrRefusal) → ProjectMeans files text a → ProjectMeans files text b → a ≡ b
  project-unique files None a b f g = f ∙ sym g
  project-unique files (Some text) a b f g = long-unique (nat_lt most_file_bytes (length text)) files text a b f g

  pub HasOutcome-unique : (files : Files) (a b : LogsOrRefusal) → HasOutcome files a → HasOutcome files b → a ≡ b
  HasOutcome-unique files a b f g = project-unique files (get files project_path) a b f g
