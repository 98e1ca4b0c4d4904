-- What a project means: the report of its tests, or its first refusal.
use Rattle.std.specs.Prelude.{◌≡◌, ◌⊎◌, ℕ, Bool, true, false, List, [], ◌∷◌, ◌++◌, map, length, nat_lt, Option, Some, None, unwrap_or, Result, Ok, Err, codes, decimal, if◌then◌else◌}
use Rattle.std.specs.List.{Contains, list_any}
use Rattle.std.specs.FinMap.{get}
use Rattle.ct_base.specs.declared.answers.Status.{Status}
use Rattle.ct_base.specs.declared.answers.Status.TheVariants.{Refused}
use Rattle.ct_base.specs.declared.limits.LimitKind.{LimitKind}
use Rattle.ct_base.specs.declared.limits.LimitKind.TheVariants as limits
use Rattle.ct_base.specs.declared.memory.Fail.TheVariants.{Fault}
use Rattle.ct_base.specs.declared.refusals.Refusal.{Refusal}
use Rattle.ct_find.specs.declared.files.FindFault.TheVariants.{Limit}
use Rattle.ct_find.specs.declared.files.Files.{Files as Found}
use Rattle.ct_find.specs.Limits.{most_file_bytes}
use Rattle.ct_find.specs.Results.{Finds}
use Rattle.ct_outside.specs.Files.{Files, is_slash, EachOnce}
use Rattle.ct_report.specs.declared.logs.RunLog.{RunLog}
use Rattle.ct_report.specs.Report.{report_of, status_of}
use Rattle.ct_settings.specs.declared.record.ProjectSettings.{ProjectSettings}
use Rattle.ct_settings.specs.declared.record.SettingFault.{SettingFault}
use Rattle.ct_settings.specs.declared.record.SettingKind.{SettingKind}
use Rattle.ct_settings.specs.declared.record.SettingKind.TheVariants.{NotMap, NotText, NotList, NotBool, BadValue}
use Rattle.ct_settings.specs.Table.{settings_of}
use Rattle.ct_top.specs.Meaning.{FileMeans}
use Rattle.ct_yaml.specs.declared.node.Node.{Node}
use Rattle.ct_yaml.specs.Text.{text_lines, SpellsNode, IsFaultLine}

abbrev pub project_path : List ℕ
project_path = codes "project.yml"

-- ---- refusals

-- the numbers of kinds of refusals
abbrev pub absent_kind : ℕ
absent_kind = 1

abbrev pub settings_kind : ℕ
settings_kind = 2

abbrev pub names_kind : ℕ
names_kind = 3

abbrev pub limit_kind : ℕ
limit_kind = 4

abbrev pub refusal : ℕ → List ℕ → ℕ → List ℕ → Refusal
refusal kind file line text = record { kind = kind; file = file; line = line; text = text }

abbrev pub no_project : Refusal
no_project = refusal absent_kind project_path 0 (codes "NoProject")

-- a project file that is no YAML of the profile
abbrev pub no_yaml : ℕ → Refusal
no_yaml line = refusal settings_kind project_path line (codes "Settings Yaml")

abbrev pub setting_word : SettingKind → List ℕ
setting_word NotMap = codes "NotMap"
setting_word NotText = codes "NotText"
setting_word NotList = codes "NotList"
setting_word NotBool = codes "NotBool"
setting_word BadValue = codes "BadValue"

-- `Settings KEY KIND`
abbrev pub bad_setting : SettingFault → Refusal
bad_setting fault = refusal settings_kind project_path 0 (codes "Settings " ++ fault.key ++ codes " " ++ setting_word fault.kind)

abbrev pub limit_word : LimitKind → List ℕ
limit_word limits.FileBytes = codes "FileBytes"
limit_word limits.AllBytes = codes "AllBytes"
limit_word limits.Files = codes "Files"
limit_word limits.Entries = codes "Entries"
limit_word limits.FolderDepth = codes "FolderDepth"
limit_word limits.Tokens = codes "Tokens"
limit_word limits.IncludeDepth = codes "IncludeDepth"
limit_word limits.ExpressionDepth = codes "ExpressionDepth"
limit_word limits.StatementDepth = codes "StatementDepth"
limit_word limits.DeclaratorDepth = codes "DeclaratorDepth"
limit_word limits.TypeParts = codes "TypeParts"
limit_word limits.ObjectBytes = codes "ObjectBytes"
limit_word limits.StaticBytes = codes "StaticBytes"
limit_word limits.AutoObjects = codes "AutoObjects"
limit_word limits.AutoBytes = codes "AutoBytes"
limit_word limits.Tests = codes "Tests"
limit_word limits.MockedFunctions = codes "MockedFunctions"

-- `Limit QUANTITY`, at a file or a folder
abbrev pub limit_passed : LimitKind → List ℕ → Refusal
limit_passed kind path = refusal limit_kind path 0 (codes "Limit " ++ limit_word kind)

-- what stands behind the last slash
abbrev pub base_name : List ℕ → List ℕ
base_name [] = []
base_name (byte ∷ bytes) = if list_any is_slash (byte ∷ bytes) then base_name bytes else byte ∷ bytes

-- `SameTest NAME`, at the later of two test files
abbrev pub same_test : List ℕ → Refusal
same_test path = refusal names_kind path 0 (codes "SameTest " ++ base_name path)

-- ---- test files

-- the bytes of a file; it is asked of paths that have a file alone
abbrev pub text_at : Files → List ℕ → List ℕ
text_at files path = unwrap_or (get files path) []

-- the logs of the test files that are run, in order, or the first refusal
abbrev pub LogsOrRefusal : Type 0
LogsOrRefusal = Result (List RunLog) Refusal

abbrev pub with_log : RunLog → LogsOrRefusal → LogsOrRefusal
with_log log (Ok logs) = Ok (log ∷ logs)
with_log log (Err refusal) = Err refusal

-- The first file that is refused refuses the project, and then no later one counts. Else each has its log.
abbrev pub FilesMean : Files → List (List ℕ) → LogsOrRefusal → Type 0
FilesMean files [] outcome = outcome ≡ Ok []
FilesMean files (path ∷ paths) outcome =
    ((refusal : Refusal) × FileMeans path (text_at files path) (Err refusal) × (outcome ≡ Err refusal))
    ⊎ ((log : RunLog) × (others : LogsOrRefusal) × FileMeans path (text_at files path) (Ok log) × FilesMean files paths others × (outcome ≡ with_log log others))

-- The path is the first whose base name one before it has.
pub record IsSameTest (paths : List (List ℕ)) (path : List ℕ) : Type 0 where
  pub before : List (List ℕ)
  pub after : List (List ℕ)
  pub split : paths ≡ before ++ path ∷ after
  pub apart : EachOnce (map base_name before)
  pub again : Contains (map base_name before) (base_name path)

-- two test files with one base name refuse the project, before any test file is translated
abbrev pub TestsMean : Files → List (List ℕ) → LogsOrRefusal → Type 0
TestsMean files tests outcome =
    ((path : List ℕ) × IsSameTest tests path × (outcome ≡ Err (same_test path)))
    ⊎ (EachOnce (map base_name tests) × FilesMean files tests outcome)

-- ---- the project

-- what is found, or the limit that listing or reading passes
abbrev pub SearchMeans : Files → ProjectSettings → LogsOrRefusal → Type 0
SearchMeans files settings outcome =
    ((found : Found) × Finds settings files (Ok found) × TestsMean files found.tests outcome)
    ⊎ ((kind : LimitKind) × (path : List ℕ) × Finds settings files (Err (Fault (Limit kind path))) × (outcome ≡ Err (limit_passed kind path)))

abbrev pub SettingsMean : Files → Result ProjectSettings SettingFault → LogsOrRefusal → Type 0
SettingsMean files (Err fault) outcome = outcome ≡ Err (bad_setting fault)
SettingsMean files (Ok settings) outcome = SearchMeans files settings outcome

-- no node spells the text, and this is the line at which it is refused
abbrev pub IsNoYaml : List ℕ → ℕ → Type 0
IsNoYaml text line = ((node : Node) → SpellsNode (text_lines text) node → ⊥) × IsFaultLine (text_lines text) line

-- the text of the project file spells a node, or is refused at a line
abbrev pub TextMeans : Files → List ℕ → LogsOrRefusal → Type 0
TextMeans files text outcome =
    ((node : Node) × SpellsNode (text_lines text) node × SettingsMean files (settings_of node) outcome)
    ⊎ ((line : ℕ) × IsNoYaml text line × (outcome ≡ Err (no_yaml line)))

-- it is not read where it is too long
abbrev pub LongTextMeans : Bool → Files → List ℕ → LogsOrRefusal → Type 0
LongTextMeans true files text outcome = outcome ≡ Err (limit_passed limits.FileBytes project_path)
LongTextMeans false files text outcome = TextMeans files text outcome

abbrev pub ProjectMeans : Files → Option (List ℕ) → LogsOrRefusal → Type 0
ProjectMeans files None outcome = outcome ≡ Err no_project
ProjectMeans files (Some text) outcome = LongTextMeans (nat_lt most_file_bytes (length text)) files text outcome

-- A project of these files has this outcome.
abbrev pub HasOutcome : Files → LogsOrRefusal → Type 0
HasOutcome files outcome = ProjectMeans files (get files project_path) outcome

-- `ERROR: FILE:LINE: TEXT`
abbrev pub refusal_line : Refusal → List ℕ
refusal_line refusal =
    codes "ERROR: " ++ refusal.file ++ codes ":" ++ decimal refusal.line ++ codes ": " ++ refusal.text ++ 10 ∷ []

-- what is written for an outcome: the report, or the one line of the refusal
abbrev pub output_of : LogsOrRefusal → List ℕ
output_of (Ok logs) = report_of logs
output_of (Err refusal) = refusal_line refusal

abbrev pub status_after : LogsOrRefusal → Status
status_after (Ok logs) = status_of logs
status_after (Err refusal) = Refused
