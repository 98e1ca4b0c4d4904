-- What the project file makes of a project.
use Rattle.std.proofs.Common.{◌≡◌, ℕ, ◌<◌, ◌≤◌, List, true, false, length, refl, sym, subst, inl, arith}
use Rattle.std.specs.Prelude.{Option, Some, None, IfOk, IfSome, IsSomeAnd, Result, Ok, Err, nat_lt}
use Rattle.std.specs.FinMap.{get}
use Rattle.std.proofs.lemmas.Bool.Decides.{nat_tests}
use Rattle.ct_base.specs.declared.limits.LimitKind.TheVariants.{FileBytes}
use Rattle.ct_base.specs.Answers.{IfFault}
use Rattle.ct_base.specs.declared.memory.Fail.{Fail}
use Rattle.ct_base.specs.declared.memory.Fail.TheVariants.{Fault, OutOfMemory}
use Rattle.ct_base.specs.declared.refusals.Refusal.{Refusal}
use Rattle.ct_find.specs.Limits.{most_file_bytes}
use Rattle.ct_outside.specs.Files.{Files, AppendsFile}
use Rattle.ct_outside.specs.declared.tree.Found.{Found}
use Rattle.ct_outside.specs.declared.tree.Found.TheVariants.{TooLarge}
use Rattle.ct_settings.specs.declared.record.ProjectSettings.{ProjectSettings}
use Rattle.ct_settings.specs.Table.{settings_of}
use Rattle.ct_yaml.specs.declared.node.Node.{Node}
use Rattle.ct_yaml.specs.Text.{text_lines, SpellsNode}
use Rattle.ct_top.specs.Project.{HasOutcome, LongTextMeans, LogsOrRefusal, ProjectMeans, SearchMeans, SettingsMean, TextMeans, limit_passed, project_path}

long_text : (files : Files) (text : Option (List ℕ)) → IsSomeAnd text (λ bytes. most_file_bytes < length bytes)
    → ProjectMeans files text (Err (limit_passed FileBytes project_path))
long_text files None h = absurd h
long_text files (Some text) h =
    let test : nat_lt most_file_bytes (length text) ≡ true = grind (arith, nat_tests) in
    subst (λ t. LongTextMeans t files text (Err (limit_passed FileBytes project_path))) (sym test) refl

-- what is said where an option is there
told_at : {A : Type 0} (o : Option A) (P : A → Type 0) (x : A) → IfSome o P → o ≡ Some x → P x
told_at {A = A} o P x h e = let Q : Option A → Type 0 = λ p. IfSome p P in subst Q e h

-- the project file is too long
pub too_large : (told : Option Files) (files : Files) (found : Found) (old text : List ℕ) (refusal : Refusal) → told ≡ Some files → found ≡ TooLarge
    → IfSome told (λ fs. AppendsFile fs project_path most_file_bytes found old text) → refusal ≡ limit_passed FileBytes project_path → HasOutcome files (Err refusal)
too_large told files found old text refusal tells is reads named =
    let long : AppendsFile files project_path most_file_bytes TooLarge old text = subst (λ f. AppendsFile files project_path most_file_bytes f old text) is
    (told_at told (λ fs. AppendsFile fs project_path most_file_bytes found old text) files reads tells) in
    subst (λ r. HasOutcome files (Err r)) (sym named) (long_text files (get files project_path) long)

-- the text is not too long, so it decides
pub short_text : (files : Files) (text : List ℕ) (outcome : LogsOrRefusal) → get files project_path ≡ Some text → length text ≤ most_file_bytes
    → TextMeans files text outcome → HasOutcome files outcome
short_text files text outcome is short means =
    let test : nat_lt most_file_bytes (length text) ≡ false = grind (arith, nat_tests) in
    let here : ProjectMeans files (Some text) outcome = subst (λ t. LongTextMeans t files text outcome) (sym test) means in
    subst (λ o. ProjectMeans files o outcome) (sym is) here

-- the text spells a node, so its settings decide
pub text_goes_on : (text : List ℕ) (node : Node) (r : Result ProjectSettings (Fail Refusal)) → SpellsNode (text_lines text) node
    → IfOk r (λ settings. settings_of node ≡ Ok settings)
    → IfOk r (λ settings. (files : Files) (outcome : LogsOrRefusal) → SearchMeans files settings outcome → TextMeans files text outcome)
text_goes_on text node (Ok settings) spells is =
    λ files outcome means. inl (node, spells, subst (λ answer. SettingsMean files answer outcome) (sym is) means)
text_goes_on text node (Err fail) spells is = tt

-- a refusal of the text, over these files
pub text_refused : (T : Type 0) (files : Files) (text : List ℕ) (fail : Fail Refusal)
    → IfFault {T = T} (Err fail) (λ refusal. (fs : Files) → TextMeans fs text (Err refusal)) → IfFault {T = T} (Err fail) (λ refusal. TextMeans files text (Err refusal))
text_refused T files text (Fault refusal) h = h files
text_refused T files text OutOfMemory h = tt
