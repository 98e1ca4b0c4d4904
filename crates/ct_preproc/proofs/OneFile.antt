-- A file has one unit or one first refusal.
use Rattle.std.proofs.Common.{◌≡◌, ℕ, zero, suc, Bool, true, false, List, [], ◌∷◌, ◌++◌, Option, Some, sym, subst, ◌∙◌}
use Rattle.std.specs.Prelude.{Result, Ok, Err, MatchOption}
use Rattle.std.specs.Bool.{MatchBool}
use Rattle.std.specs.List.{list_any}
use Rattle.std.specs.Str.{bytes_eq}
use Rattle.ct_base.specs.declared.lexical.Token.{Token}
use Rattle.ct_base.specs.declared.limits.LimitKind.TheVariants.{IncludeDepth}
use Rattle.ct_macro_call.specs.declared.definition.Macro.{Macro}
use Rattle.ct_outside.specs.Files.{Files}
use Rattle.ct_settings.specs.declared.record.Define.{Define}
use Rattle.ct_directive.specs.declared.faults.PreFault.{PreFault}
use Rattle.ct_directive.specs.declared.faults.PreKind.TheVariants as pre
use Rattle.ct_directive.specs.declared.forms.Header.{Header}
use Rattle.ct_directive.specs.declared.heads.Heads.{Heads}
use Rattle.ct_directive.specs.declared.search.Target.{Target}
use Rattle.ct_directive.specs.Forms.{first_other}
use Rattle.ct_directive.specs.Headers.{BuiltIn}
use Rattle.ct_directive.specs.Lines.{lines_of, words_of}
use Rattle.ct_directive.specs.Groups.{Group, Nothing, Text, Control, Section, Others, NoOthers, Elif, Else}
use Rattle.ct_preproc.specs.declared.state.State.{State}
use Rattle.ct_preproc.specs.declared.state.Place.{Place}
use Rattle.ct_preproc.specs.declared.units.SourceUnit.{SourceUnit}
use Rattle.ct_preproc.specs.Directives.{Acts, Condition, FirstCondition}
use Rattle.ct_preproc.specs.Files.{ActsFully, Enters, Follows, Included, ReadsFile, ReadsGroup, ReadsLines, ReadsOthers, ReadsTarget, Returns, begins, closes, inside, with_count, with_include}
use Rattle.ct_preproc.specs.Reading.{Ends, IsLexed, DoesThen, counts, fault_at, file_number, with_path}
use Rattle.ct_preproc.specs.Units.{Defined, DefinesUnit, HasDefine, HaveDefines, IsPreprocessedUnit, ReadsUnit, empty, main_file, most_includes, most_tokens, predefined, replaced, unit_of}
use Rattle.ct_preproc.proofs.OneAnswer.{HasOne, this_one, choice_one, case_one, reads_one}
use Rattle.ct_preproc.proofs.OneDirective.{acts_one, condition_one, first_condition_one}
use Rattle.ct_preproc.proofs.OneLaws.{Laws}
use Rattle.ct_preproc.proofs.OneMeaning.{means_one}
use Rattle.ct_preproc.proofs.OneReading.{ends_one, lexed_one}

-- ---- the groups of a file

module _ (laws : Laws) (limit : ℕ) (Opens : Place → ℕ → Header → State → Result State PreFault → Type 0)
    (opens_one : (place : Place) (line : ℕ) (header : Header) (state : State) → HasOne (Opens place line header state)) (place : Place) where
  follows_one : (line : ℕ) (header : Option Header) (state : State) → HasOne (Follows limit Opens place line header state)
  follows_one line header state =
      case_one header (λ answer. answer ≡ Ok state) (λ h. Opens place line h state) (this_one (Ok state)) (λ h. opens_one place line h state)

  acts_fully_one : (line : ℕ) (tokens : List Token) (state : State) → HasOne (ActsFully limit Opens place line tokens state)
  acts_fully_one line tokens state =
      reads_one (Acts place limit line state tokens) (λ found. Follows limit Opens place line found.1 found.0)
      (acts_one laws place limit line state tokens) (λ found. follows_one line found.1 found.0)

  mutual
    group_one : (state : State) (text : List Token) (group : Group) → HasOne (ReadsGroup limit Opens place state text group)
    group_one state text Nothing a b f g = ends_one laws place limit state text a b f g
    group_one state text (Text line behind) a b f g =
        reads_one (λ found. found ≡ counts place limit state.counted line) (λ counted. ReadsGroup limit Opens place (with_count state counted) (text ++ line) behind)
        (this_one (counts place limit state.counted line)) (λ counted. group_one (with_count state counted) (text ++ line) behind) a b f g
    group_one state text (Control number tokens behind) a b f g =
        reads_one (Ends place limit state text)
        (λ ended answer. DoesThen (ActsFully limit Opens place number tokens ended) answer (λ after. ReadsGroup limit Opens place after [] behind answer))
        (ends_one laws place limit state text)
        (λ ended. reads_one (ActsFully limit Opens place number tokens ended) (λ after. ReadsGroup limit Opens place after [] behind)
        (acts_fully_one number tokens ended) (λ after. group_one after [] behind)) a b f g
    group_one state text (Section number name tokens inner others behind) a b f g =
        reads_one (Ends place limit state text)
        (λ ended answer. DoesThen (FirstCondition place limit number ended name tokens) answer
        (λ found. DoesThen (λ read. MatchBool found.0 (ReadsGroup limit Opens place found.1 [] inner read) (ReadsOthers limit Opens place found.1 others read)) answer
        (λ after. ReadsGroup limit Opens place after [] behind answer)))
        (ends_one laws place limit state text)
        (λ ended. reads_one (FirstCondition place limit number ended name tokens)
        (λ found answer. DoesThen (λ read. MatchBool found.0 (ReadsGroup limit Opens place found.1 [] inner read) (ReadsOthers limit Opens place found.1 others read)) answer
        (λ after. ReadsGroup limit Opens place after [] behind answer))
        (first_condition_one laws place limit number ended name tokens)
        (λ found. reads_one (λ read. MatchBool found.0 (ReadsGroup limit Opens place found.1 [] inner read) (ReadsOthers limit Opens place found.1 others read))
        (λ after. ReadsGroup limit Opens place after [] behind)
        (choice_one found.0 (ReadsGroup limit Opens place found.1 [] inner) (ReadsOthers limit Opens place found.1 others)
        (group_one found.1 [] inner) (others_one found.1 others)) (λ after. group_one after [] behind))) a b f g

    others_one : (state : State) (others : Others) → HasOne (ReadsOthers limit Opens place state others)
    others_one state NoOthers a b f g = f ∙ sym g
    others_one state (Elif number tokens inner others) a b f g =
        reads_one (Condition place limit number state tokens)
        (λ found answer. MatchBool found.0 (ReadsGroup limit Opens place found.1 [] inner answer) (ReadsOthers limit Opens place found.1 others answer))
        (condition_one laws place limit number state tokens)
        (λ found. choice_one found.0 (ReadsGroup limit Opens place found.1 [] inner) (ReadsOthers limit Opens place found.1 others)
        (group_one found.1 [] inner) (others_one found.1 others)) a b f g
    others_one state (Else inner) a b f g = group_one state [] inner a b f g

  abbrev ReadsOutline : State → Group → Option ℕ → Result State PreFault → Type 0
  ReadsOutline state group broken answer = DoesThen (ReadsGroup limit Opens place state [] group) answer (λ after. answer ≡ closes place broken after)

  outline_one : (state : State) (group : Group) (broken : Option ℕ) → HasOne (ReadsOutline state group broken)
  outline_one state group broken =
      reads_one (ReadsGroup limit Opens place state [] group) (λ after answer. answer ≡ closes place broken after)
      (group_one state [] group) (λ after. this_one (closes place broken after))

  lines_one : (state : State) (lines : List (List Token)) → HasOne (ReadsLines limit Opens place state lines)
  lines_one state lines a b f g =
      let group : f.0 ≡ g.0 = laws.group lines f.0 g.0 f.1 g.1 f.2 g.2 in
      let broken : f.1 ≡ g.1 = laws.broken lines f.0 g.0 f.1 g.1 f.2 g.2 in
      outline_one state g.0 g.1 a b
      (subst (λ (broken : Option ℕ). ReadsOutline state g.0 broken a) broken (subst (λ (group : Group). ReadsOutline state group f.1 a) group f.3)) g.3

module _ (laws : Laws) (limit : ℕ) (Opens : Place → ℕ → Header → State → Result State PreFault → Type 0)
    (opens_one : (place : Place) (line : ℕ) (header : Header) (state : State) → HasOne (Opens place line header state)) where
  file_one : (place : Place) (text : List ℕ) (state : State) → HasOne (ReadsFile limit Opens place text state)
  file_one place text state =
      reads_one (IsLexed place place.built_in (file_number place.path state.files) text)
      (λ tokens. ReadsLines limit Opens place (begins place state) (lines_of tokens))
      (lexed_one laws place place.built_in (file_number place.path state.files) text) (λ tokens. lines_one laws limit Opens opens_one place (begins place state) (lines_of tokens))

  -- ---- includes

  returns_one : (place : Place) (target : Target) (state : State) → HasOne (Returns limit Opens place target state)
  returns_one place target state =
      reads_one (ReadsFile limit Opens (inside place target) target.text state)
      (λ after answer. answer ≡ Ok (record after { macros = with_path place.path after.macros }))
      (file_one (inside place target) target.text state)
      (λ after. this_one (Ok (record after { macros = with_path place.path after.macros })))

  target_one : (place : Place) (line : ℕ) (header : Header) (state : State) (target : Target)
      → HasOne (λ (a : Result State PreFault). ReadsTarget limit Opens place line header state a target)
  target_one place line header state target =
      choice_one (list_any (bytes_eq target.path) state.once) (λ answer. answer ≡ Ok (with_include place line header.name target.path state))
      (Returns limit Opens place target (with_include place line header.name target.path state))
      (this_one (Ok (with_include place line header.name target.path state)))
      (returns_one place target (with_include place line header.name target.path state))

module _ (laws : Laws) (files : Files) (folders : List (List ℕ)) (heads : Heads) (headers : List BuiltIn) (limit : ℕ) where
  included_at : (place : Place) (line : ℕ) (Found : Target → Result State PreFault → Type 0) → ((target : Target) → HasOne (Found target))
      → (target : Option Target) → HasOne (λ (a : Result State PreFault). MatchOption target (a ≡ Err (fault_at place line pre.MissingInclude)) (λ t. Found t a))
  included_at place line Found found target =
      case_one target (λ answer. answer ≡ Err (fault_at place line pre.MissingInclude)) Found (this_one (Err (fault_at place line pre.MissingInclude))) found

  included_one : (place : Place) (line : ℕ) (header : Header) (Found : Target → Result State PreFault → Type 0) → ((target : Target) → HasOne (Found target))
      → HasOne (λ (a : Result State PreFault). Included files folders heads headers limit place line header a (λ target. Found target a))
  included_one place line header Found found a b f g =
      let same : f.0 ≡ g.0 = means_one files folders heads headers place.path header f.0 g.0 f.1 g.1 in
      included_at place line Found found g.0 a b
      (subst (λ (target : Option Target). MatchOption target (a ≡ Err (fault_at place line pre.MissingInclude)) (λ t. Found t a)) same f.2) g.2

  pub enters_one : (more : ℕ) (place : Place) (line : ℕ) (header : Header) (state : State) → HasOne (Enters files folders heads headers limit more place line header state)
  enters_one zero place line header state a b f g =
      included_one place line header (λ target answer. answer ≡ Err (fault_at place line (pre.Limit IncludeDepth)))
      (λ target. this_one (Err (fault_at place line (pre.Limit IncludeDepth)))) a b f g
  enters_one (suc more) place line header state a b f g =
      included_one place line header (λ target answer. ReadsTarget limit (Enters files folders heads headers limit more) place line header state answer target)
      (λ target. target_one laws limit (Enters files folders heads headers limit more) (enters_one more) place line header state target) a b f g

-- ---- the macros at the begin of a unit

defined_one : (place : Place) (macros : List Macro) (name : List ℕ) (body : List Token) → HasOne (Defined place macros name body)
defined_one place macros name body =
    case_one (first_other body) (λ answer. answer ≡ replaced place macros name body) (λ (other : Token) answer. answer ≡ Err (fault_at place 0 pre.BadToken))
    (this_one (replaced place macros name body)) (λ other. this_one (Err (fault_at place 0 pre.BadToken)))

define_one : (laws : Laws) (place : Place) (macros : List Macro) (define : Define) → HasOne (HasDefine place macros define)
define_one laws place macros define =
    reads_one (IsLexed place true 0 define.text) (λ tokens. Defined place macros define.name (words_of tokens))
    (lexed_one laws place true 0 define.text) (λ tokens. defined_one place macros define.name (words_of tokens))

have_defines_one : (laws : Laws) (place : Place) (macros : List Macro) (defines : List Define) → HasOne (HaveDefines place macros defines)
have_defines_one laws place macros [] a b f g = f ∙ sym g
have_defines_one laws place macros (define ∷ defines) a b f g =
    reads_one (HasDefine place macros define) (λ more. HaveDefines place more defines)
    (define_one laws place macros define) (λ more. have_defines_one laws place more defines) a b f g

-- ---- the unit

module _ (laws : Laws) (files : Files) (folders : List (List ℕ)) (heads : Heads) (headers : List BuiltIn) (tool : Bool) where
  reads_unit_one : (place : Place) (text : List ℕ) (macros : List Macro) → HasOne (ReadsUnit files folders heads headers tool place text macros)
  reads_unit_one place text macros =
      reads_one (ReadsFile (most_tokens tool) (Enters files folders heads headers (most_tokens tool) (most_includes tool)) place text (empty macros))
      (λ state answer. answer ≡ Ok (unit_of state))
      (file_one laws (most_tokens tool) (Enters files folders heads headers (most_tokens tool) (most_includes tool))
      (enters_one laws files folders heads headers (most_tokens tool) (most_includes tool)) place text (empty macros))
      (λ state. this_one (Ok (unit_of state)))

  defines_unit_one : (place : Place) (text : List ℕ) (defines : List Define) → HasOne (DefinesUnit files folders heads headers tool place text defines)
  defines_unit_one place text defines =
      reads_one (HaveDefines place predefined defines) (λ macros. ReadsUnit files folders heads headers tool place text macros)
      (have_defines_one laws place predefined defines) (λ macros. reads_unit_one place text macros)

  same_text : (a b : List ℕ) → ◌≡◌ {A = Option (List ℕ)} (Some a) (Some b) → a ≡ b
  same_text a b e = cc

  pub unit_one : (defines : List Define) (path : List ℕ) (a b : Result SourceUnit PreFault)
      → IsPreprocessedUnit files folders heads headers defines path tool a → IsPreprocessedUnit files folders heads headers defines path tool b → a ≡ b
  unit_one defines path a b f g =
      let text : f.0 ≡ g.0 = same_text f.0 g.0 (sym f.1 ∙ g.1) in
      defines_unit_one (main_file path) g.0 defines a b
      (subst (λ (t : List ℕ). DefinesUnit files folders heads headers tool (main_file path) t defines a) text f.2) g.2
