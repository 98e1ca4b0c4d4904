-- Each file has a unit or a first refusal.
use Rattle.std.proofs.Common.{◌≡◌, ℕ, zero, suc, Bool, true, List, [], ◌∷◌, ◌++◌, Option, Some, refl}
use Rattle.std.specs.Prelude.{Result, Ok, Err, MatchOption}
use Rattle.std.specs.Bool.{MatchBool}
use Rattle.std.specs.FinMap.{get}
use Rattle.std.specs.List.{list_any}
use Rattle.std.specs.Str.{bytes_eq}
use Rattle.ct_base.specs.declared.lexical.Token.{Token}
use Rattle.ct_base.specs.declared.limits.LimitKind.TheVariants.{IncludeDepth}
use Rattle.ct_macro_call.specs.declared.definition.Macro.{Macro}
use Rattle.ct_outside.specs.Files.{Files}
use Rattle.ct_settings.specs.declared.record.Define.{Define}
use Rattle.ct_directive.specs.declared.faults.PreFault.{PreFault}
use Rattle.ct_directive.specs.declared.faults.PreKind.TheVariants as pre
use Rattle.ct_directive.specs.declared.forms.Header.{Header}
use Rattle.ct_directive.specs.declared.heads.Heads.{Heads}
use Rattle.ct_directive.specs.declared.search.Target.{Target}
use Rattle.ct_directive.specs.Forms.{first_other}
use Rattle.ct_directive.specs.Headers.{BuiltIn}
use Rattle.ct_directive.specs.Lines.{lines_of, words_of}
use Rattle.ct_directive.specs.Groups.{Group, Nothing, Text, Control, Section, Others, NoOthers, Elif, Else}
use Rattle.ct_preproc.specs.declared.state.State.{State}
use Rattle.ct_preproc.specs.declared.state.Place.{Place}
use Rattle.ct_preproc.specs.declared.units.SourceUnit.{SourceUnit}
use Rattle.ct_preproc.specs.Directives.{Acts, Condition, FirstCondition}
use Rattle.ct_preproc.specs.Files.{ActsFully, Enters, Follows, Included, ReadsFile, ReadsGroup, ReadsLines, ReadsOthers, ReadsTarget, Returns, begins, closes, inside, with_count, with_include}
use Rattle.ct_preproc.specs.Reading.{Ends, IsLexed, DoesThen, counts, fault_at, file_number, with_path}
use Rattle.ct_preproc.specs.Units.{Defined, DefinesUnit, HasDefine, HaveDefines, IsPreprocessedUnit, ReadsUnit, empty, main_file, most_includes, most_tokens, predefined, replaced, unit_of}
use Rattle.ct_preproc.proofs.EachAnswer.{EachLaws, HasSome, this_some, choice_some, case_some, reads_some}
use Rattle.ct_preproc.proofs.EachDirective.{acts_some, condition_some, first_condition_some}
use Rattle.ct_preproc.proofs.EachReading.{ends_some, lexed_some}

-- ---- the groups of a file

module _ (laws : EachLaws) (limit : ℕ) (Opens : Place → ℕ → Header → State → Result State PreFault → Type 0)
    (opens_some : (place : Place) (line : ℕ) (header : Header) (state : State) → HasSome (Opens place line header state)) (place : Place) where
  follows_some : (line : ℕ) (header : Option Header) (state : State) → HasSome (Follows limit Opens place line header state)
  follows_some line header state =
      case_some header (λ answer. answer ≡ Ok state) (λ h. Opens place line h state) (this_some (Ok state)) (λ h. opens_some place line h state)

  acts_fully_some : (line : ℕ) (tokens : List Token) (state : State) → HasSome (ActsFully limit Opens place line tokens state)
  acts_fully_some line tokens state =
      reads_some (Acts place limit line state tokens) (λ found. Follows limit Opens place line found.1 found.0)
      (acts_some laws place limit line state tokens) (λ found. follows_some line found.1 found.0)

  mutual
    group_some : (state : State) (text : List Token) (group : Group) → HasSome (ReadsGroup limit Opens place state text group)
    group_some state text Nothing = ends_some laws place limit state text
    group_some state text (Text line behind) =
        reads_some (λ found. found ≡ counts place limit state.counted line) (λ counted. ReadsGroup limit Opens place (with_count state counted) (text ++ line) behind)
        (this_some (counts place limit state.counted line)) (λ counted. group_some (with_count state counted) (text ++ line) behind)
    group_some state text (Control number tokens behind) =
        reads_some (Ends place limit state text)
        (λ ended answer. DoesThen (ActsFully limit Opens place number tokens ended) answer (λ after. ReadsGroup limit Opens place after [] behind answer))
        (ends_some laws place limit state text)
        (λ ended. reads_some (ActsFully limit Opens place number tokens ended) (λ after. ReadsGroup limit Opens place after [] behind)
        (acts_fully_some number tokens ended) (λ after. group_some after [] behind))
    group_some state text (Section number name tokens inner others behind) =
        reads_some (Ends place limit state text)
        (λ ended answer. DoesThen (FirstCondition place limit number ended name tokens) answer
        (λ found. DoesThen (λ read. MatchBool found.0 (ReadsGroup limit Opens place found.1 [] inner read) (ReadsOthers limit Opens place found.1 others read)) answer
        (λ after. ReadsGroup limit Opens place after [] behind answer)))
        (ends_some laws place limit state text)
        (λ ended. reads_some (FirstCondition place limit number ended name tokens)
        (λ found answer. DoesThen (λ read. MatchBool found.0 (ReadsGroup limit Opens place found.1 [] inner read) (ReadsOthers limit Opens place found.1 others read)) answer
        (λ after. ReadsGroup limit Opens place after [] behind answer))
        (first_condition_some laws place limit number ended name tokens)
        (λ found. reads_some (λ read. MatchBool found.0 (ReadsGroup limit Opens place found.1 [] inner read) (ReadsOthers limit Opens place found.1 others read))
        (λ after. ReadsGroup limit Opens place after [] behind)
        (choice_some found.0 (ReadsGroup limit Opens place found.1 [] inner) (ReadsOthers limit Opens place found.1 others)
        (group_some found.1 [] inner) (others_some found.1 others)) (λ after. group_some after [] behind)))

    others_some : (state : State) (others : Others) → HasSome (ReadsOthers limit Opens place state others)
    others_some state NoOthers = (Ok state, refl)
    others_some state (Elif number tokens inner others) =
        reads_some (Condition place limit number state tokens)
        (λ found answer. MatchBool found.0 (ReadsGroup limit Opens place found.1 [] inner answer) (ReadsOthers limit Opens place found.1 others answer))
        (condition_some laws place limit number state tokens)
        (λ found. choice_some found.0 (ReadsGroup limit Opens place found.1 [] inner) (ReadsOthers limit Opens place found.1 others)
        (group_some found.1 [] inner) (others_some found.1 others))
    others_some state (Else inner) = group_some state [] inner

  lines_some : (state : State) (lines : List (List Token)) → HasSome (ReadsLines limit Opens place state lines)
  lines_some state lines =
      let outline = laws.outline lines in
      let read = reads_some (ReadsGroup limit Opens place state [] outline.0) (λ after answer. answer ≡ closes place outline.1 after)
      (group_some state [] outline.0) (λ after. this_some (closes place outline.1 after)) in
      (read.0, (outline.0, outline.1, outline.2, read.1))

module _ (laws : EachLaws) (limit : ℕ) (Opens : Place → ℕ → Header → State → Result State PreFault → Type 0)
    (opens_some : (place : Place) (line : ℕ) (header : Header) (state : State) → HasSome (Opens place line header state)) where
  file_some : (place : Place) (text : List ℕ) (state : State) → HasSome (ReadsFile limit Opens place text state)
  file_some place text state =
      reads_some (IsLexed place place.built_in (file_number place.path state.files) text)
      (λ tokens. ReadsLines limit Opens place (begins place state) (lines_of tokens))
      (lexed_some laws place place.built_in (file_number place.path state.files) text) (λ tokens. lines_some laws limit Opens opens_some place (begins place state) (lines_of tokens))

  -- ---- includes

  returns_some : (place : Place) (target : Target) (state : State) → HasSome (Returns limit Opens place target state)
  returns_some place target state =
      reads_some (ReadsFile limit Opens (inside place target) target.text state)
      (λ after answer. answer ≡ Ok (record after { macros = with_path place.path after.macros }))
      (file_some (inside place target) target.text state)
      (λ after. this_some (Ok (record after { macros = with_path place.path after.macros })))

  target_some : (place : Place) (line : ℕ) (header : Header) (state : State) (target : Target)
      → HasSome (λ (a : Result State PreFault). ReadsTarget limit Opens place line header state a target)
  target_some place line header state target =
      choice_some (list_any (bytes_eq target.path) state.once) (λ answer. answer ≡ Ok (with_include place line header.name target.path state))
      (Returns limit Opens place target (with_include place line header.name target.path state))
      (this_some (Ok (with_include place line header.name target.path state)))
      (returns_some place target (with_include place line header.name target.path state))

module _ (laws : EachLaws) (files : Files) (folders : List (List ℕ)) (heads : Heads) (headers : List BuiltIn) (limit : ℕ) where
  included_some : (place : Place) (line : ℕ) (header : Header) (Found : Target → Result State PreFault → Type 0) → ((target : Target) → HasSome (Found target))
      → HasSome (λ (a : Result State PreFault). Included files folders heads headers limit place line header a (λ target. Found target a))
  included_some place line header Found found =
      let meaning = laws.meaning files folders heads headers place.path header in
      let read = case_some meaning.0 (λ answer. answer ≡ Err (fault_at place line pre.MissingInclude)) Found (this_some (Err (fault_at place line pre.MissingInclude))) found in
      (read.0, (meaning.0, meaning.1, read.1))

  pub enters_some : (more : ℕ) (place : Place) (line : ℕ) (header : Header) (state : State) → HasSome (Enters files folders heads headers limit more place line header state)
  enters_some zero place line header state =
      included_some place line header (λ target answer. answer ≡ Err (fault_at place line (pre.Limit IncludeDepth)))
      (λ target. this_some (Err (fault_at place line (pre.Limit IncludeDepth))))
  enters_some (suc more) place line header state =
      included_some place line header (λ target answer. ReadsTarget limit (Enters files folders heads headers limit more) place line header state answer target)
      (λ target. target_some laws limit (Enters files folders heads headers limit more) (enters_some more) place line header state target)

-- ---- the macros at the begin of a unit

defined_some : (place : Place) (macros : List Macro) (name : List ℕ) (body : List Token) → HasSome (Defined place macros name body)
defined_some place macros name body =
    case_some (first_other body) (λ answer. answer ≡ replaced place macros name body) (λ (other : Token) answer. answer ≡ Err (fault_at place 0 pre.BadToken))
    (this_some (replaced place macros name body)) (λ other. this_some (Err (fault_at place 0 pre.BadToken)))

define_some : (laws : EachLaws) (place : Place) (macros : List Macro) (define : Define) → HasSome (HasDefine place macros define)
define_some laws place macros define =
    reads_some (IsLexed place true 0 define.text) (λ tokens. Defined place macros define.name (words_of tokens))
    (lexed_some laws place true 0 define.text) (λ tokens. defined_some place macros define.name (words_of tokens))

have_defines_some : (laws : EachLaws) (place : Place) (macros : List Macro) (defines : List Define) → HasSome (HaveDefines place macros defines)
have_defines_some laws place macros [] = (Ok macros, refl)
have_defines_some laws place macros (define ∷ defines) =
    reads_some (HasDefine place macros define) (λ more. HaveDefines place more defines)
    (define_some laws place macros define) (λ more. have_defines_some laws place more defines)

-- ---- the unit

module _ (laws : EachLaws) (files : Files) (folders : List (List ℕ)) (heads : Heads) (headers : List BuiltIn) (tool : Bool) where
  reads_unit_some : (place : Place) (text : List ℕ) (macros : List Macro) → HasSome (ReadsUnit files folders heads headers tool place text macros)
  reads_unit_some place text macros =
      reads_some (ReadsFile (most_tokens tool) (Enters files folders heads headers (most_tokens tool) (most_includes tool)) place text (empty macros))
      (λ state answer. answer ≡ Ok (unit_of state))
      (file_some laws (most_tokens tool) (Enters files folders heads headers (most_tokens tool) (most_includes tool))
      (enters_some laws files folders heads headers (most_tokens tool) (most_includes tool)) place text (empty macros))
      (λ state. this_some (Ok (unit_of state)))

  defines_unit_some : (place : Place) (text : List ℕ) (defines : List Define) → HasSome (DefinesUnit files folders heads headers tool place text defines)
  defines_unit_some place text defines =
      reads_some (HaveDefines place predefined defines) (λ macros. ReadsUnit files folders heads headers tool place text macros)
      (have_defines_some laws place predefined defines) (λ macros. reads_unit_some place text macros)

  pub unit_some : (defines : List Define) (path text : List ℕ) → get files path ≡ Some text
      → (answer : Result SourceUnit PreFault) × IsPreprocessedUnit files folders heads headers defines path tool answer
  unit_some defines path text there =
      let read = defines_unit_some (main_file path) text defines in (read.0, (text, there, read.1))
