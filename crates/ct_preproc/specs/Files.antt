-- How a file is read by its groups (C11 6.10p1), and what it includes (6.10.2).
use Rattle.std.specs.Prelude.{◌≡◌, ℕ, ◌+◌, zero, suc, Bool, List, [], ◌∷◌, ◌++◌, Option, Some, None, Result, Ok, Err, MatchOption}
use Rattle.std.specs.Bool.{MatchBool}
use Rattle.std.specs.List.{list_any}
use Rattle.std.specs.Str.{bytes_eq}
use Rattle.ct_base.specs.declared.lexical.Token.{Token}
use Rattle.ct_base.specs.declared.limits.LimitKind.TheVariants.{IncludeDepth}
use Rattle.ct_outside.specs.Files.{Files}
use Rattle.ct_directive.specs.declared.faults.PreFault.{PreFault}
use Rattle.ct_directive.specs.declared.faults.PreKind.TheVariants as pre
use Rattle.ct_directive.specs.declared.forms.Header.{Header}
use Rattle.ct_directive.specs.declared.heads.Heads.{Heads}
use Rattle.ct_directive.specs.declared.search.Target.{Target}
use Rattle.ct_directive.specs.Groups.{Group, Nothing, Text, Control, Section, Others, NoOthers, Elif, Else, IsOutline}
use Rattle.ct_preproc.specs.declared.state.State.{State}
use Rattle.ct_preproc.specs.declared.state.Place.{Place}
use Rattle.ct_preproc.specs.Directives.{Acts, Condition, FirstCondition}
use Rattle.ct_directive.specs.Headers.{BuiltIn}
use Rattle.ct_directive.specs.Lines.{lines_of}
use Rattle.ct_preproc.specs.Reading.{DoesThen, fault_at, IsLexed, counts, Ends, with_file, with_path, file_number}
use Rattle.ct_directive.specs.Search.{Means}

abbrev pub with_include : Place → ℕ → List ℕ → List ℕ → State → State
with_include place line name path state =
    record state { includes = state.includes ++ record { name = name; path = path; depth = place.depth; line = line } ∷ [] }

-- a file begins: it has a number, and its path is `__FILE__`
abbrev pub begins : Place → State → State
begins place state = record state { files = with_file place.path state.files; macros = with_path place.path state.macros }

-- a text line is counted
abbrev pub with_count : State → ℕ → State
with_count state counted = record state { counted = counted }

-- behind all that is read of it a file whose conditionals are not balanced is refused, in this line
abbrev pub closes : Place → Option ℕ → State → Result State PreFault
closes place None state = Ok state
closes place (Some line) state = Err (fault_at place line pre.Unbalanced)

abbrev pub inside : Place → Target → Place
inside place target = record { path = target.path; depth = place.depth + 1; built_in = target.built_in }

module _ (limit : ℕ) (Enters : Place → ℕ → Header → State → Result State PreFault → Type 0) where
  -- what follows a control line: an include of its header, or nothing
  abbrev pub Follows : Place → ℕ → Option Header → State → Result State PreFault → Type 0
  Follows place line header state answer = MatchOption header (answer ≡ Ok state) (λ header. Enters place line header state answer)

  abbrev pub ActsFully : Place → ℕ → List Token → State → Result State PreFault → Type 0
  ActsFully place line tokens state answer =
      DoesThen (Acts place limit line state tokens) answer (λ found. Follows place line found.1 found.0 answer)

  abbrev mutual
    -- A group is read in a state and behind text lines that are not yet expanded: these and the ones that follow are
    -- expanded as one list where a directive or the end of the group stands.
    pub ReadsGroup : Place → State → List Token → Group → Result State PreFault → Type 0
    ReadsGroup place state text Nothing answer = Ends place limit state text answer
    ReadsGroup place state text (Text line behind) answer =
        DoesThen (λ found. found ≡ counts place limit state.counted line) answer
        (λ counted. ReadsGroup place (with_count state counted) (text ++ line) behind answer)
    ReadsGroup place state text (Control number tokens behind) answer =
        DoesThen (Ends place limit state text) answer
        (λ ended. DoesThen (ActsFully place number tokens ended) answer (λ after. ReadsGroup place after [] behind answer))
    ReadsGroup place state text (Section number name tokens inner others behind) answer =
        DoesThen (Ends place limit state text) answer
        (λ ended. DoesThen (FirstCondition place limit number ended name tokens) answer
        (λ found. DoesThen (λ read. MatchBool found.0 (ReadsGroup place found.1 [] inner read) (ReadsOthers place found.1 others read)) answer
        (λ after. ReadsGroup place after [] behind answer)))

    -- the further groups of a conditional, where none before was read
    pub ReadsOthers : Place → State → Others → Result State PreFault → Type 0
    ReadsOthers place state NoOthers answer = answer ≡ Ok state
    ReadsOthers place state (Elif number tokens inner others) answer =
        DoesThen (Condition place limit number state tokens) answer
        (λ found. MatchBool found.0 (ReadsGroup place found.1 [] inner answer) (ReadsOthers place found.1 others answer))
    ReadsOthers place state (Else inner) answer = ReadsGroup place state [] inner answer

  -- the lines of a file
  abbrev pub ReadsLines : Place → State → List (List Token) → Result State PreFault → Type 0
  ReadsLines place state lines answer =
      (group : Group) × (broken : Option ℕ) × IsOutline lines group broken
      × DoesThen (ReadsGroup place state [] group) answer (λ after. answer ≡ closes place broken after)

  abbrev pub ReadsFile : Place → List ℕ → State → Result State PreFault → Type 0
  ReadsFile place text state answer =
      DoesThen (IsLexed place place.built_in (file_number place.path state.files) text) answer
      (λ tokens. ReadsLines place (begins place state) (lines_of tokens) answer)

  -- behind an include `__FILE__` is again the path of the file that includes
  abbrev pub Returns : Place → Target → State → Result State PreFault → Type 0
  Returns place target state answer =
      DoesThen (ReadsFile (inside place target) target.text state) answer
      (λ after. answer ≡ Ok (record after { macros = with_path place.path after.macros }))

  -- An include is noted. Its file is read, if it is none whose `#pragma once` was met.
  abbrev pub ReadsTarget : Place → ℕ → Header → State → Result State PreFault → Target → Type 0
  ReadsTarget place line header state answer target =
      MatchBool (list_any (bytes_eq target.path) state.once) (answer ≡ Ok (with_include place line header.name target.path state))
      (Returns place target (with_include place line header.name target.path state) answer)

module _ (files : Files) (folders : List (List ℕ)) (heads : Heads) (headers : List BuiltIn) (limit : ℕ) where
  -- what the header means; where it means nothing the include is refused
  abbrev pub Included : Place → ℕ → Header → Result State PreFault → (Target → Type 0) → Type 0
  Included place line header answer Found =
      (target : Option Target) × Means files folders heads headers place.path header target
      × MatchOption target (answer ≡ Err (fault_at place line pre.MissingInclude)) Found

  -- what an include of a header does, where so many more may nest
  abbrev pub Enters : ℕ → Place → ℕ → Header → State → Result State PreFault → Type 0
  Enters zero place line header state answer =
      Included place line header answer (λ target. answer ≡ Err (fault_at place line (pre.Limit IncludeDepth)))
  Enters (suc more) place line header state answer =
      Included place line header answer (ReadsTarget limit (Enters more) place line header state answer)
