-- Includes that nest.
use Rattle.std.proofs.Common.{◌≡◌, ◌≤◌, ℕ, ◌+◌, zero, suc, List, [], ◌∷◌, length, sym, ap, subst, arith, Option, Some, None}
use Rattle.std.specs.Prelude.{Result, Ok, Err, MatchOption}
use Rattle.ct_base.specs.Answers.{OnAnswer}
use Rattle.ct_base.specs.declared.lexical.Token.{Token}
use Rattle.ct_base.specs.declared.limits.LimitKind.TheVariants.{IncludeDepth}
use Rattle.ct_base.specs.declared.memory.Fail.{Fail}
use Rattle.ct_base.specs.declared.memory.Fail.TheVariants.{Fault, OutOfMemory}
use Rattle.ct_outside.specs.Files.{Files}
use Rattle.ct_directive.specs.declared.faults.PreFault.{PreFault}
use Rattle.ct_directive.specs.declared.faults.PreKind.TheVariants as pre
use Rattle.ct_directive.specs.declared.forms.Header.{Header}
use Rattle.ct_directive.specs.declared.heads.Heads.{Heads}
use Rattle.ct_directive.specs.declared.search.Target.{Target}
use Rattle.ct_preproc.specs.declared.state.State.{State}
use Rattle.ct_preproc.specs.declared.state.Place.{Place}
use Rattle.ct_preproc.specs.declared.reading.Reading.{Reading}
use Rattle.ct_preproc.specs.Files.{Enters, Included, ReadsTarget}
use Rattle.ct_preproc.specs.Steps.{Closes, StepsLine, StepsLines}
use Rattle.ct_directive.specs.Headers.{BuiltIn}
use Rattle.ct_preproc.proofs.Stopping.{on_stopped}
use Rattle.ct_preproc.specs.Reading.{IsFault, fault_at}
use Rattle.ct_directive.specs.Search.{Means}

-- a header that means a file is answered by what becomes of the file
pub on_found : {B : Type 0} (Means : Option Target → Type 0) (target : Target) (r : Result B (Fail PreFault)) (Missing : Result B PreFault → Type 0)
    (Found : Result B PreFault → Target → Type 0)
    → Means (Some target) → OnAnswer r (λ answer. Found answer target)
    → OnAnswer r (λ answer. (found : Option Target) × Means found × MatchOption found (Missing answer) (Found answer))
on_found Means target (Ok x) Missing Found means found = (Some target, means, found)
on_found Means target (Err (Fault x)) Missing Found means found = (Some target, means, found)
on_found Means target (Err OutOfMemory) Missing Found means found = found

module _ (limit : ℕ) (Enters : Place → ℕ → Header → State → Result State PreFault → Type 0) (place : Place) where
  -- the lines of a file are read behind its next one
  pub reads_on : (reading next : Reading) (line : List Token) (lines : List (List Token)) (Whole : Result State PreFault → Type 0)
      → ((answer : Result State PreFault) → StepsLines limit Enters place reading (line ∷ lines) answer → Whole answer)
      → StepsLine limit Enters place reading line (Ok next)
      → (answer : Result State PreFault) → StepsLines limit Enters place next lines answer → Whole answer
  reads_on reading next line lines Whole whole does answer behind = whole answer (Ok next, does, behind)

  -- a line that is refused ends it
  pub reads_stopped : (r : Result State (Fail PreFault)) (reading : Reading) (line : List Token) (lines : List (List Token)) (Whole : Result State PreFault → Type 0) (fail : Fail PreFault)
      → ((answer : Result State PreFault) → StepsLines limit Enters place reading (line ∷ lines) answer → Whole answer)
      → r ≡ Err fail → OnAnswer {T = Reading} {F = PreFault} (Err fail) (StepsLine limit Enters place reading line) → OnAnswer r Whole
  reads_stopped r reading line lines Whole fail whole passed does =
      subst (λ (r : Result State (Fail PreFault)). OnAnswer r Whole) (sym passed)
      (on_stopped fail (StepsLine limit Enters place reading line) (λ answer next. StepsLines limit Enters place next lines answer) Whole does whole)

  -- behind the last line the file ends
  pub reads_end : (reading : Reading) (lines : List (List Token)) (Whole : Result State PreFault → Type 0) (r : Result State (Fail PreFault))
      → ((answer : Result State PreFault) → StepsLines limit Enters place reading lines answer → Whole answer)
      → length lines ≡ 0 → OnAnswer r (Closes place limit reading) → OnAnswer r Whole
  reads_end reading [] Whole (Ok state) whole none closes = whole (Ok state) closes
  reads_end reading [] Whole (Err (Fault fault)) whole none closes = whole (Err fault) closes
  reads_end reading [] Whole (Err OutOfMemory) whole none closes = tt
  reads_end reading (line ∷ lines) Whole r whole some closes = absurd (omega arith)

module _ (files : Files) (folders : List (List ℕ)) (heads : Heads) (headers : List BuiltIn) (limit : ℕ) where
  -- no further include may nest
  pub enters_none : (more : ℕ) (place : Place) (line : ℕ) (header : Header) (state : State) (r : Result State (Fail PreFault)) → more ≡ 0
      → OnAnswer r (λ answer. Included files folders heads headers limit place line header answer (λ target. answer ≡ Err (fault_at place line (pre.Limit IncludeDepth))))
      → OnAnswer r (Enters files folders heads headers limit more place line header state)
  enters_none more place line header state r none h =
      subst (λ (k : ℕ). OnAnswer r (Enters files folders heads headers limit k place line header state)) (sym none) h

  -- one may, and so many behind it
  pub enters_some : (less more : ℕ) (place : Place) (line : ℕ) (header : Header) (state : State) (r : Result State (Fail PreFault)) → less + 1 ≡ more
      → OnAnswer r (λ answer. Included files folders heads headers limit place line header answer
      (ReadsTarget limit (Enters files folders heads headers limit less) place line header state answer))
      → OnAnswer r (Enters files folders heads headers limit more place line header state)
  enters_some less zero place line header state r one h = absurd (omega arith)
  enters_some less (suc more) place line header state r one h =
      let same : less ≡ more = omega arith in
      subst (λ (k : ℕ). OnAnswer r (λ answer. Included files folders heads headers limit place line header answer
      (ReadsTarget limit (Enters files folders heads headers limit k) place line header state answer))) same h

  -- a header that means nothing is refused
  pub enters_missing : (more : ℕ) (place : Place) (line : ℕ) (header : Header) (state : State) (fail : Fail PreFault)
      → Means files folders heads headers place.path header None → IsFault fail (fault_at place line pre.MissingInclude)
      → OnAnswer {T = State} {F = PreFault} (Err fail) (Enters files folders heads headers limit more place line header state)
  enters_missing zero place line header state (Fault fault) means says = (None, means, ap (λ f. Err f) says)
  enters_missing (suc more) place line header state (Fault fault) means says = (None, means, ap (λ f. Err f) says)
  enters_missing more place line header state OutOfMemory means says = tt

  -- one that means a file is refused where no further include may nest
  pub enters_limit : (more : ℕ) (place : Place) (line : ℕ) (header : Header) (state : State) (target : Target) (fail : Fail PreFault) → (1 ≤ more → ⊥)
      → Means files folders heads headers place.path header (Some target) → IsFault fail (fault_at place line (pre.Limit IncludeDepth))
      → OnAnswer {T = State} {F = PreFault} (Err fail) (Enters files folders heads headers limit more place line header state)
  enters_limit zero place line header state target (Fault fault) none means says = (Some target, means, ap (λ f. Err f) says)
  enters_limit zero place line header state target OutOfMemory none means says = tt
  enters_limit (suc more) place line header state target fail none means says = absurd (none (omega arith))
