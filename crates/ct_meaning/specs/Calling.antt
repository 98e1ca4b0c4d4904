-- A function value that does what the functions of a program do.
use Rattle.std.specs.Prelude.{ℕ, List, [], Result}
use Rattle.std.specs.declared.alloc.Global.{Global}
use denote.Ref.{Bor, MutBor}
use Rattle.ct_core.specs.declared.values.Value.{Value}
use Rattle.ct_core.specs.declared.units.CoreUnit.{CoreUnit}
use Rattle.ct_core.specs.declared.units.Definition.{Definition}
use Rattle.ct_meaning.specs.declared.program.Program.{Program}
use Rattle.ct_meaning.specs.declared.state.State.{State}
use Rattle.ct_meaning.specs.declared.state.Ending.{Ending}
use Rattle.ct_meaning.specs.declared.state.Position.{Position}
use Rattle.ct_meaning.specs.declared.state.Stop.{Stop}
use Rattle.ct_meaning.specs.Meaning.{calls}
use Rattle.ct_meaning.specs.Views.{world_of, position_of, Gives}

-- It may always be called, and gives what calls mean whose calls and turns nest less deeply than the number.
pub record DoesCalls (p : Program) (n : ℕ)
    (pre : Global → Bor (List CoreUnit) → Bor (List Definition) → ℕ → ℕ → MutBor State → Position → ℕ → List Value → Type 0)
    (post : Global → Bor (List CoreUnit) → Bor (List Definition) → ℕ → ℕ → MutBor State → Position → ℕ → List Value → Result Ending Stop → MutBor State → Type 0) : Type 0 where
  pub callable : (old : MutBor State) (at : Position) (number : ℕ) (values : List Value) → pre p.alloc p.units p.functions p.budget n old at number values
  pub gives : (old new : MutBor State) (at : Position) (number : ℕ) (values : List Value) (r : Result Ending Stop) → post p.alloc p.units p.functions p.budget n old at number values r new
      → Gives (calls (world_of p) n number values (position_of at []) old.now) r new.now
