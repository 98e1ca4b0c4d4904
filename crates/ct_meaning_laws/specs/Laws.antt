-- What the laws of the meaning speak of.
use Rattle.std.specs.Prelude.{ℕ, ◌≡◌, ◌≤◌, true, List, Option, Some, None, is_some, option_map}
use Rattle.ct_core.specs.declared.values.Value.{Value}
use Rattle.ct_core.specs.declared.testing.TestState.{TestState}
use Rattle.ct_report.specs.declared.logs.Verdict.{Verdict}
use Rattle.ct_meaning.specs.declared.state.State.{State}
use Rattle.ct_meaning.specs.World.{Where}
use Rattle.ct_meaning.specs.Meaning.{Calls}

-- from the first state to the second one and the same test runs
abbrev pub SameTest : State → State → Type 0
SameTest s t = (is_some t.test ≡ true) × (t.begun ≡ s.begun)

-- the verdict of the test that runs, with its line and text, if there is one
abbrev pub verdict_of : Option TestState → Option (Verdict × ℕ × List ℕ)
verdict_of None = None
verdict_of (Some test) = option_map (λ (v : Verdict). (v, test.line, test.text)) test.verdict

-- calls at levels up to 64 do the same
pub record SameCalls (f g : Calls) : Type 0 where
  pub same : (number : ℕ) (values : List Value) (h : Where) (s : State) → h.level ≤ 64 → f number values h s ≡ g number values h s
