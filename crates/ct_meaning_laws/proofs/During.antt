-- What each part of a program does to the state while one and the same test runs, at level 0 too.
use Rattle.std.proofs.Common.{◌≡◌, ℕ, ◌+◌, ◌≤◌, true, Option, Some, None, refl, arith}
use Rattle.std.proofs.lemmas.Bool.{false≢true}
use Rattle.std.specs.Prelude.{option_map, is_some}
use Rattle.ct_core.specs.declared.testing.TestState.{TestState}
use Rattle.ct_core.specs.declared.trees.CoreStatement.{CoreStatement}
use Rattle.ct_core.specs.Testing.{judged}
use Rattle.ct_report.specs.declared.logs.Verdict.TheVariants.{Fail}
use Rattle.ct_meaning.specs.declared.state.State.{State}
use Rattle.ct_meaning.specs.World.{World, Where}
use Rattle.ct_meaning.specs.Rules.{failed, failed_test}
use Rattle.ct_meaning.specs.Meaning.{statement, calls}
use Rattle.ct_meaning_laws.specs.Laws.{SameTest}
use Rattle.ct_meaning_laws.proofs.Goes.{Follows, Tests, statement_goes}

-- tests only begin, and from a state to another in which the same test runs the relation leads
record During (R : State → State → Type 0) (s t : State) : Type 0 where
  begun : s.begun ≤ t.begun
  same : SameTest s t → (is_some s.test ≡ true) × R s t

abbrev Every : ℕ → Type 0
Every n = Unit {0}

still : (f : TestState → TestState) (t : Option TestState) → is_some (option_map f t) ≡ true → is_some t ≡ true
still f None e = e
still f (Some test) e = refl

module _ (R : State → State → Type 0) (follows : Follows R) where
  during_joined : (s t u : State) → During R s t → During R t u → During R s u
  during_joined s t u h k =
      let up = h.begun in let on = k.begun in
      record {
        begun = omega (arith, up, on);
        same = λ e.
            let d : u.begun ≡ s.begun = e.1 in
            let later = k.same (e.0, omega (arith, up, on, d)) in
            let before = h.same (later.0, omega (arith, up, on, d)) in
            (before.0, follows.joined s t u before.1 later.1);
      }

  during : Follows (During R)
  unfolding failed
  during = record {
    same = λ s. record { begun = omega arith; same = λ e. (e.0, follows.same s) };
    joined = during_joined;
    memory = λ s m. record { begun = omega arith; same = λ e. (e.0, follows.memory s m) };
    step = λ s. record { begun = omega arith; same = λ e. (e.0, follows.step s) };
    fault = λ w h fault s. record { begun = omega arith; same = λ e. (still (failed_test w h.place fault) s.test e.0, follows.fault w h fault s) };
    failure = λ line text s. record { begun = omega arith; same = λ e. (still (judged Fail line text) s.test e.0, follows.failure line text s) };
    aborted = λ s b. record { begun = omega arith; same = λ e. (e.0, follows.aborted s b) };
  }

  tests : (w : World) → Tests w Every (During R)
  tests w = record {
    deeper = λ n. tt;
    begins = λ h l name line s e. record { begun = omega arith; same = λ d. let more : s.begun + 1 ≡ s.begun = d.1 in absurd (omega (arith, more)) };
    ends = λ h l s e. record { begun = omega arith; same = λ d. absurd (false≢true d.0) };
  }

  pub statements_go : (w : World) (n i : ℕ) (b : CoreStatement) (h : Where) (s : State) → SameTest s (statement w n (calls w i) b h s).1
      → R s (statement w n (calls w i) b h s).1
  statements_go w n i b h s e =
      let d : During R s (statement w n (calls w i) b h s).1 = statement_goes (During R) during w Every (tests w) n i b h tt s in
      (d.same e).1
