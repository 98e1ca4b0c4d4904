-- The first verdict of a test stays.
use Rattle.std.proofs.Common.{◌≡◌, ℕ, ◌≤◌, List, Option, Some, None, refl}
use Rattle.std.specs.Prelude.{option_map}
use Rattle.ct_report.specs.declared.logs.Verdict.{Verdict}
use Rattle.ct_report.specs.declared.logs.Verdict.TheVariants.{Fail}
use Rattle.ct_core.specs.declared.values.Value.{Value}
use Rattle.ct_core.specs.declared.trees.CoreExpression.{CoreExpression}
use Rattle.ct_core.specs.declared.trees.CoreStatement.{CoreStatement}
use Rattle.ct_core.specs.declared.testing.TestState.{TestState}
use Rattle.ct_core.specs.Testing.{judged, judged_by}
use Rattle.ct_base.specs.declared.faults.FaultKind.{FaultKind}
use Rattle.ct_meaning.specs.declared.state.State.{State}
use Rattle.ct_meaning.specs.declared.state.Place.{Place}
use Rattle.ct_meaning.specs.World.{World, Where}
use Rattle.ct_meaning.specs.Rules.{failed, failed_test}
use Rattle.ct_meaning.specs.Meaning.{expression, statement, calls}
use Rattle.ct_meaning.specs.Written.{phase}
use Rattle.ct_meaning_laws.specs.Laws.{SameTest, verdict_of}
use Rattle.ct_meaning_laws.proofs.During.{statements_go}
use Rattle.ct_meaning_laws.proofs.Goes.{Follows, Inner, inner_tests, calls_go, expression_goes, statement_goes, in_order_goes}

abbrev Judgement : Type 0
Judgement = Verdict × ℕ × List ℕ

abbrev pub Stays : State → State → Type 0
Stays s t = (v : Judgement) → verdict_of s.test ≡ Some v → verdict_of t.test ≡ Some v

judged_by_stays : (d : Option Verdict) (line : ℕ) (text : List ℕ) (test : TestState) (v : Judgement) → test.verdict ≡ d
    → verdict_of (Some test) ≡ Some v → verdict_of (Some (judged_by d Fail line text test)) ≡ Some v
judged_by_stays (Some earlier) line text test v is e = e
judged_by_stays None line text test v is e = cc

judged_stays : (line : ℕ) (text : List ℕ) (test : TestState) (v : Judgement) → verdict_of (Some test) ≡ Some v → verdict_of (Some (judged Fail line text test)) ≡ Some v
judged_stays line text test v e = judged_by_stays test.verdict line text test v refl e

faulted_stays : (w : World) (place : Option Place) (fault : FaultKind) (test : TestState) (v : Judgement) → verdict_of (Some test) ≡ Some v
    → verdict_of (Some (failed_test w place fault test)) ≡ Some v
faulted_stays w None fault test v e = judged_stays test.line _ test v e
faulted_stays w (Some place) fault test v e = judged_stays test.line _ test v e

mapped_stays : (f : TestState → TestState) (t : Option TestState) (v : Judgement) → ((test : TestState) → verdict_of (Some test) ≡ Some v → verdict_of (Some (f test)) ≡ Some v)
    → verdict_of t ≡ Some v → verdict_of (option_map f t) ≡ Some v
mapped_stays f None v h e = e
mapped_stays f (Some test) v h e = h test e

stays : Follows Stays
unfolding failed
stays = record {
  same = λ s v e. e;
  joined = λ s t u h k v e. k v (h v e);
  memory = λ s m v e. e;
  step = λ s v e. e;
  fault = λ w h fault s v e. mapped_stays (failed_test w h.place fault) s.test v (λ test d. faulted_stays w h.place fault test v d) e;
  aborted = λ s b v e. e;
  failure = λ line text s v e. mapped_stays (judged Fail line text) s.test v (λ test d. judged_stays line text test v d) e;
}

pub calls_stay : (w : World) (i number : ℕ) (values : List Value) (h : Where) (s : State) (v : Verdict × ℕ × List ℕ) → 1 ≤ h.level
    → verdict_of s.test ≡ Some v → verdict_of (calls w i number values h s).1.test ≡ Some v
calls_stay w i number values h s v l e = calls_go Stays stays w Inner (inner_tests w Stays) i number values h l s v e

pub statements_stay : (w : World) (n i : ℕ) (b : CoreStatement) (h : Where) (s : State) (v : Verdict × ℕ × List ℕ) → 1 ≤ h.level
    → verdict_of s.test ≡ Some v → verdict_of (statement w n (calls w i) b h s).1.test ≡ Some v
statements_stay w n i b h s v l e = statement_goes Stays stays w Inner (inner_tests w Stays) n i b h l s v e

pub expressions_stay : (w : World) (i : ℕ) (b : CoreExpression) (h : Where) (s : State) (v : Verdict × ℕ × List ℕ) → 1 ≤ h.level
    → verdict_of s.test ≡ Some v → verdict_of (expression w (calls w i) b h s).1.test ≡ Some v
expressions_stay w i b h s v l e = expression_goes Stays stays w Inner (inner_tests w Stays) i b h l s v e

pub same_test_stays : (w : World) (n i : ℕ) (b : CoreStatement) (h : Where) (s : State) (v : Verdict × ℕ × List ℕ) → SameTest s (statement w n (calls w i) b h s).1
    → verdict_of s.test ≡ Some v → verdict_of (statement w n (calls w i) b h s).1.test ≡ Some v
same_test_stays w n i b h s v e d = statements_go Stays stays w n i b h s e v d

pub phases_stay : (w : World) (i : ℕ) (numbers : List ℕ) (s : State) (v : Verdict × ℕ × List ℕ)
    → verdict_of s.test ≡ Some v → verdict_of (phase w (calls w i) numbers s).test ≡ Some v
phases_stay w i numbers s v e = in_order_goes Stays stays w Inner (inner_tests w Stays) i numbers s v e
