-- No call is made at a level above 64.
use Rattle.std.proofs.Common.{◌≡◌, ℕ, ◌+◌, ◌<◌, ◌≤◌, List, [], Bool, true, false, Option, Some, None, refl, sym, ap, ◌∙◌, arith, nat_lt, ltb-true, ltb-false}
use Rattle.std.specs.Prelude.{if◌then◌else◌, ◌&&◌, not}
use Rattle.ct_core.specs.declared.values.Value.{Value}
use Rattle.ct_core.specs.declared.values.Value.TheVariants.{Void}
use Rattle.ct_core.specs.declared.values.Pointer.{Pointer}
use Rattle.ct_core.specs.declared.trees.CoreExpression.{CoreExpression}
use Rattle.ct_core.specs.declared.trees.CoreStatement.{CoreStatement}
use Rattle.ct_meaning.specs.declared.state.State.{State}
use Rattle.ct_meaning.specs.declared.state.Ending.{Ending}
use Rattle.ct_meaning.specs.Doing.{ValueAndState, Does, onwards, ◌>>=◌, finally}
use Rattle.ct_meaning.specs.World.{World, Where, Target}
use Rattle.ct_meaning.specs.Rules.{failed, end_objects, run_call, in_test, caught}
use Rattle.ct_base.specs.declared.faults.FaultKind.TheVariants.{CallDepth}
use Rattle.ct_meaning.specs.Meaning.{Calls, enter, expression, statement, body_of}
use Rattle.ct_meaning_laws.specs.Laws.{SameCalls}
use Rattle.ct_meaning_laws.proofs.Parts.{Holds, enter_holds, expression_holds, statement_holds, body_holds}
use Rattle.ct_meaning_laws.proofs.Steps.{no_level}

-- both do the same
abbrev pub Does_same : (A : Type 0) → Does A → Does A → Type 0
Does_same A p q = (s : State) → p s ≡ q s

-- each level
abbrev pub Every : ℕ → Type 0
Every n = Unit {0}

then_same : (A B : Type 0) (o : ValueAndState A) (k l : A → Does B) → ((a : A) → Does_same B (k a) (l a)) → onwards o k ≡ onwards o l
then_same A B (Some a, s) k l h = h a s
then_same A B (None, s) k l h = refl

bind_same : (A B : Type 0) (p q : Does A) (k l : A → Does B) → Does_same A p q → ((a : A) → Does_same B (k a) (l a)) → Does_same B (p >>= k) (q >>= l)
bind_same A B p q k l h j s = ap (λ (o : ValueAndState A). onwards o k) (h s) ∙ then_same A B (q s) k l j

ends_same : (n : ℕ) (frame : List (ℕ × Pointer)) (p q : Does Ending) → Does_same Ending p q → Does_same Ending (finally p (end_objects n frame)) (finally q (end_objects n frame))
ends_same n frame p q h s = ap (λ (o : ValueAndState Ending). (o.0, end_objects n frame o.1)) (h s)

phase_call_same : (h : Where) (p q : Does Value) → Does_same Value p q → Does_same Value (run_call h p) (run_call h q)
unfolding run_call
phase_call_same h p q k s = ap (λ (o : ValueAndState Value). if in_test h s && not s.aborted then caught o else (Some Void, s)) (k s)

module _ (w : World) where
  rules : Holds w Every Does_same
  rules = record {
    value = λ A a s. refl;
    bind = bind_same;
    ends = ends_same;
    stops = λ A h fault s. refl;
    loads = λ h t a s. refl;
    stores = λ h t a x s. refl;
    initialises = λ h place t x s. refl;
    begins = λ h places frame s. refl;
    steps = λ h s. refl;
    fails = λ line text s. refl;
    tests = λ h l values s. refl;
    test_ends = λ h l s. refl;
    phases = λ h l s. refl;
    phase_calls = λ h l. phase_call_same h;
  }

  module _ (f g : Calls) (same : SameCalls f g) where
    enter_at : (b : Bool) (h : Where) (number : ℕ) (values : List Value) (s : State) → nat_lt h.level 64 ≡ b → enter w h f number values s ≡ enter w h g number values s
    enter_at true h number values s e =
        let below : h.level < 64 = ltb-true h.level 64 e in
        enter_holds w Every Does_same rules f g h number values (λ t. same.same number values (record h { level = h.level + 1; frame = [] }) t (omega (arith, below))) s
    enter_at false h number values s e =
        no_level w h _ s (ltb-false h.level 64 e) ∙ sym (no_level w h _ s (ltb-false h.level 64 e))

    enters : (h : Where) → Every h.level → (number : ℕ) (values : List Value) → Does_same Value (enter w h f number values) (enter w h g number values)
    enters h l number values s = enter_at (nat_lt h.level 64) h number values s refl

    pub same_expression : (e : CoreExpression) (h : Where) (s : State) → expression w f e h s ≡ expression w g e h s
    same_expression e h s = expression_holds w Every Does_same rules f g enters e h tt s

    pub same_statement : (n : ℕ) (b : CoreStatement) (h : Where) (s : State) → statement w n f b h s ≡ statement w n g b h s
    same_statement n b h s = statement_holds w Every Does_same rules f g enters n b h tt s

    pub same_body : (n : ℕ) (t : Option Target) (values : List Value) (h : Where) (s : State) → body_of w n f t values h s ≡ body_of w n g t values h s
    same_body n t values h s = body_holds w Every Does_same rules f g enters n t values h tt s

-- from level 64 no call is made
pub no_call : (w : World) (call : Calls) (number : ℕ) (values : List Value) (h : Where) (s : State) → 64 ≤ h.level
    → enter w h call number values s ≡ (None, failed w h CallDepth s)
no_call w call number values h s above = no_level w h _ s above
