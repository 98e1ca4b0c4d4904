-- What each statement of a runner's `main` does.
use Rattle.std.proofs.Common.{◌≡◌, ℕ, List, [], ◌∷◌, map, Bool, true, false, ℤ, pos, Option, Some, None, Result, Ok, Err, refl, ap, ◌∙◌}
use Rattle.std.specs.Prelude.{codes, if◌then◌else◌, ◌&&◌, not}
use Rattle.ct_base.specs.declared.faults.FaultKind.{FaultKind}
use Rattle.ct_ctype.specs.declared.kinds.IntKind.TheVariants.{UnsignedInt, Int as int}
use Rattle.ct_ctype.specs.declared.types.FunctionType.{FunctionType}
use Rattle.ct_ctype.specs.Ranges.{is_in_range}
use Rattle.ct_core.specs.declared.values.Value.{Value}
use Rattle.ct_core.specs.declared.values.Value.TheVariants.{Void, Int, Object, Function as Designated}
use Rattle.ct_core.specs.declared.built_ins.BuiltIn.{BuiltIn}
use Rattle.ct_core.specs.declared.built_ins.BuiltIn.TheVariants.{RunCall, RunEnd, RunPhase, RunTest}
use Rattle.ct_core.specs.declared.trees.CoreExpression.{CoreExpression}
use Rattle.ct_core.specs.declared.trees.CoreExpression.TheVariants.{Constant, Text, Function, Call}
use Rattle.ct_core.specs.declared.trees.CoreStatement.{CoreStatement}
use Rattle.ct_core.specs.declared.trees.CoreStatement.TheVariants.{Return}
use Rattle.ct_core.specs.declared.units.CoreFunction.{CoreFunction}
use Rattle.ct_core.specs.Access.{and_then, string_at}
use Rattle.ct_meaning.specs.declared.state.State.{State}
use Rattle.ct_meaning.specs.declared.state.Ending.{Ending}
use Rattle.ct_meaning.specs.declared.state.Ending.TheVariants.{Onward, Returned}
use Rattle.ct_meaning.specs.Doing.{ValueAndState, Does, onwards, pure, each}
use Rattle.ct_meaning.specs.World.{World, Where, function_number, text_pointer, Target, Defined, Given, target_of}
use Rattle.ct_meaning.specs.Rules.{given, used, literal, designator, function_value, begun, number_argument, test_check, with_test, begun_test_by, can_begin, run_test, in_test, without_test, run_end, run_phase, caught, run_call}
use Rattle.ct_meaning.specs.Meaning.{Calls, enter, call_target, procedure, handed_call, built_in, apply_call, used_value, expression, statement, in_turn, then_go}
use Rattle.ct_phases.specs.Runner.{unmarked, call_statement, run_test_type, run_call_type}
use Rattle.ct_phases.specs.Runner as runner
use Rattle.ct_phases.proofs.RunnerTrees.{call_means, function_means, text_means, constant_means, run_means, return_means}

-- a name means this built-in function in a unit
pub record Offers (w : World) (unit : ℕ) (name : List ℕ) (b : BuiltIn) : Type 0 where
  pub number : ℕ
  pub is_number : function_number w unit name ≡ Some number
  pub target : target_of w number ≡ Some (Given b)

-- a name means the function of this number in a unit, which some unit defines
pub record Means (w : World) (unit : ℕ) (name : List ℕ) (number : ℕ) : Type 0 where
  pub is_number : function_number w unit name ≡ Some number
  pub in_unit : ℕ
  pub place : ℕ
  pub function : CoreFunction
  pub target : target_of w number ≡ Some (Defined in_unit place function)

go_on : Does Ending
go_on = pure Onward

module _ (w : World) (call : Calls) (n : ℕ) (h : Where) (tool : begun w h unmarked ≡ h) where
  designated : (name : List ℕ) (number : ℕ) (s : State) → function_number w h.unit name ≡ Some number → expression w call (Function name) h s ≡ (Some (Designated number), s)
  unfolding designator given
  designated name number s e =
      ap (λ (p : Does Value). p s) (function_means w call name h) ∙ ap (λ (o : Option ℕ). given w h (function_value o) s) e

  -- ---- arguments

  module _ (e : CoreExpression) (v : Value) (s : State) (is : expression w call e h s ≡ (Some v, s)) (fine : used v ≡ Ok v) where
    argument_used : used_value w h (expression w call e) s ≡ (Some v, s)
    unfolding given
    argument_used = ap (λ (o : ValueAndState Value). onwards o (λ (x : Value). given w h (used x))) is ∙ ap (λ (r : Result Value FaultKind). given w h r s) fine

    one_argument : each (map (used_value w h) (map (expression w call) (e ∷ []))) s ≡ (Some (v ∷ []), s)
    one_argument = ap (λ (o : ValueAndState Value). onwards o (λ (x : Value). pure (x ∷ []))) argument_used

    module _ (e' : CoreExpression) (v' : Value) (is' : used_value w h (expression w call e') s ≡ (Some v', s)) where
      two_arguments : each (map (used_value w h) (map (expression w call) (e ∷ e' ∷ []))) s ≡ (Some (v ∷ v' ∷ []), s)
      two_arguments =
          ap (λ (o : ValueAndState Value). onwards o (λ (x : Value). λ (t : State). onwards (used_value w h (expression w call e') t) (λ (y : Value). pure (x ∷ y ∷ [])))) argument_used
          ∙ ap (λ (o : ValueAndState Value). onwards o (λ (y : Value). pure (v ∷ y ∷ []))) is'

  -- ---- calls

  call_step : (type : FunctionType) (name : List ℕ) (arguments : List CoreExpression) (number : ℕ) (values : List Value) (v : Value) (s t : State)
      → function_number w h.unit name ≡ Some number → each (map (used_value w h) (map (expression w call) arguments)) s ≡ (Some values, s)
      → apply_call w h call (Designated number) values s ≡ (Some v, t) → statement w n call (call_statement type name arguments) h s ≡ (Some Onward, t)
  call_step type name arguments number values v s t is handed done =
      let all = each (map (used_value w h) (map (expression w call) arguments)) in
      ap (λ (p : Does Ending). p s) (run_means w call n unmarked (Call type (Function name) arguments) h)
      ∙ ap (λ (x : Where). onwards (expression w call (Call type (Function name) arguments) x s) (λ (y : Value). pure Onward)) tool
      ∙ ap (λ (p : Does Value). onwards (p s) (λ (y : Value). pure Onward)) (call_means w call type (Function name) arguments h)
      ∙ ap (λ (o : ValueAndState Value). onwards (onwards o (λ (callee : Value). λ (x : State). onwards (all x) (apply_call w h call callee))) (λ (y : Value). pure Onward)) (designated name number s is)
      ∙ ap (λ (o : ValueAndState (List Value)). onwards (onwards o (apply_call w h call (Designated number))) (λ (y : Value). pure Onward)) handed
      ∙ ap (λ (o : ValueAndState Value). onwards o (λ (y : Value). pure Onward)) done

  applied : (name : List ℕ) (b : BuiltIn) (offers : Offers w h.unit name b) (values : List Value) (s : State)
      → apply_call w h call (Designated offers.number) values s ≡ built_in w h call b values s
  unfolding apply_call
  applied name b offers values s = ap (λ (t : Option Target). call_target w h call (built_in w h call) offers.number values t s) offers.target

  -- ---- ceedling_run_test

  pub test_step : (offers : Offers w h.unit (codes "ceedling_run_test") RunTest) (text : ℕ) (name : List ℕ) (line : ℕ) (s : State)
      → can_begin w h s ≡ true → string_at (text_pointer w h.unit text) s.memory ≡ Ok name → is_in_range UnsignedInt (pos line) ≡ true
      → statement w n call (call_statement run_test_type (codes "ceedling_run_test") (Text text ∷ Constant UnsignedInt (pos line) ∷ [])) h s ≡ (Some Onward, with_test w name line s)
  unfolding given literal run_test begun_test_by
  test_step offers text name line s can reads fits =
      let values = Object (text_pointer w h.unit text) ∷ Int (pos line) ∷ [] in
      call_step run_test_type (codes "ceedling_run_test") (Text text ∷ Constant UnsignedInt (pos line) ∷ []) offers.number values Void s (with_test w name line s) offers.is_number
      (two_arguments (Text text) (Object (text_pointer w h.unit text)) s (ap (λ (p : Does Value). p s) (text_means w call text h)) refl
      (Constant UnsignedInt (pos line)) (Int (pos line))
      (argument_used (Constant UnsignedInt (pos line)) (Int (pos line)) s (ap (λ (p : Does Value). p s) (constant_means w call UnsignedInt (pos line) h)) refl))
      (applied (codes "ceedling_run_test") RunTest offers values s
      ∙ ap (λ (b : Bool). if b then begun_test_by w h s (test_check values s.memory) else (Some Void, s)) can
      ∙ ap (λ (r : Result (List ℕ) FaultKind). begun_test_by w h s (and_then r (λ (x : List ℕ). and_then (number_argument UnsignedInt 1 values) (λ (l : ℤ). Ok (x, l))))) reads
      ∙ ap (λ (b : Bool). begun_test_by w h s (and_then (if b then Ok (pos line) else Err Rattle.ct_base.specs.declared.faults.FaultKind.TheVariants.MissingReturn) (λ (l : ℤ). Ok (name, l)))) fits)

  -- ---- ceedling_run_call

  handed : (number : ℕ) (unit place : ℕ) (f : CoreFunction) (s : State) → target_of w number ≡ Some (Defined unit place f)
      → handed_call w h call (Designated number ∷ []) s ≡ enter w h call number [] s
  unfolding given
  handed number unit place f s e = ap (λ (t : Option Target). call_target w h call (procedure w h) number [] t s) e

  -- the state after the call of a function by the runner
  abbrev pub called : ℕ → State → State
  called number s = (run_call h (enter w h call number []) s).1

  always_void : (b : Bool) (o : ValueAndState Value) (s : State) → (if b then caught o else (Some Void, s)) ≡ (Some Void, (if b then caught o else (Some Void, s)).1)
  always_void true (Some a, t) s = refl
  always_void true (None, t) s = refl
  always_void false o s = refl

  pub run_step : (offers : Offers w h.unit (codes "ceedling_run_call") RunCall) (name : List ℕ) (number : ℕ) → Means w h.unit name number → (s : State)
      → statement w n call (runner.run_call name) h s ≡ (Some Onward, called number s)
  unfolding run_call
  run_step offers name number means s =
      call_step run_call_type (codes "ceedling_run_call") (Function name ∷ []) offers.number (Designated number ∷ []) Void s (called number s) offers.is_number
      (one_argument (Function name) (Designated number) s (designated name number s means.is_number) refl)
      (applied (codes "ceedling_run_call") RunCall offers (Designated number ∷ []) s
      ∙ ap (λ (o : ValueAndState Value). if in_test h s && not s.aborted then caught o else (Some Void, s)) (handed number means.in_unit means.place means.function s means.target)
      ∙ always_void (in_test h s && not s.aborted) (enter w h call number [] s) s)

  -- ---- ceedling_run_phase and ceedling_run_end

  pub phase_step : (offers : Offers w h.unit (codes "ceedling_run_phase") RunPhase) (s : State) → in_test h s ≡ true
      → statement w n call (call_statement runner.procedure (codes "ceedling_run_phase") []) h s ≡ (Some Onward, record s { aborted = false })
  unfolding run_phase
  phase_step offers s open_test =
      call_step runner.procedure (codes "ceedling_run_phase") [] offers.number [] Void s (record s { aborted = false }) offers.is_number refl
      (applied (codes "ceedling_run_phase") RunPhase offers [] s ∙ ap (λ (b : Bool). (Some Void, if b then record s { aborted = false } else s)) open_test)

  pub end_step : (offers : Offers w h.unit (codes "ceedling_run_end") RunEnd) (s : State) → in_test h s ≡ true
      → statement w n call (call_statement runner.procedure (codes "ceedling_run_end") []) h s ≡ (Some Onward, without_test s)
  unfolding run_end
  end_step offers s open_test =
      call_step runner.procedure (codes "ceedling_run_end") [] offers.number [] Void s (without_test s) offers.is_number refl
      (applied (codes "ceedling_run_end") RunEnd offers [] s ∙ ap (λ (b : Bool). (Some Void, if b then without_test s else s)) open_test)

  -- ---- `return 0;`, and statements in turn

  pub return_step : (s : State) → statement w n call (Return unmarked (Some (Constant int (pos 0)))) h s ≡ (Some (Returned (Int (pos 0))), s)
  unfolding given
  return_step s =
      ap (λ (p : Does Ending). p s) (return_means w call n unmarked (Constant int (pos 0)) h)
      ∙ ap (λ (x : Where). onwards (used_value w x (expression w call (Constant int (pos 0))) s) (λ (v : Value). pure (Returned v))) tool
      ∙ ap (λ (o : ValueAndState Value). onwards o (λ (v : Value). pure (Returned v)))
      (argument_used (Constant int (pos 0)) (Int (pos 0)) s (ap (λ (p : Does Value). p s) (constant_means w call int (pos 0) h)) refl)

  pub turn_step : (b : CoreStatement) (all : List CoreStatement) (s t : State) → statement w n call b h s ≡ (Some Onward, t)
      → in_turn h (map (statement w n call) (b ∷ all)) s ≡ in_turn h (map (statement w n call) all) t
  turn_step b all s t e = ap (λ (o : ValueAndState Ending). onwards o (λ (flow : Ending). then_go flow (in_turn h (map (statement w n call) all)))) e
