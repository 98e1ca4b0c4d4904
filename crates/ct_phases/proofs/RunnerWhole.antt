-- The runner runs the two phases of each test.
use Rattle.std.proofs.Common.{◌≡◌, ℕ, suc, ◌+◌, ◌*◌, ◌<◌, ◌≤◌, List, [], ◌∷◌, ◌++◌, length, map, take, Bool, true, false, pos, Option, Some, None, Ok, refl, sym, ap, subst, ◌∙◌, arith, lt-ltb}
use Rattle.std.specs.Prelude.{slice_get, codes, filter, unwrap_or, is_none, ◌&&◌, nat_lt}
use Rattle.std.proofs.lemmas.Option.{slice_get_within}
use Rattle.std.proofs.lemmas.List.{take-append-le, take_all}
use Rattle.ct_core.specs.declared.values.Space.{Space}
use Rattle.ct_core.specs.declared.values.Space.TheVariants.{Tool}
use Rattle.ct_core.specs.declared.values.Pointer.{Pointer}
use Rattle.ct_core.specs.declared.values.Value.TheVariants.{Int}
use Rattle.ct_core.specs.declared.objects.Object.{Object as Stored}
use Rattle.ct_core.specs.declared.trees.CoreStatement.{CoreStatement}
use Rattle.ct_core.specs.declared.units.CoreUnit.{CoreUnit}
use Rattle.ct_core.specs.declared.units.CoreFunction.{CoreFunction}
use Rattle.ct_core.specs.declared.units.Definition.{Definition}
use Rattle.ct_core.specs.Memory.{Memory, no_objects}
use Rattle.ct_core.specs.Access.{string_at}
use Rattle.ct_core.specs.Testing.{begun_test}
use Rattle.ct_meaning.specs.declared.state.State.{State}
use Rattle.ct_meaning.specs.declared.state.Ending.{Ending}
use Rattle.ct_meaning.specs.declared.state.Ending.TheVariants.{Onward, Returned}
use Rattle.ct_meaning.specs.Doing.{ValueAndState, Does, onwards, ◌>>◌}
use Rattle.ct_meaning.specs.World.{World, Where, Target, Defined, target_of, unit_space, space_of, text_pointer, text_count, common_number}
use Rattle.ct_meaning.specs.Rules.{path_of, test_file, begun, begun_in, with_test, can_begin, in_test, without_test}
use Rattle.ct_meaning.specs.Meaning.{Executes, enter, calls, statement, in_turn, then_go, within, body_of, initialise_parameters}
use Rattle.ct_meaning.specs.Program.{text_object, with_texts, with_units, first_state, outermost, left_in, enough, last_state_by, last_state, log_of}
use Rattle.ct_meaning.specs.Written.{is_test, test_of, functions_of, defines, test_state, tests_state, last_written_state, written_log}
use Rattle.ct_phases.specs.Runner.{unmarked, procedure, call_statement, run_call, main_function, all_statements, test_statements, runner_unit}
use Rattle.ct_meaning.specs.Rules as rule
use Rattle.ct_phases.specs.Linked.{IsLinked, IsTestProject, function_in}
use Rattle.ct_meaning_laws.proofs.Related.{SameCall}
use Rattle.ct_meaning_laws.proofs.Spends.{began}
use Rattle.ct_phases.proofs.Positions.{get_left, get_end}
use Rattle.ct_phases.proofs.ToolMemory.{put}
use Rattle.ct_phases.proofs.RunnerRules.{Going, with_tool}
use Rattle.ct_phases.proofs.RunnerTrees.{block_means, within_nothing}
use Rattle.ct_phases.proofs.RunnerUnit.{main, set_up, tear_down, main_at}
use Rattle.ct_phases.proofs.RunnerLink.{tests_in, runner, all, plain, written, function_runner, common_of, target_defined}
use Rattle.ct_phases.proofs.RunnerTargets.{InProject, Reached, twins}
use Rattle.ct_phases.proofs.RunnerSteps.{test_step, run_step, phase_step, end_step, return_step, turn_step}
use Rattle.ct_phases.proofs.RunnerPhases.{Between}
use Rattle.ct_phases.proofs.RunnerPhases as phases
use Rattle.ct_phases.proofs.RunnerTexts.{text_objects, with_texts_tool, units_project, units_last, no_texts, read, Standing, names_of, standing}
use Rattle.ct_phases.proofs.RunnerNames.{IsTest, AllTests, set_up_fixture, tear_down_fixture, tests_all}
use Rattle.ct_phases.proofs.RunnerOffers.{line_fits, offers_test, offers_call, offers_phase, offers_end}

abbrev entries : List CoreFunction → List (List ℕ × ℕ)
entries fs = map (λ (f : CoreFunction). (f.name, f.span.line)) fs

entry_names : (fs : List CoreFunction) → map (λ (test : List ℕ × ℕ). test.0) (entries fs) ≡ names_of fs
entry_names [] = refl
entry_names (f ∷ fs) = ap (λ (names : List (List ℕ)). f.name ∷ names) (entry_names fs)

module _ (units : List CoreUnit) (table : List Definition) (budget : ℕ) (path : List ℕ) (project : IsTestProject units) (linked : IsLinked (all units table budget path) table) where
  abbrev P : World
  P = plain units table budget path

  abbrev W : World
  W = written units table budget path

  abbrev tests : List CoreFunction
  tests = filter is_test (functions_of (slice_get units 0))

  -- what lies in the Tool space
  abbrev T : List Stored
  T = text_objects 0 (names_of tests)

  -- the place of the runner's `main`
  abbrev place : ℕ
  place = (main_at (tests_in units) (defines units set_up) (defines units tear_down)).0

  -- where `main` is run
  abbrev here : Where
  here = record { level = 0; unit = length units; function = place; frame = []; place = None }

  runner_space : unit_space P (length units) ≡ Tool
  unfolding runner_unit
  runner_space = ap space_of (get_end units (runner units table budget path))

  unplaced : begun P here unmarked ≡ here
  unplaced = ap (λ (space : Space). begun_in space here unmarked) runner_space

  same_file : test_file P ≡ test_file W
  same_file = ap path_of (get_left units (runner units table budget path ∷ []) 0 (slice_get_within units 0 project.first project.is_first))

  -- ---- the names of the tests

  pointer_is : (text : ℕ) → text_pointer P (length units) text ≡ record { space = Tool; number = text; offset = 0 }
  pointer_is text =
      let front = take-append-le (length units) units (runner units table budget path ∷ []) (omega arith) ∙ take_all (length units) units (omega arith) in
      let none : text_count Tool (take (length units) (all units table budget path)) ≡ 0 = ap (λ (us : List CoreUnit). text_count Tool us) front ∙ no_texts units project.own in
      let plus : 0 + text ≡ text = omega arith in
      ap (λ (space : Space). record { space = space; number = text_count space (take (length units) (all units table budget path)) + text; offset = 0 }) runner_space
      ∙ ap (λ (n : ℕ). record { space = Tool; number = n + text; offset = 0 }) none
      ∙ ap (λ (n : ℕ). record { space = Tool; number = n; offset = 0 }) plus

  first_memory : with_units (all units table budget path) no_objects ≡ put T (with_units units no_objects)
  unfolding runner_unit
  first_memory =
      let m : Memory = with_units units no_objects in
      units_last units (runner units table budget path) no_objects
      ∙ ap (λ (names : List (List ℕ)). with_texts Tool 0 names m) (entry_names tests)
      ∙ with_texts_tool 0 (names_of tests) m
      ∙ ap (λ (os : List Stored). record m { tool = os ++ T }) (units_project units no_objects project.own)

  first_same : first_state P ≡ with_tool T (first_state W)
  first_same = ap (λ (m : Memory). record { memory = m; steps = 1000000; test = None; aborted = false; begun = 0; log = [] }) first_memory

  -- ---- the tests

  abbrev number_in : List ℕ → ℕ
  number_in name = unwrap_or (common_number W name) 0

  module _ (k j : ℕ) (le' : k ≤ j) where
    le : k ≤ k
    le = omega arith

    same_call : SameCall (InProject units table budget path project linked) here outermost
    same_call = record { level = refl; place = refl; known = tt }

    abbrev goes : List CoreStatement → State → ValueAndState Ending
    goes statements s = in_turn here (map (statement P k (calls P k)) statements) s

    turn : (b : CoreStatement) (all : List CoreStatement) (s t : State) → statement P k (calls P k) b here s ≡ (Some Onward, t) → goes (b ∷ all) s ≡ goes all t
    turn = turn_step P (calls P k) k here unplaced

    abbrev called : ℕ → State → State
    called number s = (rule.run_call here (enter P here (calls P k) number []) s).1

    -- the states of the written meaning before and after a test
    abbrev begins : CoreFunction → State → State
    begins f t = with_test W f.name f.span.line t

    abbrev ends : CoreFunction → State → State
    ends f t = test_state W (calls W j) (number_in set_up) (number_in tear_down) (test_of W f) t

    module _ (f : CoreFunction) (test : IsTest units table budget path project linked f) (text at : ℕ) (stands : slice_get T text ≡ Some (text_object at f.name))
        (count : ℕ) (t : State) (between : Between budget count k t) (few : count < 1000) where
      can : can_begin W outermost t ≡ true
      can =
          let small : nat_lt t.begun 1000 ≡ true = lt-ltb t.begun 1000 (let c = between.counted in omega arith) in
          let P : Bool → Type 0 = λ b. (b && nat_lt t.begun 1000) ≡ true in
          subst P (sym (ap is_none between.stopped)) small

      begins_same : with_test P f.name f.span.line (with_tool T t) ≡ with_tool T (begins f t)
      begins_same =
          ap (λ (file : List ℕ). record (with_tool T t) { test = Some (begun_test file f.name f.span.line); steps = budget; aborted = false; begun = t.begun + 1 }) same_file

      below : left_in budget (begins f t) < k
      below = let less = began W outermost f.name f.span.line t can in let was = between.below in omega arith

      going : Going (t.begun + 1) (begins f t)
      going = record { running = refl; unaborted = refl; count = refl }

      reads : string_at (text_pointer P (length units) text) (put T t.memory) ≡ Ok f.name
      reads = ap (λ (p : Pointer). string_at p (put T t.memory)) (pointer_is text) ∙ read T text at f.name t.memory stands test.own.whole

      abbrev up : ℕ
      up = number_in set_up

      abbrev own : ℕ
      own = number_in f.name

      abbrev down : ℕ
      down = number_in tear_down

      abbrev reaches : ℕ → Type 0
      reaches = Reached units table budget path project linked

      up_reached : reaches up
      up_reached = (set_up_fixture units table budget path project linked).reached

      down_reached : reaches down
      down_reached = (tear_down_fixture units table budget path project linked).reached

      -- the states between the statements of a test
      abbrev second : State
      second = called up (with_tool T (begins f t))

      abbrev middle : State
      middle = called own second

      abbrev fourth : State
      fourth = record middle { aborted = false }

      abbrev finish : State
      finish = called down fourth

      middle_test : in_test here middle ≡ true
      middle_test = phases.middle_test P W (InProject units table budget path project linked) reaches T (twins units table budget path project linked)
          here same_call k j k le le' (t.begun + 1) up own down up_reached test.fixture.reached down_reached (begins f t) below going

      finish_test : in_test here finish ≡ true
      finish_test = phases.finish_test P W (InProject units table budget path project linked) reaches T (twins units table budget path project linked)
          here same_call k j k le le' (t.begun + 1) up own down up_reached test.fixture.reached down_reached (begins f t) below going

      same_end : without_test finish ≡ with_tool T (ends f t)
      same_end = phases.same_end P W (InProject units table budget path project linked) reaches T (twins units table budget path project linked)
          here same_call k j k le le' (t.begun + 1) up own down up_reached test.fixture.reached down_reached (begins f t) below going

      pub between_next : Between budget (t.begun + 1) k (ends f t)
      between_next = phases.between_again P W (InProject units table budget path project linked) reaches T (twins units table budget path project linked)
          here same_call k j k le le' (t.begun + 1) up own down up_reached test.fixture.reached down_reached (begins f t) below going

      module _ (rest : List CoreStatement) where
        abbrev sixth : List CoreStatement
        sixth = call_statement procedure (codes "ceedling_run_end") [] ∷ rest

        abbrev fifth : List CoreStatement
        fifth = run_call tear_down ∷ sixth

        abbrev after_phase : List CoreStatement
        after_phase = call_statement procedure (codes "ceedling_run_phase") [] ∷ fifth

        abbrev third : List CoreStatement
        third = run_call f.name ∷ after_phase

        abbrev after_first : List CoreStatement
        after_first = run_call set_up ∷ third

        one_test : goes (test_statements text f.name f.span.line ++ rest) (with_tool T t) ≡ goes rest (with_tool T (ends f t))
        one_test =
            turn _ after_first (with_tool T t) (with_test P f.name f.span.line (with_tool T t))
            (test_step P (calls P k) k here unplaced (offers_test units table budget path project linked) text f.name f.span.line (with_tool T t) can reads (line_fits f.span.line test.own.line))
            ∙ ap (λ (s : State). goes after_first s) begins_same
            ∙ turn (run_call set_up) third (with_tool T (begins f t)) second
            (run_step P (calls P k) k here unplaced (offers_call units table budget path project linked) set_up up (set_up_fixture units table budget path project linked).means (with_tool T (begins f t)))
            ∙ turn (run_call f.name) after_phase second middle
            (run_step P (calls P k) k here unplaced (offers_call units table budget path project linked) f.name own test.fixture.means second)
            ∙ turn _ fifth middle fourth (phase_step P (calls P k) k here unplaced (offers_phase units table budget path project linked) middle middle_test)
            ∙ turn (run_call tear_down) sixth fourth finish
            (run_step P (calls P k) k here unplaced (offers_call units table budget path project linked) tear_down down (tear_down_fixture units table budget path project linked).means fourth)
            ∙ turn _ rest finish (without_test finish) (end_step P (calls P k) k here unplaced (offers_end units table budget path project linked) finish finish_test)
            ∙ ap (λ (s : State). goes rest s) same_end

    -- all tests in order, and then `return 0;`
    all_tests : (fs : List CoreFunction) (text count : ℕ) (t : State) → AllTests units table budget path project linked fs → Standing T text fs → count + length fs ≤ 1000 → Between budget count k t
        → goes (all_statements text (entries fs)) (with_tool T t)
        ≡ (Some (Returned (Int (pos 0))), with_tool T (tests_state W (calls W j) (number_in set_up) (number_in tear_down) (map (test_of W) fs) t))
    all_tests [] text count t tests stands few between =
        ap (λ (o : ValueAndState Ending). onwards o (λ (flow : Ending). then_go flow (in_turn here []))) (return_step P (calls P k) k here unplaced (with_tool T t))
    all_tests (f ∷ fs) text count t tests stands few between =
        let next = between_next f tests.0 text stands.0.0 stands.0.1 count t between (omega arith) in
        one_test f tests.0 text stands.0.0 stands.0.1 count t between (omega arith) (all_statements (suc text) (entries fs))
        ∙ all_tests fs (suc text) (count + 1) (ends f t) tests.1 stands.1 (omega arith)
        (record { stopped = next.stopped; counted = next.counted ∙ ap (λ (n : ℕ). n + 1) between.counted; below = next.below })

  -- ---- the whole run

  main_is : function_in (all units table budget path) (length units) place ≡ Some (main_function (tests_in units))
  main_is = function_runner units table budget path place ∙ (main_at (tests_in units) (defines units set_up) (defines units tear_down)).1

  main_means : (k number : ℕ) (s : State) → target_of P number ≡ Some (Defined (length units) place (main_function (tests_in units)))
      → calls P (suc k) number [] outermost s ≡ in_turn here (map (statement P k (calls P k)) (all_statements 0 (tests_in units))) s
  unfolding calls initialise_parameters
  main_means k number s is =
      let body : Executes = λ inner. in_turn inner (map (statement P k (calls P k)) (all_statements 0 (tests_in units))) in
      ap (λ (t : Option Target). body_of P k (calls P k) t [] outermost s) is
      ∙ within_nothing P here (λ inner. initialise_parameters P inner 0 [] >> statement P k (calls P k) (main_function (tests_in units)).body inner) s
      ∙ ap (λ (p : Does Ending). p s) (block_means P (calls P k) k unmarked [] (all_statements 0 (tests_in units)) here)
      ∙ ap (λ (h : Where). within P h [] body s) unplaced
      ∙ within_nothing P here body s

  main_number_is : (number : ℕ) → common_number P main ≡ Some number → last_state P ≡ (calls P (enough budget) number [] outermost (first_state P)).1
  unfolding last_state
  main_number_is number e = ap (λ (o : Option ℕ). last_state_by P o) e

  begins_between : (k : ℕ) → k ≡ 1000 * (budget + 1000002) + 1000001 → Between budget 0 k (first_state W)
  begins_between k e = record { stopped = refl; counted = refl; below = omega arith }

  few : 0 + length tests ≤ 1000
  few = let e : length tests ≡ length (filter is_test project.first.functions) = ap (λ (o : Option CoreUnit). length (filter is_test (functions_of o))) project.is_first in let most = project.few in omega arith

  enough_is : (k : ℕ) → k ≡ 1000 * (budget + 1000002) + 1000001 → enough budget ≡ suc k
  unfolding enough
  enough_is k e = omega arith

  last_from : (k : ℕ) → k ≡ 1000 * (budget + 1000002) + 1000001 → last_state P ≡ with_tool T (last_written_state W)
  unfolding last_written_state
  last_from k e =
      let found = common_of units table budget path linked main (length units) place (main_function (tests_in units)) main_is refl refl in
      let target = target_defined units table budget path linked found.number (length units) place (main_function (tests_in units)) found.stands main_is in
      let above : k ≤ enough budget = let is = enough_is k e in omega arith in
      main_number_is found.number found.is_number
      ∙ ap (λ (n : ℕ). (calls P n found.number [] outermost (first_state P)).1) (enough_is k e)
      ∙ ap (λ (o : ValueAndState Ending). o.1) (main_means k found.number (first_state P) target)
      ∙ ap (λ (s : State). (in_turn here (map (statement P k (calls P k)) (all_statements 0 (tests_in units))) s).1) first_same
      ∙ ap (λ (o : ValueAndState Ending). o.1)
      (all_tests k (enough budget) above tests 0 0 (first_state W) (tests_all units table budget path project linked) (standing [] 0 tests) few (begins_between k e))

  last_same : last_state P ≡ with_tool T (last_written_state W)
  last_same = last_from (1000 * (budget + 1000002) + 1000001) refl

  pub log_same : log_of P ≡ written_log W
  unfolding log_of written_log
  log_same =
      ap (λ (file : List ℕ). record { file = file; tests = (last_state P).log }) same_file
      ∙ ap (λ (s : State). record { file = test_file W; tests = s.log }) last_same
