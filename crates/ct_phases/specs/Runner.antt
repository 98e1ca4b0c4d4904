-- The runner of a test file as a core unit: its `main` runs each test in two phases.
use Rattle.std.specs.Prelude.{ℕ, suc, Bool, true, false, if◌then◌else◌, pos, List, [], ◌∷◌, ◌++◌, map, Some, codes}
use Rattle.ct_base.specs.declared.lexical.Span.{Span}
use Rattle.ct_ctype.specs.declared.kinds.IntKind.TheVariants.{UnsignedInt, Int as int, Char}
use Rattle.ct_ctype.specs.declared.types.CType.TheVariants as type
use Rattle.ct_ctype.specs.declared.types.FunctionType.{FunctionType}
use Rattle.ct_core.specs.declared.values.Space.TheVariants.{Tool}
use Rattle.ct_core.specs.declared.trees.Mark.{Mark}
use Rattle.ct_core.specs.declared.trees.CoreExpression.{CoreExpression}
use Rattle.ct_core.specs.declared.trees.CoreExpression.TheVariants.{Constant, Text, Function, Call}
use Rattle.ct_core.specs.declared.trees.CoreStatement.{CoreStatement}
use Rattle.ct_core.specs.declared.trees.CoreStatement.TheVariants.{Run, Block, Return}
use Rattle.ct_core.specs.declared.units.CoreUnit.{CoreUnit}
use Rattle.ct_core.specs.declared.units.CoreFunction.{CoreFunction}
use Rattle.ct_core.specs.declared.units.Linkage.TheVariants.{External}

-- void (void)
abbrev pub procedure : FunctionType
procedure = record { result = type.Void; parameters = []; variadic = false }

-- void (const char *, unsigned int)
abbrev pub run_test_type : FunctionType
run_test_type =
    record { result = type.Void; parameters = type.Pointer (type.Int Char) true ∷ type.Int UnsignedInt ∷ []; variadic = false }

-- void (void (*)(void))
abbrev pub run_call_type : FunctionType
run_call_type = record { result = type.Void; parameters = type.Pointer (type.Function procedure) false ∷ []; variadic = false }

-- no fault names a statement of the runner
abbrev pub nowhere : Span
nowhere = record { file = 0; line = 0 }

abbrev pub unmarked : Mark
unmarked = record { span = nowhere; serial = 0 }

-- NAME ( ARGUMENTS ) ;
abbrev pub call_statement : FunctionType → List ℕ → List CoreExpression → CoreStatement
call_statement type name arguments = Run unmarked (Call type (Function name) arguments)

-- ceedling_run_call ( NAME ) ;
abbrev pub run_call : List ℕ → CoreStatement
run_call name = call_statement run_call_type (codes "ceedling_run_call") (Function name ∷ [])

-- the statements of a test, whose name is this text
abbrev pub test_statements : ℕ → List ℕ → ℕ → List CoreStatement
test_statements text name line =
    call_statement run_test_type (codes "ceedling_run_test") (Text text ∷ Constant UnsignedInt (pos line) ∷ [])
    ∷ run_call (codes "setUp")
    ∷ run_call name
    ∷ call_statement procedure (codes "ceedling_run_phase") []
    ∷ run_call (codes "tearDown")
    ∷ call_statement procedure (codes "ceedling_run_end") []
    ∷ []

abbrev pub all_statements : ℕ → List (List ℕ × ℕ) → List CoreStatement
all_statements text [] = Return unmarked (Some (Constant int (pos 0))) ∷ []
all_statements text (test ∷ tests) = test_statements text test.0 test.1 ++ all_statements (suc text) tests

-- void NAME ( void ) { }
abbrev pub empty_function : List ℕ → CoreFunction
empty_function name =
    record { name = name; kind = procedure; linkage = External; span = nowhere; parameters = 0; variables = []; body = Block unmarked [] [] }

abbrev pub main_function : List (List ℕ × ℕ) → CoreFunction
main_function tests =
    record {
      name = codes "main";
      kind = record { result = type.Int int; parameters = []; variadic = false };
      linkage = External;
      span = nowhere;
      parameters = 0;
      variables = [];
      body = Block unmarked [] (all_statements 0 tests);
    }

-- a function that the test file does not define itself
abbrev pub missing : Bool → List ℕ → List CoreFunction
missing defined name = if defined then [] else empty_function name ∷ []

-- the runner of tests with these names and lines, where the test file defines `setUp` and `tearDown` itself or not
unfoldable pub runner_unit : List ℕ → List (List ℕ × ℕ) → Bool → Bool → CoreUnit
runner_unit path tests set_up tear_down =
    record {
      space = Tool;
      files = path ∷ [];
      functions = missing set_up (codes "setUp") ++ missing tear_down (codes "tearDown") ++ main_function tests ∷ [];
      texts = map (λ (test : List ℕ × ℕ). test.0) tests;
      structs = [];
    }
