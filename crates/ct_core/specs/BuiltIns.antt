-- The functions that are built in, by name, and what an assertion says.
use Rattle.std.specs.Prelude.{ℕ, ℤ, List, [], ◌∷◌, ◌++◌, find, bytes_eq, Option, Some, None, option_map, if◌then◌else◌, codes}
use Rattle.std.specs.Fmt.{signed_decimal}
use Rattle.ct_ctype.specs.Operation.{is_same}
use Rattle.ct_core.specs.declared.built_ins.BuiltIn.{BuiltIn}
use Rattle.ct_core.specs.declared.built_ins.BuiltIn.TheVariants.{AssertEqualInt, RunCall, RunEnd, RunPhase, RunTest}

-- a built-in function: its name, and which it is
abbrev pub Row : Type 0
Row = List ℕ × BuiltIn

-- void ceedling_assert_TEST_ASSERT_EQUAL_INT(unsigned int line, long long expected, long long actual);
-- void ceedling_run_call(void (*)(void)); void ceedling_run_end(void); void ceedling_run_phase(void);
-- void ceedling_run_test(const char *name, unsigned int line);
abbrev pub built_in_rows : List Row
built_in_rows =
    (codes "ceedling_assert_TEST_ASSERT_EQUAL_INT", AssertEqualInt)
    ∷ (codes "ceedling_run_call", RunCall)
    ∷ (codes "ceedling_run_end", RunEnd)
    ∷ (codes "ceedling_run_phase", RunPhase)
    ∷ (codes "ceedling_run_test", RunTest)
    ∷ []

-- the built-in function of a name
unfoldable pub built_in_of : List ℕ → Option BuiltIn
built_in_of name = option_map (λ (row : Row). row.1) (find (λ (row : Row). bytes_eq row.0 name) built_in_rows)

-- how `TEST_ASSERT_EQUAL_INT` fails, unless the two are equal: `Expected E Was A`
abbrev pub equal_failure : ℤ → ℤ → Option (List ℕ)
equal_failure expected actual =
    if is_same expected actual then None
    else Some (codes "Expected " ++ signed_decimal expected ++ codes " Was " ++ signed_decimal actual)
