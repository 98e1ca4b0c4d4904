-- The built-in headers.
use Rattle.std.specs.Prelude.{ℕ, List, [], ◌∷◌, codes}
use Rattle.ct_directive.specs.declared.headers.TheConstants.{STDINT, STDBOOL, STDDEF, LIMITS, STDIO, STRING, STDLIB, UNITY, CMOCK}

-- a built-in header
pub record BuiltIn : Type 0 where
  pub name : List ℕ
  pub text : List ℕ

unfoldable pub built_in_headers : List BuiltIn
built_in_headers =
    record { name = codes "stdint.h"; text = STDINT.now } ∷ record { name = codes "stdbool.h"; text = STDBOOL.now }
    ∷ record { name = codes "stddef.h"; text = STDDEF.now } ∷ record { name = codes "limits.h"; text = LIMITS.now }
    ∷ record { name = codes "stdio.h"; text = STDIO.now } ∷ record { name = codes "string.h"; text = STRING.now }
    ∷ record { name = codes "stdlib.h"; text = STDLIB.now } ∷ record { name = codes "unity.h"; text = UNITY.now }
    ∷ record { name = codes "cmock.h"; text = CMOCK.now } ∷ []
