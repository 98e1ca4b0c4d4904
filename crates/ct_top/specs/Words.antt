-- The words of the command line, and what is written where they are no command.
use Rattle.std.specs.Prelude.{◌≡◌, ℕ, List, [], ◌∷◌, ◌++◌, map, codes, String, string_bytes}
use Rattle.std.specs.declared.alloc.Global.{Global}

-- The words are the one word `test:all`, the one command.
abbrev pub IsTestAll : List (String Global) → Type 0
IsTestAll words = map string_bytes words ≡ codes "test:all" ∷ []

abbrev pub usage_line : List ℕ
usage_line = codes "usage: ceedling [--project PATH] [--budget N] COMMAND" ++ 10 ∷ []
