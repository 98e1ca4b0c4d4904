-- Numbers of which several crates speak.
use Rattle.std.specs.Prelude.{ℕ}

-- 1 MiB: the most bytes of a file, of an object and of a type
abbrev pub mebibyte : ℕ
mebibyte = 1048576

-- the most steps of a test
abbrev pub most_steps : ℕ
most_steps = 10000000
