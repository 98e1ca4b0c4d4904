-- What a reader of the crate answers.
use Rattle.std.specs.Prelude.{◌≡◌, Option, Some, None, Result, Ok, Err}
use Rattle.ct_base.specs.declared.memory.Fail.{Fail}
use Rattle.ct_base.specs.declared.memory.Fail.TheVariants.{Fault, OutOfMemory}
use Rattle.ct_yaml.specs.declared.chars.Unspelled.{Unspelled}

-- The value is what is read, seen by view, and a fault says that nothing is. Memory may run out.
abbrev pub Gives : {A B : Type 0} → (A → B) → Result A (Fail Unspelled) → Option B → Type 0
Gives view (Ok value) read = read ≡ Some (view value)
Gives view (Err (Fault fault)) read = read ≡ None
Gives view (Err OutOfMemory) read = Unit {0}
