-- What a function that reads a part of the form answers.
use Rattle.std.specs.Prelude.{Result, Ok, Err}
use Rattle.ct_form.specs.Words.{Nothing}
use Rattle.ct_form.specs.declared.words.NoMatch.{NoMatch}
use Rattle.ct_form.specs.declared.words.NoMatch.TheVariants.{Elsewhere, OutOfMemory}

-- What was returned, seen as a value and the tokens or the place behind it, stands there; or nothing does, unless memory
-- ran out.
abbrev pub Answers : {X C R : Type 0} → (X → C) → (X → R) → (C → R → Type 0) → Result X NoMatch → Type 0
Answers value rest Stands (Ok x) = Stands (value x) (rest x)
Answers value rest Stands (Err Elsewhere) = Nothing Stands
Answers value rest Stands (Err OutOfMemory) = Unit {0}
