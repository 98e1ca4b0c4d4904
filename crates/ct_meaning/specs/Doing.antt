-- What a part of a program does: from a state it gives a value, or aborts, and the new state.
use Rattle.std.specs.Prelude.{List, [], ◌∷◌, ◌++◌, Option, Some, None}
use Rattle.ct_meaning.specs.declared.state.State.{State}

-- the value, unless the part aborts, and the new state
abbrev pub ValueAndState : Type 0 → Type 0
ValueAndState A = Option A × State

abbrev pub Does : Type 0 → Type 0
Does A = State → ValueAndState A

-- goes on with a value, and hands an abort on
abbrev pub onwards : {A B : Type 0} → ValueAndState A → (A → Does B) → ValueAndState B
onwards (Some a, s) f = f a s
onwards (None, s) f = (None, s)

infixl 10 ◌>>=◌
abbrev pub ◌>>=◌ : {A B : Type 0} → Does A → (A → Does B) → Does B
p >>= f = λ s. onwards (p s) f

infixl 10 ◌>>◌
abbrev pub ◌>>◌ : {A B : Type 0} → Does A → Does B → Does B
p >> q = p >>= (λ _. q)

abbrev pub pure : {A : Type 0} → A → Does A
pure a = λ s. (Some a, s)

-- one after another, with their values after those at hand
abbrev pub each_onto : {A : Type 0} → List A → List (Does A) → Does (List A)
each_onto done [] = pure done
each_onto done (p ∷ ps) = p >>= (λ a. each_onto (done ++ a ∷ []) ps)

abbrev pub each : {A : Type 0} → List (Does A) → Does (List A)
each = each_onto []

-- and then changes the state, also after an abort
abbrev pub finally : {A : Type 0} → Does A → (State → State) → Does A
finally p change = λ s. ((p s).0, change (p s).1)
