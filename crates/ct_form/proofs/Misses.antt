-- What is known where a reader of a part missed it.
use Rattle.std.proofs.Common.{◌≡◌}
use Rattle.std.specs.Prelude.{Result, Ok, Err}
use Rattle.std.specs.Result.{IsErrAnd}
use Rattle.ct_form.specs.declared.words.NoMatch.{NoMatch}
use Rattle.ct_form.specs.declared.words.NoMatch.TheVariants.{Elsewhere, OutOfMemory}
use Rattle.ct_form.specs.Answers.{Answers}
use Rattle.ct_form.specs.Words.{Nothing}

-- where nothing stands, a reader that missed has answered
pub missed : {X C R : Type 0} (value : X → C) (rest : X → R) (There : C → R → Type 0) (result : Result X NoMatch) (miss : NoMatch)
    → IsErrAnd result (λ m. m ≡ miss) → Nothing There → Answers value rest There result
missed value rest There (Ok x) miss e n = absurd e
missed value rest There (Err Elsewhere) miss e n = n
missed value rest There (Err OutOfMemory) miss e n = tt

-- a reader that hands on the miss of a part has answered
pub handed_on : {X C R Y D Q : Type 0} (value : X → C) (rest : X → R) (Part : C → R → Type 0)
    (value' : Y → D) (rest' : Y → Q) (Whole : D → Q → Type 0) (result : Result Y NoMatch) (miss : NoMatch)
    → IsErrAnd result (λ m. m ≡ miss) → Answers value rest Part (Err miss) → (Nothing Part → Nothing Whole) → Answers value' rest' Whole result
handed_on value rest Part value' rest' Whole (Ok x) miss e n f = absurd e
handed_on value rest Part value' rest' Whole (Err Elsewhere) Elsewhere e n f = f n
handed_on value rest Part value' rest' Whole (Err Elsewhere) OutOfMemory e n f = absurd (cc)
handed_on value rest Part value' rest' Whole (Err OutOfMemory) miss e n f = tt

-- what a part answers, the whole answers
pub passed_on : {X C D R : Type 0} (value : X → C) (value' : X → D) (rest : X → R) (Part : C → R → Type 0) (Whole : D → R → Type 0) (result : Result X NoMatch)
    → Answers value rest Part result → ((x : X) → Part (value x) (rest x) → Whole (value' x) (rest x)) → (Nothing Part → Nothing Whole)
    → Answers value' rest Whole result
passed_on value value' rest Part Whole (Ok x) a f g = f x a
passed_on value value' rest Part Whole (Err Elsewhere) a f g = g a
passed_on value value' rest Part Whole (Err OutOfMemory) a f g = tt

-- a reader that says that its part stands elsewhere
pub elsewhere : {X C R : Type 0} (value : X → C) (rest : X → R) (There : C → R → Type 0) (miss : NoMatch)
    → miss ≡ Elsewhere → Answers value rest There (Err miss) → Nothing There
elsewhere value rest There Elsewhere e n = n
elsewhere value rest There OutOfMemory e n = absurd (cc)
