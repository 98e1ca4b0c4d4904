-- Steps that are done one behind the other, the first refusal ending them.
use Rattle.std.proofs.Common.{◌≡◌, Bool, true, false, refl, subst}
use Rattle.std.specs.Prelude.{Result, Ok, Err}
use Rattle.std.specs.Bool.{MatchBool}
use Rattle.ct_directive.specs.declared.faults.PreFault.{PreFault}
use Rattle.ct_preproc.specs.Reading.{Goes, DoesThen}

-- the same behind an answer that is known
goes_map : {A B : Type 0} (found : Result A PreFault) (answer : Result B PreFault) (Next After : A → Type 0)
    → ((value : A) → Next value → After value) → Goes found answer Next → Goes found answer After
goes_map (Ok value) answer Next After next goes = next value goes
goes_map (Err fault) answer Next After next goes = goes

-- what follows a step is replaced by what follows from it
pub reads_map : {A B : Type 0} (Does : Result A PreFault → Type 0) (answer : Result B PreFault) (Next After : A → Type 0)
    → ((value : A) → Next value → After value) → DoesThen Does answer Next → DoesThen Does answer After
reads_map Does answer Next After next h = (h.0, h.1, goes_map h.0 answer Next After next h.2)

-- a step is replaced by one that does what it does
pub reads_as : {A B : Type 0} (Does Again : Result A PreFault → Type 0) (answer : Result B PreFault) (Next : A → Type 0)
    → ((found : Result A PreFault) → Does found → Again found) → DoesThen Does answer Next → DoesThen Again answer Next
reads_as Does Again answer Next same h = (h.0, same h.0 h.1, h.2)

-- a step that gives a value is passed
pub reads_value : {A B : Type 0} (value : A) (answer : Result B PreFault) (Next : A → Type 0)
    → DoesThen (λ (found : Result A PreFault). found ≡ Ok value) answer Next → Next value
reads_value {A} value answer Next h = subst (λ (found : Result A PreFault). Goes found answer Next) h.1 h.2

-- two steps, by what the first of them answers
inward_goes : {A B C : Type 0} (Does : Result A PreFault → Type 0) (Then : A → Result B PreFault → Type 0) (answer : Result C PreFault) (Next : B → Type 0)
    (first : Result A PreFault) (second : Result B PreFault) → Does first → Goes first second (λ value. Then value second) → Goes second answer Next
    → DoesThen Does answer (λ value. DoesThen (Then value) answer Next)
inward_goes Does Then answer Next (Ok value) second does goes next = (Ok value, does, (second, goes, next))
inward_goes {C = C} Does Then answer Next (Err fault) second does goes next =
    (Err fault, does, subst (λ second. Goes second answer Next) goes next)

-- two steps that are one step are done one behind the other
pub reads_inward : {A B C : Type 0} (Does : Result A PreFault → Type 0) (Then : A → Result B PreFault → Type 0) (answer : Result C PreFault) (Next : B → Type 0)
    → DoesThen (λ (found : Result B PreFault). DoesThen Does found (λ value. Then value found)) answer Next → DoesThen Does answer (λ value. DoesThen (Then value) answer Next)
reads_inward Does Then answer Next h = inward_goes Does Then answer Next h.1.0 h.0 h.1.1 h.1.2 h.2

-- the same the other way round
outward_goes : {A B C : Type 0} (Does : Result A PreFault → Type 0) (Then : A → Result B PreFault → Type 0) (answer : Result C PreFault) (Next : B → Type 0)
    (first : Result A PreFault) → Does first → Goes first answer (λ value. DoesThen (Then value) answer Next)
    → DoesThen (λ (found : Result B PreFault). DoesThen Does found (λ value. Then value found)) answer Next
outward_goes Does Then answer Next (Ok value) does goes = (goes.0, (Ok value, does, goes.1), goes.2)
outward_goes Does Then answer Next (Err fault) does goes = (Err fault, (Err fault, does, refl), goes)

-- two steps that are done one behind the other are one step
pub reads_outward : {A B C : Type 0} (Does : Result A PreFault → Type 0) (Then : A → Result B PreFault → Type 0) (answer : Result C PreFault) (Next : B → Type 0)
    → DoesThen Does answer (λ value. DoesThen (Then value) answer Next) → DoesThen (λ (found : Result B PreFault). DoesThen Does found (λ value. Then value found)) answer Next
reads_outward Does Then answer Next h = outward_goes Does Then answer Next h.0 h.1 h.2

-- a step by a choice is the step that is chosen
pub reads_chosen : {A B : Type 0} (choice : Bool) (Does Other : Result A PreFault → Type 0) (answer : Result B PreFault) (Next : A → Type 0) → choice ≡ true
    → DoesThen (λ (found : Result A PreFault). MatchBool choice (Does found) (Other found)) answer Next → DoesThen Does answer Next
reads_chosen {A} {B} choice Does Other answer Next holds h =
    subst (λ (b : Bool). DoesThen (λ (found : Result A PreFault). MatchBool b (Does found) (Other found)) answer Next) holds h

-- or the other one
pub reads_other : {A B : Type 0} (choice : Bool) (Does Other : Result A PreFault → Type 0) (answer : Result B PreFault) (Next : A → Type 0) → choice ≡ false
    → DoesThen (λ (found : Result A PreFault). MatchBool choice (Does found) (Other found)) answer Next → DoesThen Other answer Next
reads_other {A} {B} choice Does Other answer Next fails h =
    subst (λ (b : Bool). DoesThen (λ (found : Result A PreFault). MatchBool b (Does found) (Other found)) answer Next) fails h
