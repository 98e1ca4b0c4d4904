-- The string literals of a runner: they are the objects of the Tool space.
use Rattle.std.proofs.Common.{◌≡◌, ◌≢◌, ℕ, zero, suc, ◌+◌, List, [], ◌∷◌, ◌++◌, length, map, drop, Option, Some, Result, Ok, refl, sym, ap, subst, ◌∙◌, append_assoc, append-nil, add-one}
use Rattle.std.specs.Prelude.{slice_get, All, if◌then◌else◌}
use Rattle.std.proofs.lemmas.List.{length-append}
use Rattle.std.proofs.lemmas.List.Elements.{All-head, All-tail}
use Rattle.std.proofs.lemmas.List.Sums.{sum_by-cons}
use Rattle.ct_base.specs.declared.faults.FaultKind.{FaultKind}
use Rattle.ct_core.specs.declared.values.Space.{Space}
use Rattle.ct_core.specs.declared.values.Space.TheVariants.{Project, Tool}
use Rattle.ct_core.specs.declared.values.Cell.TheVariants.{Byte}
use Rattle.ct_core.specs.declared.objects.Object.{Object as Stored}
use Rattle.ct_core.specs.declared.units.CoreUnit.{CoreUnit}
use Rattle.ct_core.specs.declared.units.CoreFunction.{CoreFunction}
use Rattle.ct_core.specs.Memory.{Memory, with_new}
use Rattle.ct_core.specs.Access.{and_then, live_object, text_in, string_at}
use Rattle.ct_meaning.specs.World.{same_space, text_count}
use Rattle.ct_meaning.specs.Program.{text_object, with_texts, with_units}
use Rattle.ct_phases.specs.Linked.{IsProjectUnit}
use Rattle.ct_phases.proofs.ToolMemory.{put}

-- the objects of string literals
abbrev pub text_objects : ℕ → List (List ℕ) → List Stored
text_objects place [] = []
text_objects place (bytes ∷ texts) = text_object place bytes ∷ text_objects (place + 1) texts

pub with_texts_tool : (place : ℕ) (texts : List (List ℕ)) (m : Memory) → with_texts Tool place texts m ≡ record m { tool = m.tool ++ text_objects place texts }
with_texts_tool place [] m = ap (λ (os : List Stored). record m { tool = os }) (sym (append-nil m.tool))
with_texts_tool place (bytes ∷ texts) m =
    with_texts_tool (place + 1) texts (with_new Tool (text_object place bytes) m)
    ∙ ap (λ (os : List Stored). record m { tool = os }) (append_assoc m.tool (text_object place bytes ∷ []) (text_objects (place + 1) texts))

texts_project : (place : ℕ) (texts : List (List ℕ)) (m : Memory) → (with_texts Project place texts m).tool ≡ m.tool
texts_project place [] m = refl
texts_project place (bytes ∷ texts) m = texts_project (place + 1) texts (with_new Project (text_object place bytes) m)

pub units_project : (units : List CoreUnit) (m : Memory) → All IsProjectUnit units → (with_units units m).tool ≡ m.tool
units_project [] m own = refl
units_project (unit ∷ units) m own =
    let here = (All-head IsProjectUnit unit units own).space in
    units_project units (with_texts unit.space 0 unit.texts m) (All-tail IsProjectUnit unit units own)
    ∙ ap (λ (space : Space). (with_texts space 0 unit.texts m).tool) here ∙ texts_project 0 unit.texts m

pub units_last : (units : List CoreUnit) (last : CoreUnit) (m : Memory) → with_units (units ++ last ∷ []) m ≡ with_texts last.space 0 last.texts (with_units units m)
units_last [] last m = refl
units_last (unit ∷ units) last m = units_last units last (with_texts unit.space 0 unit.texts m)

pub no_texts : (units : List CoreUnit) → All IsProjectUnit units → text_count Tool units ≡ 0
no_texts [] own = refl
no_texts (unit ∷ units) own =
    let count : CoreUnit → ℕ = λ (u : CoreUnit). if same_space u.space Tool then length u.texts else 0 in
    let here : count unit ≡ 0 = ap (λ (space : Space). if same_space space Tool then length unit.texts else 0) (All-head IsProjectUnit unit units own).space in
    let more = no_texts units (All-tail IsProjectUnit unit units own) in
    sum_by-cons count unit units ∙ ap (λ (n : ℕ). n + text_count Tool units) here ∙ ap (λ (n : ℕ). 0 + n) more

-- ---- reading them

text_read : (name : List ℕ) → All (λ (b : ℕ). b ≢ 0) name → text_in (map Byte (name ++ 0 ∷ [])) ≡ Ok name
text_read [] whole = refl
text_read (zero ∷ name) whole = absurd (All-head (λ (b : ℕ). b ≢ 0) zero name whole refl)
text_read (suc b ∷ name) whole =
    ap (λ (r : Result (List ℕ) FaultKind). and_then r (λ (bytes : List ℕ). Ok (suc b ∷ bytes))) (text_read name (All-tail (λ (b : ℕ). b ≢ 0) (suc b) name whole))

-- the string at the begin of an object of the Tool space
pub read : (T : List Stored) (text place : ℕ) (name : List ℕ) (m : Memory) → slice_get T text ≡ Some (text_object place name) → All (λ (b : ℕ). b ≢ 0) name
    → string_at (record { space = Tool; number = text; offset = 0 }) (put T m) ≡ Ok name
unfolding string_at
read T text place name m at whole =
    ap (λ (o : Option Stored). and_then (live_object o) (λ (x : Stored). text_in (drop 0 x.cells))) at ∙ text_read name whole

-- the names of these functions stand in the Tool space from this number on
abbrev pub Standing : List Stored → ℕ → List CoreFunction → Type 0
Standing T text [] = Unit {0}
Standing T text (f ∷ fs) = ((place : ℕ) × (slice_get T text ≡ Some (text_object place f.name))) × Standing T (suc text) fs

seam : {A : Type 0} (pre : List A) (x : A) (rest : List A) → slice_get (pre ++ x ∷ rest) (length pre) ≡ Some x
seam {A} [] x rest = refl
seam {A} (y ∷ pre) x rest = seam pre x rest

abbrev pub names_of : List CoreFunction → List (List ℕ)
names_of fs = map (λ (f : CoreFunction). f.name) fs

pub standing : (pre : List Stored) (place : ℕ) (fs : List CoreFunction) → Standing (pre ++ text_objects place (names_of fs)) (length pre) fs
standing pre place [] = tt
standing pre place (f ∷ fs) =
    let o : Stored = text_object place f.name in
    let rest : List Stored = text_objects (place + 1) (names_of fs) in
    let P : List Stored → Type 0 = λ T. Standing T (length (pre ++ o ∷ [])) fs in
    let Q : ℕ → Type 0 = λ n. Standing (pre ++ o ∷ rest) n fs in
    let next : length (pre ++ o ∷ []) ≡ suc (length pre) = length-append pre (o ∷ []) ∙ add-one (length pre) in
    ((place, seam pre o rest), subst Q next (subst P (append_assoc pre (o ∷ []) rest) (standing (pre ++ o ∷ []) (place + 1) fs)))
