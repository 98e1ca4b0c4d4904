-- What the code reads is a reading of the definition.
use Rattle.std.proofs.Common.{◌≡◌, ℕ, Bool, true, false, List, [], ◌∷◌, ◌++◌, length, refl, sym, ap, ◌∙◌, subst, inl, inr}
use Rattle.std.specs.Prelude.{Option, Some, None, MatchOption, if◌then◌else◌}
use Rattle.ct_macro.specs.declared.faults.MacroKind.TheVariants.{Arguments, OpenCall}
use Rattle.ct_macro_call.specs.declared.definition.Macro.{Macro}
use Rattle.ct_macro_call.specs.declared.marked.Marked.{Marked}
use Rattle.ct_macro_call.specs.declared.call.Call.{Call}
use Rattle.ct_macro.specs.declared.reading.Step.{Step}
use Rattle.ct_macro.specs.declared.reading.Step.TheVariants as step
use Rattle.ct_macro_call.specs.Calls.{IsCall, IsOpenCall, AreArguments, separators, arguments_for}
use Rattle.ct_macro_call.specs.Sets.{common}
use Rattle.ct_macro_call.specs.Substitution.{call_of, full_arguments}
use Rattle.ct_macro_call.specs.Words.{is_open}
use Rattle.ct_macro.specs.Expansion.{Use, stays, opened, use_of_macro, Reading, kept, refused, replaced, reading_of_object, reading_of_call, ReadsUse}
use Rattle.ct_macro.specs.Machine.{StepGives}

-- what is left behind a token that is taken
pub taken : {A : Type 0} (r : Option A) (old new : List A) (next : A) (behind : List A) → MatchOption r ((old ≡ []) × (new ≡ [])) (λ t. old ≡ t ∷ new)
    → old ≡ next ∷ behind → new ≡ behind
taken None old new next behind h e = absurd (let bad : [] ≡ next ∷ behind = sym h.0 ∙ e in cc)
taken (Some t) old new next behind h e = let same : t ∷ new ≡ next ∷ behind = sym h ∙ e in cc

-- a step that the name, the macro and its parameters read as
abbrev pub ReadsAs : Marked → ℕ → Macro → List (List ℕ) → List Marked → List Marked → Step → List Marked → Type 0
ReadsAs name place m names rest behind answer after =
    (reading : Reading) × ReadsUse name rest (opened place m names behind) reading × StepGives name rest answer after reading

pub open_call : (name : Marked) (place : ℕ) (m : Macro) (names : List (List ℕ)) (rest behind after : List Marked) → IsOpenCall behind
    → ReadsAs name place m names rest behind (step.Refused OpenCall name) after
open_call name place m names rest behind after h = (refused OpenCall, inl (h, refl), (refl, refl))

pub bad_number : (name : Marked) (place : ℕ) (m : Macro) (names : List (List ℕ)) (rest behind after inside : List Marked) (close : Marked) (arguments : List (List Marked))
    → IsCall behind inside close after → AreArguments (separators m.variadic names) inside arguments → None ≡ arguments_for m.variadic (length names) arguments
    → ReadsAs name place m names rest behind (step.Refused Arguments name) after
bad_number name place m names rest behind after inside close arguments call separated none = (
  refused Arguments,
  inr record { inside = inside; close = close; after = after; arguments = arguments; call = call; separated = separated; reading_is = ap (reading_of_call name place m close after) none },
  (refl, refl),
)

pub good_call : (name : Marked) (place : ℕ) (m : Macro) (names : List (List ℕ)) (rest behind after inside : List Marked) (close : Marked) (arguments given : List (List Marked)) (call : Call) (fulls : List (List Marked)) (added : List ℕ)
    → IsCall behind inside close after → AreArguments (separators m.variadic names) inside arguments → Some given ≡ arguments_for m.variadic (length names) arguments
    → added ≡ common name.hidden close.hidden ++ place ∷ [] → call ≡ call_of name m added given → fulls ≡ full_arguments m given
    → ReadsAs name place m names rest behind (step.Replaced call fulls) after
good_call name place m names rest behind after inside close arguments given call fulls added is separated some set called expanded = (
  replaced call fulls after,
  inr record {
    inside = inside;
    close = close;
    after = after;
    arguments = arguments;
    call = is;
    separated = separated;
    reading_is = ap (λ c. replaced c fulls after) (called ∙ ap (λ s. call_of name m s given) set) ∙ ap (λ f. replaced (call_of name m (common name.hidden close.hidden ++ place ∷ []) given) f after) expanded ∙ ap (reading_of_call name place m close after) some;
  },
  refl,
)

-- ---- how a name reads

pub hidden_reads : (hidden : Bool) (name : Marked) (rest : List Marked) (shown : Use) → true ≡ hidden
    → ReadsUse name rest (if hidden then stays else shown) kept
hidden_reads true name rest shown e = refl
hidden_reads false name rest shown e = cc

pub shown_reads : (hidden : Bool) (name : Marked) (rest : List Marked) (shown : Use) (reading : Reading) → false ≡ hidden
    → ReadsUse name rest shown reading → ReadsUse name rest (if hidden then stays else shown) reading
shown_reads true name rest shown reading e reads = absurd (cc)
shown_reads false name rest shown reading e reads = reads

pub object_reads : (name : Marked) (place : ℕ) (m : Macro) (parameters : Option (List (List ℕ))) (rest : List Marked) → parameters ≡ None
    → ReadsUse name rest (use_of_macro place m parameters rest) (reading_of_object name place m rest)
object_reads name place m None rest e = refl
object_reads name place m (Some names) rest e = absurd (cc)

pub uncalled_reads : (name : Marked) (place : ℕ) (m : Macro) (parameters : Option (List (List ℕ))) (names : List (List ℕ)) (rest : List Marked) → parameters ≡ Some names
    → (((next : Marked) × (behind : List Marked) × (rest ≡ next ∷ behind) × (is_open next.token ≡ true)) → ⊥)
    → ReadsUse name rest (use_of_macro place m parameters rest) kept
uncalled_reads name place m None names rest e none = absurd (cc)
uncalled_reads name place m (Some names') names [] e none = refl
uncalled_reads name place m (Some names') names (next ∷ behind) e none = by_test (is_open next.token) refl
  where
    by_test : (b : Bool) → is_open next.token ≡ b → ReadsUse name (next ∷ behind) (if b then opened place m names' behind else stays) kept
    by_test true open_ = absurd (none (next, behind, refl, open_))
    by_test false open_ = refl

pub called_reads : (name : Marked) (place : ℕ) (m : Macro) (parameters : Option (List (List ℕ))) (names : List (List ℕ)) (rest : List Marked) (next : Marked) (behind : List Marked) (reading : Reading)
    → parameters ≡ Some names → rest ≡ next ∷ behind → is_open next.token ≡ true → ReadsUse name rest (opened place m names behind) reading
    → ReadsUse name rest (use_of_macro place m parameters rest) reading
called_reads name place m None names rest next behind reading e at open_ reads = absurd (cc)
called_reads name place m (Some names') names [] next behind reading e at open_ reads = absurd (cc)
called_reads name place m (Some names') names (next' ∷ behind') next behind reading e at open_ reads =
    let same : names' ≡ names = cc in
    let first : next' ≡ next = cc in
    let after : behind' ≡ behind = cc in
    by_test (is_open next'.token) (ap (λ (t : Marked). is_open t.token) first ∙ open_)
    (subst (λ (n : List (List ℕ)). ReadsUse name (next' ∷ behind') (opened place m n behind') reading) (sym same)
    (subst (λ (b : List Marked). ReadsUse name (next' ∷ behind') (opened place m names b) reading) (sym after) reads))
  where
    by_test : (b : Bool) → b ≡ true → ReadsUse name (next' ∷ behind') (opened place m names' behind') reading
        → ReadsUse name (next' ∷ behind') (if b then opened place m names' behind' else stays) reading
    by_test true is given = given
    by_test false is given = absurd (cc)

-- ---- the commas that may separate

pub any_comma : (variadic : Bool) (names : List (List ℕ)) (most : Option ℕ) → variadic ≡ false → most ≡ None → most ≡ separators variadic names
any_comma false names most e is = is
any_comma true names most e is = absurd (cc)

pub some_commas : (variadic : Bool) (names : List (List ℕ)) (count : ℕ) (most : Option ℕ) → variadic ≡ true → most ≡ Some count → length names ≡ count
    → most ≡ separators variadic names
some_commas true names count most e is same = is ∙ ap (λ n. Some n) (sym same)
some_commas false names count most e is same = absurd (cc)
