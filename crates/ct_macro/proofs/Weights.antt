-- An expansion ends: what is still to be read grows lighter with each step.
use Rattle.std.proofs.Common.{◌≡◌, ℕ, suc, zero, ◌+◌, ◌≤◌, Bool, true, false, drop, List, [], ◌∷◌, ◌++◌, length, refl, ap, ◌∙◌, subst, arith, inl, inr, length-append}
use Rattle.std.specs.Prelude.{Option, Some, None, nat_eq, if◌then◌else◌}
use Rattle.ct_macro_call.specs.declared.definition.Macro.{Macro}
use Rattle.ct_macro_call.specs.declared.marked.Marked.{Marked}
use Rattle.ct_macro_call.specs.declared.call.Call.{Call}
use Rattle.ct_macro_call.specs.Words.{is_open}
use Rattle.ct_macro_call.specs.Calls.{AreArguments, fewer, separators, is_no_argument, fixed_arguments, variadic_arguments, arguments_for}
use Rattle.ct_macro_call.specs.Sets.{is_in}
use Rattle.ct_macro_call.specs.Substitution.{selected, full_arguments, names_in, operands_of, is_full}
use Rattle.ct_macro.specs.Expansion.{Use, stays, object, opened, use_of, use_of_found, use_of_macro, use_of_function, macro_of, replaced, reading_of_call, ReadsUse, IsReading}
use Rattle.ct_macro.specs.Machine.{weight_each}

-- what is left behind some items is no longer
pub drop_shorter : {A : Type 0} (count : ℕ) (xs : List A) → length (drop count xs) ≤ length xs
drop_shorter zero xs = omega arith
drop_shorter (suc count) [] = omega arith
drop_shorter (suc count) (x ∷ xs) = omega (arith, drop_shorter count xs)

arguments_weight : (most : Option ℕ) (inside : List Marked) (arguments : List (List Marked)) → AreArguments most inside arguments → weight_each arguments ≡ length inside + 1
arguments_weight most inside [] are = absurd are
arguments_weight most inside (argument ∷ []) are = rw are.0 (omega arith)
arguments_weight most inside (argument ∷ next ∷ arguments) are =
    let ih = arguments_weight (fewer most) are.1.1 (next ∷ arguments) are.1.6 in
    let split : length inside ≡ length argument + (length are.1.1 + 1) = ap length are.1.2 ∙ length-append argument (are.1.0 ∷ are.1.1) ∙ ap (λ n. length argument + n) (omega arith) in
    omega (arith, ih, split)

selected_lighter : (test : List ℕ → Bool) (names : List (List ℕ)) (arguments : List (List Marked)) → weight_each (selected test names arguments) ≤ weight_each arguments
selected_lighter test [] arguments = omega arith
selected_lighter test (name ∷ names) [] = omega arith
selected_lighter test (name ∷ names) (argument ∷ arguments) = by_test (test name) (selected_lighter test names arguments)
  where
    by_test : (b : Bool) → weight_each (selected test names arguments) ≤ weight_each arguments
        → weight_each ((if b then argument else []) ∷ selected test names arguments) ≤ weight_each (argument ∷ arguments)
    by_test true ih = omega (arith, ih)
    by_test false ih = omega (arith, ih)

weight_more : (lists : List (List Marked)) (l : List Marked) → weight_each (lists ++ l ∷ []) ≡ weight_each lists + (length l + 1)
weight_more [] l = omega arith
weight_more (x ∷ xs) l = omega (arith, weight_more xs l)

fixed_lighter : (count : ℕ) (arguments found : List (List Marked)) → fixed_arguments count arguments ≡ Some found → weight_each found ≤ weight_each arguments + 1
fixed_lighter count arguments found h = by_test (nat_eq (length arguments) count) (nat_eq count 0) (is_no_argument arguments) h
  where
    by_test : (b c d : Bool) → (if b then Some arguments else if c then (if d then Some [] else None) else None) ≡ Some found → weight_each found ≤ weight_each arguments + 1
    by_test true c d e = let same : arguments ≡ found = cc in subst (λ (l : List (List Marked)). weight_each l ≤ weight_each arguments + 1) same (omega arith)
    by_test false true true e = let same : [] ≡ found = cc in subst (λ (l : List (List Marked)). weight_each l ≤ weight_each arguments + 1) same (omega arith)
    by_test false true false e = absurd (cc)
    by_test false false d e = absurd (cc)

variadic_lighter : (count : ℕ) (arguments found : List (List Marked)) → variadic_arguments count arguments ≡ Some found → weight_each found ≤ weight_each arguments + 1
variadic_lighter count arguments found h = by_test (nat_eq (length arguments) count) (nat_eq (length arguments) (count + 1)) h
  where
    by_test : (b c : Bool) → (if b then Some (arguments ++ [] ∷ []) else if c then Some arguments else None) ≡ Some found → weight_each found ≤ weight_each arguments + 1
    by_test true c e = let same : arguments ++ [] ∷ [] ≡ found = cc in subst (λ (l : List (List Marked)). weight_each l ≤ weight_each arguments + 1) same (omega (arith, weight_more arguments []))
    by_test false true e = let same : arguments ≡ found = cc in subst (λ (l : List (List Marked)). weight_each l ≤ weight_each arguments + 1) same (omega arith)
    by_test false false e = absurd (cc)

for_lighter : (variadic : Bool) (count : ℕ) (arguments found : List (List Marked)) → arguments_for variadic count arguments ≡ Some found → weight_each found ≤ weight_each arguments + 1
for_lighter true count arguments found h = variadic_lighter count arguments found h
for_lighter false count arguments found h = fixed_lighter count arguments found h

-- behind the name of a function-like macro stands the parenthesis
function_length : (place place' : ℕ) (m m' : Macro) (names names' : List (List ℕ)) (rest behind : List Marked) → use_of_function place m names rest ≡ opened place' m' names' behind → length rest ≡ length behind + 1
function_length place place' m m' names names' [] behind h = absurd (cc)
function_length place place' m m' names names' (next ∷ rest) behind h = by_test (is_open next.token) h
  where
    by_test : (b : Bool) → (if b then opened place m names rest else stays) ≡ opened place' m' names' behind → length (next ∷ rest) ≡ length behind + 1
    by_test true e = let same : rest ≡ behind = cc in omega (arith, ap length same)
    by_test false e = absurd (cc)

macro_length : (place place' : ℕ) (m m' : Macro) (parameters : Option (List (List ℕ))) (names' : List (List ℕ)) (rest behind : List Marked) → use_of_macro place m parameters rest ≡ opened place' m' names' behind → length rest ≡ length behind + 1
macro_length place place' m m' None names' rest behind h = absurd (cc)
macro_length place place' m m' (Some names) names' rest behind h = function_length place place' m m' names names' rest behind h

opened_length : (found : Option (ℕ × Macro)) (first : Marked) (place' : ℕ) (m' : Macro) (names' : List (List ℕ)) (rest behind : List Marked) → use_of_found found first rest ≡ opened place' m' names' behind → length rest ≡ length behind + 1
opened_length None first place' m' names' rest behind h = absurd (cc)
opened_length (Some found) first place' m' names' rest behind h = by_test (is_in found.0 first.hidden) h
  where
    by_test : (b : Bool) → (if b then stays else use_of_macro found.0 found.1 found.1.parameters rest) ≡ opened place' m' names' behind → length rest ≡ length behind + 1
    by_test true e = absurd (cc)
    by_test false e = macro_length found.0 place' found.1 m' found.1.parameters names' rest behind e

call_lighter : (name : Marked) (place : ℕ) (m : Macro) (close : Marked) (behind after : List Marked) (given : Option (List (List Marked))) (call : Call) (fulls : List (List Marked)) (later : List Marked)
    → ((found : List (List Marked)) → given ≡ Some found → weight_each found + length after ≤ length behind + 1)
    → replaced call fulls later ≡ reading_of_call name place m close after given → weight_each fulls + length later ≤ length behind + 1
call_lighter name place m close behind after None call fulls later light e = absurd (cc)
call_lighter name place m close behind after (Some found) call fulls later light e =
    let same : fulls ≡ full_arguments m found = cc in
    let tail : later ≡ after = cc in
    omega (arith, light found refl, selected_lighter (is_full (operands_of m)) (names_in m) found, ap weight_each same, ap length tail)

inside_length : (behind inside : List Marked) (close : Marked) (after : List Marked) → behind ≡ inside ++ close ∷ after → length behind ≡ length inside + 1 + length after
inside_length behind inside close after e = omega (arith, ap length e, length-append inside (close ∷ after))

use_lighter : (first : Marked) (rest : List Marked) (use_ : Use) (call : Call) (fulls : List (List Marked)) (after : List Marked)
    → ((place : ℕ) (m : Macro) (names : List (List ℕ)) (behind : List Marked) → use_ ≡ opened place m names behind → length rest ≡ length behind + 1)
    → ReadsUse first rest use_ (replaced call fulls after) → weight_each fulls + length after ≤ length rest
use_lighter first rest stays call fulls after lengths reads = absurd (cc)
use_lighter first rest (object place m) call fulls after lengths reads =
    let same : fulls ≡ full_arguments m [] = cc in
    let tail : after ≡ rest = cc in
    omega (arith, selected_lighter (is_full (operands_of m)) (names_in m) [], ap weight_each same, ap length tail)
use_lighter first rest (opened place m names behind) call fulls after lengths (inl reads) = absurd (let bad = reads.1 in cc)
use_lighter first rest (opened place m names behind) call fulls after lengths (inr reads) =
    let is = inside_length behind reads.inside reads.close reads.after reads.call.split in
    let given = arguments_weight (separators m.variadic names) reads.inside reads.arguments reads.separated in
    let light : (found : List (List Marked)) → arguments_for m.variadic (length names) reads.arguments ≡ Some found → weight_each found + length reads.after ≤ length behind + 1 = λ found h. omega (arith, for_lighter m.variadic (length names) reads.arguments found h, is, given) in
    omega (arith, lengths place m names behind refl, call_lighter first place m reads.close behind reads.after (arguments_for m.variadic (length names) reads.arguments) call fulls after light reads.reading_is)

-- a replacement leaves no more to read than stood there, its arguments that are to be expanded among it
pub reads_lighter : (macros : List Macro) (first : Marked) (rest : List Marked) (call : Call) (fulls : List (List Marked)) (after : List Marked)
    → IsReading macros first rest (replaced call fulls after) → weight_each fulls + length after ≤ length rest
reads_lighter macros first rest call fulls after reads =
    use_lighter first rest (use_of macros first rest) call fulls after (λ place m names behind e. opened_length (macro_of macros first.token) first place m names rest behind e) reads
