-- The arguments of a call of a function-like macro (C11 6.10.3p4, p10 to p12).
use Rattle.std.specs.Prelude.{◌≡◌, ℕ, ◌+◌, ◌-◌, ◌<◌, ◌==◌, Bool, true, false, List, [], ◌∷◌, ◌++◌, length, count_by, Option, Some, None, if◌then◌else◌}
use Rattle.ct_macro_call.specs.declared.marked.Marked.{Marked}
use Rattle.ct_macro_call.specs.Words.{is_open, is_close, is_comma}

abbrev pub opens : List Marked → ℕ
opens tokens = count_by (λ marked. is_open marked.token) tokens

abbrev pub closes : List Marked → ℕ
closes tokens = count_by (λ marked. is_close marked.token) tokens

-- what stands behind these tokens stands in no parentheses that they open
abbrev pub IsLevel : List Marked → Type 0
IsLevel before = opens before ≡ closes before

-- outside inner parentheses no token passes the test
abbrev pub NoneAtLevel : (Marked → Bool) → List Marked → Type 0
NoneAtLevel test tokens =
    (before : List Marked) (token : Marked) (after : List Marked) → tokens ≡ before ++ token ∷ after → IsLevel before
    → test token ≡ false

abbrev pub closes_call : Marked → Bool
closes_call marked = is_close marked.token

abbrev pub separates : Marked → Bool
separates marked = is_comma marked.token

-- the tokens behind an opening parenthesis: those in the parentheses, the matching one, and those behind it
pub record IsCall (tokens inside : List Marked) (close : Marked) (after : List Marked) : Type 0 where
  pub split : tokens ≡ inside ++ close ∷ after
  pub closing : closes_call close ≡ true
  pub level : IsLevel inside
  pub first : NoneAtLevel closes_call inside

-- no parenthesis matches
abbrev pub IsOpenCall : List Marked → Type 0
IsOpenCall tokens = NoneAtLevel closes_call tokens

-- Some number of commas may separate, or any.
abbrev pub MaySeparate : Option ℕ → Type 0
MaySeparate None = Unit {0}
MaySeparate (Some most) = 0 < most

abbrev pub fewer : Option ℕ → Option ℕ
fewer None = None
fewer (Some most) = Some (most - 1)

-- The arguments between the parentheses. Commas outside inner parentheses separate them, but no more than the first
-- `most`.
abbrev pub AreArguments : Option ℕ → List Marked → List (List Marked) → Type 0
AreArguments most inside [] = ⊥
AreArguments most inside (argument ∷ []) = (inside ≡ argument) × (MaySeparate most → NoneAtLevel separates inside)
AreArguments most inside (argument ∷ next ∷ arguments) =
    MaySeparate most × ((comma : Marked) × (rest : List Marked) × (inside ≡ argument ++ comma ∷ rest) × (separates comma ≡ true)
    × IsLevel argument × NoneAtLevel separates argument × AreArguments (fewer most) rest (next ∷ arguments))

-- the commas that may separate: any, but those among the variable arguments are a part of them
abbrev pub separators : Bool → List (List ℕ) → Option ℕ
separators true names = Some (length names)
separators false names = None

abbrev pub is_empty : {A : Type 0} → List A → Bool
is_empty [] = true
is_empty (argument ∷ arguments) = false

-- `()` without an argument
abbrev pub is_no_argument : List (List Marked) → Bool
is_no_argument [] = true
is_no_argument (argument ∷ []) = is_empty argument
is_no_argument (argument ∷ next ∷ arguments) = false

abbrev pub fixed_arguments : ℕ → List (List Marked) → Option (List (List Marked))
fixed_arguments count arguments =
    if length arguments == count then Some arguments
    else if (count == 0) then (if is_no_argument arguments then Some [] else None) else None

abbrev pub variadic_arguments : ℕ → List (List Marked) → Option (List (List Marked))
variadic_arguments count arguments =
    if length arguments == count then Some (arguments ++ [] ∷ [])
    else if length arguments == count + 1 then Some arguments else None

-- one argument for each parameter, the variable arguments as the last, which may be left out; none where the number is
-- another
abbrev pub arguments_for : Bool → ℕ → List (List Marked) → Option (List (List Marked))
arguments_for true count arguments = variadic_arguments count arguments
arguments_for false count arguments = fixed_arguments count arguments
