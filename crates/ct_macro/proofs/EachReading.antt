-- Each token has a reading before the tokens behind it.
use Rattle.std.proofs.Common.{◌≡◌, ℕ, suc, zero, ◌<◌, Bool, true, false, List, [], ◌∷◌, ◌++◌, length, refl, sym, ap, ◌∙◌, subst, arith, append_assoc, ◌⊎◌, inl, inr, eqb, length-append}
use Rattle.std.specs.Prelude.{Option, Some, None}
use Rattle.std.proofs.lemmas.List.{append-nil}
use Rattle.std.proofs.lemmas.Bool.{cases_Bool, false≢true, eqb-true, eq-eqb, cases_lt}
use Rattle.ct_macro_call.specs.declared.definition.Macro.{Macro}
use Rattle.ct_macro_call.specs.declared.marked.Marked.{Marked}
use Rattle.ct_macro_call.specs.Calls.{opens, closes, IsLevel, NoneAtLevel, closes_call, separates, MaySeparate, fewer, AreArguments, separators, arguments_for}
use Rattle.ct_macro_call.proofs.Collecting.{none_more, nil_split}
use Rattle.ct_macro.specs.declared.faults.MacroKind.TheVariants.{OpenCall}
use Rattle.ct_macro.specs.Expansion.{Use, stays, object, opened, use_of, Reading, kept, refused, reading_of_object, reading_of_call, ReadsUse, IsReading}

-- ---- the first token of a kind outside inner parentheses

pub record First (test : Marked → Bool) (tokens : List Marked) : Type 0 where
  pub before : List Marked
  pub token : Marked
  pub after : List Marked
  pub split : tokens ≡ before ++ token ∷ after
  pub passes : test token ≡ true
  pub level : IsLevel before
  pub none : NoneAtLevel test before

-- it stands behind these tokens, or nowhere
first_behind : (test : Marked → Bool) (spent rest : List Marked) → NoneAtLevel test spent → First test (spent ++ rest) ⊎ NoneAtLevel test (spent ++ rest)
first_behind test spent [] none = inr (subst (λ (l : List Marked). NoneAtLevel test l) (sym (append-nil spent)) none)
first_behind test spent (t ∷ rest) none =
    by_level (cases_Bool (eqb (opens spent) (closes spent))) (cases_Bool (test t)) (λ none. first_behind test (spent ++ t ∷ []) rest none)
  where
    further : (NoneAtLevel test (spent ++ t ∷ []) → First test ((spent ++ t ∷ []) ++ rest) ⊎ NoneAtLevel test ((spent ++ t ∷ []) ++ rest))
        → (IsLevel spent → test t ≡ false) → First test (spent ++ t ∷ rest) ⊎ NoneAtLevel test (spent ++ t ∷ rest)
    further behind not_here =
        subst (λ (l : List Marked). First test l ⊎ NoneAtLevel test l) (append_assoc spent (t ∷ []) rest) (behind (none_more test spent t none not_here))

    by_level : ((eqb (opens spent) (closes spent) ≡ true) ⊎ (eqb (opens spent) (closes spent) ≡ false)) → ((test t ≡ true) ⊎ (test t ≡ false))
        → (NoneAtLevel test (spent ++ t ∷ []) → First test ((spent ++ t ∷ []) ++ rest) ⊎ NoneAtLevel test ((spent ++ t ∷ []) ++ rest))
        → First test (spent ++ t ∷ rest) ⊎ NoneAtLevel test (spent ++ t ∷ rest)
    by_level (inl level) (inl passes) behind =
        inl record { before = spent; token = t; after = rest; split = refl; passes = passes; level = eqb-true (opens spent) (closes spent) level; none = none }
    by_level (inr apart) (inl passes) behind =
        further behind (λ level. absurd (false≢true (sym apart ∙ eq-eqb (opens spent) (closes spent) level)))
    by_level level (inr fails) behind = further behind (λ level. fails)

first_of : (test : Marked → Bool) (tokens : List Marked) → First test tokens ⊎ NoneAtLevel test tokens
first_of test tokens = first_behind test [] tokens (λ before x after e level. absurd (nil_split before x after e))

-- ---- the arguments of a call

may_separate : (most : Option ℕ) → MaySeparate most ⊎ (MaySeparate most → ⊥)
may_separate None = inl tt
may_separate (Some most) = elim (cases_lt 0 most) [ inl some ↦ inl some | inr none ↦ inr (λ some. absurd (omega arith)) ]

abbrev pub Arguments : Option ℕ → List Marked → Type 0
Arguments most inside = (arguments : List (List Marked)) × AreArguments most inside arguments

-- one argument before a comma
one_more : (most : Option ℕ) (inside : List Marked) → MaySeparate most → (comma : First separates inside) → (arguments : List (List Marked))
    → AreArguments (fewer most) comma.after arguments → Arguments most inside
one_more most inside may comma [] are = absurd are
one_more most inside may comma (next ∷ arguments) are =
    (comma.before ∷ next ∷ arguments, (may, (comma.token, comma.after, comma.split, comma.passes, comma.level, comma.none, are)))

arguments_within : (fuel : ℕ) (most : Option ℕ) (inside : List Marked) → length inside < fuel → Arguments most inside
arguments_within zero most inside less = absurd (omega arith)
arguments_within (suc fuel) most inside less =
    by_comma (may_separate most) (first_of separates inside) (λ most inside less. arguments_within fuel most inside less)
  where
    by_comma : (MaySeparate most ⊎ (MaySeparate most → ⊥)) → (First separates inside ⊎ NoneAtLevel separates inside)
        → ((most : Option ℕ) (inside : List Marked) → length inside < fuel → Arguments most inside) → Arguments most inside
    by_comma (inr not) found behind = (inside ∷ [], (refl, λ may. absurd (not may)))
    by_comma (inl may) (inr none) behind = (inside ∷ [], (refl, λ may. none))
    by_comma (inl may) (inl comma) behind =
        let rest = behind (fewer most) comma.after (omega (arith, ap length comma.split, length-append comma.before (comma.token ∷ comma.after))) in
        one_more most inside may comma rest.0 rest.1

pub arguments_exist : (most : Option ℕ) (inside : List Marked) → Arguments most inside
arguments_exist most inside = arguments_within (suc (length inside)) most inside (omega arith)

-- ---- the reading

use_reads : (first : Marked) (rest : List Marked) (use_ : Use) → (reading : Reading) × ReadsUse first rest use_ reading
use_reads first rest stays = (kept, refl)
use_reads first rest (object place m) = (reading_of_object first place m rest, refl)
use_reads first rest (opened place m names behind) = by_close (first_of closes_call behind)
  where
    by_close : (First closes_call behind ⊎ NoneAtLevel closes_call behind) → (reading : Reading) × ReadsUse first rest (opened place m names behind) reading
    by_close (inr none) = (refused OpenCall, inl (none, refl))
    by_close (inl close) =
        let found = arguments_exist (separators m.variadic names) close.before in (
          reading_of_call first place m close.token close.after (arguments_for m.variadic (length names) found.0),
          inr record {
            inside = close.before;
            close = close.token;
            after = close.after;
            arguments = found.0;
            call = record { split = close.split; closing = close.passes; level = close.level; first = close.none };
            separated = found.1;
            reading_is = refl;
          },
        )

pub token_reads : (macros : List Macro) (first : Marked) (rest : List Marked) → (reading : Reading) × IsReading macros first rest reading
token_reads macros first rest = use_reads first rest (use_of macros first rest)
