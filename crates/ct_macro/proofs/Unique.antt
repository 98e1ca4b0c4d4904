-- A list has one expansion or one first refusal.
use Rattle.std.proofs.Common.{◌≡◌, ℕ, ◌+◌, ◌<◌, ◌≤◌, Bool, true, false, take, drop, List, [], ◌∷◌, ◌++◌, length, refl, sym, ap, ◌∙◌, subst, arith, ◌⊎◌, inl, inr}
use Rattle.std.specs.Prelude.{Option}
use Rattle.std.proofs.lemmas.Bool.{false≢true}
use Rattle.ct_macro.specs.declared.faults.MacroFault.{MacroFault}
use Rattle.ct_macro.specs.declared.faults.MacroKind.{MacroKind}
use Rattle.ct_macro.specs.declared.faults.MacroKind.TheVariants.{BadPaste, TooLong}
use Rattle.ct_macro_call.specs.declared.definition.Macro.{Macro}
use Rattle.ct_macro_call.specs.declared.marked.Marked.{Marked}
use Rattle.ct_macro_call.specs.declared.call.Call.{Call}
use Rattle.ct_macro_call.specs.Calls.{IsCall, AreArguments, closes_call, separates, NoneAtLevel, IsLevel, fewer, arguments_for}
use Rattle.ct_macro_call.specs.Substitution.{IsReplacement}
use Rattle.ct_macro.specs.Expansion.{Use, stays, object, opened, use_of, Reading, kept, refused, replaced, reading_of_call, ReadsCall, ReadsUse, IsReading, ExpansionOutcome, done, stopped, fault_at, led_by, led_all, stay_behind, Expands, nothing, keeps, refuses, replaces, ExpandsEach, none, each, ends, Continues, stops, unpasted, passes, again}

-- a call puts one list at most
abbrev pub OneReplacement : Type 0
OneReplacement = (call : Call) (fulls : List (List Marked)) (a b : List Marked) → IsReplacement call fulls a → IsReplacement call fulls b → a ≡ b

-- ---- a call is read in one way

-- two places in one list: the same, or one before the other
pub two_places : {A : Type 0} (xs : List A) (x : A) (xs' ys : List A) (y : A) (ys' : List A) → xs ++ x ∷ xs' ≡ ys ++ y ∷ ys'
    → ((xs ≡ ys) × (x ≡ y) × (xs' ≡ ys')) ⊎ (((z : List A) × (ys ≡ xs ++ x ∷ z)) ⊎ ((z : List A) × (xs ≡ ys ++ y ∷ z)))
two_places [] x xs' [] y ys' e = inl (refl, cc, cc)
two_places [] x xs' (b ∷ ys) y ys' e = inr (inl (ys, ap (λ h. h ∷ ys) (let head : b ≡ x = cc in head)))
two_places (a ∷ xs) x xs' [] y ys' e = inr (inr (xs, ap (λ h. h ∷ xs) (let head : a ≡ y = cc in head)))
two_places (a ∷ xs) x xs' (b ∷ ys) y ys' e =
    let head : a ≡ b = cc in
    let tail : xs ++ x ∷ xs' ≡ ys ++ y ∷ ys' = cc in
    elim (two_places xs x xs' ys y ys' tail) [
      | inl p ↦ inl (ap (λ h. h ∷ xs) head ∙ ap (λ l. b ∷ l) p.0, p.1, p.2)
      | inr (inl p) ↦ inr (inl (p.0, ap (λ h. h ∷ ys) (sym head) ∙ ap (λ l. a ∷ l) p.1))
      | inr (inr p) ↦ inr (inr (p.0, ap (λ h. h ∷ xs) head ∙ ap (λ l. b ∷ l) p.1))
    ]

-- outside inner parentheses the first token of a kind stands in one place
first_place : (test : Marked → Bool) (xs : List Marked) (x : Marked) (xs' ys : List Marked) (y : Marked) (ys' : List Marked) → xs ++ x ∷ xs' ≡ ys ++ y ∷ ys'
    → IsLevel xs → test x ≡ true → NoneAtLevel test xs → IsLevel ys → test y ≡ true → NoneAtLevel test ys → (xs ≡ ys) × (x ≡ y) × (xs' ≡ ys')
first_place test xs x xs' ys y ys' e level_x is_x none_x level_y is_y none_y =
    elim (two_places xs x xs' ys y ys' e) [
      | inl p ↦ p
      | inr (inl p) ↦ absurd (false≢true (sym (none_y xs x p.0 p.1 level_x) ∙ is_x))
      | inr (inr p) ↦ absurd (false≢true (sym (none_x ys y p.0 p.1 level_y) ∙ is_y))
    ]

call_one : (tokens inside inside' : List Marked) (close close' : Marked) (after after' : List Marked) → IsCall tokens inside close after → IsCall tokens inside' close' after'
    → (inside ≡ inside') × (close ≡ close') × (after ≡ after')
call_one tokens inside inside' close close' after after' one other =
    first_place closes_call inside close after inside' close' after' (sym one.split ∙ other.split) one.level one.closing one.first other.level other.closing other.first

arguments_one : (most : Option ℕ) (inside : List Marked) (a b : List (List Marked)) → AreArguments most inside a → AreArguments most inside b → a ≡ b
arguments_one most inside [] b one other = absurd one
arguments_one most inside (x ∷ []) [] one other = absurd other
arguments_one most inside (x ∷ []) (y ∷ []) one other = ap (λ l. l ∷ []) (sym one.0 ∙ other.0)
arguments_one most inside (x ∷ []) (y ∷ y2 ∷ ys) one other =
    absurd (false≢true (sym (one.1 other.0 y other.1.0 other.1.1 other.1.2 other.1.4) ∙ other.1.3))
arguments_one most inside (x ∷ x2 ∷ xs) [] one other = absurd other
arguments_one most inside (x ∷ x2 ∷ xs) (y ∷ []) one other =
    absurd (false≢true (sym (other.1 one.0 x one.1.0 one.1.1 one.1.2 one.1.4) ∙ one.1.3))
arguments_one most inside (x ∷ x2 ∷ xs) (y ∷ y2 ∷ ys) one other =
    let place = first_place separates x one.1.0 one.1.1 y other.1.0 other.1.1 (sym one.1.2 ∙ other.1.2) one.1.4 one.1.3 one.1.5 other.1.4 other.1.3 other.1.5 in
    let rest = arguments_one (fewer most) one.1.1 (x2 ∷ xs) (y2 ∷ ys) one.1.6 (subst (λ (l : List Marked). AreArguments (fewer most) l (y2 ∷ ys)) (sym place.2) other.1.6) in
    ap (λ h. h ∷ x2 ∷ xs) place.0 ∙ ap (λ l. y ∷ l) rest

call_reading_one : (first : Marked) (place : ℕ) (m : Macro) (names : List (List ℕ)) (behind : List Marked) (a b : Reading)
    → ReadsCall first place m names behind a → ReadsCall first place m names behind b → a ≡ b
call_reading_one first place m names behind a b one other =
    let same = call_one behind one.inside other.inside one.close other.close one.after other.after one.call other.call in
    let arguments = arguments_one _ one.inside one.arguments other.arguments one.separated (subst (λ (l : List Marked). AreArguments _ l other.arguments) (sym same.0) other.separated) in
    one.reading_is ∙ ap (λ c. reading_of_call first place m c one.after (arguments_for m.variadic (length names) one.arguments)) same.1
    ∙ ap (λ r. reading_of_call first place m other.close r (arguments_for m.variadic (length names) one.arguments)) same.2
    ∙ ap (λ l. reading_of_call first place m other.close other.after (arguments_for m.variadic (length names) l)) arguments ∙ sym other.reading_is

use_one : (first : Marked) (rest : List Marked) (use_ : Use) (a b : Reading) → ReadsUse first rest use_ a → ReadsUse first rest use_ b → a ≡ b
use_one first rest stays a b one other = one ∙ sym other
use_one first rest (object place m) a b one other = one ∙ sym other
use_one first rest (opened place m names behind) a b (inl one) (inl other) = one.1 ∙ sym other.1
use_one first rest (opened place m names behind) a b (inl one) (inr other) =
    absurd (false≢true (sym (one.0 other.inside other.close other.after other.call.split other.call.level) ∙ other.call.closing))
use_one first rest (opened place m names behind) a b (inr one) (inl other) =
    absurd (false≢true (sym (other.0 one.inside one.close one.after one.call.split one.call.level) ∙ one.call.closing))
use_one first rest (opened place m names behind) a b (inr one) (inr other) = call_reading_one first place m names behind a b one other

pub reading_one : (macros : List Macro) (first : Marked) (rest : List Marked) (a b : Reading) → IsReading macros first rest a → IsReading macros first rest b → a ≡ b
reading_one macros first rest a b one other = use_one first rest (use_of macros first rest) a b one other

-- ---- the rule that gave an outcome

module _ (macros : List Macro) (room : ℕ) where
  by_nothing : (condition : Bool) (counted : ℕ) (b : ExpansionOutcome (List Marked)) → Expands macros room condition counted [] b → b ≡ done [] counted
  by_nothing condition counted b nothing = refl

  by_keeping : (condition : Bool) (counted : ℕ) (first : Marked) (rest : List Marked) (b : ExpansionOutcome (List Marked)) → IsReading macros first rest kept → Expands macros room condition counted (first ∷ rest) b
      → (o : ExpansionOutcome (List Marked)) × Expands macros room condition counted (drop (stay_behind condition first rest) rest) o
      × (b ≡ led_all (first ∷ take (stay_behind condition first rest) rest) o)
  by_keeping condition counted first rest b reads (keeps {outcome = o} r e) = (o, e, refl)
  by_keeping condition counted first rest b reads (refuses {kind = k} r) = absurd (let bad = reading_one macros first rest kept (refused k) reads r in cc)
  by_keeping condition counted first rest b reads (replaces {call = c} {arguments = a} {after = t} r e s) = absurd (let bad = reading_one macros first rest kept (replaced c a t) reads r in cc)

  by_refusing : (condition : Bool) (counted : ℕ) (first : Marked) (rest : List Marked) (kind : MacroKind) (b : ExpansionOutcome (List Marked)) → IsReading macros first rest (refused kind) → Expands macros room condition counted (first ∷ rest) b
      → b ≡ stopped (fault_at kind first)
  by_refusing condition counted first rest kind b reads (keeps r e) = absurd (let bad = reading_one macros first rest (refused kind) kept reads r in cc)
  by_refusing condition counted first rest kind b reads (refuses {kind = k} r) =
      let same : refused k ≡ refused kind = reading_one macros first rest (refused k) (refused kind) r reads in
      let kinds : k ≡ kind = cc in ap (λ q. stopped (fault_at q first)) kinds
  by_refusing condition counted first rest kind b reads (replaces {call = c} {arguments = a} {after = t} r e s) = absurd (let bad = reading_one macros first rest (refused kind) (replaced c a t) reads r in cc)

  by_replacing : (condition : Bool) (counted : ℕ) (first : Marked) (rest : List Marked) (call : Call) (arguments : List (List Marked)) (after : List Marked) (b : ExpansionOutcome (List Marked))
      → IsReading macros first rest (replaced call arguments after) → Expands macros room condition counted (first ∷ rest) b
      → (fulls : ExpansionOutcome (List (List Marked))) × ExpandsEach macros room counted arguments fulls × Continues macros room condition call after fulls b
  by_replacing condition counted first rest call arguments after b reads (keeps r e) = absurd (let bad = reading_one macros first rest (replaced call arguments after) kept reads r in cc)
  by_replacing condition counted first rest call arguments after b reads (refuses {kind = k} r) = absurd (let bad = reading_one macros first rest (replaced call arguments after) (refused k) reads r in cc)
  by_replacing condition counted first rest call arguments after b reads (replaces {call = c} {arguments = a} {after = t} {fulls = f} r e s) =
      let same : replaced c a t ≡ replaced call arguments after = reading_one macros first rest (replaced c a t) (replaced call arguments after) r reads in
      let calls : c ≡ call = cc in
      let lists : a ≡ arguments = cc in
      let tails : t ≡ after = cc in
      (f, subst (λ (l : List (List Marked)). ExpandsEach macros room counted l f) lists e, subst (λ (k : Call). Continues macros room condition k after f b) calls (subst (λ (l : List Marked). Continues macros room condition c l f b) tails s))

  -- from what the first list becomes
  abbrev EachBehind : ExpansionOutcome (List Marked) → List (List Marked) → ExpansionOutcome (List (List Marked)) → Type 0
  EachBehind (done tokens later) rest b = (more : ExpansionOutcome (List (List Marked))) × ExpandsEach macros room later rest more × (b ≡ led_by tokens more)
  EachBehind (stopped fault) rest b = b ≡ stopped fault

  by_each : (counted : ℕ) (first : List Marked) (rest : List (List Marked)) (b : ExpansionOutcome (List (List Marked))) → ExpandsEach macros room counted (first ∷ rest) b
      → (o : ExpansionOutcome (List Marked)) × Expands macros room false counted first o × EachBehind o rest b
  by_each counted first rest b (each {later = n} {tokens = ts} {outcome = m} e es) = (done ts n, e, (m, es, refl))
  by_each counted first rest b (ends {fault = f} e) = (stopped f, e, refl)

  by_none : (counted : ℕ) (b : ExpansionOutcome (List (List Marked))) → ExpandsEach macros room counted [] b → b ≡ done [] counted
  by_none counted b none = refl

  by_stopping : (condition : Bool) (call : Call) (after : List Marked) (fault : MacroFault) (b : ExpansionOutcome (List Marked)) → Continues macros room condition call after (stopped fault) b → b ≡ stopped fault
  by_stopping condition call after fault b stops = refl

  -- what a call comes to
  data Comes (condition : Bool) (call : Call) (after : List Marked) (fulls : List (List Marked)) (counted : ℕ) (b : ExpansionOutcome (List Marked)) : Type 0 where
    no_put : ((put : List Marked) → IsReplacement call fulls put → ⊥) → b ≡ stopped (fault_at BadPaste call.name) → Comes condition call after fulls counted b
    over : (put : List Marked) → IsReplacement call fulls put → room < counted + length put → b ≡ stopped (fault_at TooLong call.name) → Comes condition call after fulls counted b
    on : (put : List Marked) → IsReplacement call fulls put → counted + length put ≤ room → Expands macros room condition (counted + length put) (put ++ after) b → Comes condition call after fulls counted b

  by_continuing : (condition : Bool) (call : Call) (after : List Marked) (fulls : List (List Marked)) (counted : ℕ) (b : ExpansionOutcome (List Marked)) → Continues macros room condition call after (done fulls counted) b → Comes condition call after fulls counted b
  by_continuing condition call after fulls counted b (unpasted n) = no_put n refl
  by_continuing condition call after fulls counted b (passes {put = p} i o) = over p i o refl
  by_continuing condition call after fulls counted b (again {put = p} i f e) = on p i f e

  -- ---- one outcome

  module _ (law : OneReplacement) where
    no_put_one : (condition : Bool) (call : Call) (after : List Marked) (fulls : List (List Marked)) (counted : ℕ) (b : ExpansionOutcome (List Marked)) → ((put : List Marked) → IsReplacement call fulls put → ⊥)
        → Comes condition call after fulls counted b → stopped (fault_at BadPaste call.name) ≡ b
    no_put_one condition call after fulls counted b n (no_put m e) = sym e
    no_put_one condition call after fulls counted b n (over p i o e) = absurd (n p i)
    no_put_one condition call after fulls counted b n (on p i f e) = absurd (n p i)

    over_one : (condition : Bool) (call : Call) (after : List Marked) (fulls : List (List Marked)) (counted : ℕ) (b : ExpansionOutcome (List Marked)) (put : List Marked) → IsReplacement call fulls put → room < counted + length put
        → Comes condition call after fulls counted b → stopped (fault_at TooLong call.name) ≡ b
    over_one condition call after fulls counted b put is far (no_put m e) = absurd (m put is)
    over_one condition call after fulls counted b put is far (over p i o e) = sym e
    over_one condition call after fulls counted b put is far (on p i f e) = absurd (omega (arith, ap length (law call fulls put p is i)))

    on_expands : (condition : Bool) (call : Call) (after : List Marked) (fulls : List (List Marked)) (counted : ℕ) (b : ExpansionOutcome (List Marked)) (put : List Marked) → IsReplacement call fulls put → counted + length put ≤ room
        → Comes condition call after fulls counted b → Expands macros room condition (counted + length put) (put ++ after) b
    on_expands condition call after fulls counted b put is fits (no_put m e) = absurd (m put is)
    on_expands condition call after fulls counted b put is fits (over p i o e) = absurd (omega (arith, ap length (law call fulls put p is i)))
    on_expands condition call after fulls counted b put is fits (on p i f e) =
        subst (λ (q : List Marked). Expands macros room condition (counted + length q) (q ++ after) b) (law call fulls p put i is) e

    mutual
      pub expands_one : {condition : Bool} {counted : ℕ} {tokens : List Marked} {a : ExpansionOutcome (List Marked)} → Expands macros room condition counted tokens a → (b : ExpansionOutcome (List Marked)) → Expands macros room condition counted tokens b → a ≡ b
      expands_one (nothing {condition} {counted}) b other = sym (by_nothing condition counted b other)
      expands_one (keeps {condition} {counted} {first} {rest} {outcome} r e) b other =
          let found = by_keeping condition counted first rest b r other in
          ap (λ o. led_all (first ∷ take (stay_behind condition first rest) rest) o) (expands_one e found.0 found.1) ∙ sym found.2
      expands_one (refuses {condition} {counted} {first} {rest} {kind} r) b other = sym (by_refusing condition counted first rest kind b r other)
      expands_one (replaces {condition} {counted} {first} {rest} {call} {arguments} {after} {fulls} r e s) b other =
          let found = by_replacing condition counted first rest call arguments after b r other in
          continues_one s b (subst (λ (f : ExpansionOutcome (List (List Marked))). Continues macros room condition call after f b) (sym (each_one e found.0 found.1)) found.2)

      each_one : {counted : ℕ} {lists : List (List Marked)} {a : ExpansionOutcome (List (List Marked))} → ExpandsEach macros room counted lists a → (b : ExpansionOutcome (List (List Marked))) → ExpandsEach macros room counted lists b → a ≡ b
      each_one (none {counted}) b other = sym (by_none counted b other)
      each_one (each {counted} {later} {first} {tokens} {rest} {outcome} e es) b other =
          let found = by_each counted first rest b other in
          let behind : EachBehind (done tokens later) rest b = subst (λ (o : ExpansionOutcome (List Marked)). EachBehind o rest b) (sym (expands_one e found.0 found.1)) found.2 in
          ap (λ m. led_by tokens m) (each_one es behind.0 behind.1) ∙ sym behind.2
      each_one (ends {counted} {first} {rest} {fault} e) b other =
          let found = by_each counted first rest b other in
          let behind : EachBehind (stopped fault) rest b = subst (λ (o : ExpansionOutcome (List Marked)). EachBehind o rest b) (sym (expands_one e found.0 found.1)) found.2 in
          sym behind

      continues_one : {condition : Bool} {call : Call} {after : List Marked} {fulls : ExpansionOutcome (List (List Marked))} {a : ExpansionOutcome (List Marked)} → Continues macros room condition call after fulls a → (b : ExpansionOutcome (List Marked)) → Continues macros room condition call after fulls b → a ≡ b
      continues_one (stops {condition} {call} {after} {fault}) b other = sym (by_stopping condition call after fault b other)
      continues_one (unpasted {condition} {call} {after} {fulls} {counted} n) b other = no_put_one condition call after fulls counted b n (by_continuing condition call after fulls counted b other)
      continues_one (passes {condition} {call} {after} {fulls} {counted} {put} is far) b other = over_one condition call after fulls counted b put is far (by_continuing condition call after fulls counted b other)
      continues_one (again {condition} {call} {after} {fulls} {counted} {put} {outcome} is fits e) b other =
          expands_one e b (on_expands condition call after fulls counted b put is fits (by_continuing condition call after fulls counted b other))
