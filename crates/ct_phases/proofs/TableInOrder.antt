-- The table that lists the functions of units in order, and then what is built in, links the units.
use Rattle.std.proofs.Common.{◌≡◌, ℕ, zero, suc, ◌+◌, List, [], ◌∷◌, ◌++◌, length, Bool, true, false, cond, Option, Some, None, refl, sym, ap, subst, ◌∙◌, arith}
use Rattle.std.specs.Prelude.{slice_get, bytes_eq, filter, find, not, ◌&&◌, ◌||◌, option_map, option_and_then}
use Rattle.std.specs.List.{list_any}
use Rattle.std.proofs.lemmas.Option.{none-some, same_Some, slice_get_within, slice_get-map, slice_get_past}
use Rattle.std.proofs.lemmas.Slice.Eq.{bytes_eq-Decides}
use Rattle.ct_core.specs.declared.built_ins.BuiltIn.{BuiltIn}
use Rattle.ct_core.specs.declared.units.CoreUnit.{CoreUnit}
use Rattle.ct_core.specs.declared.units.CoreFunction.{CoreFunction}
use Rattle.ct_core.specs.declared.units.Definition.{Definition}
use Rattle.ct_core.specs.BuiltIns.{built_in_rows, built_in_of}
use Rattle.ct_core.specs.BuiltIns.{Row as BuiltInRow}
use Rattle.ct_meaning.specs.World.{is_external}
use Rattle.ct_phases.specs.Linked.{function_in, is_shared, definition_of, Shares, Says, IsLinked, definitions_from, unit_definitions, is_defined, built_in_definitions, table_in_order, AreNamedApart}
use Rattle.ct_meaning_laws.proofs.Spends.{first_true, second_true}
use Rattle.ct_phases.proofs.Positions.{get_left}
use Rattle.ct_phases.proofs.RunnerLink.{both, external_or}
use Rattle.ct_phases.proofs.RunnerNames.{any_at}

-- ---- lists

get_right : {A : Type 0} (xs ys : List A) (k : ℕ) → slice_get (xs ++ ys) (length xs + k) ≡ slice_get ys k
get_right {A} [] ys k = ap (λ (n : ℕ). slice_get ys n) (let e : 0 + k ≡ k = omega arith in e)
get_right {A} (x ∷ xs) ys k = ap (λ (n : ℕ). slice_get (x ∷ xs ++ ys) n) (let e : suc (length xs) + k ≡ suc (length xs + k) = omega arith in e) ∙ get_right xs ys k

-- an element of two lists put together is of the one or of the other
pub data OfBoth {A : Type 0} (xs ys : List A) (k : ℕ) (x : A) : Type 0 where
  Left : slice_get xs k ≡ Some x → OfBoth xs ys k x
  Right : (j : ℕ) → k ≡ length xs + j → slice_get ys j ≡ Some x → OfBoth xs ys k x

of_both : {A : Type 0} (xs ys : List A) (k : ℕ) (x : A) → slice_get (xs ++ ys) k ≡ Some x → OfBoth xs ys k x
of_both {A} [] ys k x e = Right k (omega arith) e
of_both {A} (y ∷ xs) ys zero x e = Left e
of_both {A} (y ∷ xs) ys (suc k) x e = further (of_both xs ys k x e)
  where
    further : OfBoth xs ys k x → OfBoth (y ∷ xs) ys (suc k) x
    further (Left is) = Left is
    further (Right j at is) = Right j (omega arith) is

pub any_true : {A : Type 0} (p : A → Bool) (xs : List A) (k : ℕ) (x : A) → slice_get xs k ≡ Some x → p x ≡ true → list_any p xs ≡ true
any_true {A} p [] k x e is = absurd (none-some x e)
any_true {A} p (y ∷ xs) zero x e is = let P : A → Type 0 = λ z. (p z || list_any p xs) ≡ true in subst P (sym (same_Some y x e)) (let Q : Bool → Type 0 = λ b. (b || list_any p xs) ≡ true in subst Q (sym is) refl)
any_true {A} p (y ∷ xs) (suc k) x e is = either (p y) (any_true p xs k x e is)
  where
    either : (b : Bool) → list_any p xs ≡ true → (b || list_any p xs) ≡ true
    either true h = refl
    either false h = h

-- ---- the functions of units

-- how many functions stand before those of a unit
abbrev before : List CoreUnit → ℕ → ℕ
before [] unit = 0
before (u ∷ units) zero = 0
before (u ∷ units) (suc unit) = length u.functions + before units unit

length_definitions : (unit place : ℕ) (fs : List CoreFunction) → length (definitions_from unit place fs) ≡ length fs
length_definitions unit place [] = refl
length_definitions unit place (f ∷ fs) = ap (λ (n : ℕ). suc n) (length_definitions unit (suc place) fs)

definition_at : (unit start place : ℕ) (fs : List CoreFunction) (f : CoreFunction) → slice_get fs place ≡ Some f
    → slice_get (definitions_from unit start fs) place ≡ Some (definition_of f unit (start + place))
definition_at unit start place [] f e = absurd (none-some f e)
definition_at unit start zero (g ∷ fs) f e =
    let n : start ≡ start + 0 = omega arith in
    ap (λ (h : CoreFunction). Some (definition_of h unit start)) (same_Some g f e) ∙ ap (λ (p : ℕ). Some (definition_of f unit p)) n
definition_at unit start (suc place) (g ∷ fs) f e =
    let n : suc start + place ≡ start + suc place = omega arith in
    definition_at unit (suc start) place fs f e ∙ ap (λ (p : ℕ). Some (definition_of f unit p)) n

-- the definition at a place of those of a unit
pub record OfUnit (unit start : ℕ) (fs : List CoreFunction) (k : ℕ) (d : Definition) : Type 0 where
  pub function : CoreFunction
  pub stands : slice_get fs k ≡ Some function
  pub is : d ≡ definition_of function unit (start + k)

of_unit : (unit start : ℕ) (fs : List CoreFunction) (k : ℕ) (d : Definition) → slice_get (definitions_from unit start fs) k ≡ Some d → OfUnit unit start fs k d
of_unit unit start [] k d e = absurd (none-some d e)
of_unit unit start (f ∷ fs) zero d e =
    let n : start ≡ start + 0 = omega arith in
    record { function = f; stands = refl; is = sym (same_Some _ d e) ∙ ap (λ (p : ℕ). definition_of f unit p) n }
of_unit unit start (f ∷ fs) (suc k) d e =
    let further = of_unit unit (suc start) fs k d e in
    let n : suc start + k ≡ start + suc k = omega arith in
    record { function = further.function; stands = further.stands; is = further.is ∙ ap (λ (p : ℕ). definition_of further.function unit p) n }

-- the definition of a number among those of units, of which the first has this number
pub record OfUnits (start : ℕ) (units : List CoreUnit) (number : ℕ) (d : Definition) : Type 0 where
  pub unit : ℕ
  pub place : ℕ
  pub function : CoreFunction
  pub stands : function_in units unit place ≡ Some function
  pub is : d ≡ definition_of function (start + unit) place
  pub counted : number ≡ before units unit + place

of_units : (start : ℕ) (units : List CoreUnit) (number : ℕ) (d : Definition) → slice_get (unit_definitions start units) number ≡ Some d → OfUnits start units number d
of_units start [] number d e = absurd (none-some d e)
of_units start (u ∷ units) number d e = by (of_both (definitions_from start 0 u.functions) (unit_definitions (suc start) units) number d e) (λ j is. of_units (suc start) units j d is)
  where
    by : OfBoth (definitions_from start 0 u.functions) (unit_definitions (suc start) units) number d
        → ((j : ℕ) → slice_get (unit_definitions (suc start) units) j ≡ Some d → OfUnits (suc start) units j d) → OfUnits start (u ∷ units) number d
    by (Left is) further =
        let own = of_unit start 0 u.functions number d is in
        let n : start ≡ start + 0 = omega arith in
        let k : 0 + number ≡ number = omega arith in
        record {
          unit = 0;
          place = number;
          function = own.function;
          stands = own.stands;
          is = own.is ∙ ap (λ (p : ℕ). definition_of own.function start p) k ∙ ap (λ (p : ℕ). definition_of own.function p number) n;
          counted = sym k;
        }
    by (Right j at is) further =
        let rest = further j is in
        let n : suc start + rest.unit ≡ start + suc rest.unit = omega arith in
        let many = length_definitions start 0 u.functions in
        let counted = rest.counted in
        record {
          unit = suc rest.unit;
          place = rest.place;
          function = rest.function;
          stands = rest.stands;
          is = rest.is ∙ ap (λ (p : ℕ). definition_of rest.function p rest.place) n;
          counted = omega arith;
        }

unit_at : (start : ℕ) (units : List CoreUnit) (unit place : ℕ) (f : CoreFunction) → function_in units unit place ≡ Some f
    → slice_get (unit_definitions start units) (before units unit + place) ≡ Some (definition_of f (start + unit) place)
unit_at start [] unit place f e = absurd (none-some f e)
unit_at start (u ∷ units) zero place f e =
    let k : 0 + place ≡ place = omega arith in
    let n : start ≡ start + 0 = omega arith in
    let there = definition_at start 0 place u.functions f e in
    ap (λ (i : ℕ). slice_get (definitions_from start 0 u.functions ++ unit_definitions (suc start) units) i) k
    ∙ get_left (definitions_from start 0 u.functions) (unit_definitions (suc start) units) place (slice_get_within (definitions_from start 0 u.functions) place _ there)
    ∙ there ∙ ap (λ (p : ℕ). Some (definition_of f start p)) k ∙ ap (λ (p : ℕ). Some (definition_of f p place)) n
unit_at start (u ∷ units) (suc unit) place f e =
    let many = length_definitions start 0 u.functions in
    let k : length u.functions + before units unit + place ≡ length (definitions_from start 0 u.functions) + (before units unit + place) = omega arith in
    let n : suc start + unit ≡ start + suc unit = omega arith in
    ap (λ (i : ℕ). slice_get (definitions_from start 0 u.functions ++ unit_definitions (suc start) units) i) k
    ∙ get_right (definitions_from start 0 u.functions) (unit_definitions (suc start) units) (before units unit + place)
    ∙ unit_at (suc start) units unit place f e ∙ ap (λ (p : ℕ). Some (definition_of f p place)) n

-- ---- what is built in

-- rows of different names
abbrev names_apart : List BuiltInRow → Bool
names_apart [] = true
names_apart (row ∷ rows) = not (list_any (λ (other : BuiltInRow). bytes_eq other.0 row.0) rows) && names_apart rows

not_true : (b : Bool) → not b ≡ true → b ≡ false
not_true false e = refl
not_true true e = cc

filtered_any : {A : Type 0} (p q : A → Bool) (xs : List A) → list_any p xs ≡ false → list_any p (filter q xs) ≡ false
filtered_any {A} p q [] e = refl
filtered_any {A} p q (x ∷ xs) e = by (p x) (q x) refl e (filtered_any p q xs)
  where
    by : (a b : Bool) → p x ≡ a → (a || list_any p xs) ≡ false → (list_any p xs ≡ false → list_any p (filter q xs) ≡ false) → list_any p (cond b (x ∷ filter q xs) (filter q xs)) ≡ false
    by true b is e further = cc
    by false true is e further = let P : Bool → Type 0 = λ c. (c || list_any p (filter q xs)) ≡ false in subst P (sym is) (further e)
    by false false is e further = further e

filtered_apart : (q : BuiltInRow → Bool) (rows : List BuiltInRow) → names_apart rows ≡ true → names_apart (filter q rows) ≡ true
filtered_apart q [] e = refl
filtered_apart q (row ∷ rows) e = by (q row) (filtered_apart q rows (second_true _ _ e))
  where
    none : list_any (λ (other : BuiltInRow). bytes_eq other.0 row.0) rows ≡ false
    none = not_true _ (first_true (not (list_any (λ (other : BuiltInRow). bytes_eq other.0 row.0) rows)) (names_apart rows) e)

    by : (b : Bool) → names_apart (filter q rows) ≡ true → names_apart (cond b (row ∷ filter q rows) (filter q rows)) ≡ true
    by false rest = rest
    by true rest = both _ _ (ap not (filtered_any (λ (other : BuiltInRow). bytes_eq other.0 row.0) q rows none)) rest

one_row : (rows : List BuiltInRow) → names_apart rows ≡ true → (i j : ℕ) (r s : BuiltInRow) → slice_get rows i ≡ Some r → slice_get rows j ≡ Some s → r.0 ≡ s.0 → i ≡ j
one_row [] apart i j r s e d same = absurd (none-some r e)
one_row (row ∷ rows) apart zero zero r s e d same = refl
one_row (row ∷ rows) apart zero (suc j) r s e d same =
    let none = not_true _ (first_true (not (list_any (λ (other : BuiltInRow). bytes_eq other.0 row.0) rows)) (names_apart rows) apart) in
    let named : s.0 ≡ row.0 = sym same ∙ ap (λ (x : BuiltInRow). x.0) (sym (same_Some row r e)) in
    let found : list_any (λ (other : BuiltInRow). bytes_eq other.0 row.0) rows ≡ true = any_true (λ (other : BuiltInRow). bytes_eq other.0 row.0) rows j s d ((bytes_eq-Decides s.0 row.0).1 named) in cc
one_row (row ∷ rows) apart (suc i) zero r s e d same =
    let none = not_true _ (first_true (not (list_any (λ (other : BuiltInRow). bytes_eq other.0 row.0) rows)) (names_apart rows) apart) in
    let named : r.0 ≡ row.0 = same ∙ ap (λ (x : BuiltInRow). x.0) (sym (same_Some row s d)) in
    let found : list_any (λ (other : BuiltInRow). bytes_eq other.0 row.0) rows ≡ true = any_true (λ (other : BuiltInRow). bytes_eq other.0 row.0) rows i r e ((bytes_eq-Decides r.0 row.0).1 named) in cc
one_row (row ∷ rows) apart (suc i) (suc j) r s e d same = ap (λ (n : ℕ). suc n) (one_row rows (second_true _ _ apart) i j r s e d same)

-- an element that passes is kept
kept_at : {A : Type 0} (q : A → Bool) (xs : List A) (k : ℕ) (x : A) → slice_get xs k ≡ Some x → q x ≡ true → (j : ℕ) × (slice_get (filter q xs) j ≡ Some x)
kept_at {A} q [] k x e is = absurd (none-some x e)
kept_at {A} q (y ∷ xs) zero x e is =
    let same = same_Some y x e in
    let P : Bool → Type 0 = λ b. (j : ℕ) × (slice_get (cond b (y ∷ filter q xs) (filter q xs)) j ≡ Some x) in
    subst P (sym (ap q same ∙ is)) (0, e)
kept_at {A} q (y ∷ xs) (suc k) x e is = by (q y) (kept_at q xs k x e is)
  where
    by : (b : Bool) → (j : ℕ) × (slice_get (filter q xs) j ≡ Some x) → (j : ℕ) × (slice_get (cond b (y ∷ filter q xs) (filter q xs)) j ≡ Some x)
    by true rest = (suc rest.0, rest.1)
    by false rest = rest

rows_found : (rows : List BuiltInRow) (name : List ℕ) (b : BuiltIn) → option_map (λ (row : BuiltInRow). row.1) (find (λ (row : BuiltInRow). bytes_eq row.0 name) rows) ≡ Some b
    → (k : ℕ) × (row : BuiltInRow) × (slice_get rows k ≡ Some row) × (row.0 ≡ name)
rows_found [] name b e = absurd (none-some b e)
rows_found (row ∷ rows) name b e = by (bytes_eq row.0 name) refl e (rows_found rows name b)
  where
    by : (c : Bool) → bytes_eq row.0 name ≡ c → option_map (λ (row : BuiltInRow). row.1) (cond c (Some row) (find (λ (row : BuiltInRow). bytes_eq row.0 name) rows)) ≡ Some b
        → (option_map (λ (row : BuiltInRow). row.1) (find (λ (row : BuiltInRow). bytes_eq row.0 name) rows) ≡ Some b → (k : ℕ) × (row : BuiltInRow) × (slice_get rows k ≡ Some row) × (row.0 ≡ name))
        → (k : ℕ) × (other : BuiltInRow) × (slice_get (row ∷ rows) k ≡ Some other) × (other.0 ≡ name)
    by true is e further = (0, row, refl, (bytes_eq-Decides row.0 name).0 is)
    by false is e further = let rest = further e in (suc rest.0, rest.1, rest.2, rest.3)

-- a row's name is that of its function
row_named : (k : ℕ) (row : BuiltInRow) → slice_get built_in_rows k ≡ Some row → built_in_of row.0 ≡ Some row.1
unfolding built_in_of
row_named zero row e = let P : BuiltInRow → Type 0 = λ r. built_in_of r.0 ≡ Some r.1 in subst P (same_Some _ row e) refl
row_named (suc zero) row e = let P : BuiltInRow → Type 0 = λ r. built_in_of r.0 ≡ Some r.1 in subst P (same_Some _ row e) refl
row_named (suc (suc zero)) row e = let P : BuiltInRow → Type 0 = λ r. built_in_of r.0 ≡ Some r.1 in subst P (same_Some _ row e) refl
row_named (suc (suc (suc zero))) row e = let P : BuiltInRow → Type 0 = λ r. built_in_of r.0 ≡ Some r.1 in subst P (same_Some _ row e) refl
row_named (suc (suc (suc (suc zero)))) row e = let P : BuiltInRow → Type 0 = λ r. built_in_of r.0 ≡ Some r.1 in subst P (same_Some _ row e) refl
row_named (suc (suc (suc (suc (suc k))))) row e = absurd (none-some row e)

-- an element that is kept stood in the list, and passes
kept_of : {A : Type 0} (q : A → Bool) (xs : List A) (j : ℕ) (x : A) → slice_get (filter q xs) j ≡ Some x → (k : ℕ) × (slice_get xs k ≡ Some x) × (q x ≡ true)
kept_of {A} q [] j x e = absurd (none-some x e)
kept_of {A} q (y ∷ xs) j x e = by (q y) refl j e (kept_of q xs)
  where
    by : (b : Bool) → q y ≡ b → (j : ℕ) → slice_get (cond b (y ∷ filter q xs) (filter q xs)) j ≡ Some x
        → ((i : ℕ) (z : A) → slice_get (filter q xs) i ≡ Some z → (k : ℕ) × (slice_get xs k ≡ Some z) × (q z ≡ true)) → (k : ℕ) × (slice_get (y ∷ xs) k ≡ Some x) × (q x ≡ true)
    by true is zero e further = (0, e, ap q (sym (same_Some y x e)) ∙ is)
    by true is (suc i) e further = let rest = further i x e in (suc rest.0, rest.1, rest.2)
    by false is i e further = let rest = further i x e in (suc rest.0, rest.1, rest.2)

-- ---- the link

module _ (units : List CoreUnit) (apart : AreNamedApart units) where
  abbrev own : List Definition
  own = unit_definitions 0 units

  abbrev undefined : BuiltInRow → Bool
  undefined row = not (is_defined units row.0)

  abbrev rows : List BuiltInRow
  rows = filter undefined built_in_rows

  abbrev definition_of_row : BuiltInRow → Definition
  definition_of_row row = record { name = row.0; unit = length units; place = 0 }

  nothing_behind : function_in units (length units) 0 ≡ None
  nothing_behind = ap (λ (o : Option CoreUnit). option_and_then (λ (u : CoreUnit). slice_get u.functions 0) o) (slice_get_past units (length units) (omega arith))

  -- a definition of a row
  record OfRow (k : ℕ) (d : Definition) : Type 0 where
    row : BuiltInRow
    stands : slice_get rows k ≡ Some row
    is : d ≡ definition_of_row row

  of_row : (k : ℕ) (d : Definition) → slice_get (built_in_definitions units) k ≡ Some d → OfRow k d
  of_row k d e = by (slice_get rows k) refl (sym (slice_get-map definition_of_row rows k) ∙ e)
    where
      by : (o : Option BuiltInRow) → slice_get rows k ≡ o → option_map definition_of_row o ≡ Some d → OfRow k d
      by (Some row) at e = record { row = row; stands = at; is = sym (same_Some _ d e) }
      by None at e = absurd (none-some d e)

  listed : (unit place : ℕ) (f : CoreFunction) → function_in units unit place ≡ Some f → (number : ℕ) × (slice_get (table_in_order units) number ≡ Some (definition_of f unit place))
  listed unit place f e =
      let there = unit_at 0 units unit place f e in
      let n : 0 + unit ≡ unit = omega arith in (
        before units unit + place,
        get_left own (built_in_definitions units) (before units unit + place) (slice_get_within own (before units unit + place) _ there)
            ∙ there ∙ ap (λ (u : ℕ). Some (definition_of f u place)) n,
      )

  -- a function of external linkage with this name
  record External (name : List ℕ) : Type 0 where
    unit : ℕ
    place : ℕ
    function : CoreFunction
    stands : function_in units unit place ≡ Some function
    named : function.name ≡ name
    external : is_external function.linkage ≡ true

  has_name : List ℕ → CoreFunction → Bool
  has_name name f = bytes_eq f.name name && is_external f.linkage

  external_of : (name : List ℕ) → is_defined units name ≡ true → External name
  unfolding has_name
  external_of name e =
      let unit = any_at (λ (u : CoreUnit). list_any (has_name name) u.functions) units e in
      let f = any_at (has_name name) unit.1.functions unit.3 in
      record {
        unit = unit.0;
        place = f.0;
        function = f.1;
        stands = ap (λ (o : Option CoreUnit). option_and_then (λ (u : CoreUnit). slice_get u.functions f.0) o) unit.2 ∙ f.2;
        named = (bytes_eq-Decides f.1.name name).0 (first_true _ (is_external f.1.linkage) f.3);
        external = second_true (bytes_eq f.1.name name) _ f.3;
      }

  defined_by : (name : List ℕ) (unit place : ℕ) (f : CoreFunction) → function_in units unit place ≡ Some f → f.name ≡ name → is_external f.linkage ≡ true → is_defined units name ≡ true
  unfolding has_name
  defined_by name unit place f e named external = by (slice_get units unit) refl e
    where
      by : (o : Option CoreUnit) → slice_get units unit ≡ o → option_and_then (λ (u : CoreUnit). slice_get u.functions place) o ≡ Some f → is_defined units name ≡ true
      by (Some u) at is =
          any_true (λ (u : CoreUnit). list_any (has_name name) u.functions) units unit u at
          (any_true (has_name name) u.functions place f is (both _ _ ((bytes_eq-Decides f.name name).1 named) external))
      by None at is = absurd (none-some f is)

  offered : (name : List ℕ) (b : BuiltIn) → built_in_of name ≡ Some b → Shares units (table_in_order units) name
  unfolding built_in_of
  offered name b e = by (is_defined units name) refl
    where
      by : (c : Bool) → is_defined units name ≡ c → Shares units (table_in_order units) name
      by true is =
          let found = external_of name is in
          let there = listed found.unit found.place found.function found.stands in
          record { number = there.0; definition = definition_of found.function found.unit found.place; stands = there.1; named = found.named; shared = ap external_or found.stands ∙ found.external }
      by false is =
          let found = rows_found built_in_rows name b e in
          let passes : undefined found.1 ≡ true = ap (λ (x : List ℕ). not (is_defined units x)) found.3 ∙ ap not is in
          let there = kept_at undefined built_in_rows found.0 found.1 found.2 passes in
          record {
            number = length own + there.0;
            definition = definition_of_row found.1;
            stands = get_right own (built_in_definitions units) there.0 ∙ slice_get-map definition_of_row rows there.0 ∙ ap (λ (o : Option BuiltInRow). option_map definition_of_row o) there.1;
            named = found.3;
            shared = ap external_or nothing_behind;
          }

  known : (number : ℕ) (d : Definition) → slice_get (table_in_order units) number ≡ Some d → Says d.name (function_in units d.unit d.place)
  known number d e = by (of_both own (built_in_definitions units) number d e)
    where
      by : OfBoth own (built_in_definitions units) number d → Says d.name (function_in units d.unit d.place)
      by (Left is) =
          let there = of_units 0 units number d is in
          let n : 0 + there.unit ≡ there.unit = omega arith in
          let P : Definition → Type 0 = λ x. Says x.name (function_in units x.unit x.place) in
          subst P (sym (there.is ∙ ap (λ (u : ℕ). definition_of there.function u there.place) n)) (subst (Says there.function.name) (sym there.stands) refl)
      by (Right j at is) =
          let there = of_row j d is in
          let kept = kept_of undefined built_in_rows j there.row there.stands in
          let P : Definition → Type 0 = λ x. Says x.name (function_in units x.unit x.place) in
          subst P (sym there.is) (subst (Says there.row.0) (sym nothing_behind) (there.row.1, row_named kept.0 there.row kept.1))

  -- a definition of a function of a unit, that each unit may name
  record OwnShared (number : ℕ) (d : Definition) : Type 0 where
    units_definition : OfUnits 0 units number d
    external : is_external units_definition.function.linkage ≡ true
    named : units_definition.function.name ≡ d.name

  own_shared : (number : ℕ) (d : Definition) → slice_get own number ≡ Some d → is_shared units d ≡ true → OwnShared number d
  own_shared number d is shared =
      let there = of_units 0 units number d is in
      let n : 0 + there.unit ≡ there.unit = omega arith in
      let same : d ≡ definition_of there.function there.unit there.place = there.is ∙ ap (λ (u : ℕ). definition_of there.function u there.place) n in
      record {
        units_definition = there;
        external = sym (ap external_or there.stands) ∙ sym (ap (λ (x : Definition). external_or (function_in units x.unit x.place)) same) ∙ shared;
        named = ap (λ (x : Definition). x.name) (sym same);
      }

  -- a name has not both
  apart_rows : (number j : ℕ) (d e : Definition) → OwnShared number d → OfRow j e → d.name ≡ e.name → ⊥
  apart_rows number j d e mine row same =
      let there = mine.units_definition in
      let named : there.function.name ≡ row.row.0 = mine.named ∙ same ∙ ap (λ (x : Definition). x.name) row.is in
      let yes : is_defined units row.row.0 ≡ true = defined_by row.row.0 there.unit there.place there.function there.stands named mine.external in
      let no : is_defined units row.row.0 ≡ false = not_true (is_defined units row.row.0) (kept_of undefined built_in_rows j row.row row.stands).2 in cc

  one : (i j : ℕ) (d e : Definition) → slice_get (table_in_order units) i ≡ Some d → slice_get (table_in_order units) j ≡ Some e
      → d.name ≡ e.name → is_shared units d ≡ true → is_shared units e ≡ true → i ≡ j
  one i j d e at at' same shared shared' = by (of_both own (built_in_definitions units) i d at) (of_both own (built_in_definitions units) j e at')
    where
      by : OfBoth own (built_in_definitions units) i d → OfBoth own (built_in_definitions units) j e → i ≡ j
      by (Left is) (Left is') =
          let a = own_shared i d is shared in
          let b = own_shared j e is' shared' in
          let x = a.units_definition in
          let y = b.units_definition in
          let there = apart x.unit x.place y.unit y.place x.function y.function x.stands y.stands a.external b.external (a.named ∙ same ∙ sym b.named) in
          x.counted ∙ ap (λ (u : ℕ). before units u + x.place) there.0 ∙ ap (λ (p : ℕ). before units y.unit + p) there.1 ∙ sym y.counted
      by (Left is) (Right k from is') = absurd (apart_rows i k d e (own_shared i d is shared) (of_row k e is') same)
      by (Right k from is) (Left is') = absurd (apart_rows j k e d (own_shared j e is' shared') (of_row k d is) (sym same))
      by (Right k from is) (Right l from' is') =
          let x = of_row k d is in
          let y = of_row l e is' in
          let there = one_row rows (filtered_apart undefined built_in_rows refl) k l x.row y.row x.stands y.stands (ap (λ (z : Definition). z.name) (sym x.is) ∙ same ∙ ap (λ (z : Definition). z.name) y.is) in
          from ∙ ap (λ (n : ℕ). length own + n) there ∙ sym from'

  pub linked : IsLinked units (table_in_order units)
  linked = record { listed = listed; offered = offered; known = known; one = one }
