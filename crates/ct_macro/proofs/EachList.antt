-- Each list of tokens has an expansion or a first refusal: what may still be put and what is still to be read grow
-- smaller together, by a measure.
use Rattle.std.proofs.Common.{ℕ, suc, zero, ◌+◌, ◌-◌, ◌*◌, ◌<◌, ◌≤◌, Bool, false, take, drop, List, [], ◌∷◌, ◌++◌, length, refl, arith, ◌⊎◌, inl, inr, length-append}
use Rattle.std.specs.Prelude.{map}
use Rattle.std.proofs.lemmas.Bool.{cases_lt}
use Rattle.ct_base.specs.declared.lexical.Token.{Token}
use Rattle.ct_macro_call.specs.declared.definition.Macro.{Macro}
use Rattle.ct_macro_call.specs.declared.marked.Marked.{Marked}
use Rattle.ct_macro_call.specs.declared.call.Call.{Call}
use Rattle.ct_macro_call.specs.Substitution.{IsReplacement}
use Rattle.ct_macro.specs.declared.faults.MacroFault.{MacroFault}
use Rattle.ct_macro.specs.declared.faults.MacroKind.TheVariants.{BadPaste, TooLong}
use Rattle.ct_macro.specs.Expansion.{Reading, kept, refused, replaced, IsReading, ExpansionOutcome, done, stopped, fault_at, led_by, led_all, stay_behind, Expands, nothing, keeps, refuses, replaces, ExpandsEach, none, each, ends, Continues, stops, unpasted, passes, again, unbroken, IsExpansion, IsRefusal}
use Rattle.ct_macro.specs.Machine.{weight_each}
use Rattle.ct_macro.proofs.Weights.{drop_shorter, reads_lighter}
use Rattle.ct_macro.proofs.EachReading.{token_reads}
use Rattle.ct_macro.proofs.Puts.{SomeOrNone}

-- as many were put as before, or more
abbrev pub Grows : {A : Type 0} → ℕ → ExpansionOutcome A → Type 0
Grows counted (done tokens later) = counted ≤ later
Grows counted (stopped fault) = Unit {0}

led_grows : {A : Type 0} (counted later : ℕ) (first : A) (outcome : ExpansionOutcome (List A)) → counted ≤ later → Grows later outcome → Grows counted (led_by first outcome)
led_grows counted later first (done rest last) more grows = omega arith
led_grows counted later first (stopped fault) more grows = tt

kept_grows : {A : Type 0} (counted : ℕ) (before : List A) (outcome : ExpansionOutcome (List A)) → Grows counted outcome → Grows counted (led_all before outcome)
kept_grows counted before (done rest last) grows = grows
kept_grows counted before (stopped fault) grows = tt

module _ (macros : List Macro) (room : ℕ) (puts : (call : Call) (fulls : List (List Marked)) → SomeOrNone (List Marked) (λ put. IsReplacement call fulls put)) where
  -- what a list becomes
  abbrev pub Comes : Bool → ℕ → List Marked → Type 0
  Comes condition counted tokens = (outcome : ExpansionOutcome (List Marked)) × Expands macros room condition counted tokens outcome × Grows counted outcome

  abbrev pub EachComes : ℕ → List (List Marked) → Type 0
  EachComes counted lists = (outcome : ExpansionOutcome (List (List Marked))) × ExpandsEach macros room counted lists outcome × Grows counted outcome

  abbrev pub Goes : Bool → ℕ → Call → List Marked → ExpansionOutcome (List (List Marked)) → Type 0
  Goes condition counted call after fulls = (outcome : ExpansionOutcome (List Marked)) × Continues macros room condition call after fulls outcome × Grows counted outcome

  -- lists of less than this weight become something
  abbrev pub ComesBelow : ℕ → Type 0
  ComesBelow fuel = (condition : Bool) (counted : ℕ) (tokens : List Marked) → 2 * (room - counted) + length tokens < fuel → Comes condition counted tokens

  each_comes : (fuel : ℕ) → ComesBelow fuel → (lists : List (List Marked)) (counted : ℕ) → 2 * (room - counted) + weight_each lists ≤ fuel → EachComes counted lists
  each_comes fuel below [] counted within = (done [] counted, none, omega arith)
  each_comes fuel below (first ∷ rest) counted within =
      let one = below false counted first (omega arith) in
      by_first one.0 one.1 one.2 (λ later within. each_comes fuel below rest later within)
    where
      by_first : (outcome : ExpansionOutcome (List Marked)) → Expands macros room false counted first outcome → Grows counted outcome
          → ((later : ℕ) → 2 * (room - later) + weight_each rest ≤ fuel → EachComes later rest) → EachComes counted (first ∷ rest)
      by_first (done tokens later) expands grows behind =
          let more = behind later (omega arith) in
          (led_by tokens more.0, each expands more.1, led_grows counted later tokens more.0 grows more.2)
      by_first (stopped fault) expands grows behind = (stopped fault, ends expands, tt)

  goes : (condition : Bool) (fuel counted : ℕ) → ComesBelow fuel → (call : Call) (after : List Marked) → 2 * (room - counted) + length after < fuel
      → (fulls : ExpansionOutcome (List (List Marked))) → Grows counted fulls → Goes condition counted call after fulls
  goes condition fuel counted below call after within (stopped fault) grows = (stopped fault, stops, tt)
  goes condition fuel counted below call after within (done fulls later) grows = by_put (puts call fulls)
    where
      by_room : (put : List Marked) → IsReplacement call fulls put → ((room < later + length put) ⊎ (later + length put ≤ room)) → Goes condition counted call after (done fulls later)
      by_room put is (inl far) = (stopped (fault_at TooLong call.name), passes is far, tt)
      by_room put is (inr fits) =
          let rest = below condition (later + length put) (put ++ after) (omega (arith, length-append put after)) in
          (rest.0, again is fits rest.1, by_outcome rest.0 rest.2)
        where
          by_outcome : (outcome : ExpansionOutcome (List Marked)) → Grows (later + length put) outcome → Grows counted outcome
          by_outcome (done tokens last) more = omega arith
          by_outcome (stopped fault) more = tt

      by_put : SomeOrNone (List Marked) (λ put. IsReplacement call fulls put) → Goes condition counted call after (done fulls later)
      by_put (inr not) = (stopped (fault_at BadPaste call.name), unpasted not, tt)
      by_put (inl one) = by_room one.0 one.1 (cases_lt room (later + length one.0))

  comes_below : (fuel : ℕ) → ComesBelow fuel
  comes_below zero condition counted tokens within = absurd (omega arith)
  comes_below (suc fuel) condition counted [] within = (done [] counted, nothing, omega arith)
  comes_below (suc fuel) condition counted (first ∷ rest) within =
      let read = token_reads macros first rest in
      by_reading read.0 read.1 (λ condition counted tokens within. comes_below fuel condition counted tokens within)
    where
      by_reading : (reading : Reading) → IsReading macros first rest reading → ComesBelow fuel → Comes condition counted (first ∷ rest)
      by_reading kept reads below =
          let stays = stay_behind condition first rest in
          let more = below condition counted (drop stays rest) (omega (arith, drop_shorter stays rest)) in
          (led_all (first ∷ take stays rest) more.0, keeps reads more.1, kept_grows counted (first ∷ take stays rest) more.0 more.2)
      by_reading (refused kind) reads below = (stopped (fault_at kind first), refuses reads, tt)
      by_reading (replaced call arguments after) reads below =
          let light = reads_lighter macros first rest call arguments after reads in
          let fulls = each_comes fuel below arguments counted (omega arith) in
          let more = goes condition fuel counted below call after (omega arith) fulls.0 fulls.2 in
          (more.0, replaces reads fulls.1 more.1, more.2)

  pub comes : (condition : Bool) (tokens : List Marked) → Comes condition 0 tokens
  comes condition tokens = comes_below (suc (2 * room + length tokens)) condition 0 tokens (omega arith)

  pub list_comes : (condition : Bool) (tokens : List Token)
      → ((expanded : List Token) × (counted : ℕ) × IsExpansion condition macros tokens room expanded counted) ⊎ ((fault : MacroFault) × IsRefusal condition macros tokens room fault)
  list_comes condition tokens = let all = comes condition (unbroken false tokens) in by_outcome all.0 all.1
    where
      by_outcome : (outcome : ExpansionOutcome (List Marked)) → Expands macros room condition 0 (unbroken false tokens) outcome
          → ((expanded : List Token) × (counted : ℕ) × IsExpansion condition macros tokens room expanded counted) ⊎ ((fault : MacroFault) × IsRefusal condition macros tokens room fault)
      by_outcome (done marked counted) expands = inl (map (λ (m : Marked). m.token) marked, counted, (marked, expands, refl))
      by_outcome (stopped fault) expands = inr (fault, expands)
