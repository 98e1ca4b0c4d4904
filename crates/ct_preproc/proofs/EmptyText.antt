-- No text before a directive is expanded to nothing.
use Rattle.std.proofs.Common.{◌≡◌, ℕ, false, ◌+◌, ◌-◌, List, [], ◌++◌, refl, sym, ap, subst, ◌∙◌, arith, append-nil, map}
use Rattle.std.specs.Prelude.{Result, Ok, Err}
use Rattle.ct_base.specs.declared.lexical.Token.{Token}
use Rattle.ct_macro_call.specs.declared.definition.Macro.{Macro}
use Rattle.ct_macro_call.specs.declared.marked.Marked.{Marked}
use Rattle.ct_macro.specs.declared.faults.MacroFault.{MacroFault}
use Rattle.ct_macro.specs.Expansion.{ExpansionOutcome, done, stopped, Expands as ExpandsMarked, nothing as no_tokens, IsExpansion, IsRefusal}
use Rattle.ct_directive.specs.declared.faults.PreFault.{PreFault}
use Rattle.ct_directive.specs.Forms.{without_pragmas}
use Rattle.ct_preproc.specs.declared.state.State.{State}
use Rattle.ct_preproc.specs.declared.state.Place.{Place}
use Rattle.ct_preproc.specs.Reading.{DoesThen, Goes, Expands, Ends}

-- ---- expansion

-- no tokens become no tokens, and nothing is put
one_outcome : (macros : List Macro) (room counted : ℕ) (outcome : ExpansionOutcome (List Marked)) → ExpandsMarked macros room false counted [] outcome → outcome ≡ done [] counted
one_outcome macros room counted outcome no_tokens = refl

tokens_in : ExpansionOutcome (List Marked) → List Marked
tokens_in (done tokens counted) = tokens
tokens_in (stopped fault) = []

count_in : ExpansionOutcome (List Marked) → ℕ
count_in (done tokens counted) = counted
count_in (stopped fault) = 0

-- no tokens are expanded to no tokens
none_expanded : (macros : List Macro) (room counted : ℕ) (expanded : List Token) → IsExpansion false macros [] room expanded counted → (expanded ≡ []) × (counted ≡ 0)
unfolding tokens_in count_in
none_expanded macros room counted expanded h =
    let same : done h.0 counted ≡ done [] 0 = one_outcome macros room 0 (done h.0 counted) h.1 in
    (h.2 ∙ ap (λ (marked : List Marked). map (λ (m : Marked). m.token) marked) (ap tokens_in same), ap count_in same)

-- a refusal is no list
not_done : (fault : MacroFault) → ◌≡◌ {A = ExpansionOutcome (List Marked)} (stopped fault) (done [] 0) → ⊥
not_done fault same = cc

-- no tokens are refused nowhere
none_refused : (macros : List Macro) (room : ℕ) (fault : MacroFault) → IsRefusal false macros [] room fault → ⊥
none_refused macros room fault h = not_done fault (one_outcome macros room 0 (stopped fault) h)

-- ---- text

module _ (place : Place) (limit : ℕ) (state : State) where
  -- a state to which nothing is added stays the same
  same_state : (found : State) (expanded : List Token) (counted : ℕ) → expanded ≡ [] → counted ≡ 0 → found ≡ record state { counted = state.counted + counted }
      → (record found { tokens = found.tokens ++ expanded }) ≡ state
  same_state found expanded counted none no_count is =
      let count : state.counted + counted ≡ state.counted = omega arith in
      let same : found ≡ state = is ∙ ap (λ (n : ℕ). record state { counted = n }) count in
      ap (λ (ts : List Token). record found { tokens = ts }) (ap (λ (ts : List Token). found.tokens ++ ts) none ∙ append-nil found.tokens) ∙ same

  -- no text, by what it is expanded to
  ended_at : (found : Result (List Token × State) PreFault) (answer : Result State PreFault) → Expands false place limit state [] found
      → Goes found answer (λ f. answer ≡ Ok (record f.1 { tokens = f.1.tokens ++ f.0 })) → answer ≡ Ok state
  ended_at (Ok found) answer expands goes =
      let none = none_expanded state.macros (limit - state.counted) expands.1 expands.0 expands.2 in
      goes ∙ ap Ok (same_state found.1 found.0 expands.1 (expands.3 ∙ ap without_pragmas none.0) none.1 expands.4)
  ended_at (Err fault) answer expands goes = absurd (none_refused state.macros (limit - state.counted) expands.0 expands.1)

  -- no text leaves the state as it was
  pub nothing_ends : (answer : Result State PreFault) → Ends place limit state [] answer → answer ≡ Ok state
  nothing_ends answer h = ended_at h.0 answer h.1 h.2

  -- and it is read
  pub ends_nothing : Ends place limit state [] (Ok state)
  ends_nothing =
      let count : state ≡ record state { counted = state.counted + 0 } = ap (λ (n : ℕ). record state { counted = n }) (omega arith) in
      (Ok ([], state), ([], 0, ([], no_tokens, refl), refl, count), ap (λ (ts : List Token). Ok (record state { tokens = ts })) (sym (append-nil state.tokens)))

  -- what follows no text stands at its begin
  pub reads_no_text : {B : Type 0} (answer : Result B PreFault) (Next : State → Type 0) → DoesThen (Ends place limit state []) answer Next → Next state
  reads_no_text answer Next h = subst (λ (found : Result State PreFault). Goes found answer Next) (nothing_ends h.0 h.1) h.2
