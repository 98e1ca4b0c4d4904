-- Where no expression, unit or call stands.
use Rattle.std.proofs.Common.{◌≡◌, ℕ, ◌-◌, List, length, refl, sym, ap, subst, ◌∙◌}
use Rattle.std.specs.Prelude.{Some, None, IsTrue, codes}
use Rattle.ct_base.specs.declared.lexical.Token.{Token}
use Rattle.ct_core.specs.declared.trees.CoreExpression.{CoreExpression}
use Rattle.ct_form.specs.declared.names.Binding.{Binding}
use Rattle.ct_form.specs.declared.names.Signature.{Signature}
use Rattle.ct_form.specs.Words.{Nothing, Stands, Absent, StandsName, StandsNumber}
use Rattle.ct_form.specs.Names.{callee, variable_number}
use Rattle.ct_form.specs.Expressions.{IsExpression, IsSum, IsUnit, IsCall, IsArguments, IsList, IsGroup, IsValueOfCall, sum, less, number, variable, call, group, named, none, some}
use Rattle.ct_form.proofs.OneWord.{one_rest, one_name, no_name, number_or_name, number_or_group}
use Rattle.ct_form.proofs.OneExpression.{one_sum, one_expression, one_arguments, one_call, call_or_group, some_of, Stands-at, IsSum-at, IsExpression-at, IsArguments-at}

none_or_some : {A : Type 0} {x : A} → None ≡ Some x → ⊥
none_or_some e = cc

module _ (signatures : List Signature) (scope : List Binding) where
  pub no_right : {room : ℕ} {tokens rest behind : List Token} {left : CoreExpression}
      → IsSum signatures scope room tokens left rest → Stands (codes "<") rest behind → Nothing (IsSum signatures scope room behind)
      → Nothing (IsExpression signatures scope room tokens)
  no_right s w absent core ending (sum s' n') = let e = one_sum signatures scope s s' in n' _ (Stands-at signatures scope (sym e.1) w)
  no_right s w absent core ending (less s' w' u') =
      let e = one_sum signatures scope s s' in
      absent _ _ (IsSum-at signatures scope (one_rest w (Stands-at signatures scope e.1 w')) u')

  pub no_closing : {room : ℕ} {inside middle : List Token} {core : CoreExpression}
      → IsExpression signatures scope (room - 1) inside core middle → Absent (codes ")") middle → Nothing (IsGroup signatures scope room inside)
  no_closing x a core ending g = let e = one_expression signatures scope x g.value in a _ (Stands-at signatures scope e.1 g.closed)

  -- calls

  pub no_call_name : {room : ℕ} {tokens rest : List Token} {s : Signature} {c : CoreExpression}
      → Nothing (StandsName tokens) → IsCall signatures scope room tokens s c rest → ⊥
  no_call_name n (named v w k p l h) = n _ _ v

  pub no_call_open : {room : ℕ} {tokens rest behind : List Token} {name : Token} {s : Signature} {c : CoreExpression}
      → StandsName tokens name behind → Absent (codes "(") behind → IsCall signatures scope room tokens s c rest → ⊥
  no_call_open v a (named v' w' k' p' l' h') = a _ (Stands-at signatures scope (one_name v v').1 w')

  pub no_callee : {room : ℕ} {tokens rest behind : List Token} {name : Token} {s : Signature} {c : CoreExpression}
      → StandsName tokens name behind → callee signatures scope name.text ≡ None → IsCall signatures scope room tokens s c rest → ⊥
  no_callee v absent (named v' w' k' p' l' h') =
      let e = ap (λ (t : Token). callee signatures scope t.text) (one_name v v').0 in
      none_or_some (sym absent ∙ e ∙ k')

  pub no_such_count : {room : ℕ} {tokens rest rest' behind inside : List Token} {name : Token} {s s' : Signature} {c : CoreExpression} {arguments : List CoreExpression}
      → StandsName tokens name behind → Stands (codes "(") behind inside → callee signatures scope name.text ≡ Some s
      → IsArguments signatures scope (room - 1) inside arguments rest → (length arguments ≡ s.parameters → ⊥)
      → IsCall signatures scope room tokens s' c rest' → ⊥
  no_such_count v w k l differ (named v' w' k' p' l' h') =
      let n = one_name v v' in
      let e = ap (λ (t : Token). callee signatures scope t.text) n.0 in
      let same = some_of (sym k ∙ e ∙ k') in
      let i = one_rest w (Stands-at signatures scope n.1 w') in
      let a = one_arguments signatures scope l (IsArguments-at signatures scope i l') in
      differ (ap length a.0 ∙ h' ∙ ap (λ (s : Signature). s.parameters) (sym same))

  -- units

  pub no_group : {room : ℕ} {tokens inside : List Token}
      → Stands (codes "(") tokens inside → Nothing (IsGroup signatures scope room inside) → Nothing (IsUnit signatures scope room tokens)
  no_group w absent core ending (number n) = number_or_group w n
  no_group w absent core ending (variable v a k) = no_name w v refl
  no_group w absent core ending (call c g) = call_or_group signatures scope c w
  no_group w absent core ending (group {middle = m} w' p x z) =
      absent core ending (record { middle = m; is_open = p; value = IsExpression-at signatures scope (one_rest w w') x; closed = z })

  pub is_group : {room : ℕ} {tokens inside rest : List Token} {core : CoreExpression}
      → Stands (codes "(") tokens inside → IsGroup signatures scope room inside core rest → IsUnit signatures scope room tokens core rest
  is_group w g = group w g.is_open g.value g.closed

  pub no_unit_name : {room : ℕ} {tokens : List Token}
      → Absent (codes "(") tokens → Nothing (StandsNumber tokens) → Nothing (StandsName tokens) → Nothing (IsUnit signatures scope room tokens)
  no_unit_name a b n core ending (number m) = b _ _ m
  no_unit_name a b n core ending (variable v x k) = n _ _ v
  no_unit_name a b n core ending (call c g) = no_call_name n c
  no_unit_name a b n core ending (group w p x z) = a _ w

  pub no_value_of_call : {room : ℕ} {tokens rest inside : List Token} {name : Token}
      → StandsName tokens name rest → Stands (codes "(") rest inside → Nothing (IsValueOfCall signatures scope room tokens) → Nothing (IsUnit signatures scope room tokens)
  no_value_of_call v w absent core ending (number m) = number_or_name v m
  no_value_of_call v w absent core ending (variable v' a' k') = a' _ (Stands-at signatures scope (one_name v' v).1 w)
  no_value_of_call v w absent core ending (call {signature = s} c g) = absent core ending (record { signature = s; is_call = c; gives = g })
  no_value_of_call v w absent core ending (group w' p x z) = no_name w' v refl

  pub is_value_of_call : {room : ℕ} {tokens rest : List Token} {core : CoreExpression}
      → IsValueOfCall signatures scope room tokens core rest → IsUnit signatures scope room tokens core rest
  is_value_of_call g = call g.is_call g.gives

  pub no_variable : {room : ℕ} {tokens rest : List Token} {name : Token}
      → StandsName tokens name rest → Absent (codes "(") rest → variable_number scope name.text ≡ None → Nothing (IsUnit signatures scope room tokens)
  no_variable v a k core ending (number m) = number_or_name v m
  no_variable v a k core ending (variable v' a' k') =
      let e = ap (λ (t : Token). variable_number scope t.text) (one_name v v').0 in
      none_or_some (sym k ∙ e ∙ k')
  no_variable v a k core ending (call c g) = no_call_open v a c
  no_variable v a k core ending (group w p x z) = no_name w v refl

  pub no_arguments : {room : ℕ} {tokens : List Token} → Absent (codes ")") tokens → Nothing (IsList signatures scope room tokens) → Nothing (IsArguments signatures scope room tokens)
  no_arguments a n what ending (none w) = a _ w
  no_arguments a n what ending (some b l) = n _ _ l

  pub no_gift : {room : ℕ} {tokens rest : List Token} {s : Signature} {c : CoreExpression}
      → IsCall signatures scope room tokens s c rest → (IsTrue s.gives_value → ⊥) → Nothing (IsValueOfCall signatures scope room tokens)
  no_gift k n what ending g = n (subst (λ (s : Signature). IsTrue s.gives_value) (sym (one_call signatures scope k g.is_call).0) g.gives)
