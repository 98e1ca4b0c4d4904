-- The words of an expression spell one core tree, and end at one place.
use Rattle.std.proofs.Common.{◌≡◌, ℕ, List, [], ◌∷◌, refl, sym, ap, ◌∙◌}
use Rattle.std.specs.Prelude.{Some, codes, pos}
use Rattle.ct_base.specs.declared.lexical.Token.{Token}
use Rattle.ct_base.specs.declared.operators.BinaryOp.{BinaryOp}
use Rattle.ct_ctype.specs.declared.kinds.IntKind.TheVariants.{Int}
use Rattle.ct_core.specs.declared.trees.CoreExpression.{CoreExpression}
use Rattle.ct_core.specs.declared.trees.CoreExpression.TheVariants.{Constant, Function, Binary, Call}
use Rattle.ct_form.specs.declared.names.Binding.{Binding}
use Rattle.ct_form.specs.declared.names.Signature.{Signature}
use Rattle.ct_form.specs.Words.{Nothing, Stands, Absent, StandsName, StandsNumber}
use Rattle.ct_form.specs.Names.{type_of, callee, variable_number}
use Rattle.ct_form.specs.Expressions.{IsExpression, IsSum, IsSumOf, IsSign, IsUnit, IsCall, IsArguments, IsList, value_of, sum, less, units, whole, further, plus, minus, number, variable, call, group, named, none, some, last, more}
use Rattle.ct_form.proofs.OneWord.{one_rest, not_both, one_name, no_name, one_number, number_or_name, number_or_group}

pub some_of : {A : Type 0} {x y : A} → Some x ≡ Some y → x ≡ y
some_of e = cc

pub same_binary : (a : CoreExpression) (op op' : BinaryOp) (x y : CoreExpression) → op ≡ op' → x ≡ y → Binary op Int a x ≡ Binary op' Int a y
same_binary a op op' x y p e = rw (p, e)

pub one_sign : {t r r' : List Token} {op op' : BinaryOp} → IsSign t op r → IsSign t op' r' → (op ≡ op') × (r ≡ r')
one_sign (plus w) (plus w') = (refl, one_rest w w')
one_sign (plus w) (minus w') = absurd (not_both w w' refl)
one_sign (minus w) (plus w') = absurd (not_both w w' refl)
one_sign (minus w) (minus w') = (refl, one_rest w w')

pub no_sign : {t : List Token} → Absent (codes "+") t → Absent (codes "-") t → Nothing (IsSign t)
no_sign p m op rest (plus w) = p _ w
no_sign p m op rest (minus w) = m _ w

same_call : {s s' : Signature} {x x' : List ℕ} {a a' : List CoreExpression} → s ≡ s' → x ≡ x' → a ≡ a'
    → Call (type_of s) (Function x) a ≡ Call (type_of s') (Function x') a'
same_call p q r = rw (p, q, r)

module _ (signatures : List Signature) (scope : List Binding) where
  -- the same at an equal front
  pub Stands-at : {text : List ℕ} {t t' rest : List Token} → t ≡ t' → Stands text t' rest → Stands text t rest
  Stands-at p h = rw p h

  pub IsExpression-at : {room : ℕ} {t t' rest : List Token} {core : CoreExpression} → t ≡ t'
      → IsExpression signatures scope room t' core rest → IsExpression signatures scope room t core rest
  IsExpression-at p h = rw p h

  pub IsSum-at : {room : ℕ} {t t' rest : List Token} {core : CoreExpression} → t ≡ t'
      → IsSum signatures scope room t' core rest → IsSum signatures scope room t core rest
  IsSum-at p h = rw p h

  pub IsUnit-at : {room : ℕ} {t t' rest : List Token} {core : CoreExpression} → t ≡ t'
      → IsUnit signatures scope room t' core rest → IsUnit signatures scope room t core rest
  IsUnit-at p h = rw p h

  pub IsSumOf-at : {room : ℕ} {t t' rest : List Token} {a a' core : CoreExpression} → a ≡ a' → t ≡ t'
      → IsSumOf signatures scope room a' t' core rest → IsSumOf signatures scope room a t core rest
  IsSumOf-at p q h = rw (p, q) h

  pub IsArguments-at : {room : ℕ} {t t' rest : List Token} {cores : List CoreExpression} → t ≡ t'
      → IsArguments signatures scope room t' cores rest → IsArguments signatures scope room t cores rest
  IsArguments-at p h = rw p h

  pub IsList-at : {room : ℕ} {t t' rest : List Token} {cores : List CoreExpression} → t ≡ t'
      → IsList signatures scope room t' cores rest → IsList signatures scope room t cores rest
  IsList-at p h = rw p h

  call_or_number : {room value : ℕ} {t r r' : List Token} {s : Signature} {c : CoreExpression}
      → IsCall signatures scope room t s c r → StandsNumber t value r' → ⊥
  call_or_number (named v w k p l h) n = number_or_name v n

  call_or_variable : {room : ℕ} {t r r' : List Token} {s : Signature} {c : CoreExpression} {name : Token}
      → IsCall signatures scope room t s c r → StandsName t name r' → Absent (codes "(") r' → ⊥
  call_or_variable (named v w k p l h) v' a = a _ (Stands-at (one_name v' v).1 w)

  pub call_or_group : {room : ℕ} {t r r' : List Token} {s : Signature} {c : CoreExpression}
      → IsCall signatures scope room t s c r → Stands (codes "(") t r' → ⊥
  call_or_group (named v w k p l h) w' = no_name w' v refl

  mutual
    pub one_expression : {room : ℕ} {t r r' : List Token} {c c' : CoreExpression}
        → IsExpression signatures scope room t c r → IsExpression signatures scope room t c' r' → (c ≡ c') × (r ≡ r')
    one_expression (sum s n) (sum s' n') = one_sum s s'
    one_expression (sum s n) (less s' w' u') = let e = one_sum s s' in absurd (n _ (Stands-at e.1 w'))
    one_expression (less s w u) (sum s' n') = let e = one_sum s s' in absurd (n' _ (Stands-at (sym e.1) w))
    one_expression (less s w u) (less s' w' u') =
        let e = one_sum s s' in
        let p = one_rest w (Stands-at e.1 w') in
        let f = one_sum u (IsSum-at p u') in
        (cc, f.1)

    pub one_sum : {room : ℕ} {t r r' : List Token} {c c' : CoreExpression}
        → IsSum signatures scope room t c r → IsSum signatures scope room t c' r' → (c ≡ c') × (r ≡ r')
    one_sum (units u s) (units u' s') = let e = one_unit u u' in one_sum_of s (IsSumOf-at e.0 e.1 s')

    pub one_sum_of : {room : ℕ} {t r r' : List Token} {a c c' : CoreExpression}
        → IsSumOf signatures scope room a t c r → IsSumOf signatures scope room a t c' r' → (c ≡ c') × (r ≡ r')
    one_sum_of (whole n) (whole n') = (refl, refl)
    one_sum_of (whole n) (further w' u' s') = absurd (n _ _ w')
    one_sum_of (further w u s) (whole n') = absurd (n' _ _ w)
    one_sum_of {a = a} (further w u s) (further w' u' s') =
        let f = one_sign w w' in
        let e = one_unit u (IsUnit-at f.1 u') in
        one_sum_of s (IsSumOf-at (same_binary a _ _ _ _ f.0 e.0) e.1 s')

    pub one_unit : {room : ℕ} {t r r' : List Token} {c c' : CoreExpression}
        → IsUnit signatures scope room t c r → IsUnit signatures scope room t c' r' → (c ≡ c') × (r ≡ r')
    one_unit (number n) (number n') = let e = one_number n n' in (ap (λ v. Constant Int (pos v)) e.0, e.1)
    one_unit (number n) (variable v' a' k') = absurd (number_or_name v' n)
    one_unit (number n) (call (named v' w' k' p' l' h') g') = absurd (number_or_name v' n)
    one_unit (number n) (group w' p' x' z') = absurd (number_or_group w' n)
    one_unit (variable v a k) (number n') = absurd (number_or_name v n')
    one_unit (variable v a k) (variable v' a' k') =
        let e = one_name v v' in
        let h = ap (λ (t : Token). variable_number scope t.text) e.0 in
        (ap value_of (some_of (sym k ∙ h ∙ k')), e.1)
    one_unit (variable v a k) (call (named v' w' k' p' l' h') g') = let e = one_name v v' in absurd (a _ (Stands-at e.1 w'))
    one_unit (variable v a k) (group w' p' x' z') = absurd (no_name w' v refl)
    one_unit (call c g) (number n') = absurd (call_or_number c n')
    one_unit (call c g) (variable v' a' k') = absurd (call_or_variable c v' a')
    one_unit (call c g) (call c' g') = let e = one_call c c' in (e.1, e.2)
    one_unit (call c g) (group w' p' x' z') = absurd (call_or_group c w')
    one_unit (group w p x z) (number n') = absurd (number_or_group w n')
    one_unit (group w p x z) (variable v' a' k') = absurd (no_name w v' refl)
    one_unit (group w p x z) (call c' g') = absurd (call_or_group c' w)
    one_unit (group w p x z) (group w' p' x' z') =
        let e = one_expression x (IsExpression-at (one_rest w w') x') in
        (e.0, one_rest z (Stands-at e.1 z'))

    pub one_call : {room : ℕ} {t r r' : List Token} {s s' : Signature} {c c' : CoreExpression}
        → IsCall signatures scope room t s c r → IsCall signatures scope room t s' c' r' → (s ≡ s') × (c ≡ c') × (r ≡ r')
    one_call (named v w k p l h) (named v' w' k' p' l' h') =
        let e = one_name v v' in
        let f = ap (λ (t : Token). callee signatures scope t.text) e.0 in
        let s = some_of (sym k ∙ f ∙ k') in
        let i = one_rest w (Stands-at e.1 w') in
        let a = one_arguments l (IsArguments-at i l') in
        let x = ap (λ (t : Token). t.text) e.0 in
        (s, same_call s x a.0, a.1)

    pub one_arguments : {room : ℕ} {t r r' : List Token} {c c' : List CoreExpression}
        → IsArguments signatures scope room t c r → IsArguments signatures scope room t c' r' → (c ≡ c') × (r ≡ r')
    one_arguments (none w) (none w') = (refl, one_rest w w')
    one_arguments (none w) (some a' l') = absurd (a' _ w)
    one_arguments (some a l) (none w') = absurd (a _ w')
    one_arguments (some a l) (some a' l') = one_list l l'

    pub one_list : {room : ℕ} {t r r' : List Token} {c c' : List CoreExpression}
        → IsList signatures scope room t c r → IsList signatures scope room t c' r' → (c ≡ c') × (r ≡ r')
    one_list (last x w) (last x' w') = let e = one_expression x x' in (ap (λ y. y ∷ []) e.0, one_rest w (Stands-at e.1 w'))
    one_list (last x w) (more x' w' l') = let e = one_expression x x' in absurd (not_both w (Stands-at e.1 w') refl)
    one_list (more x w l) (last x' w') = let e = one_expression x x' in absurd (not_both w (Stands-at e.1 w') refl)
    one_list (more x w l) (more x' w' l') =
        let e = one_expression x x' in
        let f = one_list l (IsList-at (one_rest w (Stands-at e.1 w')) l') in
        (cc, f.1)
