-- The words of a statement or a block spell one core tree, and end at one place.
use Rattle.std.proofs.Common.{◌≡◌, ℕ, Bool, List, [], ◌∷◌, ◌++◌, length, false, refl, sym, ap, ◌∙◌}
use Rattle.std.specs.Prelude.{Option, Some, None, codes}
use Rattle.ct_base.specs.declared.lexical.Token.{Token}
use Rattle.ct_core.specs.declared.trees.CoreExpression.{CoreExpression}
use Rattle.ct_core.specs.declared.trees.CoreExpression.TheVariants.{Variable, Assign}
use Rattle.ct_core.specs.declared.trees.CoreStatement.{CoreStatement}
use Rattle.ct_core.specs.declared.trees.CoreStatement.TheVariants.{Run, Block, Declare, If, While, Return}
use Rattle.ct_form.specs.declared.names.Binding.{Binding}
use Rattle.ct_form.specs.declared.names.Signature.{Signature}
use Rattle.ct_form.specs.Words.{Stands, StandsName, is_free_name}
use Rattle.ct_form.specs.Names.{variable_number}
use Rattle.ct_form.specs.Expressions.{IsCall, named, int}
use Rattle.ct_form.specs.Statements.{At, IsStatement, IsBody, IsStart, IsTest, IsPair, absent, present, block, assignment, call, only, either, while, returned, assertion, close, declaration, statement, mark, begun, moved, binding, declared, assertion_core}
use Rattle.ct_form.proofs.OneWord.{one_rest, not_both, one_name, no_name}
use Rattle.ct_form.proofs.OneExpression.{one_expression, one_call, some_of, Stands-at, IsExpression-at}

same_block : (at : At) {n n' : List ℕ} {c c' : List CoreStatement} → n ≡ n' → c ≡ c' → Block (mark at) n c ≡ Block (mark at) n' c'
same_block at p q = rw (p, q)

same_assignment : (at : At) {m m' : ℕ} {x x' : CoreExpression} → m ≡ m' → x ≡ x'
    → Run (mark at) (Assign int (Variable m) x) ≡ Run (mark at) (Assign int (Variable m') x')
same_assignment at p q = rw (p, q)

same_if : (at : At) {x x' : CoreExpression} {y y' : CoreStatement} {n n' : Option CoreStatement} → x ≡ x' → y ≡ y' → n ≡ n'
    → If (mark at) x y n ≡ If (mark at) x' y' n'
same_if at p q r = rw (p, q, r)

same_only : (at : At) {x x' : CoreExpression} {y y' : CoreStatement} → x ≡ x' → y ≡ y' → If (mark at) x y None ≡ If (mark at) x' y' None
same_only at p q = rw (p, q)

same_while : (at : At) {x x' : CoreExpression} {y y' : CoreStatement} → x ≡ x' → y ≡ y' → While (mark at) x y ≡ While (mark at) x' y'
same_while at p q = rw (p, q)

same_some : {y y' : CoreStatement} → y ≡ y' → Some y ≡ Some y'
same_some p = rw p

same_assertion : (at : At) {x x' y y' : CoreExpression} → x ≡ x' → y ≡ y'
    → Run (mark at) (assertion_core (mark at) x y) ≡ Run (mark at) (assertion_core (mark at) x' y')
same_assertion at p q = rw (p, q)

same_moved : {at at' : At} {t t' : List Token} → at ≡ at' → t ≡ t' → moved at t ≡ moved at' t'
same_moved p q = rw (p, q)

same_declared : (at : At) {name name' : Token} {t t' : List Token} → name ≡ name' → t ≡ t' → declared (begun at t) name ≡ declared (begun at t') name'
same_declared at p q = rw (p, q)

same_declaration : (at : At) {x x' : Option CoreExpression} {c c' : List CoreStatement} → x ≡ x' → c ≡ c'
    → (Declare (mark at) (length at.variables) int x ∷ c) ≡ (Declare (mark at) (length at.variables) int x' ∷ c')
same_declaration at p q = rw (p, q)

same_parts : {x x' : CoreStatement} {c c' : List CoreStatement} → x ≡ x' → c ≡ c' → x ∷ c ≡ x' ∷ c'
same_parts p q = rw (p, q)

pub StandsName-at : {t t' r : List Token} {name : Token} → t ≡ t' → StandsName t' name r → StandsName t name r
StandsName-at p h = rw p h

module _ (signatures : List Signature) (scope : List Binding) where
  pub call_or_word : {room : ℕ} {t r r' : List Token} {text : List ℕ} {s : Signature} {c : CoreExpression}
      → IsCall signatures scope room t s c r → Stands text t r' → is_free_name text ≡ false → ⊥
  call_or_word (named v w k p l h) w' f = no_name w' v f

  pub call_or_assignment : {room : ℕ} {t r m b : List Token} {name : Token} {s : Signature} {c : CoreExpression}
      → IsCall signatures scope room t s c r → StandsName t name m → Stands (codes "=") m b → ⊥
  call_or_assignment (named v w k p l h) v' w' = not_both w (Stands-at signatures scope (one_name v v').1 w') refl

  pub one_start : {t r r' : List Token} {c c' : Option CoreExpression}
      → IsStart signatures scope t c r → IsStart signatures scope t c' r' → (c ≡ c') × (r ≡ r')
  one_start (absent a) (absent a') = (refl, refl)
  one_start (absent a) (present w' x') = absurd (a _ w')
  one_start (present w x) (absent a') = absurd (a' _ w)
  one_start (present w x) (present w' x') =
      let e = one_expression signatures scope x (IsExpression-at signatures scope (one_rest w w') x') in
      (ap Some e.0, e.1)

  pub one_test : {t r r' : List Token} {c c' : CoreExpression}
      → IsTest signatures scope t c r → IsTest signatures scope t c' r' → (c ≡ c') × (r ≡ r')
  one_test a b =
      let e = one_expression signatures scope a.test (IsExpression-at signatures scope (one_rest a.opened b.opened) b.test) in
      (e.0, one_rest a.closed (Stands-at signatures scope e.1 b.closed))

  pub one_pair : {t r r' : List Token} {c c' d d' : CoreExpression}
      → IsPair signatures scope t c d r → IsPair signatures scope t c' d' r' → (c ≡ c') × (d ≡ d') × (r ≡ r')
  one_pair a b =
      let e = one_expression signatures scope a.one (IsExpression-at signatures scope (one_rest a.opened b.opened) b.one) in
      let f = one_expression signatures scope a.other (IsExpression-at signatures scope (one_rest a.comma (Stands-at signatures scope e.1 b.comma)) b.other) in
      (e.0, f.0, one_rest a.closed (Stands-at signatures scope f.1 b.closed))

  pub IsTest-at : {t t' r : List Token} {c : CoreExpression} → t ≡ t' → IsTest signatures scope t' c r → IsTest signatures scope t c r
  IsTest-at p h = rw p h

  pub IsPair-at : {t t' r : List Token} {c d : CoreExpression} → t ≡ t' → IsPair signatures scope t' c d r → IsPair signatures scope t c d r
  IsPair-at p h = rw p h

  pub IsStart-at : {t t' r : List Token} {c : Option CoreExpression} → t ≡ t' → IsStart signatures scope t' c r → IsStart signatures scope t c r
  IsStart-at p h = rw p h

pub IsStart-of : (signatures : List Signature) (scope own : List Binding) (at : At) {name name' : Token} {t t' r : List Token} {c : Option CoreExpression}
    → name ≡ name' → t ≡ t' → IsStart signatures (scope ++ own ++ binding at name' ∷ []) t' c r → IsStart signatures (scope ++ own ++ binding at name ∷ []) t c r
IsStart-of signatures scope own at p q h = rw (p, q) h

module _ (signatures : List Signature) (unity gives_value : Bool) where
  pub IsStatement-at : {room : ℕ} {scope : List Binding} {at at' after : At} {c : CoreStatement}
      → at ≡ at' → IsStatement signatures unity gives_value room scope at' c after → IsStatement signatures unity gives_value room scope at c after
  IsStatement-at p h = rw p h

  pub IsBody-at : {room : ℕ} {scope own own' : List Binding} {at at' after : At} {n : List ℕ} {c : List CoreStatement}
      → own ≡ own' → at ≡ at' → IsBody signatures unity gives_value room scope own' at' n c after → IsBody signatures unity gives_value room scope own at n c after
  IsBody-at q p h = rw (q, p) h

  mutual
    pub one_statement : {room : ℕ} {scope : List Binding} {at after after' : At} {c c' : CoreStatement}
        → IsStatement signatures unity gives_value room scope at c after → IsStatement signatures unity gives_value room scope at c' after' → (c ≡ c') × (after ≡ after')
    one_statement {scope = scope} {at = at} (block w p b) (block w' p' b') =
        let e = one_rest w w' in
        let f = one_body b (IsBody-at refl (ap (begun at) e) b') in
        (same_block at f.0 f.1, f.2)
    one_statement {scope = scope} {at = at} (block w p b) (assignment v' e' k' x' z') = absurd (no_name w v' refl)
    one_statement {scope = scope} {at = at} (block w p b) (call c' z') = absurd (call_or_word signatures scope c' w refl)
    one_statement {scope = scope} {at = at} (block w p b) (only w' p' q' s' a') = absurd (not_both w w' refl)
    one_statement {scope = scope} {at = at} (block w p b) (either w' p' q' s' o' d') = absurd (not_both w w' refl)
    one_statement {scope = scope} {at = at} (block w p b) (while w' p' q' s') = absurd (not_both w w' refl)
    one_statement {scope = scope} {at = at} (block w p b) (returned w' g' x' z') = absurd (not_both w w' refl)
    one_statement {scope = scope} {at = at} (block w p b) (assertion w' u' q' z') = absurd (not_both w w' refl)
    one_statement {scope = scope} {at = at} (assignment v e k x z) (block w' p' b') = absurd (no_name w' v refl)
    one_statement {scope = scope} {at = at} (assignment v e k x z) (assignment v' e' k' x' z') =
        let n = one_name v v' in
        let i = one_rest e (Stands-at signatures scope n.1 e') in
        let m = some_of (sym k ∙ ap (λ (t : Token). variable_number scope t.text) n.0 ∙ k') in
        let y = one_expression signatures scope x (IsExpression-at signatures scope i x') in
        (same_assignment at m y.0, ap (begun at) (one_rest z (Stands-at signatures scope y.1 z')))
    one_statement {scope = scope} {at = at} (assignment v e k x z) (call c' z') = absurd (call_or_assignment signatures scope c' v e)
    one_statement {scope = scope} {at = at} (assignment v e k x z) (only w' p' q' s' a') = absurd (no_name w' v refl)
    one_statement {scope = scope} {at = at} (assignment v e k x z) (either w' p' q' s' o' d') = absurd (no_name w' v refl)
    one_statement {scope = scope} {at = at} (assignment v e k x z) (while w' p' q' s') = absurd (no_name w' v refl)
    one_statement {scope = scope} {at = at} (assignment v e k x z) (returned w' g' x' z') = absurd (no_name w' v refl)
    one_statement {scope = scope} {at = at} (assignment v e k x z) (assertion w' u' q' z') = absurd (no_name w' v refl)
    one_statement {scope = scope} {at = at} (call c z) (block w' p' b') = absurd (call_or_word signatures scope c w' refl)
    one_statement {scope = scope} {at = at} (call c z) (assignment v' e' k' x' z') = absurd (call_or_assignment signatures scope c v' e')
    one_statement {scope = scope} {at = at} (call c z) (call c' z') =
        let y = one_call signatures scope c c' in
        (ap (λ (x : CoreExpression). Run (mark at) x) y.1, ap (begun at) (one_rest z (Stands-at signatures scope y.2 z')))
    one_statement {scope = scope} {at = at} (call c z) (only w' p' q' s' a') = absurd (call_or_word signatures scope c w' refl)
    one_statement {scope = scope} {at = at} (call c z) (either w' p' q' s' o' d') = absurd (call_or_word signatures scope c w' refl)
    one_statement {scope = scope} {at = at} (call c z) (while w' p' q' s') = absurd (call_or_word signatures scope c w' refl)
    one_statement {scope = scope} {at = at} (call c z) (returned w' g' x' z') = absurd (call_or_word signatures scope c w' refl)
    one_statement {scope = scope} {at = at} (call c z) (assertion w' u' q' z') = absurd (call_or_word signatures scope c w' refl)
    one_statement {scope = scope} {at = at} (only w p q s a) (block w' p' b') = absurd (not_both w w' refl)
    one_statement {scope = scope} {at = at} (only w p q s a) (assignment v' e' k' x' z') = absurd (no_name w v' refl)
    one_statement {scope = scope} {at = at} (only w p q s a) (call c' z') = absurd (call_or_word signatures scope c' w refl)
    one_statement {scope = scope} {at = at} (only w p q s a) (only w' p' q' s' a') =
        let y = one_test signatures scope q (IsTest-at signatures scope (one_rest w w') q') in
        let f = one_statement s (IsStatement-at (ap (begun at) y.1) s') in
        (same_only at y.0 f.0, f.1)
    one_statement {scope = scope} {at = at} (only w p q s a) (either w' p' q' s' o' d') =
        let y = one_test signatures scope q (IsTest-at signatures scope (one_rest w w') q') in
        let f = one_statement s (IsStatement-at (ap (begun at) y.1) s') in
        absurd (a _ (Stands-at signatures scope (ap (λ (m : At). m.tokens) f.1) o'))
    one_statement {scope = scope} {at = at} (only w p q s a) (while w' p' q' s') = absurd (not_both w w' refl)
    one_statement {scope = scope} {at = at} (only w p q s a) (returned w' g' x' z') = absurd (not_both w w' refl)
    one_statement {scope = scope} {at = at} (only w p q s a) (assertion w' u' q' z') = absurd (not_both w w' refl)
    one_statement {scope = scope} {at = at} (either w p q s o d) (block w' p' b') = absurd (not_both w w' refl)
    one_statement {scope = scope} {at = at} (either w p q s o d) (assignment v' e' k' x' z') = absurd (no_name w v' refl)
    one_statement {scope = scope} {at = at} (either w p q s o d) (call c' z') = absurd (call_or_word signatures scope c' w refl)
    one_statement {scope = scope} {at = at} (either w p q s o d) (only w' p' q' s' a') =
        let y = one_test signatures scope q (IsTest-at signatures scope (one_rest w w') q') in
        let f = one_statement s (IsStatement-at (ap (begun at) y.1) s') in
        absurd (a' _ (Stands-at signatures scope (sym (ap (λ (m : At). m.tokens) f.1)) o))
    one_statement {scope = scope} {at = at} (either w p q s o d) (either w' p' q' s' o' d') =
        let y = one_test signatures scope q (IsTest-at signatures scope (one_rest w w') q') in
        let f = one_statement s (IsStatement-at (ap (begun at) y.1) s') in
        let i = one_rest o (Stands-at signatures scope (ap (λ (m : At). m.tokens) f.1) o') in
        let h = one_statement d (IsStatement-at (same_moved f.1 i) d') in
        (same_if at y.0 f.0 (same_some h.0), h.1)
    one_statement {scope = scope} {at = at} (either w p q s o d) (while w' p' q' s') = absurd (not_both w w' refl)
    one_statement {scope = scope} {at = at} (either w p q s o d) (returned w' g' x' z') = absurd (not_both w w' refl)
    one_statement {scope = scope} {at = at} (either w p q s o d) (assertion w' u' q' z') = absurd (not_both w w' refl)
    one_statement {scope = scope} {at = at} (while w p q s) (block w' p' b') = absurd (not_both w w' refl)
    one_statement {scope = scope} {at = at} (while w p q s) (assignment v' e' k' x' z') = absurd (no_name w v' refl)
    one_statement {scope = scope} {at = at} (while w p q s) (call c' z') = absurd (call_or_word signatures scope c' w refl)
    one_statement {scope = scope} {at = at} (while w p q s) (only w' p' q' s' a') = absurd (not_both w w' refl)
    one_statement {scope = scope} {at = at} (while w p q s) (either w' p' q' s' o' d') = absurd (not_both w w' refl)
    one_statement {scope = scope} {at = at} (while w p q s) (while w' p' q' s') =
        let y = one_test signatures scope q (IsTest-at signatures scope (one_rest w w') q') in
        let f = one_statement s (IsStatement-at (ap (begun at) y.1) s') in
        (same_while at y.0 f.0, f.1)
    one_statement {scope = scope} {at = at} (while w p q s) (returned w' g' x' z') = absurd (not_both w w' refl)
    one_statement {scope = scope} {at = at} (while w p q s) (assertion w' u' q' z') = absurd (not_both w w' refl)
    one_statement {scope = scope} {at = at} (returned w g x z) (block w' p' b') = absurd (not_both w w' refl)
    one_statement {scope = scope} {at = at} (returned w g x z) (assignment v' e' k' x' z') = absurd (no_name w v' refl)
    one_statement {scope = scope} {at = at} (returned w g x z) (call c' z') = absurd (call_or_word signatures scope c' w refl)
    one_statement {scope = scope} {at = at} (returned w g x z) (only w' p' q' s' a') = absurd (not_both w w' refl)
    one_statement {scope = scope} {at = at} (returned w g x z) (either w' p' q' s' o' d') = absurd (not_both w w' refl)
    one_statement {scope = scope} {at = at} (returned w g x z) (while w' p' q' s') = absurd (not_both w w' refl)
    one_statement {scope = scope} {at = at} (returned w g x z) (returned w' g' x' z') =
        let y = one_expression signatures scope x (IsExpression-at signatures scope (one_rest w w') x') in
        (ap (λ (x : CoreExpression). Return (mark at) (Some x)) y.0, ap (begun at) (one_rest z (Stands-at signatures scope y.1 z')))
    one_statement {scope = scope} {at = at} (returned w g x z) (assertion w' u' q' z') = absurd (not_both w w' refl)
    one_statement {scope = scope} {at = at} (assertion w u q z) (block w' p' b') = absurd (not_both w w' refl)
    one_statement {scope = scope} {at = at} (assertion w u q z) (assignment v' e' k' x' z') = absurd (no_name w v' refl)
    one_statement {scope = scope} {at = at} (assertion w u q z) (call c' z') = absurd (call_or_word signatures scope c' w refl)
    one_statement {scope = scope} {at = at} (assertion w u q z) (only w' p' q' s' a') = absurd (not_both w w' refl)
    one_statement {scope = scope} {at = at} (assertion w u q z) (either w' p' q' s' o' d') = absurd (not_both w w' refl)
    one_statement {scope = scope} {at = at} (assertion w u q z) (while w' p' q' s') = absurd (not_both w w' refl)
    one_statement {scope = scope} {at = at} (assertion w u q z) (returned w' g' x' z') = absurd (not_both w w' refl)
    one_statement {scope = scope} {at = at} (assertion w u q z) (assertion w' u' q' z') =
        let y = one_pair signatures scope q (IsPair-at signatures scope (one_rest w w') q') in
        (same_assertion at y.0 y.1, ap (begun at) (one_rest z (Stands-at signatures scope y.2 z')))

    pub one_body : {room : ℕ} {scope own : List Binding} {at after after' : At} {n n' : List ℕ} {c c' : List CoreStatement}
        → IsBody signatures unity gives_value room scope own at n c after → IsBody signatures unity gives_value room scope own at n' c' after'
        → (n ≡ n') × (c ≡ c') × (after ≡ after')
    one_body {at = at} (close w) (close w') = (refl, refl, ap (moved at) (one_rest w w'))
    one_body (close w) (declaration w' v' d' l' x' z' b') = absurd (not_both w w' refl)
    one_body (close w) (statement a' i' s' b') = absurd (a' _ w)
    one_body (declaration w v d l x z b) (close w') = absurd (not_both w w' refl)
    one_body {scope = scope} {own = own} {at = at} (declaration w v d l x z b) (declaration w' v' d' l' x' z' b') =
        let i = one_rest w w' in
        let n = one_name v (StandsName-at i v') in
        let y = one_start signatures _ x (IsStart-of signatures scope own at n.0 n.1 x') in
        let j = one_rest z (Stands-at signatures scope y.1 z') in
        let f = one_body b (IsBody-at (ap (λ (t : Token). own ++ binding at t ∷ []) n.0) (same_declared at n.0 j) b') in
        (ap (λ k. length at.variables ∷ k) f.0, same_declaration at y.0 f.1, f.2)
    one_body (declaration w v d l x z b) (statement a' i' s' b') = absurd (i' _ w)
    one_body (statement a i s b) (close w') = absurd (a _ w')
    one_body (statement a i s b) (declaration w' v' d' l' x' z' b') = absurd (i _ w')
    one_body (statement a i s b) (statement a' i' s' b') =
        let e = one_statement s s' in
        let f = one_body b (IsBody-at refl e.1 b') in
        (f.0, same_parts e.0 f.1, f.2)
