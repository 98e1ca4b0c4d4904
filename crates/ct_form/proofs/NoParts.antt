-- Where no test and no pair of values stands.
use Rattle.std.proofs.Common.{◌≡◌, ℕ, ◌-◌, List, refl}
use Rattle.std.specs.Prelude.{codes}
use Rattle.ct_base.specs.declared.lexical.Token.{Token}
use Rattle.ct_core.specs.declared.trees.CoreExpression.{CoreExpression}
use Rattle.ct_form.specs.declared.names.Binding.{Binding}
use Rattle.ct_form.specs.declared.names.Signature.{Signature}
use Rattle.ct_form.specs.Words.{Nothing, Stands, Absent}
use Rattle.ct_form.specs.Expressions.{IsExpression}
use Rattle.ct_form.specs.Statements.{IsTest, IsPair, parentheses}
use Rattle.ct_form.proofs.OneWord.{one_rest}
use Rattle.ct_form.proofs.OneExpression.{one_expression, Stands-at, IsExpression-at}

module _ (signatures : List Signature) (scope : List Binding) where
  pub no_test_open : {tokens : List Token} → Absent (codes "(") tokens → Nothing (IsTest signatures scope tokens)
  no_test_open a core ending h = a _ h.opened

  pub no_test_close : {tokens inside rest : List Token} {core : CoreExpression}
      → Stands (codes "(") tokens inside → IsExpression signatures scope (parentheses - 1) inside core rest → Absent (codes ")") rest
      → Nothing (IsTest signatures scope tokens)
  no_test_close w x a core ending h =
      let e = one_expression signatures scope x (IsExpression-at signatures scope (one_rest w h.opened) h.test) in
      a _ (Stands-at signatures scope e.1 h.closed)

  pub no_pair_open : {tokens rest : List Token} {first second : CoreExpression} → Absent (codes "(") tokens → IsPair signatures scope tokens first second rest → ⊥
  no_pair_open a h = a _ h.opened

  pub no_pair_comma : {tokens inside middle rest : List Token} {x first second : CoreExpression}
      → Stands (codes "(") tokens inside → IsExpression signatures scope (parentheses - 1) inside x middle → Absent (codes ",") middle
      → IsPair signatures scope tokens first second rest → ⊥
  no_pair_comma w x a h =
      let e = one_expression signatures scope x (IsExpression-at signatures scope (one_rest w h.opened) h.one) in
      a _ (Stands-at signatures scope e.1 h.comma)

  pub no_pair_second : {tokens inside middle behind rest : List Token} {x first second : CoreExpression}
      → Stands (codes "(") tokens inside → IsExpression signatures scope (parentheses - 1) inside x middle → Stands (codes ",") middle behind
      → Nothing (IsExpression signatures scope (parentheses - 1) behind) → IsPair signatures scope tokens first second rest → ⊥
  no_pair_second w x c n h =
      let e = one_expression signatures scope x (IsExpression-at signatures scope (one_rest w h.opened) h.one) in
      n _ _ (IsExpression-at signatures scope (one_rest c (Stands-at signatures scope e.1 h.comma)) h.other)

  pub no_pair_close : {tokens inside middle behind ending rest : List Token} {x y first second : CoreExpression}
      → Stands (codes "(") tokens inside → IsExpression signatures scope (parentheses - 1) inside x middle → Stands (codes ",") middle behind
      → IsExpression signatures scope (parentheses - 1) behind y ending → Absent (codes ")") ending → IsPair signatures scope tokens first second rest → ⊥
  no_pair_close w x c y a h =
      let e = one_expression signatures scope x (IsExpression-at signatures scope (one_rest w h.opened) h.one) in
      let f = one_expression signatures scope y (IsExpression-at signatures scope (one_rest c (Stands-at signatures scope e.1 h.comma)) h.other) in
      a _ (Stands-at signatures scope f.1 h.closed)
