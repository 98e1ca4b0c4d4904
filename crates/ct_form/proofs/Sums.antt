-- How far a sum or a list of arguments is read, and what reading goes on or ends.
use Rattle.std.proofs.Common.{◌≡◌, ℕ, List, [], ◌∷◌, ◌++◌, refl, sym, ap, ◌∙◌, append_assoc}
use Rattle.std.specs.Prelude.{codes}
use Rattle.ct_base.specs.declared.lexical.Token.{Token}
use Rattle.ct_base.specs.declared.operators.BinaryOp.{BinaryOp}
use Rattle.ct_ctype.specs.declared.kinds.IntKind.TheVariants.{Int}
use Rattle.ct_core.specs.declared.trees.CoreExpression.{CoreExpression}
use Rattle.ct_core.specs.declared.trees.CoreExpression.TheVariants.{Binary}
use Rattle.ct_form.specs.declared.names.Binding.{Binding}
use Rattle.ct_form.specs.declared.names.Signature.{Signature}
use Rattle.ct_form.specs.Words.{Nothing, Stands, Absent}
use Rattle.ct_form.specs.Expressions.{IsExpression, IsSum, IsSumOf, IsSign, IsUnit, IsList, units, whole, further, last, more}
use Rattle.ct_form.proofs.OneWord.{one_rest, not_both}
use Rattle.ct_form.proofs.OneExpression.{one_sign, one_unit, one_expression, same_binary, IsUnit-at, IsSumOf-at, IsList-at, Stands-at}

module _ (signatures : List Signature) (scope : List Binding) where
  -- a sum is read up to a value and what is left: it goes on from there, and in no other way
  pub record SumReads (room : ℕ) (tokens : List Token) (sofar : CoreExpression) (rest : List Token) : Type 0 where
    pub forth : (core : CoreExpression) (ending : List Token) → IsSumOf signatures scope room sofar rest core ending → IsSum signatures scope room tokens core ending
    pub back : (core : CoreExpression) (ending : List Token) → IsSum signatures scope room tokens core ending → IsSumOf signatures scope room sofar rest core ending

  pub sum_back : {room : ℕ} {tokens middle ending : List Token} {first core : CoreExpression}
      → IsUnit signatures scope room tokens first middle → IsSum signatures scope room tokens core ending → IsSumOf signatures scope room first middle core ending
  sum_back u (units u' s') = let e = one_unit signatures scope u u' in IsSumOf-at signatures scope e.0 e.1 s'

  pub sum_begins : {room : ℕ} {tokens middle : List Token} {first : CoreExpression}
      → IsUnit signatures scope room tokens first middle → SumReads room tokens first middle
  sum_begins u = record { forth = λ core ending s. units u s; back = λ core ending s. sum_back u s }

  pub sum_of_back : {room : ℕ} {tokens behind middle ending : List Token} {op : BinaryOp} {sofar right core : CoreExpression}
      → IsSign tokens op behind → IsUnit signatures scope room behind right middle → IsSumOf signatures scope room sofar tokens core ending
      → IsSumOf signatures scope room (Binary op Int sofar right) middle core ending
  sum_of_back w u (whole n) = absurd (n _ _ w)
  sum_of_back {sofar = a} w u (further w' u' s') =
      let f = one_sign w w' in
      let e = one_unit signatures scope u (IsUnit-at signatures scope f.1 u') in
      IsSumOf-at signatures scope (same_binary a _ _ _ _ f.0 e.0) e.1 s'

  pub sum_goes_on : {room : ℕ} {tokens rest behind middle : List Token} {op : BinaryOp} {sofar right : CoreExpression}
      → SumReads room tokens sofar rest → IsSign rest op behind → IsUnit signatures scope room behind right middle
      → SumReads room tokens (Binary op Int sofar right) middle
  sum_goes_on r w u = record {
    forth = λ core ending s. r.forth core ending (further w u s);
    back = λ core ending s. sum_of_back w u (r.back core ending s);
  }

  sum_of_stops : {room : ℕ} {tokens behind ending : List Token} {op : BinaryOp} {sofar core : CoreExpression}
      → IsSign tokens op behind → Nothing (IsUnit signatures scope room behind) → IsSumOf signatures scope room sofar tokens core ending → ⊥
  sum_of_stops w none (whole n) = n _ _ w
  sum_of_stops w none (further w' u' s') = none _ _ (IsUnit-at signatures scope (one_sign w w').1 u')

  pub sum_stops : {room : ℕ} {tokens rest behind : List Token} {op : BinaryOp} {sofar : CoreExpression}
      → SumReads room tokens sofar rest → IsSign rest op behind → Nothing (IsUnit signatures scope room behind)
      → Nothing (IsSum signatures scope room tokens)
  sum_stops r w none core ending s = sum_of_stops w none (r.back core ending s)

  pub no_sum : {room : ℕ} {tokens : List Token} → Nothing (IsUnit signatures scope room tokens) → Nothing (IsSum signatures scope room tokens)
  no_sum none core ending (units u s) = none _ _ u

  -- a list is read up to some values and what is left
  pub record ListReads (room : ℕ) (tokens : List Token) (cores : List CoreExpression) (rest : List Token) : Type 0 where
    pub forth : (others : List CoreExpression) (ending : List Token) → IsList signatures scope room rest others ending
        → IsList signatures scope room tokens (cores ++ others) ending
    pub back : (all : List CoreExpression) (ending : List Token) → IsList signatures scope room tokens all ending
        → (others : List CoreExpression) × (all ≡ cores ++ others) × IsList signatures scope room rest others ending

  pub list_begins : (room : ℕ) (tokens : List Token) → ListReads room tokens [] tokens
  list_begins room tokens = record { forth = λ others ending l. l; back = λ all ending l. (all, refl, l) }

  list_of_back : {room : ℕ} {rest middle behind ending : List Token} {core : CoreExpression} {others : List CoreExpression}
      → IsExpression signatures scope room rest core middle → Stands (codes ",") middle behind → IsList signatures scope room rest others ending
      → (later : List CoreExpression) × (others ≡ core ∷ later) × IsList signatures scope room behind later ending
  list_of_back x w (last x' w') = let e = one_expression signatures scope x x' in absurd (not_both w (Stands-at signatures scope e.1 w') refl)
  list_of_back x w (more {cores = later} x' w' l') =
      let e = one_expression signatures scope x x' in
      (later, ap (λ y. y ∷ later) (sym e.0), IsList-at signatures scope (one_rest w (Stands-at signatures scope e.1 w')) l')

  pub list_goes_on : {room : ℕ} {tokens rest middle behind : List Token} {core : CoreExpression} (cores : List CoreExpression)
      → ListReads room tokens cores rest → IsExpression signatures scope room rest core middle → Stands (codes ",") middle behind
      → ListReads room tokens (cores ++ core ∷ []) behind
  list_goes_on {core = core} cores r x w = record {
    forth = λ others ending l. rw append_assoc (r.forth (core ∷ others) ending (more x w l));
    back = λ all ending l.
        let b = r.back all ending l in
        let f = list_of_back x w b.2 in
        (f.0, b.1 ∙ ap (λ y. cores ++ y) f.1 ∙ sym (append_assoc cores (core ∷ []) f.0), f.2);
  }

  pub list_ends : {room : ℕ} {tokens rest middle ending : List Token} {core : CoreExpression} {cores : List CoreExpression}
      → ListReads room tokens cores rest → IsExpression signatures scope room rest core middle → Stands (codes ")") middle ending
      → IsList signatures scope room tokens (cores ++ core ∷ []) ending
  list_ends r x w = r.forth _ _ (last x w)

  list_first : {room : ℕ} {rest ending : List Token} {others : List CoreExpression}
      → Nothing (IsExpression signatures scope room rest) → IsList signatures scope room rest others ending → ⊥
  list_first none (last x w) = none _ _ x
  list_first none (more x w l) = none _ _ x

  pub no_value : {room : ℕ} {tokens rest : List Token} {cores : List CoreExpression}
      → ListReads room tokens cores rest → Nothing (IsExpression signatures scope room rest) → Nothing (IsList signatures scope room tokens)
  no_value r none all ending l = list_first none (r.back all ending l).2

  list_second : {room : ℕ} {rest middle ending : List Token} {core : CoreExpression} {others : List CoreExpression}
      → IsExpression signatures scope room rest core middle → Absent (codes ")") middle → Absent (codes ",") middle
      → IsList signatures scope room rest others ending → ⊥
  list_second x a b (last x' w') = let e = one_expression signatures scope x x' in a _ (Stands-at signatures scope e.1 w')
  list_second x a b (more x' w' l') = let e = one_expression signatures scope x x' in b _ (Stands-at signatures scope e.1 w')

  pub no_comma : {room : ℕ} {tokens rest middle : List Token} {core : CoreExpression} {cores : List CoreExpression}
      → ListReads room tokens cores rest → IsExpression signatures scope room rest core middle → Absent (codes ")") middle → Absent (codes ",") middle
      → Nothing (IsList signatures scope room tokens)
  no_comma r x a b all ending l = list_second x a b (r.back all ending l).2
