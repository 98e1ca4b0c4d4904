-- What follows an expression is shorter.
use Rattle.std.proofs.Common.{ℕ, ◌<◌, ◌≤◌, List, length, arith}
use Rattle.ct_base.specs.declared.lexical.Token.{Token}
use Rattle.ct_base.specs.declared.operators.BinaryOp.{BinaryOp}
use Rattle.ct_core.specs.declared.trees.CoreExpression.{CoreExpression}
use Rattle.ct_form.specs.declared.names.Binding.{Binding}
use Rattle.ct_form.specs.declared.names.Signature.{Signature}
use Rattle.ct_form.specs.Expressions.{IsExpression, IsSum, IsSumOf, IsSign, IsUnit, IsCall, IsArguments, IsList, sum, less, units, whole, further, plus, minus, number, variable, call, group, named, none, some, last, more}
use Rattle.ct_form.proofs.OneWord.{Stands-shorter, StandsName-shorter, StandsNumber-shorter}

pub sign-shorter : {t r : List Token} {op : BinaryOp} → IsSign t op r → length r < length t
sign-shorter (plus w) = Stands-shorter w
sign-shorter (minus w) = Stands-shorter w

module _ (signatures : List Signature) (scope : List Binding) where
  mutual
    pub expression-shorter : {room : ℕ} {t r : List Token} {c : CoreExpression} → IsExpression signatures scope room t c r → length r < length t
    expression-shorter (sum s n) = sum-shorter s
    expression-shorter (less s w u) =
        let a = sum-shorter s in
        let b = Stands-shorter w in
        let c = sum-shorter u in
        omega arith

    pub sum-shorter : {room : ℕ} {t r : List Token} {c : CoreExpression} → IsSum signatures scope room t c r → length r < length t
    sum-shorter (units u s) =
        let a = unit-shorter u in
        let b = sum_of-shorter s in
        omega arith

    sum_of-shorter : {room : ℕ} {t r : List Token} {a c : CoreExpression} → IsSumOf signatures scope room a t c r → length r ≤ length t
    sum_of-shorter (whole n) = omega arith
    sum_of-shorter (further w u s) =
        let a = sign-shorter w in
        let b = unit-shorter u in
        let c = sum_of-shorter s in
        omega arith

    pub unit-shorter : {room : ℕ} {t r : List Token} {c : CoreExpression} → IsUnit signatures scope room t c r → length r < length t
    unit-shorter (number n) = StandsNumber-shorter n
    unit-shorter (variable v a k) = StandsName-shorter v
    unit-shorter (call c g) = call-shorter c
    unit-shorter (group w p x z) =
        let a = Stands-shorter w in
        let b = expression-shorter x in
        let c = Stands-shorter z in
        omega arith

    pub call-shorter : {room : ℕ} {t r : List Token} {s : Signature} {c : CoreExpression} → IsCall signatures scope room t s c r → length r < length t
    call-shorter (named v w k p l h) =
        let a = StandsName-shorter v in
        let b = Stands-shorter w in
        let c = arguments-shorter l in
        omega arith

    pub arguments-shorter : {room : ℕ} {t r : List Token} {c : List CoreExpression} → IsArguments signatures scope room t c r → length r < length t
    arguments-shorter (none w) = Stands-shorter w
    arguments-shorter (some a l) = list-shorter l

    pub list-shorter : {room : ℕ} {t r : List Token} {c : List CoreExpression} → IsList signatures scope room t c r → length r < length t
    list-shorter (last x w) =
        let a = expression-shorter x in
        let b = Stands-shorter w in
        omega arith
    list-shorter (more x w l) =
        let a = expression-shorter x in
        let b = Stands-shorter w in
        let c = list-shorter l in
        omega arith
