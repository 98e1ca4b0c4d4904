use Rattle.std.proofs.Common.{◌≡◌, ℕ, sym, subst, rules, arith, length, List, [], Bor}
use Rattle.std.specs.Prelude.{Some, None}
use Rattle.ct_base.specs.declared.lexical.Token.{Token}
use Rattle.ct_core.specs.declared.trees.CoreExpression.{CoreExpression}
use Rattle.ct_core.specs.declared.trees.CoreExpression.TheVariants.{Call, Function}
use Rattle.ct_form.specs.declared.names.Signature.{Signature}
use Rattle.ct_form.specs.Expressions.{IsExpression, IsSum, IsUnit, IsCall, IsArguments, IsList, IsGroup, IsValueOfCall, sum, less, whole, number, variable, named, none, some}
use Rattle.ct_form.specs.Names.{callee, variable_number, type_of}
use Rattle.ct_form.proofs.Misses.{missed, handed_on, passed_on}
use Rattle.ct_form.proofs.Shorter.{unit-shorter, sign-shorter, expression-shorter}
use Rattle.ct_form.proofs.OneWord.{Stands-shorter}
use Rattle.ct_form.proofs.Sums.{SumReads, ListReads, sum_begins, sum_goes_on, sum_stops, list_goes_on, list_ends, no_comma}
use Rattle.ct_form.proofs.Units.{no_right, no_closing, no_call_name, no_call_open, no_callee, no_such_count, no_group, is_group, no_unit_name, no_value_of_call, is_value_of_call, no_variable, no_arguments, no_gift}
use Rattle.ct_form.proofs.expressions.Names.+expression.Goals as goal

pub arguments-returns-in-Ok : goal.arguments-returns-in-Ok
arguments-returns-in-Ok t c =
    let e : c.new.result ≡ [] = c.new.ensures in
    subst (λ (l : List CoreExpression). IsArguments c.args.self.now.functions.now c.args.self.now.scope.now c.args.room c.args.tokens.now l c.in-Ok.rest.now) (sym e) (none c.in-Ok.ensures.found)

pub arguments-returns : goal.arguments-returns
arguments-returns t c =
    passed_on (λ x. x.0) (λ x. x.0) (λ x. x.1.now) (IsList c.args.self.now.functions.now c.args.self.now.scope.now c.args.room c.args.tokens.now) (IsArguments c.args.self.now.functions.now c.args.self.now.scope.now c.args.room c.args.tokens.now) c.list.result c.list.ensures
    (λ x l. some c.in_default.ensures.absent l) (no_arguments c.args.self.now.functions.now c.args.self.now.scope.now c.in_default.ensures.absent)

pub call-returns-in_err-name : goal.call-returns-in_err-name
call-returns-in_err-name t c =
    missed _ _ (λ (what : Signature × CoreExpression). IsCall c.args.self.now.functions.now c.args.self.now.scope.now c.args.room c.args.tokens.now what.0 what.1) c.from_residual.result c.in_err-name.field-0.0 c.from_residual.ensures.1 (λ what rest k. no_call_name c.args.self.now.functions.now c.args.self.now.scope.now c.in_err-name.ensures.absent k)

pub call-returns-in_err-inside : goal.call-returns-in_err-inside
call-returns-in_err-inside t c =
    missed _ _ (λ (what : Signature × CoreExpression). IsCall c.args.self.now.functions.now c.args.self.now.scope.now c.args.room c.args.tokens.now what.0 what.1) c.from_residual-in_err-inside.result c.in_err-inside.field-0.0 c.from_residual-in_err-inside.ensures.1 (λ what rest k. no_call_open c.args.self.now.functions.now c.args.self.now.scope.now c.in_ok-name.ensures.found c.in_err-inside.ensures.absent k)

pub call-returns-in_default : goal.call-returns-in_default
call-returns-in_default t c what rest k =
    let e : callee c.args.self.now.functions.now c.args.self.now.scope.now c.in_ok-name.name.now.text ≡ None = search rules in
    no_callee c.args.self.now.functions.now c.args.self.now.scope.now c.in_ok-name.ensures.found e k

pub call-returns-then-len-signature : goal.call-returns-then-len-signature
call-returns-then-len-signature t c what rest k =
    let e : callee c.args.self.now.functions.now c.args.self.now.scope.now c.in_ok-name.name.now.text ≡ Some c.in-Some.signature.now = search rules in
    let l : length c.in_ok-arguments.arguments ≡ c.in-Some.signature.now.parameters → ⊥ = λ x. omega (arith, x) in
    no_such_count c.args.self.now.functions.now c.args.self.now.scope.now c.in_ok-name.ensures.found c.in_ok-inside.ensures.found e c.in_ok-arguments.ensures l k

pub call-returns : goal.call-returns
call-returns t c =
    let e : callee c.args.self.now.functions.now c.args.self.now.scope.now c.in_ok-name.name.now.text ≡ Some c.in-Some.signature.now = search rules in
    let l : length c.in_ok-arguments.arguments ≡ c.in-Some.signature.now.parameters = omega arith in
    subst (λ (x : CoreExpression). IsCall c.args.self.now.functions.now c.args.self.now.scope.now c.args.room c.args.tokens.now c.in-Some.signature.now x c.in_ok-arguments.rest.now) (sym c.in_ok-core.ensures)
    (subst (λ (n : List ℕ). IsCall c.args.self.now.functions.now c.args.self.now.scope.now c.args.room c.args.tokens.now c.in-Some.signature.now (Call (type_of c.in-Some.signature.now) (Function n) c.in_ok-arguments.arguments) c.in_ok-arguments.rest.now) (sym c.as_slice-name.ensures)
    (named c.in_ok-name.ensures.found c.in_ok-inside.ensures.found e (omega arith) c.in_ok-arguments.ensures l))

pub expression-returns-in_default : goal.expression-returns-in_default
expression-returns-in_default t c =
    sum c.in_ok-left.ensures c.in_default.ensures.absent

pub expression-returns-in_err-right : goal.expression-returns-in_err-right
expression-returns-in_err-right t c =
    handed_on (λ (x : CoreExpression × Bor (List Token)). x.0) (λ x. x.1.now) (IsSum c.args.self.now.functions.now c.args.self.now.scope.now c.args.room c.in-Ok.behind.now) _ _ (IsExpression c.args.self.now.functions.now c.args.self.now.scope.now c.args.room c.args.tokens.now) c.from_residual-in_err-right.result c.in_err-right.field-0.0 c.from_residual-in_err-right.ensures.1 c.in_err-right.ensures
    (no_right c.args.self.now.functions.now c.args.self.now.scope.now c.in_ok-left.ensures c.in-Ok.ensures.found)

pub expression-returns : goal.expression-returns
expression-returns t c =
    subst (λ (e : CoreExpression). IsExpression c.args.self.now.functions.now c.args.self.now.scope.now c.args.room c.args.tokens.now e c.in_ok-right.rest.now) (sym c.in_ok-both.ensures)
    (less c.in_ok-left.ensures c.in-Ok.ensures.found c.in_ok-right.ensures)

pub group-returns-in_err-rest : goal.group-returns-in_err-rest
group-returns-in_err-rest t c =
    missed _ _ (IsGroup c.args.self.now.functions.now c.args.self.now.scope.now c.args.room c.args.inside.now) c.from_residual-in_err-rest.result c.in_err-rest.field-0.0 c.from_residual-in_err-rest.ensures.1 (no_closing c.args.self.now.functions.now c.args.self.now.scope.now c.in_ok-core.ensures c.in_err-rest.ensures.absent)

pub list-returns-in-Ok : goal.list-returns-in-Ok
list-returns-in-Ok t c =
    subst (λ (l : List CoreExpression). IsList c.args.self.now.functions.now c.args.self.now.scope.now c.args.room c.args.tokens.now l c.in-Ok.end.now) (sym c.in_ok-push.ensures.ok)
    (list_ends c.args.self.now.functions.now c.args.self.now.scope.now c.loop-cores.invariant c.in_ok-core.ensures c.in-Ok.ensures.found)

pub list-returns-in_err-rest : goal.list-returns-in_err-rest
list-returns-in_err-rest t c =
    missed _ _ (IsList c.args.self.now.functions.now c.args.self.now.scope.now c.args.room c.args.tokens.now) c.from_residual-in_err-rest.result c.in_err-rest.field-0.0 c.from_residual-in_err-rest.ensures.1 (no_comma c.args.self.now.functions.now c.args.self.now.scope.now c.loop-cores.invariant c.in_ok-core.ensures c.in_default.ensures.absent c.in_err-rest.ensures.absent)

pub list-loop-cores-smaller : goal.list-loop-cores-smaller
list-loop-cores-smaller t c =
    let a = expression-shorter c.args.self.now.functions.now c.args.self.now.scope.now c.in_ok-core.ensures in
    let b = Stands-shorter c.in_ok-rest.ensures.found in
    omega arith

pub list-loop-cores-preserved : goal.list-loop-cores-preserved
list-loop-cores-preserved t c =
    subst (λ (l : List CoreExpression). ListReads c.args.self.now.functions.now c.args.self.now.scope.now c.args.room c.args.tokens.now l c.in_ok-rest.rest.now) (sym c.in_ok-push.ensures.ok)
    (list_goes_on c.args.self.now.functions.now c.args.self.now.scope.now c.loop-cores.cores c.loop-cores.invariant c.in_ok-core.ensures c.in_ok-rest.ensures.found)

pub sum-loop-op-init : goal.sum-loop-op-init
sum-loop-op-init t c =
    sum_begins c.args.self.now.functions.now c.args.self.now.scope.now c.in_ok-sofar.ensures

pub sum-returns-in_err-right : goal.sum-returns-in_err-right
sum-returns-in_err-right t c =
    handed_on (λ (x : CoreExpression × Bor (List Token)). x.0) (λ x. x.1.now) (IsUnit c.args.self.now.functions.now c.args.self.now.scope.now c.args.room c.in-Some.behind.now) _ _ (IsSum c.args.self.now.functions.now c.args.self.now.scope.now c.args.room c.args.tokens.now) c.from_residual-in_err-right.result c.in_err-right.field-0.0 c.from_residual-in_err-right.ensures.1 c.in_err-right.ensures
    (sum_stops c.args.self.now.functions.now c.args.self.now.scope.now c.loop-op.invariant c.in-Some.ensures.found)

pub sum-loop-op-smaller : goal.sum-loop-op-smaller
sum-loop-op-smaller t c =
    let a = unit-shorter c.args.self.now.functions.now c.args.self.now.scope.now c.in_ok-right.ensures in
    let b = sign-shorter c.in-Some.ensures.found in
    omega arith

pub sum-loop-op-preserved : goal.sum-loop-op-preserved
sum-loop-op-preserved t c =
    subst (λ (e : CoreExpression). SumReads c.args.self.now.functions.now c.args.self.now.scope.now c.args.room c.args.tokens.now e c.in_ok-right.after.now) (sym c.in_ok-sofar-2.ensures)
    (sum_goes_on c.args.self.now.functions.now c.args.self.now.scope.now c.loop-op.invariant c.in-Some.ensures.found c.in_ok-right.ensures)

pub sum-returns : goal.sum-returns
sum-returns t c =
    c.loop-op.invariant.forth _ _ (whole c.in_default.ensures.none)

pub unit-returns-in-Ok : goal.unit-returns-in-Ok
unit-returns-in-Ok t c =
    passed_on (λ x. x.0) (λ x. x.0) (λ x. x.1.now) (IsGroup c.args.self.now.functions.now c.args.self.now.scope.now c.args.room c.in-Ok.inside.now) (IsUnit c.args.self.now.functions.now c.args.self.now.scope.now c.args.room c.args.tokens.now) c.group.result c.group.ensures
    (λ x g. is_group c.args.self.now.functions.now c.args.self.now.scope.now c.in-Ok.ensures.found g) (no_group c.args.self.now.functions.now c.args.self.now.scope.now c.in-Ok.ensures.found)

pub unit-returns-in-Some : goal.unit-returns-in-Some
unit-returns-in-Some t c =
    subst (λ (x : CoreExpression). IsUnit c.args.self.now.functions.now c.args.self.now.scope.now c.args.room c.args.tokens.now x c.in-Some.rest.now) (sym c.constant.ensures) (number (rw c.in-Some.is at c.in_ok-value.ensures.found))

pub unit-returns-in_err-name : goal.unit-returns-in_err-name
unit-returns-in_err-name t c =
    missed _ _ (IsUnit c.args.self.now.functions.now c.args.self.now.scope.now c.args.room c.args.tokens.now) c.from_residual-in_err-name.result c.in_err-name.field-0.0 c.from_residual-in_err-name.ensures.1
    (no_unit_name c.args.self.now.functions.now c.args.self.now.scope.now c.in_default.ensures.absent (rw c.in_default-2.is at c.in_ok-value.ensures.none) c.in_err-name.ensures.absent)

pub unit-returns-in-Ok-word : goal.unit-returns-in-Ok-word
unit-returns-in-Ok-word t c =
    passed_on (λ x. x.0) (λ x. x.0) (λ x. x.1.now) (IsValueOfCall c.args.self.now.functions.now c.args.self.now.scope.now c.args.room c.args.tokens.now) (IsUnit c.args.self.now.functions.now c.args.self.now.scope.now c.args.room c.args.tokens.now) c.value_of_call.result c.value_of_call.ensures
    (λ x g. is_value_of_call c.args.self.now.functions.now c.args.self.now.scope.now g) (no_value_of_call c.args.self.now.functions.now c.args.self.now.scope.now c.in_ok-name.ensures.found c.in-Ok-word.ensures.found)

pub unit-returns-in_default-number_of : goal.unit-returns-in_default-number_of
unit-returns-in_default-number_of t c =
    let e : variable_number c.args.self.now.scope.now c.in_ok-name.name.now.text ≡ None = search rules in
    no_variable c.args.self.now.functions.now c.args.self.now.scope.now c.in_ok-name.ensures.found c.in_default-word.ensures.absent e

pub unit-returns : goal.unit-returns
unit-returns t c =
    let e : variable_number c.args.self.now.scope.now c.in_ok-name.name.now.text ≡ Some c.in-Some-number_of.variable = search rules in
    subst (λ (x : CoreExpression). IsUnit c.args.self.now.functions.now c.args.self.now.scope.now c.args.room c.args.tokens.now x c.in_ok-name.rest.now) (sym c.in_ok-value_of.ensures)
    (variable c.in_ok-name.ensures.found c.in_default-word.ensures.absent e)

pub value_of_call-returns-in_err-signature : goal.value_of_call-returns-in_err-signature
value_of_call-returns-in_err-signature t c =
    handed_on (λ (x : Bor Signature × CoreExpression × Bor (List Token)). (x.0.now, x.1)) (λ x. x.2.now) (λ (what : Signature × CoreExpression). IsCall c.args.self.now.functions.now c.args.self.now.scope.now c.args.room c.args.tokens.now what.0 what.1) _ _ (IsValueOfCall c.args.self.now.functions.now c.args.self.now.scope.now c.args.room c.args.tokens.now)
    c.from_residual.result c.in_err-signature.field-0.0 c.from_residual.ensures.1 c.in_err-signature.ensures (λ n what rest g. n (g.signature, what) rest g.is_call)

pub value_of_call-returns-else-signature : goal.value_of_call-returns-else-signature
value_of_call-returns-else-signature t c =
    no_gift c.args.self.now.functions.now c.args.self.now.scope.now c.in_ok-signature.ensures (λ g. cc)
