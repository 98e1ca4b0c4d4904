use Rattle.std.proofs.Common.{◌≡◌, ℕ, ◌-◌, ◌<◌, List, Bor, length, take, drop, refl, subst, rules, arith}
use Rattle.ct_base.specs.declared.lexical.Token.{Token}
use Rattle.ct_core.specs.declared.trees.CoreExpression.{CoreExpression}
use Rattle.ct_core.specs.declared.trees.CoreStatement.{CoreStatement}
use Rattle.ct_form.specs.declared.names.Binding.{Binding}
use Rattle.ct_form.specs.declared.places.Place.{Place}
use Rattle.ct_form.specs.declared.statements.Inside.{Inside}
use Rattle.ct_form.specs.Readers.{AnswersStatement, at_of}
use Rattle.ct_form.specs.Statements.{IsStatement, IsBody, IsTest}
use Rattle.ct_form.proofs.Misses.{handed_on}
use Rattle.ct_form.proofs.Declarations.{DeclaresThere}
use Rattle.ct_form.proofs.Blocks.{BlockReads-to, whole_take, no_drop, block_declares, block_states, block_closes, block_bad_declaration, block_bad_statement, declaration-shorter}
use Rattle.ct_form.proofs.ShorterStatement.{statement-shorter}
use Rattle.ct_form.proofs.StatementParts.{no_statement}
use Rattle.ct_form.proofs.WhichStatement.{is_block, no_block_body, is_only, is_either, no_choice_test, no_choice_yes, no_choice_no, is_turn, no_turn_test, no_turn_part}
use Rattle.ct_form.proofs.statements.Context.+statement.Goals as goal

pub block-returns-in_err-numbers-clause-statement : goal.block-returns-in_err-numbers-clause-statement
block-returns-in_err-numbers-clause-statement t c =
    let n : c.len-outer.result ≡ length c.args.scope.now.items = search rules in
    let b = whole_take c.len-outer.result c.args.scope.now.items n in
    let o = no_drop c.len-outer.result c.args.scope.now.items n in
    handed_on (λ (x : Inside × Place). (x.0.numbers, x.0.parts)) (λ x. at_of x.1) (λ (what : List ℕ × List CoreStatement). IsBody c.args.self.now.functions.now c.args.self.now.unity c.args.self.now.gives_value (c.args.room - 1) (take c.len-outer.result c.args.scope.now.items) (drop c.len-outer.result c.args.scope.now.items) (at_of c.in_ok-place.place) what.0 what.1)
    (λ (x : CoreStatement × Place). x.0) (λ x. at_of x.1) (IsStatement c.args.self.now.functions.now c.args.self.now.unity c.args.self.now.gives_value c.args.room c.args.scope.now.items (at_of c.args.place))
    c.from_residual-in_err-numbers.result c.in_err-numbers.field-0.0 c.from_residual-in_err-numbers.ensures.1 c.in_err-numbers.ensures.body
    (no_block_body c.args.self.now.functions.now c.args.self.now.unity c.args.self.now.gives_value c.requires b o c.in_ok-place.ensures)

pub block-returns-clause-statement : goal.block-returns-clause-statement
block-returns-clause-statement t c =
    let n : c.len-outer.result ≡ length c.args.scope.now.items = search rules in
    let b = whole_take c.len-outer.result c.args.scope.now.items n in
    let o = no_drop c.len-outer.result c.args.scope.now.items n in
    let p : 0 < c.args.room = omega arith in
    is_block c.args.self.now.functions.now c.args.self.now.unity c.args.self.now.gives_value c.requires p c.mark-mark.ensures b o c.in_ok-place.ensures c.in_ok-numbers.ensures.body

pub body-returns-in-Ok-clause-body : goal.body-returns-in-Ok-clause-body
body-returns-in-Ok-clause-body t c = block_closes c.args.self.now.functions.now c.args.self.now.unity c.args.self.now.gives_value c.loop-rest.invariant c.in-Ok.ensures.found c.moved.ensures

pub body-returns-in_err-number-clause-body : goal.body-returns-in_err-number-clause-body
body-returns-in_err-number-clause-body t c =
    handed_on (λ (x : ℕ × CoreStatement × Place). (x.1, c.declaration.new.scope.items)) (λ x. at_of x.2) (DeclaresThere c.args.self.now.functions.now (take c.args.outer c.loop-rest.scope.items) (drop c.args.outer c.loop-rest.scope.items) (at_of c.loop-rest.place) c.in-Ok-word.behind.now)
    (λ (x : Inside × Place). (x.0.numbers, x.0.parts)) (λ x. at_of x.1) (λ (what : List ℕ × List CoreStatement). IsBody c.args.self.now.functions.now c.args.self.now.unity c.args.self.now.gives_value c.args.room (take c.args.outer c.args.scope.now.items) (drop c.args.outer c.args.scope.now.items) (at_of c.args.place) what.0 what.1)
    c.from_residual.result c.in_err-number.field-0.0 c.from_residual.ensures.1 c.in_err-number.ensures.declaration
    (block_bad_declaration c.args.self.now.functions.now c.args.self.now.unity c.args.self.now.gives_value c.loop-rest.invariant c.in-Ok-word.ensures.found)

pub body-loop-rest-smaller-in-Ok-word : goal.body-loop-rest-smaller-in-Ok-word
body-loop-rest-smaller-in-Ok-word t c =
    let d = c.in_ok-number.ensures.declaration in
    let a = declaration-shorter c.in-Ok-word.ensures.found d.1 in
    omega arith

pub body-loop-rest-preserved-in-Ok-word : goal.body-loop-rest-preserved-in-Ok-word
body-loop-rest-preserved-in-Ok-word t c =
    let d = c.in_ok-number.ensures.declaration in
    BlockReads-to c.args.self.now.functions.now c.args.self.now.unity c.args.self.now.gives_value c.in_ok-push.ensures.ok c.in_ok-push-2.ensures.ok
    (block_declares c.args.self.now.functions.now c.args.self.now.unity c.args.self.now.gives_value c.loop-rest.invariant c.in-Ok-word.ensures.found d.1 d.2 c.in_ok-number.ensures.number)

pub body-returns-in_err-part-clause-body : goal.body-returns-in_err-part-clause-body
body-returns-in_err-part-clause-body t c =
    handed_on (λ (x : CoreStatement × Place). x.0) (λ x. at_of x.1) (IsStatement c.args.self.now.functions.now c.args.self.now.unity c.args.self.now.gives_value c.args.room c.loop-rest.scope.items (at_of c.loop-rest.place))
    (λ (x : Inside × Place). (x.0.numbers, x.0.parts)) (λ x. at_of x.1) (λ (what : List ℕ × List CoreStatement). IsBody c.args.self.now.functions.now c.args.self.now.unity c.args.self.now.gives_value c.args.room (take c.args.outer c.args.scope.now.items) (drop c.args.outer c.args.scope.now.items) (at_of c.args.place) what.0 what.1)
    c.from_residual-in_err-part.result c.in_err-part.field-0.0 c.from_residual-in_err-part.ensures.1 c.in_err-part.ensures.statement
    (block_bad_statement c.args.self.now.functions.now c.args.self.now.unity c.args.self.now.gives_value c.loop-rest.invariant c.in_default.ensures.absent c.in_default-word.ensures.absent)

pub body-loop-rest-smaller : goal.body-loop-rest-smaller
body-loop-rest-smaller t c =
    let a = statement-shorter c.args.self.now.functions.now c.args.self.now.unity c.args.self.now.gives_value c.in_ok-part.ensures.statement in
    omega arith

pub body-loop-rest-preserved : goal.body-loop-rest-preserved
body-loop-rest-preserved t c =
    BlockReads-to c.args.self.now.functions.now c.args.self.now.unity c.args.self.now.gives_value refl c.in_ok-push-3.ensures.ok
    (block_states c.args.self.now.functions.now c.args.self.now.unity c.args.self.now.gives_value c.loop-rest.invariant c.in_default.ensures.absent c.in_default-word.ensures.absent c.in_ok-part.ensures.statement c.in_ok-part.ensures.scope)

pub choice-returns-in_err-test-clause-statement : goal.choice-returns-in_err-test-clause-statement
choice-returns-in_err-test-clause-statement t c =
    handed_on (λ (x : CoreExpression × Bor (List Token)). x.0) (λ x. x.1.now) (IsTest c.args.self.now.functions.now c.as_slice.result.now c.args.behind.now)
    (λ (x : CoreStatement × Place). x.0) (λ x. at_of x.1) (IsStatement c.args.self.now.functions.now c.args.self.now.unity c.args.self.now.gives_value c.args.room c.args.scope.now.items (at_of c.args.place))
    c.from_residual.result c.in_err-test.field-0.0 c.from_residual.ensures.1 c.in_err-test.ensures
    (no_choice_test c.args.self.now.functions.now c.args.self.now.unity c.args.self.now.gives_value c.requires c.as_slice.ensures.value)

pub choice-returns-in_err-yes-clause-statement : goal.choice-returns-in_err-yes-clause-statement
choice-returns-in_err-yes-clause-statement t c =
    handed_on (λ (x : CoreStatement × Place). x.0) (λ x. at_of x.1) (IsStatement c.args.self.now.functions.now c.args.self.now.unity c.args.self.now.gives_value (c.args.room - 1) c.args.scope.now.items (at_of c.in_ok-place.place))
    (λ (x : CoreStatement × Place). x.0) (λ x. at_of x.1) (IsStatement c.args.self.now.functions.now c.args.self.now.unity c.args.self.now.gives_value c.args.room c.args.scope.now.items (at_of c.args.place))
    c.from_residual-in_err-yes.result c.in_err-yes.field-0.0 c.from_residual-in_err-yes.ensures.1 c.in_err-yes.ensures.statement
    (no_choice_yes c.args.self.now.functions.now c.args.self.now.unity c.args.self.now.gives_value c.requires c.as_slice.ensures.value c.in_ok-test.ensures c.in_ok-place.ensures)

pub choice-returns-in_default-clause-statement : goal.choice-returns-in_default-clause-statement
choice-returns-in_default-clause-statement t c =
    let p : 0 < c.args.room = omega arith in
    is_only c.args.self.now.functions.now c.args.self.now.unity c.args.self.now.gives_value c.requires p c.mark-mark.ensures c.as_slice.ensures.value c.in_ok-test.ensures c.in_ok-place.ensures c.in_ok-yes.ensures.statement c.in_ok-first.ensures c.in_default.ensures.absent

pub choice-returns-in_err-no-clause-statement : goal.choice-returns-in_err-no-clause-statement
choice-returns-in_err-no-clause-statement t c =
    handed_on (λ (x : CoreStatement × Place). x.0) (λ x. at_of x.1) (IsStatement c.args.self.now.functions.now c.args.self.now.unity c.args.self.now.gives_value (c.args.room - 1) c.statement.new.scope.items (at_of c.moved.result))
    (λ (x : CoreStatement × Place). x.0) (λ x. at_of x.1) (IsStatement c.args.self.now.functions.now c.args.self.now.unity c.args.self.now.gives_value c.args.room c.args.scope.now.items (at_of c.args.place))
    c.from_residual-in_err-no.result c.in_err-no.field-0.0 c.from_residual-in_err-no.ensures.1 c.in_err-no.ensures.statement
    (no_choice_no c.args.self.now.functions.now c.args.self.now.unity c.args.self.now.gives_value c.requires c.as_slice.ensures.value c.in_ok-test.ensures c.in_ok-place.ensures c.in_ok-yes.ensures.statement c.in-Ok.ensures.found c.in_ok-yes.ensures.scope c.moved.ensures)

pub choice-returns-clause-statement : goal.choice-returns-clause-statement
choice-returns-clause-statement t c =
    let p : 0 < c.args.room = omega arith in
    is_either c.args.self.now.functions.now c.args.self.now.unity c.args.self.now.gives_value c.requires p c.mark-mark.ensures c.as_slice.ensures.value c.in_ok-test.ensures c.in_ok-place.ensures c.in_ok-yes.ensures.statement c.in_ok-first.ensures c.in-Ok.ensures.found
    c.in_ok-yes.ensures.scope c.moved.ensures c.in_ok-no.ensures.statement c.in_ok-second.ensures

pub statement-returns-in-Ok-clause-statement : goal.statement-returns-in-Ok-clause-statement
statement-returns-in-Ok-clause-statement t c =
    subst (λ (scope : List Binding). AnswersStatement c.args.self.now c.args.room scope (at_of c.args.place) c.named.result) c.as_slice.ensures.value (c.named.ensures c.args.room)

pub statement-returns-in-Ok-word-4-clause-statement : goal.statement-returns-in-Ok-word-4-clause-statement
statement-returns-in-Ok-word-4-clause-statement t c =
    subst (λ (scope : List Binding). AnswersStatement c.args.self.now c.args.room scope (at_of c.args.place) c.returned.result) c.as_slice-in-Ok-word-4.ensures.value (c.returned.ensures c.args.room)

pub statement-returns-in-Ok-word-5-clause-statement : goal.statement-returns-in-Ok-word-5-clause-statement
statement-returns-in-Ok-word-5-clause-statement t c =
    subst (λ (scope : List Binding). AnswersStatement c.args.self.now c.args.room scope (at_of c.args.place) c.assertion.result) c.as_slice-in-Ok-word-5.ensures.value (c.assertion.ensures c.args.room)

pub statement-returns-clause-statement : goal.statement-returns-clause-statement
statement-returns-clause-statement t c =
    no_statement c.args.self.now.functions.now c.args.self.now.unity c.args.self.now.gives_value c.in_default.ensures.absent c.in_default-word.ensures.absent c.in_default-word-2.ensures.absent c.in_default-word-3.ensures.absent c.in_default-word-4.ensures.absent c.in_default-word-5.ensures.absent

pub turns-returns-in_err-test-clause-statement : goal.turns-returns-in_err-test-clause-statement
turns-returns-in_err-test-clause-statement t c =
    handed_on (λ (x : CoreExpression × Bor (List Token)). x.0) (λ x. x.1.now) (IsTest c.args.self.now.functions.now c.as_slice.result.now c.args.behind.now)
    (λ (x : CoreStatement × Place). x.0) (λ x. at_of x.1) (IsStatement c.args.self.now.functions.now c.args.self.now.unity c.args.self.now.gives_value c.args.room c.args.scope.now.items (at_of c.args.place))
    c.from_residual.result c.in_err-test.field-0.0 c.from_residual.ensures.1 c.in_err-test.ensures
    (no_turn_test c.args.self.now.functions.now c.args.self.now.unity c.args.self.now.gives_value c.requires c.as_slice.ensures.value)

pub turns-returns-in_err-turn-clause-statement : goal.turns-returns-in_err-turn-clause-statement
turns-returns-in_err-turn-clause-statement t c =
    handed_on (λ (x : CoreStatement × Place). x.0) (λ x. at_of x.1) (IsStatement c.args.self.now.functions.now c.args.self.now.unity c.args.self.now.gives_value (c.args.room - 1) c.args.scope.now.items (at_of c.in_ok-place.place))
    (λ (x : CoreStatement × Place). x.0) (λ x. at_of x.1) (IsStatement c.args.self.now.functions.now c.args.self.now.unity c.args.self.now.gives_value c.args.room c.args.scope.now.items (at_of c.args.place))
    c.from_residual-in_err-turn.result c.in_err-turn.field-0.0 c.from_residual-in_err-turn.ensures.1 c.in_err-turn.ensures.statement
    (no_turn_part c.args.self.now.functions.now c.args.self.now.unity c.args.self.now.gives_value c.requires c.as_slice.ensures.value c.in_ok-test.ensures c.in_ok-place.ensures)

pub turns-returns-clause-statement : goal.turns-returns-clause-statement
turns-returns-clause-statement t c =
    let p : 0 < c.args.room = omega arith in
    is_turn c.args.self.now.functions.now c.args.self.now.unity c.args.self.now.gives_value c.requires p c.mark-mark.ensures c.as_slice.ensures.value c.in_ok-test.ensures c.in_ok-place.ensures c.in_ok-turn.ensures.statement c.in_ok-part.ensures
