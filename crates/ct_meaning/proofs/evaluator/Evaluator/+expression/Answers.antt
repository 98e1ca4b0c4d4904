use Rattle.std.proofs.Common.{rules, arith}
use Rattle.ct_core.specs.declared.trees.CoreExpression.{the_lemmas}
use Rattle.ct_meaning.specs.Rules.{literal}
use Rattle.ct_meaning.proofs.Equations.{expression_out, expression_constant, expression_variable, expression_text, expression_function, expression_load, expression_assign, expression_convert, expression_binary, expression_call}
use Rattle.ct_meaning.proofs.evaluator.Evaluator.+expression.Goals as goal

pub expression-returns-in_err-address-in-Load : goal.expression-returns-in_err-address-in-Load
expression-returns-in_err-address-in-Load g t c = first_of (grind (arith, expression_load), search (rules, expression_load), search (rules, the_lemmas, expression_out), grind (arith, the_lemmas, expression_out))

pub expression-returns-in_err-address-in-Assign : goal.expression-returns-in_err-address-in-Assign
expression-returns-in_err-address-in-Assign g t c = first_of (grind (arith, expression_assign), search (rules, expression_assign), search (rules, the_lemmas, expression_out), grind (arith, the_lemmas, expression_out))

pub expression-returns-in_err-v-in-Assign : goal.expression-returns-in_err-v-in-Assign
expression-returns-in_err-v-in-Assign g t c = first_of (grind (arith, expression_assign), search (rules, expression_assign), search (rules, the_lemmas, expression_out), grind (arith, the_lemmas, expression_out))

pub expression-returns-in_err-v-in-Convert : goal.expression-returns-in_err-v-in-Convert
expression-returns-in_err-v-in-Convert g t c = first_of (grind (arith, expression_convert), search (rules, expression_convert), search (rules, the_lemmas, expression_out), grind (arith, the_lemmas, expression_out))

pub expression-returns-in_err-x-in-Binary : goal.expression-returns-in_err-x-in-Binary
expression-returns-in_err-x-in-Binary g t c = first_of (grind (arith, expression_binary), search (rules, expression_binary), search (rules, the_lemmas, expression_out), grind (arith, the_lemmas, expression_out))

pub expression-returns-in_err-y-in-Binary : goal.expression-returns-in_err-y-in-Binary
expression-returns-in_err-y-in-Binary g t c = first_of (grind (arith, expression_binary), search (rules, expression_binary), search (rules, the_lemmas, expression_out), grind (arith, the_lemmas, expression_out))

pub expression-returns-in_err-callee-in-Call : goal.expression-returns-in_err-callee-in-Call
expression-returns-in_err-callee-in-Call g t c = first_of (grind (arith, expression_call), search (rules, expression_call), search (rules, the_lemmas, expression_out), grind (arith, the_lemmas, expression_out))

pub expression-returns-in_err-values-in-Call : goal.expression-returns-in_err-values-in-Call
expression-returns-in_err-values-in-Call g t c = first_of (grind (arith, expression_call), search (rules, expression_call), search (rules, the_lemmas, expression_out), grind (arith, the_lemmas, expression_out))

pub expression-returns-in-Constant : goal.expression-returns-in-Constant
expression-returns-in-Constant g t c = first_of (grind (arith, expression_constant), search (rules, expression_constant), search (rules, the_lemmas, expression_out), grind (arith, the_lemmas, expression_out))

pub expression-returns-in-Variable : goal.expression-returns-in-Variable
expression-returns-in-Variable g t c = first_of (grind (arith, expression_variable), search (rules, expression_variable), search (rules, the_lemmas, expression_out), grind (arith, the_lemmas, expression_out))

pub expression-returns-in_ok-literal-in-Text : goal.expression-returns-in_ok-literal-in-Text
unfolding literal
expression-returns-in_ok-literal-in-Text g t c = first_of (grind (arith, expression_text), search (rules, expression_text), search (rules, the_lemmas, expression_out), grind (arith, the_lemmas, expression_out))

pub expression-returns-in-Function : goal.expression-returns-in-Function
expression-returns-in-Function g t c = first_of (grind (arith, expression_function), search (rules, expression_function), search (rules, the_lemmas, expression_out), grind (arith, the_lemmas, expression_out))

pub expression-returns-in_ok-address-in-Load : goal.expression-returns-in_ok-address-in-Load
expression-returns-in_ok-address-in-Load g t c = first_of (grind (arith, expression_load), search (rules, expression_load), search (rules, the_lemmas, expression_out), grind (arith, the_lemmas, expression_out))

pub expression-returns-in_ok-v-in-Assign : goal.expression-returns-in_ok-v-in-Assign
expression-returns-in_ok-v-in-Assign g t c = first_of (grind (arith, expression_assign), search (rules, expression_assign), search (rules, the_lemmas, expression_out), grind (arith, the_lemmas, expression_out))

pub expression-returns-in_ok-v-in-Convert : goal.expression-returns-in_ok-v-in-Convert
expression-returns-in_ok-v-in-Convert g t c = first_of (grind (arith, expression_convert), search (rules, expression_convert), search (rules, the_lemmas, expression_out), grind (arith, the_lemmas, expression_out))

pub expression-returns-in_ok-y-in-Binary : goal.expression-returns-in_ok-y-in-Binary
expression-returns-in_ok-y-in-Binary g t c = first_of (grind (arith, expression_binary), search (rules, expression_binary), search (rules, the_lemmas, expression_out), grind (arith, the_lemmas, expression_out))

pub expression-returns-in_ok-values-in-Call : goal.expression-returns-in_ok-values-in-Call
expression-returns-in_ok-values-in-Call g t c = first_of (grind (arith, expression_call), search (rules, expression_call), search (rules, the_lemmas, expression_out), grind (arith, the_lemmas, expression_out))
