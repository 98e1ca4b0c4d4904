use Rattle.std.proofs.Common.{rules, arith}
use Rattle.ct_core.specs.declared.trees.CoreStatement.{the_lemmas}
use Rattle.ct_meaning.specs.Meaning.{calls, expression, statement, turns}
use Rattle.ct_meaning.specs.Views.{world_of, where_of}
use Rattle.ct_meaning.proofs.Equations.{deeper, statement_out, statement_run, statement_block, statement_declares, statement_declares_nothing, statement_if, statement_while, statement_returns, statement_returns_nothing}
use Rattle.ct_meaning.proofs.evaluator.Evaluator.+statement.Goals as goal

pub statement-returns-in_err-expression-in-Run : goal.statement-returns-in_err-expression-in-Run
statement-returns-in_err-expression-in-Run g t c = first_of (grind (arith, statement_run), search (rules, statement_run), search (rules, the_lemmas, statement_out), grind (arith, the_lemmas, statement_out))

pub statement-returns-in_err-holds-in-If : goal.statement-returns-in_err-holds-in-If
statement-returns-in_err-holds-in-If g t c = first_of (grind (arith, statement_if), search (rules, statement_if), search (rules, the_lemmas, statement_out), grind (arith, the_lemmas, statement_out))

pub statement-returns-in_ok-expression-in-Run : goal.statement-returns-in_ok-expression-in-Run
statement-returns-in_ok-expression-in-Run g t c = first_of (grind (arith, statement_run), search (rules, statement_run), search (rules, the_lemmas, statement_out), grind (arith, the_lemmas, statement_out))

pub statement-returns-in-Block : goal.statement-returns-in-Block
statement-returns-in-Block g t c = first_of (grind (arith, statement_block), search (rules, statement_block), search (rules, the_lemmas, statement_out), grind (arith, the_lemmas, statement_out))

pub statement-returns-in-Declare-default-default-default-Some : goal.statement-returns-in-Declare-default-default-default-Some
statement-returns-in-Declare-default-default-default-Some g t c = first_of (grind (arith, statement_declares), search (rules, statement_declares), search (rules, the_lemmas, statement_out), grind (arith, the_lemmas, statement_out))

pub statement-returns-in-Declare-default-default-default-None : goal.statement-returns-in-Declare-default-default-default-None
statement-returns-in-Declare-default-default-default-None g t c = first_of (grind (arith, statement_declares_nothing), search (rules, statement_declares_nothing), search (rules, the_lemmas, statement_out), grind (arith, the_lemmas, statement_out))

pub statement-returns-then-branch : goal.statement-returns-then-branch
statement-returns-then-branch g t c = first_of (grind (arith, statement_if), search (rules, statement_if), search (rules, the_lemmas, statement_out), grind (arith, the_lemmas, statement_out))

pub statement-returns-in-Some : goal.statement-returns-in-Some
statement-returns-in-Some g t c = first_of (grind (arith, statement_if), search (rules, statement_if), search (rules, the_lemmas, statement_out), grind (arith, the_lemmas, statement_out))

pub statement-returns-in-None : goal.statement-returns-in-None
statement-returns-in-None g t c = first_of (grind (arith, statement_if), search (rules, statement_if), search (rules, the_lemmas, statement_out), grind (arith, the_lemmas, statement_out))

pub statement-returns-in-While : goal.statement-returns-in-While
statement-returns-in-While g t c = first_of (grind (arith, statement_while), search (rules, statement_while), search (rules, the_lemmas, statement_out), grind (arith, the_lemmas, statement_out))

pub statement-returns-in-Return-default-Some : goal.statement-returns-in-Return-default-Some
statement-returns-in-Return-default-Some g t c = first_of (grind (arith, statement_returns), search (rules, statement_returns), search (rules, the_lemmas, statement_out), grind (arith, the_lemmas, statement_out))

pub statement-returns-in-Return-default-None : goal.statement-returns-in-Return-default-None
statement-returns-in-Return-default-None g t c = first_of (grind (arith, statement_returns_nothing), search (rules, statement_returns_nothing), search (rules, the_lemmas, statement_out), grind (arith, the_lemmas, statement_out))

pub turns-returns-in-Returned : goal.turns-returns-in-Returned
turns-returns-in-Returned g t c =
    let w = world_of c.args.self.now.program in
    let call = calls w c.args.self.now.fuel in
    let e = deeper (λ (n : _). turns w (where_of c.args.h) n (expression w call c.args.test.now) (statement w c.args.self.now.fuel call c.args.body.now) c.loop-left.state) c.loop-left.left (omega arith) in
    first_of (search rules, grind arith)
