use Rattle.std.proofs.Common.{sym, arith}
use Rattle.ct_token.proofs.Quoted.{longest_text, longest_char, empty_unquoted, open_unquoted, other_unquoted}
use Rattle.ct_token.proofs.scan.quoted_at.Goals as goal

pub returns-in_ok-count-in-34-clause-found : goal.returns-in_ok-count-in-34-clause-found
returns-in_ok-count-in-34-clause-found c =
    longest_text c.args.quote c.args.rest.now c.in_ok-count-in-34.count (sym c.in-34.is) c.in_ok-count-in-34.ensures

pub returns-in-0-clause-none : goal.returns-in-0-clause-none
returns-in-0-clause-none c =
    empty_unquoted c.args.quote c.args.rest.now c.in_ok-count-in-39.count (sym c.in-39.is) c.in-0.is c.in_ok-count-in-39.ensures

pub returns-in_default-2-clause-found : goal.returns-in_default-2-clause-found
returns-in_default-2-clause-found c =
    longest_char c.args.quote c.args.rest.now c.in_ok-count-in-39.count (sym c.in-39.is) (omega arith) c.in_ok-count-in-39.ensures

pub returns-in_err-count-in-34-clause-none : goal.returns-in_err-count-in-34-clause-none
returns-in_err-count-in-34-clause-none c =
    rw c.from_residual.ensures (open_unquoted c.args.quote c.args.rest.now c.requires c.in_err-count-in-34.ensures)

pub returns-in_err-count-in-39-clause-none : goal.returns-in_err-count-in-39-clause-none
returns-in_err-count-in-39-clause-none c =
    rw c.from_residual-in_err-count-in-39.ensures (open_unquoted c.args.quote c.args.rest.now c.requires c.in_err-count-in-39.ensures)

pub returns-in_default-clause-none : goal.returns-in_default-clause-none
returns-in_default-clause-none c =
    other_unquoted c.args.quote c.args.rest.now c.requires (λ e. omega (arith, e)) (λ e. omega (arith, e))
