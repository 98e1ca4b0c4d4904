use Rattle.std.proofs.Common.{rules, arith, ap, ◌∙◌, ◌++◌, take, drop}
use Rattle.std.proofs.lemmas.List.{nil_from_length}
use Rattle.std.proofs.lemmas.List.Sums.{prefix_len-le-length}
use Rattle.ct_base.specs.Bytes.{is_name_byte}
use Rattle.ct_token.proofs.Quoted.{longest_prefixed, prefix_unquoted, behind_name, alone_unquoted, name_unquoted}
use Rattle.ct_token.proofs.scan.prefixed_at.Goals as goal

pub split_at-requires : goal.split_at-requires
split_at-requires c =
    omega (arith, c.name_len.ensures, prefix_len-le-length is_name_byte c.args.rest.now)

pub returns-in_err-kind-clause-none : goal.returns-in_err-kind-clause-none
returns-in_err-kind-clause-none c =
    let rest = c.args.rest.now in
    let name = c.split_at.result.0.now in
    let behind = c.split_at.result.1.now in
    let inside = c.in_ok-quote.inside.now in
    let quote = c.in_ok-quote.quote.now in
    rw c.from_residual-in_err-kind.ensures (prefix_unquoted c.args.first rest name inside quote c.requires
    (c.split_at.ensures.front ∙ ap (λ n. take n rest) c.name_len.ensures)
    (behind_name rest behind inside quote (c.split_at.ensures.back ∙ ap (λ n. drop n rest) c.name_len.ensures) c.in_ok-quote.ensures.cases.0)
    (c.split_at.ensures.by_index.0 ∙ ap (λ l. name ++ l) c.in_ok-quote.ensures.cases.0)
    (search (rules, c.is_prefix.ensures, c.if-not-is_prefix.false))
    c.in_err-kind.ensures.none)

pub returns-clause-found : goal.returns-clause-found
returns-clause-found c =
    longest_prefixed c.in_ok-kind.kind c.args.first c.args.rest.now c.split_at.result.0.now c.in_ok-quote.inside.now c.in_ok-quote.quote.now c.in_ok-kind.count
    (c.split_at.ensures.by_index.0 ∙ ap (λ l. c.split_at.result.0.now ++ l) c.in_ok-quote.ensures.cases.0)
    (search (rules, c.is_prefix.ensures, c.if-not-is_prefix.false))
    c.in_ok-kind.ensures.found

pub returns-in_err-quote-clause-none : goal.returns-in_err-quote-clause-none
returns-in_err-quote-clause-none c =
    let rest = c.args.rest.now in
    let name = c.split_at.result.0.now in
    let behind = c.split_at.result.1.now in
    rw c.from_residual.ensures (alone_unquoted c.args.first rest name behind c.requires
    (c.split_at.ensures.front ∙ ap (λ n. take n rest) c.name_len.ensures)
    c.split_at.ensures.by_index.0
    (nil_from_length behind c.in_err-quote.ensures.cases))

pub returns-then-not-is_prefix-clause-none : goal.returns-then-not-is_prefix-clause-none
returns-then-not-is_prefix-clause-none c =
    let rest = c.args.rest.now in
    let name = c.split_at.result.0.now in
    let behind = c.split_at.result.1.now in
    let inside = c.in_ok-quote.inside.now in
    let quote = c.in_ok-quote.quote.now in
    name_unquoted c.args.first rest name inside quote c.requires
    (c.split_at.ensures.front ∙ ap (λ n. take n rest) c.name_len.ensures)
    (behind_name rest behind inside quote (c.split_at.ensures.back ∙ ap (λ n. drop n rest) c.name_len.ensures) c.in_ok-quote.ensures.cases.0)
    (c.split_at.ensures.by_index.0 ∙ ap (λ l. name ++ l) c.in_ok-quote.ensures.cases.0)
    (search (rules, c.is_prefix.ensures, c.if-not-is_prefix.true))
