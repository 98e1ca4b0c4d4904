use Rattle.std.proofs.Common.{rules}
use Rattle.ct_token.proofs.Fronting.{blank_front, token_front}
use Rattle.ct_token.proofs.scan.front_of.Goals as goal

pub returns : goal.returns
returns c =
    token_front c.args.first c.args.rest.now c.token_at-kind.result.0 c.token_at-kind.result.1 c.token_at-kind.ensures.within c.token_at-kind.ensures.longest c.in_default.ensures.none

pub returns-then-is_blank : goal.returns-then-is_blank
returns-then-is_blank c = blank_front c.args.first c.args.rest.now (search (rules, c.is_blank.ensures, c.if-is_blank.true))
