use Rattle.std.proofs.Common.{rules}
use Rattle.std.proofs.lemmas.Iterator.{YieldsList-from_slice, IsFirst-from_position}
use Rattle.ct_parser.specs.Unsupported.{IsUnsupported}
use Rattle.ct_parser.proofs.FirstUnsupported.{IsSupported, first_of_search}
use Rattle.ct_parser.proofs.left_out.unsupported.Goals as goal
use borrow.Author.Tests.{tests}

pub returns : goal.returns
returns c =
    first_of_search c.args.tokens.now c.position.result
    (IsFirst-from_position _ _ _ IsUnsupported IsSupported c.position.ensures.ran (YieldsList-from_slice c.args.tokens.now cc) (λ x q k. search (rules, tests)) (λ x q k. search (rules, tests)))
