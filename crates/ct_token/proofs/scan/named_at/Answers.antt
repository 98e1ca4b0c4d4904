use Rattle.std.proofs.Common.{arith}
use Rattle.std.proofs.lemmas.List.Sums.{prefix_len-le-length}
use Rattle.ct_base.specs.Bytes.{is_name_byte}
use Rattle.ct_token.proofs.Longest.{longest_name}
use Rattle.ct_token.proofs.scan.named_at.Goals as goal

pub returns-in-None-clause-within : goal.returns-in-None-clause-within
returns-in-None-clause-within c =
    omega (arith, c.name_len.ensures, prefix_len-le-length is_name_byte c.args.rest.now)

pub returns-in-None-clause-longest : goal.returns-in-None-clause-longest
returns-in-None-clause-longest c =
    rw c.name_len.ensures (longest_name c.args.first c.args.rest.now c.requires c.in-None.ensures.none)
