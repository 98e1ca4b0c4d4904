use Rattle.std.proofs.Common.{arith, sym}
use Rattle.ct_outside.proofs.BelowLemmas.{no_slash}
use Rattle.ct_outside.proofs.listing.first_name.Goals as goal

pub returns-in-None-clause-folder : goal.returns-in-None-clause-folder
returns-in-None-clause-folder c = sym (no_slash _ (c.in-None.ensures.byte (omega arith) (λ w o h. h)))
