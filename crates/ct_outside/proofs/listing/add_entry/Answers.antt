use Rattle.std.proofs.Common.{rules}
use Rattle.ct_outside.proofs.ListingLemmas.{EachOnce-push}
use Rattle.ct_outside.proofs.listing.add_entry.Goals as goal

pub returns-clause-once : goal.returns-clause-once
returns-clause-once c = rw c.in_ok-push.ensures.items (EachOnce-push _ _ (λ h. search rules))
