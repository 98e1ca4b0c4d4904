use Rattle.ct_outside.proofs.ListingLemmas.{IsListing-none, IsListing-more}
use Rattle.ct_outside.proofs.listing.entries_of.Goals as goal

pub loop-file-init : goal.loop-file-init
loop-file-init c = rw c.new-entries.ensures.items (IsListing-none c.args.folder.now)

pub loop-file-preserved : goal.loop-file-preserved
loop-file-preserved c =
    IsListing-more c.args.files.now c.loop-file.file-index c.file-item.result c.args.folder.now _ _ c.loop-file-test.true c.file-item.is c.loop-file.invariant (rw c.as_str.ensures at c.in_ok-add_entry.ensures.each) c.in_ok-add_entry.ensures.once
