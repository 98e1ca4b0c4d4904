use Rattle.std.proofs.Common.{rules}
use Rattle.ct_outside.specs.Stored.{files_of}
use Rattle.ct_outside.proofs.ListingLemmas.{not-IsFolder, IsFolder-from_listing}
use Rattle.ct_outside.proofs.listing.append_entries.Goals as goal

pub returns-then-is_empty-clause-told : goal.returns-then-is_empty-clause-told
returns-then-is_empty-clause-told c = not-IsFolder _ c.args.folder.now c.in_ok-entries.entries.items (search rules) c.in_ok-entries.ensures

pub returns-clause-told : goal.returns-clause-told
returns-clause-told c = (
  c.in_ok-entries.entries.items,
  c.in_ok-append.ensures.items,
  IsFolder-from_listing (files_of c.args.files.now) c.args.folder.now c.in_ok-entries.entries.items (λ none. search rules) c.in_ok-entries.ensures,
  c.in_ok-entries.ensures,
)
