use Rattle.ct_outside.specs.Files.{Files, ListsFolder}
use Rattle.ct_find.proofs.WalkLemmas.{listing_of, same_row, told_at}
use Rattle.ct_find.proofs.walking.list.Goals as goal

pub returns-clause-told : goal.returns-clause-told
returns-clause-told g c files told row adds =
    let lists = told_at _ (λ (fs : Files). ListsFolder fs c.args.folder.now c.in-Ok.field-0 c.new-entries.result.items c.list.new.into.items) files c.in-Ok.ensures.told told in
    let listing = listing_of files c.args.folder.now c.in-Ok.field-0 c.new-entries.result.items c.list.new.into.items c.new-entries.ensures.items lists c.in-Ok.ensures.left in
    same_row files c.args.folder.now c.args.listing.now.rows c.push.new.self _ row c.in_ok-push.ensures adds.0 (rw c.from_vec.ensures listing)
