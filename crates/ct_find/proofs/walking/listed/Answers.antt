use Rattle.std.proofs.Common.{ℕ, rules, refl, inl, inr}
use Rattle.ct_find.proofs.WalkLemmas.{got_last, got_member, passes_fresh}
use Rattle.ct_find.proofs.walking.listed.Goals as goal

pub returns-in-Some-clause-row : goal.returns-in-Some-clause-row
returns-in-Some-clause-row g c =
    let found = c.in-Some.ensures in
    (found.0, found.1, found.2, inl (got_member c.args.listing.now.rows c.in-Some.place found.0 found.1, refl))

pub returns-in-Ok-clause-row : goal.returns-in-Ok-clause-row
returns-in-Ok-clause-row g c =
    let added = c.in-Ok.ensures.row in (
      added.0,
      got_last c.args.listing.now.rows c.list.new.listing.rows added.0 c.len-place.result added.1.0 (search rules),
      added.1.1,
      inr (c.in_default.ensures, added.1),
    )

pub returns-in-Err-clause-told : goal.returns-in-Err-clause-told
returns-in-Err-clause-told g c files told =
    passes_fresh ℕ files c.args.folder.now c.args.listing.now c.list.new.listing c.in-Err.fail c.in_default.ensures (c.in-Err.ensures.told files told)
