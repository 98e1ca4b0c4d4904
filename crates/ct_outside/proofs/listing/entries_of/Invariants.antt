use Rattle.std.proofs.Common.{take}
use Rattle.ct_outside.specs.Files.{IsListing}
use Rattle.ct_outside.specs.Stored.{files_of}
use Rattle.ct_outside.proofs.listing.entries_of.Given as goal

abbrev pub invariant-loop-file : goal.invariant-loop-file
invariant-loop-file l = IsListing (files_of (take l.file-index l.files)) l.folder l.entries.items
