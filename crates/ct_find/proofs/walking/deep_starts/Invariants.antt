use Rattle.std.proofs.Common.{◌≡◌, take}
use Rattle.ct_find.specs.Order.{deep_starts}
use Rattle.ct_find.proofs.walking.deep_starts.Given as goal

abbrev pub invariant-loop-folder : goal.invariant-loop-folder
invariant-loop-folder l = l.starts.items ≡ deep_starts (take l.folder-index l.folders)
