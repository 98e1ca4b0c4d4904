-- Files in memory as a map from paths.
use Rattle.std.specs.Prelude.{ℕ, List, map, string_bytes, String}
use Rattle.std.specs.FinMap.{from_entries}
use Rattle.std.specs.declared.alloc.Global.{Global}
use Rattle.ct_outside.specs.Files.{Files}
use Rattle.ct_outside.specs.declared.stored.StoredFile.{StoredFile}

-- the files of a list; where a path stands twice, its first file
abbrev pub files_of : List StoredFile → Files
files_of stored = from_entries (map (λ file. (file.path, file.bytes)) stored)

-- the texts of a list of paths with a text each
abbrev pub texts_of : List (String Global × List ℕ) → Files
texts_of entries = from_entries (map (λ entry. (string_bytes entry.0, entry.1)) entries)
