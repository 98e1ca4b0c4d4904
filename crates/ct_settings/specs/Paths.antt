-- Which texts are paths and patterns of folders.
use Rattle.std.specs.Prelude.{◌≡◌, ◌⊎◌, IsTrue, ℕ, ◌-◌, ◌==◌, ◌&&◌, ◌||◌, not, Bool, true, false, List, [], codes, take, drop, length, Option, Some, None, unwrap_or, if◌then◌else◌}
use Rattle.std.specs.Option.{option_map}
use Rattle.std.specs.List.{list_all, slice_split}
use Rattle.std.specs.Str.{bytes_eq, is_utf8}
use Rattle.ct_settings.specs.declared.record.Pattern.{Pattern}

-- what stands behind these bytes, where a text begins with them
abbrev pub behind : List ℕ → List ℕ → Option (List ℕ)
behind front text = if bytes_eq (take (length front) text) front then Some (drop (length front) text) else None

-- what stands before these bytes, where a text ends with them
abbrev pub before : List ℕ → List ℕ → Option (List ℕ)
before end text =
    if bytes_eq (drop (length text - length end) text) end then Some (take (length text - length end) text) else None

abbrev pub is_slash : ℕ → Bool
is_slash byte = byte == 47

-- a component of a path is not empty, `.` or `..`
abbrev pub is_component : List ℕ → Bool
is_component text = not (bytes_eq text [] || bytes_eq text (codes ".") || bytes_eq text (codes ".."))

-- Components with a slash between each two. So a path is not empty, and no slash begins or ends it.
abbrev pub is_path : List ℕ → Bool
is_path text = list_all is_component (slice_split is_slash text)

abbrev pub without_start : List ℕ → List ℕ
without_start text = unwrap_or (behind (codes "./") text) text

abbrev pub without_end : List ℕ → List ℕ
without_end text = unwrap_or (before (codes "/") text) text

abbrev pub checked : List ℕ → Option (List ℕ)
checked path = if is_path path && is_utf8 path then Some path else None

-- the path that a text is without a leading `./` and a trailing `/`
unfoldable pub path_of : List ℕ → Option (List ℕ)
path_of text = checked (without_end (without_start text))

-- `.` and `./` are the root, the empty path
abbrev pub folder_of : List ℕ → Option (List ℕ)
folder_of text = if bytes_eq text (codes ".") || bytes_eq text (codes "./") then Some [] else path_of text

-- the root or a path
abbrev pub IsFolderPath : List ℕ → Type 0
IsFolderPath path = (path ≡ []) ⊎ IsTrue (is_path path)

abbrev pub pattern : Bool → List ℕ → Option Pattern
pattern add text = option_map (λ path. record { add = add; path = path }) (folder_of text)

abbrev pub signed : Option (List ℕ) → List ℕ → Option Pattern
signed None text = pattern true (unwrap_or (behind (codes "+:") text) text)
signed (Some rest) text = pattern false rest

-- `-:` before a pattern removes folders; `+:`, or neither, adds them
unfoldable pub pattern_of : List ℕ → Option Pattern
pattern_of text = signed (behind (codes "-:") text) text
