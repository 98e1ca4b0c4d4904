-- Which texts are prefixes, defines and words of the settings.
use Rattle.std.specs.Prelude.{ℕ, ◌==◌, ◌&&◌, ◌||◌, not, Bool, true, false, nat_le, List, [], ◌∷◌, ◌+◌, take, drop, position, codes, Option, Some, None, if◌then◌else◌}
use Rattle.std.specs.List.{list_any, list_all}
use Rattle.std.specs.Option.{is_some}
use Rattle.std.specs.Str.{bytes_eq}
use Rattle.ct_base.specs.Bytes.{has_pair, is_letter, is_name_byte, is_nondigit}
use Rattle.ct_settings.specs.declared.record.Define.{Define}
use Rattle.ct_settings.specs.declared.record.WhenPtr.{WhenPtr}
use Rattle.ct_settings.specs.declared.record.WhenPtr.TheVariants.{CompareData, ComparePtr, Smart}
use Rattle.ct_settings.specs.Paths.{behind}

-- ---- prefixes

-- letters, digits and `_`, one at least
abbrev pub is_prefix : List ℕ → Bool
is_prefix [] = false
is_prefix (byte ∷ bytes) = is_name_byte byte && list_all is_name_byte bytes

-- the same, with a letter first
abbrev pub is_mock_prefix : List ℕ → Bool
is_mock_prefix [] = false
is_mock_prefix (byte ∷ bytes) = is_letter byte && list_all is_name_byte bytes

unfoldable pub prefix_of : List ℕ → Option (List ℕ)
prefix_of text = if is_prefix text then Some text else None

unfoldable pub mock_prefix_of : List ℕ → Option (List ℕ)
mock_prefix_of text = if is_mock_prefix text then Some text else None

-- ---- defines

-- C11 6.4.2.1
abbrev pub is_identifier : List ℕ → Bool
is_identifier [] = false
is_identifier (byte ∷ bytes) = is_nondigit byte && list_all is_name_byte bytes

-- what a project may not define: these names, and those of the guards of generated heads
abbrev pub is_reserved : List ℕ → Bool
is_reserved name =
    is_some (behind (codes "ceedling_head_") name) || bytes_eq name (codes "defined") || bytes_eq name (codes "__LINE__")
    || bytes_eq name (codes "__FILE__") || bytes_eq name (codes "__STDC__") || bytes_eq name (codes "__STDC_VERSION__")

-- a text without `##`, `/*` and a new-line
abbrev pub is_body : List ℕ → Bool
is_body text = not (has_pair 35 35 text || has_pair 47 42 text || list_any (λ byte. byte == 10) text)

abbrev pub is_equals : ℕ → Bool
is_equals byte = byte == 61

abbrev pub parts_at : Option ℕ → List ℕ → List ℕ × List ℕ
parts_at None text = (text, codes "1")
parts_at (Some place) text = (take place text, drop (place + 1) text)

-- `NAME=TEXT`, cut at the first `=`, or `NAME`, of which the text is `1`
abbrev pub parts_of : List ℕ → List ℕ × List ℕ
parts_of text = parts_at (position is_equals text) text

abbrev pub define_in : List ℕ × List ℕ → Option Define
define_in parts =
    if is_identifier parts.0 && not (is_reserved parts.0) && is_body parts.1
    then Some (record { name = parts.0; text = parts.1 }) else None

unfoldable pub define_of : List ℕ → Option Define
define_of text = define_in (parts_of text)

abbrev pub is_defined : List ℕ → List Define → Bool
is_defined name defines = list_any (λ define. bytes_eq define.name name) defines

-- without each define whose name stands again behind it
abbrev pub last_defines : List Define → List Define
last_defines [] = []
last_defines (define ∷ defines) =
    if is_defined define.name defines then last_defines defines else define ∷ last_defines defines

-- ---- words

-- the word, with a colon before it or without
abbrev pub is_word : List ℕ → List ℕ → Bool
is_word name word = bytes_eq word name || bytes_eq word (58 ∷ name)

unfoldable pub has_word : List ℕ → List (List ℕ) → Bool
has_word name words = list_any (is_word name) words

unfoldable pub when_ptr_of : List ℕ → Option WhenPtr
when_ptr_of text =
    if bytes_eq text (codes ":compare_data") then Some CompareData
    else if bytes_eq text (codes ":compare_ptr") then Some ComparePtr
    else if bytes_eq text (codes ":smart") then Some Smart
    else None

unfoldable pub truth_of : List ℕ → Option Bool
truth_of text =
    if bytes_eq text (codes "TRUE") || bytes_eq text (codes "true") then Some true
    else if bytes_eq text (codes "FALSE") || bytes_eq text (codes "false") then Some false
    else None
