-- Rows of the table of settings: sections, keys and their values.
use Rattle.std.specs.Prelude.{ℕ, List, [], ◌∷◌, ◌++◌, codes, Option, Some, None, option_and_then, Result, Ok, Err, if◌then◌else◌}
use Rattle.std.specs.Option.{option_or}
use Rattle.std.specs.Str.{bytes_eq}
use Rattle.ct_yaml.specs.declared.node.Node.{Node, out-Node}
use Rattle.ct_yaml.specs.declared.node.Node.TheOpen.{Node-F}
use Rattle.ct_yaml.specs.declared.node.Entry.{Entry, out-Entry}
use Rattle.ct_settings.specs.declared.record.SettingFault.{SettingFault}
use Rattle.ct_settings.specs.declared.record.SettingKind.{SettingKind}
use Rattle.ct_settings.specs.declared.record.SettingKind.TheVariants.{NotMap}
use Rattle.ct_settings.specs.Values.{Shape}

-- what is read, or the first refusal
abbrev pub Read : Type 0 → Type 0
Read A = Result A SettingFault

infixl 10 ◌>>=◌
abbrev pub ◌>>=◌ : {A B : Type 0} → Read A → (A → Read B) → Read B
(Ok value) >>= next = next value
(Err fault) >>= next = Err fault

-- ---- keys, which stand in the tree without the colon that ends them

-- the value of the last entry of a key
abbrev pub last_value : List ℕ → List Entry → Option Node
last_value key [] = None
last_value key (entry ∷ entries) =
    option_or (last_value key entries) (if bytes_eq (out-Entry entry).key key then Some (out-Entry entry).value else None)

abbrev pub not_empty : Shape → Option Shape
not_empty (Node-F.Scalar []) = None
not_empty (Node-F.Scalar (byte ∷ bytes)) = Some (Node-F.Scalar (byte ∷ bytes))
not_empty (Node-F.List items) = Some (Node-F.List items)
not_empty (Node-F.Map entries) = Some (Node-F.Map entries)

-- the value of a key, where the empty scalar is none
abbrev pub value_of : List ℕ → List Entry → Option Shape
value_of key entries = option_and_then (λ node. not_empty (out-Node node)) (last_value key entries)

-- ---- sections

-- the map of a section, with its name
pub record Section : Type 0 where
  pub name : List ℕ
  pub entries : List Entry

abbrev pub section_in : List ℕ → Option Shape → Read Section
section_in name None = Ok (record { name = name; entries = [] })
section_in name (Some (Node-F.Scalar text)) = Err (record { key = name ++ codes ":"; kind = NotMap })
section_in name (Some (Node-F.List items)) = Err (record { key = name ++ codes ":"; kind = NotMap })
section_in name (Some (Node-F.Map entries)) = Ok (record { name = name; entries = entries })

abbrev pub entries_of : Shape → List Entry
entries_of (Node-F.Scalar text) = []
entries_of (Node-F.List items) = []
entries_of (Node-F.Map entries) = entries

-- a section that is absent has no keys
unfoldable pub section : List ℕ → Node → Read Section
section name node = section_in name (value_of name (entries_of (out-Node node)))

-- how a refusal names a key
abbrev pub key_of : Section → List ℕ → List ℕ
key_of place key = place.name ++ codes ": " ++ key ++ codes ":"

abbrev pub named : {A : Type 0} → Section → List ℕ → Result A SettingKind → Read A
named place key (Ok value) = Ok value
named place key (Err kind) = Err (record { key = key_of place key; kind = kind })

abbrev pub row_in : {A : Type 0} → Section → List ℕ → (Shape → Result A SettingKind) → A → Option Shape → Read A
row_in place key read default None = Ok default
row_in place key read default (Some value) = named place key (read value)

-- a row of the table: a key of a section, how its value is read, and the default where it is absent
unfoldable pub row : {A : Type 0} → Section → List ℕ → (Shape → Result A SettingKind) → A → Read A
row place key read default = row_in place key read default (value_of key place.entries)
