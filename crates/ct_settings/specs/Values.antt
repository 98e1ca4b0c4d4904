-- What a value is read as, or why it is refused.
use Rattle.std.specs.Prelude.{ℕ, Bool, true, false, List, [], ◌∷◌, Option, Some, None, option_and_then, Result, Ok, Err}
use Rattle.std.specs.Option.{option_map, ok_or}
use Rattle.ct_yaml.specs.declared.node.Node.{Node, out-Node}
use Rattle.ct_yaml.specs.declared.node.Node.TheOpen.{Node-F}
use Rattle.ct_yaml.specs.declared.node.Entry.{Entry}
use Rattle.ct_settings.specs.declared.record.SettingKind.{SettingKind}
use Rattle.ct_settings.specs.declared.record.SettingKind.TheVariants.{NotText, NotList, NotBool, BadValue}
use Rattle.ct_settings.specs.Names.{truth_of}

-- what is read of each, where something is read of all
abbrev pub each : {A B : Type 0} → (A → Option B) → List A → Option (List B)
each read [] = Some []
each read (x ∷ xs) = option_and_then (λ first. option_map (λ rest. first ∷ rest) (each read xs)) (read x)

-- what a node is: a scalar, a list or a map
abbrev pub Shape : Type 0
Shape = Node-F Node Entry

abbrev pub scalar_of : Shape → Option (List ℕ)
scalar_of (Node-F.Scalar text) = Some text
scalar_of (Node-F.List items) = None
scalar_of (Node-F.Map entries) = None

-- the texts of a list of scalars
abbrev pub list_of : List Node → Option (List (List ℕ))
list_of items = each (λ item. scalar_of (out-Node item)) items

-- one text
unfoldable pub one : {A : Type 0} → (List ℕ → Option A) → Shape → Result A SettingKind
one read (Node-F.Scalar text) = ok_or (read text) BadValue
one read (Node-F.List items) = Err NotText
one read (Node-F.Map entries) = Err NotText

-- the texts of a list of scalars, or of one scalar
abbrev pub texts_of : Shape → Option (List (List ℕ))
texts_of (Node-F.Scalar text) = Some (text ∷ [])
texts_of (Node-F.List items) = list_of items
texts_of (Node-F.Map entries) = None

abbrev pub many_of : {A : Type 0} → (List ℕ → Option A) → Option (List (List ℕ)) → Result (List A) SettingKind
many_of read None = Err NotList
many_of read (Some texts) = ok_or (each read texts) BadValue

-- a list of texts, or one
unfoldable pub many : {A : Type 0} → (List ℕ → Option A) → Shape → Result (List A) SettingKind
many read shape = many_of read (texts_of shape)

-- a list of words, whatever they are
unfoldable pub words : Shape → Result (List (List ℕ)) SettingKind
words (Node-F.Scalar text) = Err NotList
words (Node-F.List items) = ok_or (list_of items) NotList
words (Node-F.Map entries) = Err NotList

unfoldable pub truth : Shape → Result Bool SettingKind
truth (Node-F.Scalar text) = ok_or (truth_of text) NotBool
truth (Node-F.List items) = Err NotBool
truth (Node-F.Map entries) = Err NotBool

-- a truth value that may not be true yet
abbrev pub not_true : Result Bool SettingKind → Result Bool SettingKind
not_true (Ok true) = Err BadValue
not_true (Ok false) = Ok false
not_true (Err kind) = Err kind

unfoldable pub untruth : Shape → Result Bool SettingKind
untruth shape = not_true (truth shape)
