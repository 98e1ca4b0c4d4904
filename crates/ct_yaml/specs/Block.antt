-- How lines make blocks: the tree of a text with the columns that its author chose, the marks that it is written
-- by, and the node that it stands for.
use Rattle.std.specs.Prelude.{ℕ, ◌+◌, ◌<◌, ◌≤◌, max, List, [], ◌∷◌, ◌++◌}
use Rattle.ct_yaml.specs.declared.node.Node.{Node}
use Rattle.ct_yaml.specs.declared.node.Node.TheVariants.{Scalar, List as Listed, Map}
use Rattle.ct_yaml.specs.declared.node.Entry.{Entry, roll-Entry}
use Rattle.ct_yaml.specs.declared.mark.Inline.{Inline}
use Rattle.ct_yaml.specs.declared.mark.Inline.TheVariants as inline
use Rattle.ct_yaml.specs.declared.mark.Mark.{Mark}
use Rattle.ct_yaml.specs.declared.mark.Mark.TheVariants.{Dash, Key, Value}

-- A value: nothing, what stands on the line, or a block below with its column. A block has the entries or items
-- before the last, and the last.
mutual
  pub data Layout : Type 0 where
    nothing : Layout
    on_line : (value : Inline) → Layout
    map_at : (column : ℕ) → (before : Entries) → (key : List ℕ) → (value : Layout) → Layout
    list_at : (column : ℕ) → (before : Elements) → (value : Layout) → Layout

  pub data Entries : Type 0 where
    no_entry : Entries
    entry : (before : Entries) → (key : List ℕ) → (value : Layout) → Entries

  pub data Elements : Type 0 where
    no_item : Elements
    item : (before : Elements) → (value : Layout) → Elements

-- ---- what is written

abbrev mutual
  pub marks_of : Layout → List Mark
  marks_of nothing = []
  marks_of (on_line value) = Value value ∷ []
  marks_of (map_at column before key value) = entry_marks column before ++ Key column key ∷ marks_of value
  marks_of (list_at column before value) = item_marks column before ++ Dash column ∷ marks_of value

  pub entry_marks : ℕ → Entries → List Mark
  entry_marks column no_entry = []
  entry_marks column (entry before key value) = entry_marks column before ++ Key column key ∷ marks_of value

  pub item_marks : ℕ → Elements → List Mark
  item_marks column no_item = []
  item_marks column (item before value) = item_marks column before ++ Dash column ∷ marks_of value

-- ---- where it may stand

-- a block below an item stands deeper than its `-`
abbrev pub IsUnderDash : ℕ → Layout → Type 0
IsUnderDash column (map_at inner before key value) = column < inner
IsUnderDash column (list_at inner before value) = column < inner
IsUnderDash column _ = Unit {0}

-- a map below a key stands deeper, a list may stand at the key's own column
abbrev pub IsUnderKey : ℕ → Layout → Type 0
IsUnderKey column (map_at inner before key value) = column < inner
IsUnderKey column (list_at inner before value) = column ≤ inner
IsUnderKey column _ = Unit {0}

abbrev mutual
  pub IsIndented : Layout → Type 0
  IsIndented (map_at column before key value) = AreEntriesIndented column before × IsUnderKey column value × IsIndented value
  IsIndented (list_at column before value) = AreItemsIndented column before × IsUnderDash column value × IsIndented value
  IsIndented _ = Unit {0}

  pub AreEntriesIndented : ℕ → Entries → Type 0
  AreEntriesIndented column no_entry = Unit {0}
  AreEntriesIndented column (entry before key value) = AreEntriesIndented column before × IsUnderKey column value × IsIndented value

  pub AreItemsIndented : ℕ → Elements → Type 0
  AreItemsIndented column no_item = Unit {0}
  AreItemsIndented column (item before value) = AreItemsIndented column before × IsUnderDash column value × IsIndented value

-- ---- what it stands for

abbrev pub inline_node : Inline → Node
inline_node (inline.Scalar text) = Scalar text
inline_node (inline.Flow items) = Listed items
inline_node inline.Braces = Map []

abbrev pub entry_of : List ℕ → Node → Entry
entry_of key value = roll-Entry (record { key = key; value = value })

abbrev mutual
  -- nothing is the empty scalar
  pub node_of : Layout → Node
  node_of nothing = Scalar []
  node_of (on_line value) = inline_node value
  node_of (map_at column before key value) = Map (entries_of before ++ entry_of key (node_of value) ∷ [])
  node_of (list_at column before value) = Listed (items_of before ++ node_of value ∷ [])

  pub entries_of : Entries → List Entry
  entries_of no_entry = []
  entries_of (entry before key value) = entries_of before ++ entry_of key (node_of value) ∷ []

  pub items_of : Elements → List Node
  items_of no_item = []
  items_of (item before value) = items_of before ++ node_of value ∷ []

-- ---- nesting

-- a flow list counts one
abbrev pub inline_depth : Inline → ℕ
inline_depth (inline.Flow items) = 1
inline_depth _ = 0

abbrev mutual
  -- how many block maps, block lists and flow lists are open at most at one place
  pub depth_of : Layout → ℕ
  depth_of nothing = 0
  depth_of (on_line value) = inline_depth value
  depth_of (map_at column before key value) = 1 + max (entry_depth before) (depth_of value)
  depth_of (list_at column before value) = 1 + max (item_depth before) (depth_of value)

  pub entry_depth : Entries → ℕ
  entry_depth no_entry = 0
  entry_depth (entry before key value) = max (entry_depth before) (depth_of value)

  pub item_depth : Elements → ℕ
  item_depth no_item = 0
  item_depth (item before value) = max (item_depth before) (depth_of value)
