-- How the marks of lines are put together, one after another, over the blocks that are open, the outermost first,
-- and the value of the innermost. No public clause speaks of it.
use Rattle.std.specs.Prelude.{ℕ, suc, ◌+◌, ◌==◌, Bool, true, false, nat_lt, nat_le, List, [], ◌∷◌, ◌++◌, length, Option, Some, None, if◌then◌else◌}
use Rattle.ct_yaml.specs.declared.node.Node.{Node}
use Rattle.ct_yaml.specs.declared.node.Node.TheVariants.{Scalar, List as Listed, Map}
use Rattle.ct_yaml.specs.declared.mark.Inline.{Inline}
use Rattle.ct_yaml.specs.declared.mark.Mark.{Mark}
use Rattle.ct_yaml.specs.declared.mark.Mark.TheVariants.{Dash, Key, Value}
use Rattle.ct_yaml.specs.declared.stack.Block.{Block}
use Rattle.ct_yaml.specs.declared.stack.Block.TheVariants as block
use Rattle.ct_yaml.specs.declared.stack.OpenBlocks.{OpenBlocks}
use Rattle.ct_yaml.specs.Block.{inline_node, inline_depth, entry_of}
use Rattle.ct_yaml.specs.Reading.{then_read, mapped}

-- the open blocks, and the value of the innermost, where one is there
abbrev pub Open : Type 0
Open = List Block × Option Inline

abbrev pub value_node : Option Inline → Node
value_node None = Scalar []
value_node (Some value) = inline_node value

-- a block with its last value
abbrev pub closed_in : Block → Node → Node
closed_in (block.Map column entries key) node = Map (entries ++ entry_of key node ∷ [])
closed_in (block.List column items) node = Listed (items ++ node ∷ [])

-- what the blocks stand for, if nothing more comes
abbrev pub closed : List Block → Option Inline → Node
closed [] value = value_node value
closed (b ∷ blocks) value = closed_in b (closed blocks value)

-- whether the mark belongs to the last value of a block
abbrev pub is_inside : Mark → Block → Bool
is_inside (Key column key) (block.Map at entries last) = nat_lt at column
is_inside (Key column key) (block.List at items) = nat_lt at column
is_inside (Dash column) (block.Map at entries last) = nat_le at column
is_inside (Dash column) (block.List at items) = nat_lt at column
is_inside (Value value) b = true

-- the mark begins a value where none is
abbrev pub begun : Mark → Option Inline → Option Open
begun (Key column key) None = Some (block.Map column [] key ∷ [], None)
begun (Dash column) None = Some (block.List column [] ∷ [], None)
begun (Value value) None = Some ([], Some value)
begun mark (Some value) = None

-- the mark begins the next entry or item of a block, whose last value is there
abbrev pub next_in : Mark → Block → Node → Option Open
next_in (Key column key) (block.Map at entries last) node =
    if at == column then Some (block.Map at (entries ++ entry_of last node ∷ []) key ∷ [], None) else None
next_in (Dash column) (block.List at items) node =
    if at == column then Some (block.List at (items ++ node ∷ []) ∷ [], None) else None
next_in _ _ node = None

abbrev pub within : Block → Open → Open
within b open_now = (b ∷ open_now.0, open_now.1)

-- in how many of the blocks, from the outermost on, the mark belongs to the last value
abbrev pub inside_len : Mark → List Block → ℕ
inside_len mark [] = 0
inside_len mark (b ∷ blocks) = if is_inside mark b then suc (inside_len mark blocks) else 0

-- with blocks round it
abbrev pub around : List Block → Open → Open
around blocks open_now = (blocks ++ open_now.0, open_now.1)

abbrev pub put : Mark → List Block → Option Inline → Option Open
put mark [] value = begun mark value
put mark (b ∷ blocks) value =
    if is_inside mark b then mapped (within b) (put mark blocks value) else next_in mark b (closed blocks value)

abbrev pub value_depth : Option Inline → ℕ
value_depth None = 0
value_depth (Some value) = inline_depth value

-- at most 32 are open
abbrev pub checked : Open → Option Open
checked now = if nat_le (length now.0 + value_depth now.1) 32 then Some now else None

-- an item is no text, and neither is a value
abbrev pub may_begin : List Block → Mark → Bool
may_begin [] (Key column key) = true
may_begin [] _ = false
may_begin (b ∷ blocks) mark = true

unfoldable pub step : Open → Mark → Option Open
step now mark = if may_begin now.0 mark then then_read (put mark now.0 now.1) checked else None

abbrev pub steps : Open → List Mark → Option Open
steps now [] = Some now
steps now (mark ∷ marks) = then_read (step now mark) (λ after. steps after marks)

abbrev pub view : OpenBlocks → Open
view blocks = (blocks.blocks, blocks.value)

-- the node of a whole text
abbrev pub text_node : Open → Node
text_node now = top_node now.0 now.1
  where
    top_node : List Block → Option Inline → Node
    top_node [] value = Map []
    top_node (b ∷ blocks) value = closed (b ∷ blocks) value
