-- The machine over the words of a unit.
use Rattle.std.specs.Prelude.{Bool, true, false, if◌then◌else◌, List, [], ◌∷◌, Option, Some, None}
use Rattle.ct_syntax.specs.Words.{Word}
use Rattle.ct_syntax.specs.Scopes.{Scope, no_names}
use Rattle.ct_grammar_machine.specs.Algebra.{Sort, items, Algebra}
use Rattle.ct_grammar_machine.specs.Frames.{InUnit, Mode, Begin, Stack, State}
use Rattle.ct_grammar_machine.specs.Steps.{step, run}

module _ {C : Sort → Type 0} (alg : Algebra C) where
  -- what is read of a unit, where nothing else is open
  abbrev pub unit_read : Option (State C) → Option (C items)
  unit_read (Some (scope, InUnit is ∷ [], Begin)) = Some is
  unit_read _ = None

  -- the unit that the words spell
  abbrev pub unit_of : List Word → Option (C items)
  unit_of ws = unit_read (run alg ws no_names (InUnit alg.no_items ∷ []) Begin)

  -- a statement, or what else may stand in its place, comes next
  abbrev pub is_begin : Mode C → Bool
  is_begin Begin = true
  is_begin _ = false

  -- an item has ended here, and none has begun
  abbrev pub is_between : Stack C → Mode C → Bool
  is_between (InUnit is ∷ []) Begin = true
  is_between _ _ = false

  -- the state behind the first item of the words, and the words behind it
  abbrev pub then_item : (Scope → Stack C → Mode C → Option (State C × List Word)) → List Word → Option (State C) → Option (State C × List Word)
  then_item go ws None = None
  then_item go ws (Some (scope, s, mode)) = if is_between s mode then Some ((scope, s, mode), ws) else go scope s mode

  abbrev pub read_item : List Word → Scope → Stack C → Mode C → Option (State C × List Word)
  read_item [] scope s mode = None
  read_item (w ∷ ws) scope s mode = then_item (read_item ws) ws (step alg scope s mode w)
