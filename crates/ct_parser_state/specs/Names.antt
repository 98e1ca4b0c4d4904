-- The names in scope.
use Rattle.std.specs.Prelude.{ℕ, List, [], ◌∷◌, Option, Some, None, Bool, if◌then◌else◌}
use Rattle.std.specs.Str.{bytes_eq}
use Rattle.std.specs.declared.vec.Vec.{Vec}
use Rattle.std.specs.declared.alloc.Global.{Global}
use Rattle.ct_syntax.specs.Words.{Text}
use Rattle.ct_parser_state.specs.declared.entries.Entry.{Entry}
use Rattle.ct_parser_state.specs.declared.entries.Entry.TheVariants as e

-- what a name means by the entries, the latest first: whether it is a typedef name, or none where it is not declared
abbrev pub meaning : List Entry → Text → Option Bool
meaning [] text = None
meaning (e.Scope ∷ es) text = meaning es text
meaning (e.Name name is_type ∷ es) text = if bytes_eq name text then Some is_type else meaning es text

-- the names outside the innermost scope that is open
abbrev pub outside : List Entry → List Entry
outside [] = []
outside (e.Scope ∷ es) = es
outside (e.Name name is_type ∷ es) = outside es

-- whether a key is this name
abbrev pub is_key : Text → Vec ℕ Global → Bool
is_key name key = bytes_eq name key.items
