-- The table of what each name means now.
use Rattle.std.specs.Prelude.{◌≡◌, ℕ, List, [], ◌∷◌, Option, Some, None, Bool, map, reverse, ⊤}
use Rattle.std.specs.Map.{lookup}
use Rattle.std.specs.Option.{option_flatten}
use Rattle.std.specs.declared.vec.Vec.{Vec}
use Rattle.std.specs.declared.alloc.Global.{Global}
use Rattle.ct_syntax.specs.Words.{Text}
use Rattle.ct_parser_state.specs.declared.entries.Entry.{Entry}
use Rattle.ct_parser_state.specs.declared.entries.Entry.TheVariants as e
use Rattle.ct_parser_state.specs.declared.names.Hiding.{Hiding}
use Rattle.ct_parser_state.specs.Names.{meaning, is_key}

abbrev pub entries_of : List Hiding → List Entry
entries_of ds = map (λ (d : Hiding). d.entry) ds

abbrev pub latest_first : List Hiding → List Entry
latest_first ds = entries_of (reverse ds)

-- what a name meant before its entry
abbrev pub Hides : Entry → Option Bool → List Entry → Type 0
Hides e.Scope hidden es = ⊤
Hides (e.Name name is_type) hidden es = hidden ≡ meaning es name

-- the latest first
abbrev pub EachHides : List Hiding → Type 0
EachHides [] = ⊤
EachHides (d ∷ ds) = Hides d.entry d.hidden (entries_of ds) × EachHides ds

abbrev pub held : List (Vec ℕ Global × Option Bool) → Text → Option Bool
held table text = option_flatten (lookup (is_key text) table)

abbrev pub HasMeanings : List (Vec ℕ Global × Option Bool) → List Entry → Type 0
HasMeanings table es = (text : Text) → held table text ≡ meaning es text

pub record IsTable (ds : List Hiding) (table : List (Vec ℕ Global × Option Bool)) : Type 0 where
  pub hides : EachHides (reverse ds)
  pub has : HasMeanings table (latest_first ds)
