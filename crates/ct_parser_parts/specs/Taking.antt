-- Counting constructs down.
use Rattle.std.specs.Prelude.{◌≡◌, Bool, if◌then◌else◌, ◌∷◌, Some}
use Rattle.ct_syntax.specs.Depths.{Left}
use Rattle.ct_parser_parts.specs.declared.reach.Nest.{Nest}
use Rattle.ct_parser_parts.specs.declared.reach.Counts.{Counts}
use Rattle.ct_parser_parts.specs.Reach.{Depth, expressions_of, declarators_of, statements_of, beyond, shortened, passed_by, kind_of}

-- what a list of steps comes to from counts
abbrev pub beyond_of : Counts → Depth → Depth
beyond_of c a = beyond c.expressions c.declarators c.statements a

abbrev pub shortened_of : Counts → Depth → Depth
shortened_of c a = shortened c.expressions c.declarators c.statements a

-- one construct less, or none left
pub record Takes (before : Counts) (nest : Nest) (took : Bool) (later : Counts) : Type 0 where
  pub further : (a : Depth) → beyond_of before (nest ∷ a) ≡ (if took then beyond_of later a else nest ∷ beyond_of later a)
  pub shorter : (a : Depth) → shortened_of before (nest ∷ a) ≡ (if took then nest ∷ shortened_of later a else shortened_of later a)
  pub passes : (a : Depth) → passed_by (Left before.expressions before.declarators before.statements) (nest ∷ a) ≡ (if took then passed_by (Left later.expressions later.declarators later.statements) a else Some (kind_of nest))

abbrev pub Counted : Counts → Depth → Type 0
Counted c a = (c.expressions ≡ expressions_of a) × (c.declarators ≡ declarators_of a) × (c.statements ≡ statements_of a)
