-- What reading up to the limits of depth says of the words.
use Rattle.std.proofs.Common.{◌≡◌, List, [], ◌∷◌, Option, Some, None, refl, sym, ap, subst, ◌∙◌}
use Rattle.std.specs.Prelude.{option_map}
use Rattle.ct_syntax.specs.Words.{Word}
use Rattle.ct_syntax.specs.Scopes.{no_names}
use Rattle.ct_parser_parts.specs.Reach.{depth_unit}
use Rattle.ct_syntax.specs.Units.{SpellsUnit}
use Rattle.ct_syntax.specs.Trees as t
use Rattle.ct_grammar_machine.specs.Algebra.{items, Tree, trees_built}
use Rattle.ct_grammar_machine.specs.Frames.{InUnit, Begin, State}
use Rattle.ct_grammar_machine.specs.Steps.{run}
use Rattle.ct_grammar_machine.specs.Reading.{unit_read, unit_of}
use Rattle.ct_parser_parts.specs.Parts.{fit, Part, part, parts_built}
use Rattle.ct_grammar_laws.proofs.Map.{map_step}
use Rattle.ct_grammar_laws.proofs.MapStatements.{run_map}
use Rattle.ct_parser.proofs.PartsMap.{parts_hom}
use Rattle.ct_grammar_laws.proofs.Units.{read, spells}

pub unit_same : (r : Option (State Tree)) → unit_read parts_built (map_step part r) ≡ option_map (part items) (unit_read trees_built r)
unit_same (Some (sc, InUnit is ∷ [], Begin)) = refl
unit_same _ = refl

pub parts_read : (ws : List Word) → unit_of parts_built ws ≡ option_map (part items) (unit_of trees_built ws)
parts_read ws = ap (unit_read parts_built) (run_map trees_built parts_built part parts_hom ws no_names (InUnit [] ∷ []) Begin) ∙ unit_same (run trees_built ws no_names (InUnit [] ∷ []) Begin)

-- the unit that spells the words, or the limit that it passes
abbrev pub Tells : List Word → Option (Part items) → Type 0
Tells ws None = (is : List t.Item) → SpellsUnit is ws → ⊥
Tells ws (Some p) = (is : List t.Item) × SpellsUnit is ws × (p.built ≡ fit (depth_unit is) is)

no_some : {A : Type 0} (x : A) → ◌≡◌ {A = Option A} None (Some x) → ⊥
no_some x e = cc

told : (ws : List Word) (o : Option (List t.Item)) → unit_of trees_built ws ≡ o → Tells ws (option_map (part items) o)
told ws None e = λ is h. no_some is (sym e ∙ read ws is h)
told ws (Some is) e = (is, spells ws is e, refl)

pub tells : (ws : List Word) → Tells ws (unit_of parts_built ws)
tells ws = subst (Tells ws) (sym (parts_read ws)) (told ws (unit_of trees_built ws) refl)
