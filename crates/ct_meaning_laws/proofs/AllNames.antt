-- Where each name will do, all trees have such names.
use Rattle.std.proofs.Common.{◌≡◌, ℕ, List, [], ◌∷◌, map, Bool, true, Option, Some, None, refl, sym, subst, ◌∙◌}
use Rattle.std.specs.Prelude.{option_map, ◌&&◌}
use Rattle.std.specs.List.{list_all}
use Rattle.ct_core.specs.declared.trees.CoreExpression.{CoreExpression, map-CoreExpression, fold-roll-CoreExpression, ind-CoreExpression}
use Rattle.ct_core.specs.declared.trees.CoreExpression.TheOpen.{CoreExpression-F}
use Rattle.ct_core.specs.declared.trees.CoreStatement.{CoreStatement, map-CoreStatement, fold-roll-CoreStatement, ind-CoreStatement}
use Rattle.ct_core.specs.declared.trees.CoreStatement.TheOpen.{CoreStatement-F}
use Rattle.ct_meaning_laws.specs.Names.{expression_names_step, expression_names, all_of, statement_names_step, statement_names}

abbrev pub any_name : List ℕ → Bool
any_name name = true

both : (a b : Bool) → a ≡ true → b ≡ true → (a && b) ≡ true
both a b e d = let P : Bool → Type 0 = λ x. (x && b) ≡ true in subst P (sym e) d

abbrev Fine : CoreExpression → Type 0
Fine e = expression_names any_name e ≡ true

all_fine : (all : List ((e : CoreExpression) × Fine e)) → list_all (λ b. b) (map (expression_names any_name) (map (λ e. e.0) all)) ≡ true
all_fine [] = refl
all_fine (e ∷ all) = both _ _ e.1 (all_fine all)

layer_fine : (y : CoreExpression-F ((e : CoreExpression) × Fine e))
    → expression_names_step any_name (map-CoreExpression CoreExpression Bool (expression_names any_name) (map-CoreExpression ((e : CoreExpression) × Fine e) CoreExpression (λ e. e.0) y)) ≡ true
layer_fine (CoreExpression-F.Constant k z) = refl
layer_fine (CoreExpression-F.Variable place) = refl
layer_fine (CoreExpression-F.Text text) = refl
layer_fine (CoreExpression-F.Function name) = refl
layer_fine (CoreExpression-F.Load t a) = a.1
layer_fine (CoreExpression-F.Assign t a b) = both _ _ a.1 b.1
layer_fine (CoreExpression-F.Convert k a) = a.1
layer_fine (CoreExpression-F.Binary op k a b) = both _ _ a.1 b.1
layer_fine (CoreExpression-F.Call type f arguments) = both _ _ f.1 (all_fine arguments)

pub any_expression : (e : CoreExpression) → expression_names any_name e ≡ true
unfolding expression_names
any_expression = ind-CoreExpression Fine (λ x y is.
    let N : CoreExpression-F CoreExpression → Type 0 = λ l. expression_names_step any_name (map-CoreExpression CoreExpression Bool (expression_names any_name) l) ≡ true in
    fold-roll-CoreExpression Bool (expression_names_step any_name) x ∙ subst N is (layer_fine y))

abbrev Good : CoreStatement → Type 0
Good b = statement_names any_name b ≡ true

all_good : (all : List ((b : CoreStatement) × Good b)) → list_all (λ b. b) (map (statement_names any_name) (map (λ b. b.0) all)) ≡ true
all_good [] = refl
all_good (b ∷ all) = both _ _ b.1 (all_good all)

optional_fine : (e : Option CoreExpression) → all_of (option_map (expression_names any_name) e) ≡ true
optional_fine (Some e) = any_expression e
optional_fine None = refl

part_good : (y : CoreStatement-F ((b : CoreStatement) × Good b))
    → statement_names_step any_name (map-CoreStatement CoreStatement Bool (statement_names any_name) (map-CoreStatement ((b : CoreStatement) × Good b) CoreStatement (λ b. b.0) y)) ≡ true
part_good (CoreStatement-F.Run mark e) = any_expression e
part_good (CoreStatement-F.Block mark places all) = all_good all
part_good (CoreStatement-F.Declare mark place t e) = optional_fine e
part_good (CoreStatement-F.If mark e a (Some b)) = both _ _ (any_expression e) (both _ _ a.1 b.1)
part_good (CoreStatement-F.If mark e a None) = both _ _ (any_expression e) (both _ _ a.1 refl)
part_good (CoreStatement-F.While mark e body) = both _ _ (any_expression e) body.1
part_good (CoreStatement-F.Return mark e) = optional_fine e

pub any_statement : (b : CoreStatement) → statement_names any_name b ≡ true
unfolding statement_names
any_statement = ind-CoreStatement Good (λ x y is.
    let N : CoreStatement-F CoreStatement → Type 0 = λ l. statement_names_step any_name (map-CoreStatement CoreStatement Bool (statement_names any_name) l) ≡ true in
    fold-roll-CoreStatement Bool (statement_names_step any_name) x ∙ subst N is (part_good y))
