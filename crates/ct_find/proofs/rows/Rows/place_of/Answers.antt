use Rattle.std.proofs.Common.{ℕ, List, Option, MatchOption, sym, subst, ◌∙◌}
use Rattle.std.specs.BTreeMap.{get_by_text}
use Rattle.ct_find.specs.declared.rows.Row.{Row}
use Rattle.ct_find.specs.Places.{IsFresh, StandsAt}
use Rattle.ct_find.proofs.rows.Rows.place_of.Goals as goal

pub returns : goal.returns
returns c =
    let folder : List ℕ = c.args.folder.now in
    subst (λ (o : Option ℕ). MatchOption o (IsFresh c.args.self.now folder) (StandsAt c.args.self.now folder)) (sym (c.copied.ensures ∙ c.get.ensures.value))
    (subst (λ (rows : List Row). MatchOption (get_by_text c.self.inside.places folder) (IsFresh rows folder) (StandsAt rows folder)) c.self.view_is (c.self.invariant folder))
