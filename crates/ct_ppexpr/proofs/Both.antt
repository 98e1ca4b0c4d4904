-- The two directions at once.
use Rattle.std.proofs.Common.{◌≡◌, List, Option, Some, None, refl, sym, ap, subst, ◌∙◌}
use Rattle.ct_ppexpr.specs.declared.values.Value.{Value}
use Rattle.ct_ppexpr.specs.declared.words.Word.{Word}
use Rattle.ct_ppexpr.specs.Trees.{Tree, SpellsCondition, value_of}
use Rattle.ct_ppexpr.specs.Machine.{run_all, trees, values}
use Rattle.ct_ppexpr.proofs.Mapping.{all_map, tree_map}
use Rattle.ct_ppexpr.proofs.Complete.{again}
use Rattle.ct_ppexpr.proofs.Sound.{Found, found}

-- the tree that spells the words is the one that is read
read : (ws : List Word) (t : Tree) → SpellsCondition t ws → run_all trees ws ≡ Some t
read ws t h = ap (run_all trees) (sym h.spelled) ∙ again t h.well_formed

spells : (ws : List Word) (t : Tree) → run_all trees ws ≡ Some t → SpellsCondition t ws
spells ws t e =
    let h = subst (Found ws) e (found ws) in record { well_formed = h.0; spelled = h.1 }

-- at most one tree spells the words
pub one_tree : (ws : List Word) (t u : Tree) → SpellsCondition t ws → SpellsCondition u ws → t ≡ u
one_tree ws t u h k = let e = sym (read ws t h) ∙ read ws u k in cc

-- what reading says of the words
abbrev pub Tells : List Word → Option Value → Type 0
Tells ws None = (t : Tree) → SpellsCondition t ws → ⊥
Tells ws (Some v) = (t : Tree) × SpellsCondition t ws × (value_of t ≡ v)

tells_from : (ws : List Word) (o : Option Tree) → run_all trees ws ≡ o → Tells ws (tree_map o)
tells_from ws None e = λ t h. let k : None ≡ Some t = sym e ∙ read ws t h in absurd cc
tells_from ws (Some t) e = (t, spells ws t e, refl)

pub tells : (ws : List Word) → Tells ws (run_all values ws)
tells ws = subst (Tells ws) (sym (all_map ws)) (tells_from ws (run_all trees ws) refl)
