use Rattle.std.proofs.Common.{◌≡◌, ◌+◌, ◌∙◌, List, ℕ, Bool, true, false, not, take, ◌++◌, ◌∷◌, [], map, sym, ap, subst, arith, refl}
use Rattle.std.proofs.lemmas.List.{take_more}
use Rattle.ct_outside.specs.Files.{EachOnce}
use Rattle.ct_top.specs.Project.{base_name, same_test}
use Rattle.ct_top.proofs.Logs.{from_here}
use Rattle.ct_top.proofs.NameLemmas.{HasNames, apart_more, has_name, names_more, same_here, not_of_false, not_of_true}
use Rattle.ct_top.proofs.names.check_names.Goals as goal

pub returns-in-Ok-false-clause-refused : goal.returns-in-Ok-false-clause-refused
returns-in-Ok-false-clause-refused c =
    let path = c.path-item.result in
    let named : c.base_name.result.now ≡ base_name path = c.base_name.ensures ∙ ap base_name (c.as_bytes.ensures.value ∙ c.as_str.ensures) in
    let old : has_name c.base_name.result.now (take c.loop-path.path-index c.args.paths.now) ≡ true =
    sym (c.loop-path.invariant.1 c.base_name.result) ∙ not_of_false _ (sym c.in-Ok-false.ensures.added ∙ c.in-Ok-false.field-0-test) in
    let stands : has_name (base_name path) (take c.loop-path.path-index c.args.paths.now) ≡ true =
    subst (λ (n : List ℕ). has_name n (take c.loop-path.path-index c.args.paths.now) ≡ true) named old in (
      path,
      same_here c.args.paths.now c.loop-path.path-index path (from_here c.args.paths.now c.loop-path.path-index path (omega arith) c.path-item.is) stands c.loop-path.invariant.0,
      c.in_ok-same_test-in-Ok-false.ensures ∙ ap same_test c.as_str-in-Ok-false.ensures,
    )

pub loop-path-preserved : goal.loop-path-preserved
loop-path-preserved c =
    let path = c.path-item.result in
    let named : c.base_name.result.now ≡ base_name path = c.base_name.ensures ∙ ap base_name (c.as_bytes.ensures.value ∙ c.as_str.ensures) in
    let new : has_name c.base_name.result.now (take c.loop-path.path-index c.args.paths.now) ≡ false =
    sym (c.loop-path.invariant.1 c.base_name.result) ∙ not_of_true _ (sym c.in-Ok-true.ensures.added ∙ c.in-Ok-true.field-0-test) in
    let fresh : has_name (base_name path) (take c.loop-path.path-index c.args.paths.now) ≡ false =
    subst (λ (n : List ℕ). has_name n (take c.loop-path.path-index c.args.paths.now) ≡ false) named new in
    let more : take (c.loop-path.path-index + 1) c.args.paths.now ≡ take c.loop-path.path-index c.args.paths.now ++ path ∷ [] =
    take_more c.args.paths.now c.loop-path.path-index path (omega arith) ∙ ap (λ p. take c.loop-path.path-index c.args.paths.now ++ p ∷ []) (sym c.path-item.is) in (
      apart_more c.args.paths.now c.loop-path.path-index path (omega arith) c.path-item.is fresh c.loop-path.invariant.0,
      subst (HasNames c.insert.new.self) (sym more)
          (names_more c.loop-path.names c.insert.new.self c.base_name.result (take c.loop-path.path-index c.args.paths.now) path named c.in-Ok-true.ensures.updates c.loop-path.invariant.1),
    )
