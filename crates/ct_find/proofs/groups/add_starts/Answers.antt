use Rattle.std.proofs.Common.{◌++◌, ◌∷◌, [], ◌∙◌, ap, sym, append_assoc}
use Rattle.ct_find.proofs.StartLemmas.{deep_as, deep_push, paths_push}
use Rattle.ct_find.proofs.groups.add_starts.Goals as goal

pub loop-path-preserved : goal.loop-path-preserved
loop-path-preserved c =
    let was = c.loop-path.invariant in (
      was.0 ++ record { path = c.in_ok-path.path; deep = c.in_ok-deep.deep } ∷ [],
      c.in_ok-push.ensures.items ∙ ap (λ zs. zs ++ record { path = c.in_ok-path.path; deep = c.in_ok-deep.deep } ∷ []) was.1 ∙ append_assoc _ was.0 _,
      paths_push was.0 (record { path = c.in_ok-path.path; deep = c.in_ok-deep.deep }) c.as_slice-path-items.result.now c.loop-path.path-index c.path-item.result c.loop-path-test.true c.path-item.is
          (c.in_ok-path.ensures ∙ c.as_str-in-loop-path.ensures) was.2,
      deep_push c.args.patterns.now was.0 (record { path = c.in_ok-path.path; deep = c.in_ok-deep.deep }) was.3
          (deep_as c.args.patterns.now c.in_ok-path.path c.as_str.result.now c.in_ok-deep.deep (c.in_ok-path.ensures ∙ c.as_str-in-loop-path.ensures ∙ sym c.as_str.ensures) c.in_ok-deep.ensures),
    )
