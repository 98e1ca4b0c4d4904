use Rattle.std.proofs.Common.{[], rules, refl, sym}
use Rattle.std.proofs.lemmas.Bool.{false≢true}
use Rattle.ct_outside.specs.Paths.{components_of, joined_components}
use Rattle.ct_outside.proofs.ComponentLemmas.{inside, outside, leads_on, leads_within, leaves_first, leaves_second}
use Rattle.ct_outside.proofs.paths.join_path.Goals as goal

pub returns-then-not-branch-clause-root : goal.returns-then-not-branch-clause-root
returns-then-not-branch-clause-root c =
    let left = outside c.in_ok-follow.field-0 _ _ (search rules) c.in_ok-follow.ensures in
    (λ _. leaves_first (components_of c.args.folder.now) (components_of c.args.rest.now) [] (rw c.new-components.ensures.items at left), λ _. refl)

pub returns-then-not-branch-2-clause-root : goal.returns-then-not-branch-2-clause-root
returns-then-not-branch-2-clause-root c =
    let first = inside c.in_ok-follow.field-0 _ _ (search rules) c.in_ok-follow.ensures in
    let left = outside c.in_ok-follow-2.field-0 _ _ (search rules) c.in_ok-follow-2.ensures in
    (λ _. leaves_second (components_of c.args.folder.now) (components_of c.args.rest.now) [] c.follow.new.folder.items (rw c.new-components.ensures.items at first) left, λ _. refl)

pub returns-clause-path : goal.returns-clause-path
returns-clause-path c =
    let first = inside c.in_ok-follow.field-0 _ _ (search rules) c.in_ok-follow.ensures in
    let second = inside c.in_ok-follow-2.field-0 _ _ (search rules) c.in_ok-follow-2.ensures in (
      c.follow-2.new.folder.items,
      leads_on (components_of c.args.folder.now) (components_of c.args.rest.now) [] c.follow.new.folder.items c.follow-2.new.folder.items (rw c.new-components.ensures.items at first) second,
      search rules,
    )

pub returns-clause-root : goal.returns-clause-root
returns-clause-root c =
    let first = inside c.in_ok-follow.field-0 _ _ (search rules) c.in_ok-follow.ensures in
    let second = inside c.in_ok-follow-2.field-0 _ _ (search rules) c.in_ok-follow-2.ensures in (
      λ e. absurd (false≢true (sym e)),
      λ h. absurd (leads_within (joined_components c.args.folder.now c.args.rest.now) [] c.follow-2.new.folder.items
          (leads_on (components_of c.args.folder.now) (components_of c.args.rest.now) [] c.follow.new.folder.items c.follow-2.new.folder.items (rw c.new-components.ensures.items at first) second) h),
    )
