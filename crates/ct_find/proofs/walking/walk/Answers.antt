use Rattle.std.proofs.Common.{arith, rules, refl, sym, ap, length, ◌∙◌, ◌≡◌, List, subst}
use Rattle.std.specs.Prelude.{reverse}
use Rattle.ct_find.specs.declared.starts.Start.{Start}
use Rattle.ct_find.specs.Folders.{is_at_or_below}
use Rattle.ct_find.specs.Rows.{IsWalked}
use Rattle.ct_find.proofs.WalkedLemmas.{next_last, none_left, walk_passes, walked_hidden, walked_none, walked_visit}
use Rattle.ct_find.proofs.walking.walk.Goals as goal

pub loop-init : goal.loop-init
loop-init g c = (
  λ files told. walked_none files c.args.build.now (reverse c.args.starts.items) c.new.result c.new.ensures,
  omega arith,
  refl,
  refl,
  refl,
)

pub returns-in_default-clause-told : goal.returns-in_default-clause-told
returns-in_default-clause-told g c files told =
    let none : length c.loop.left.items ≡ 0 = search rules in
    subst (λ (ls : List Start). IsWalked files c.args.build.now (reverse c.args.starts.items) ls c.loop.listing.rows c.loop.listing.entries)
    (none_left c.loop.left.items none) (c.loop.invariant.0 files told)

pub loop-preserved-then-is_at_or_below : goal.loop-preserved-then-is_at_or_below
loop-preserved-then-is_at_or_below g c = (
  λ files told.
      walked_hidden files c.args.build.now (reverse c.args.starts.items) (reverse c.pop.new.self.items) c.in-Some.start c.loop.listing.rows c.loop.listing.entries
      (subst (λ (ls : List Start). IsWalked files c.args.build.now (reverse c.args.starts.items) ls c.loop.listing.rows c.loop.listing.entries)
      (next_last c.loop.left.items c.pop.new.self.items c.in-Some.start c.in-Some.ensures.items) (c.loop.invariant.0 files told)) (sym (c.is_at_or_below.ensures ∙ ap (is_at_or_below c.args.build.now) c.as_str.ensures) ∙ c.if-is_at_or_below.true),
  c.loop.invariant.1,
  c.loop.invariant.2,
  c.loop.invariant.3,
  c.loop.invariant.4,
)

pub returns-in-Err-clause-told : goal.returns-in-Err-clause-told
returns-in-Err-clause-told g c files told =
    walk_passes files c.args.build.now (reverse c.args.starts.items) (reverse c.pop.new.self.items) c.in-Some.start c.loop.listing c.visit.new.listing c.in-Err.fail
    (subst (λ (ls : List Start). IsWalked files c.args.build.now (reverse c.args.starts.items) ls c.loop.listing.rows c.loop.listing.entries)
    (next_last c.loop.left.items c.pop.new.self.items c.in-Some.start c.in-Some.ensures.items) (c.loop.invariant.0 files told)) (sym (c.is_at_or_below.ensures ∙ ap (is_at_or_below c.args.build.now) c.as_str.ensures) ∙ c.if-is_at_or_below.false)
    (c.in-Err.ensures.told files (c.loop.invariant.2 ∙ told))

pub loop-preserved : goal.loop-preserved
loop-preserved g c =
    let row = c.in_default-visit.ensures.row in (
      (λ files told.
          walked_visit files c.args.build.now (reverse c.args.starts.items) (reverse c.pop.new.self.items) (reverse c.visit.new.left.items) c.in-Some.start row.0 c.loop.listing c.visit.new.listing
          (subst (λ (ls : List Start). IsWalked files c.args.build.now (reverse c.args.starts.items) ls c.loop.listing.rows c.loop.listing.entries)
          (next_last c.loop.left.items c.pop.new.self.items c.in-Some.start c.in-Some.ensures.items) (c.loop.invariant.0 files told)) (sym (c.is_at_or_below.ensures ∙ ap (is_at_or_below c.args.build.now) c.as_str.ensures) ∙ c.if-is_at_or_below.false)
          row.1.0 row.1.1 (c.in_default-visit.ensures.told files (c.loop.invariant.2 ∙ told)) row.1.2 (λ e. ap reverse (row.1.3 e))),
      c.in_default-visit.ensures.few,
      search rules,
      search rules,
      search rules,
    )
