use Rattle.std.proofs.Common.{sym, subst}
use Rattle.std.specs.List.{Contains}
use Rattle.std.proofs.lemmas.List.Filters.{dedup_is}
use Rattle.std.proofs.lemmas.Result.{IfOk-weaker}
use Rattle.ct_find.specs.Rows.{texts_of}
use Rattle.ct_find.specs.Sets.{AreSorted}
use Rattle.ct_find.proofs.SetLemmas.{sorted_set}
use Rattle.ct_find.proofs.sets.sorted_once.Goals as goal

pub returns : goal.returns
returns c =
    IfOk-weaker c.as_texts.result _ _
    (λ texts is. subst (λ ps. AreSorted (Contains (texts_of c.args.paths.items)) ps) (sym is)
    (sorted_set c.args.paths.items c.sort.new.self.items c.dedup.new.self.items c.in_ok-sort.ensures.sorted c.in_ok-sort.ensures.permutation (dedup_is _ _ _ c.dedup.ensures.filtered)))
    c.as_texts.ensures
