use Rattle.std.proofs.Common.{ap}
use Rattle.std.proofs.lemmas.Result.{IfOk-weaker}
use Rattle.ct_find.specs.Rows.{texts_of}
use Rattle.ct_find.proofs.FindLemmas.{in_lists}
use Rattle.ct_find.proofs.search.all_paths.Goals as goal

pub returns : goal.returns
returns c =
    IfOk-weaker c.sorted_once.result _ _
    (λ paths is. in_lists c.args.lists.now c.new-paths.result.items c.add_paths.new.into.items c.add_paths-2.new.into.items c.add_paths-3.new.into.items paths
    (ap texts_of c.new-paths.ensures.items) (rw c.as_slice.ensures at c.in_ok-add_paths.ensures) (rw c.as_slice-2.ensures at c.in_ok-add_paths-2.ensures) (rw c.as_slice-3.ensures at c.in_ok-add_paths-3.ensures) is)
    c.sorted_once.ensures
