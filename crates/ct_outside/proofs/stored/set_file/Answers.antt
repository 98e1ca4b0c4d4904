use Rattle.ct_outside.proofs.StoredLemmas.{set-read, files_of-push}
use Rattle.ct_outside.proofs.stored.set_file.Goals as goal

pub returns-in-Some-clause-ok : goal.returns-in-Some-clause-ok
returns-in-Some-clause-ok c =
    rw c.in_ok-bytes.ensures (set-read c.args.files.now.items c.in-Some.place c.index_mut.result.now c.args.path.now c.args.bytes.now c.index_mut.ensures.value (rw c.deref.ensures.value at c.in-Some.ensures))

pub returns-in_ok-push-in-None-clause-ok : goal.returns-in_ok-push-in-None-clause-ok
returns-in_ok-push-in-None-clause-ok c =
    rw (c.in_ok-push-in-None.ensures.items, c.in_ok-path-in-None.ensures, c.in_ok-bytes.ensures) (files_of-push c.args.files.now.items c.args.path.now c.args.bytes.now (rw c.deref.ensures.value at c.in-None.ensures))
