use Rattle.std.proofs.Common.{ap, sym, ◌∙◌, Some}
use Rattle.ct_outside.proofs.StoredLemmas.{get-place}
use Rattle.ct_outside.proofs.stored.bytes_at.Goals as goal

pub returns : goal.returns
returns c =
    let place = c.in_ok-place.ensures in
    ap Some c.as_slice.ensures
    ∙ sym (get-place c.args.files.now c.in_ok-place.place c.index-files-place.result c.args.path.now place.0 place.1 (place.2 _))
