use Rattle.std.proofs.Common.{arith, ◌≤◌, length}
use Rattle.ct_find.specs.Limits.{most_file_bytes}
use Rattle.ct_find.proofs.ReadLemmas.{small_more}
use Rattle.ct_find.proofs.reading.read_file.Goals as goal

pub returns-clause-small : goal.returns-clause-small
returns-clause-small g c small =
    let within : length c.as_slice.result.now ≤ most_file_bytes = omega (arith, c.in-Ok-There.ensures.within, c.as_slice.ensures.len, c.new-text.ensures.len) in
    small_more c.args.texts.now c.put.new.self c.args.path.now c.as_slice.result.now c.in_ok-put.ensures.ok within small
