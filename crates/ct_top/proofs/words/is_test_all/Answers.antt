use Rattle.std.proofs.Common.{rules}
use Rattle.ct_top.proofs.OneWord.{only_element}
use Rattle.ct_top.proofs.words.is_test_all.Goals as goal

pub returns-in-len1 : goal.returns-in-len1
returns-in-len1 c =
    let words = only_element c.args.words.now c.word-item.result c.in-len1.len_at_least c.in-len1.len_below c.word-item.is in
    rw words (search rules)
