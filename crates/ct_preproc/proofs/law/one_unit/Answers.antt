use Rattle.ct_preproc.proofs.OneFile.{unit_one}
use Rattle.ct_preproc.proofs.law.one_unit.Goals as goal

pub returns : goal.returns
returns c = record {
  one = λ files folders heads headers defines path tool. unit_one record {
    tokens = c.one_tokenization.ensures;
    comment = c.one_open_comment.ensures.one;
    closed = c.one_open_comment.ensures.apart;
    expansion = c.one_expansion.ensures.one;
    apart = c.one_expansion.ensures.apart;
    refusal = c.one_expansion.ensures.refusal;
    condition = c.one_condition.ensures;
    group = c.one_outline.ensures.group;
    broken = c.one_outline.ensures.broken;
  } files folders heads headers tool defines path;
}
