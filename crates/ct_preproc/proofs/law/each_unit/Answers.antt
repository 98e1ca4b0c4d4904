use Rattle.ct_preproc.proofs.EachFile.{unit_some}
use Rattle.ct_preproc.proofs.law.each_unit.Goals as goal

pub returns : goal.returns
returns c = λ files folders heads headers defines path text tool. unit_some record {
  tokens = c.each_text.ensures;
  expansion = c.each_list.ensures;
  condition = c.each_condition.ensures;
  outline = c.each_outline.ensures;
  meaning = c.each_meaning.ensures;
} files folders heads headers tool defines path text
