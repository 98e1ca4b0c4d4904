use Rattle.ct_find.proofs.picking.groups_of.Goals as goal

pub returns : goal.returns
returns c = record {
  test = rw c.as_slice.ensures at c.is_matched.ensures;
  source = rw c.as_slice-2.ensures at c.is_matched-2.ensures;
  include = rw c.as_slice-3.ensures at c.is_matched-3.ensures;
  support = rw c.as_slice-4.ensures at c.is_matched-4.ensures;
}
