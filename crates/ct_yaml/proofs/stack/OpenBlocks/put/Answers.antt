use Rattle.ct_yaml.proofs.Putting.{put_end, put_closed, has_last}
use Rattle.ct_yaml.proofs.stack.OpenBlocks.put.Goals as goal

-- the mark belongs to the innermost value
pub returns-then-place-len : goal.returns-then-place-len
returns-then-place-len c =
    rw (put_end c.args.mark c.args.self.now.blocks c.args.self.now.value (cc (c.inside_len-place.ensures.value, c.as_slice.ensures, c.len.ensures, c.if-place-len.true))) c.begin.ensures

-- the mark begins the next part of the block that is innermost once those above are closed
pub returns : goal.returns
returns c =
    let shut = c.in_ok-node.ensures in
    let last = has_last c.close_above.new.self.blocks c.inside_len-place.result shut.2 in
    rw (put_closed c.args.mark c.args.self.now.blocks c.close_above.new.self.blocks last.0 shut.0 last.1 c.args.self.now.value c.inside_len-place.result
    (cc (c.inside_len-place.ensures.value, c.as_slice.ensures)) shut.1 shut.2 last.2)
    (rw shut.3 at (c.next.ensures last.0 last.1 last.2))
