use Rattle.std.proofs.Common.{◌≡◌, ◌+◌, ◌-◌, ◌∷◌, ◌++◌, [], length, get_or, take, drop, is_ok, sym, ap, ◌∙◌, rules}
use Rattle.std.proofs.ResultArms.{chosen}
use Rattle.ct_token.proofs.Joining.{past_joint, past_byte, behind_joint}
use Rattle.ct_token.proofs.lines.join_lines.Goals as goal

pub loop-byte-preserved-then-is_joint : goal.loop-byte-preserved-then-is_joint
loop-byte-preserved-then-is_joint c =
    let after = c.in-Some.after.now in
    let byte = c.in-Some.byte.now in
    let joint = sym c.is_joint.ensures ∙ search (rules, c.if-is_joint.true) in
    past_joint c.args.text.now c.loop-byte.rest.now after (take (length after - 1) (drop 1 after)) byte (get_or after 0 0) c.loop-byte.line c.loop-byte.bytes.items c.loop-byte.lines.items
    c.loop-byte.invariant c.in-Some.ensures.cases.0 (behind_joint byte after joint) joint

pub loop-byte-preserved : goal.loop-byte-preserved
loop-byte-preserved c =
    let after = c.in-Some.after.now in
    let byte = c.in-Some.byte.now in
    let bytes : c.push.new.self.items ≡ c.loop-byte.bytes.items ++ byte ∷ [] = chosen _ _ _ _ c.push.ensures.items (ap is_ok c.in_ok-push.was) in
    let lines : c.push-else-is_joint.new.self.items ≡ c.loop-byte.lines.items ++ c.loop-byte.line ∷ [] = chosen _ _ _ _ c.push-else-is_joint.ensures.items (ap is_ok c.in_ok-push-2.was) in
    past_byte c.args.text.now c.loop-byte.rest.now after byte c.loop-byte.line (c.loop-byte.line + c.newlines_in-line.result) c.loop-byte.bytes.items c.loop-byte.lines.items c.push.new.self.items c.push-else-is_joint.new.self.items
    c.loop-byte.invariant c.in-Some.ensures.cases.0 (sym c.is_joint.ensures ∙ search (rules, c.if-is_joint.false)) bytes lines (ap (λ n. c.loop-byte.line + n) c.newlines_in-line.ensures)
