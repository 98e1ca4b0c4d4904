use Rattle.std.proofs.Common.{◌≡◌, ◌++◌, arith}
use Rattle.std.proofs.lemmas.Grind.{common_steps}
use Rattle.ct_macro_call.proofs.Pasting.{unpasted}
use Rattle.ct_macro_call.proofs.paste.paste.Goals as goal
use Rattle.ct_macro_call.proofs.paste.paste.Goals.{Joined-left-5}

text_is : (c : Joined-left-5) → c.as_slice-3.result.now ≡ c.args.left.token.text ++ c.args.right.token.text
text_is c = grind (arith, common_steps)

pub returns-in_default : goal.returns-in_default
returns-in_default c =
    unpasted c.args.left c.args.right c.as_slice-3.result.now (grind arith) (grind arith) (text_is c) (rw c.in_default.is at c.in_ok-kind.ensures)
