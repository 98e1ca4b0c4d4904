use Rattle.ct_macro_call.proofs.Substituting.{one_is_put}
use Rattle.ct_macro_call.proofs.substitute.one_replacement.Goals as goal

pub returns : goal.returns
returns c = λ call fulls a b one other. one_is_put c.one_tokenization.ensures call fulls a b one other
