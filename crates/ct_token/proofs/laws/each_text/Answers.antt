use Rattle.ct_token.proofs.Texts.{text_answers}
use Rattle.ct_token.proofs.laws.each_text.Goals as goal

pub returns : goal.returns
returns c = text_answers
