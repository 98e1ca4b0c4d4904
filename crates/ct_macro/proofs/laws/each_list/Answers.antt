use Rattle.ct_macro.proofs.EachList.{list_comes}
use Rattle.ct_macro.proofs.Puts.{call_puts}
use Rattle.ct_macro.proofs.OneText.{text_is_one}
use Rattle.ct_macro.proofs.laws.each_list.Goals as goal

pub returns : goal.returns
returns c = λ condition macros tokens room. list_comes macros room (call_puts (text_is_one c.each_text.ensures) c.one_tokenization.ensures) condition tokens
