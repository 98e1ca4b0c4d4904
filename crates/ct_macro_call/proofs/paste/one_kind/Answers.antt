use Rattle.std.proofs.Common.{List, [], ◌∷◌, subst, sym}
use Rattle.ct_base.specs.declared.lexical.Token.{Token}
use Rattle.ct_token.specs.Lexing.{IsTokenization}
use Rattle.ct_macro_call.proofs.Pasting.{kind_found}
use Rattle.ct_macro_call.proofs.paste.one_kind.Goals as goal

pub returns-in-Ok : goal.returns-in-Ok
returns-in-Ok c =
    kind_found c.one_tokenization.ensures c.args.text.now c.as_slice.result.now c.only_kind.result (subst (λ (l : List Token). IsTokenization 0 c.args.text.now l) (sym c.as_slice.ensures.value) c.in-Ok.ensures.tokens) c.only_kind.ensures

pub returns-in-Err-Fault : goal.returns-in-Err-Fault
returns-in-Err-Fault c =
    λ kind one. c.one_open_comment.ensures.apart 0 c.args.text.now (one.0 ∷ []) c.in-Err-Fault.field-0-0.line one.1 (rw c.in-Err-Fault.field-0-is at c.in-Err-Fault.ensures.open)
