use Rattle.std.proofs.Common.{rules, ◌≡◌, true}
use Rattle.ct_directive.specs.Lines.{words_of}
use Rattle.ct_preproc.specs.Reading as steps
use Rattle.ct_preproc.specs.Units as spec
use Rattle.ct_preproc.proofs.Choices.{on_next, on_same}
use Rattle.ct_preproc.proofs.Stopping.{on_passed}
use Rattle.ct_preproc.proofs.UnitSteps.{on_refusal}
use Rattle.ct_preproc.proofs.file.File.with_define.Goals as goal

pub returns-in_err-tokens : goal.returns-in_err-tokens
returns-in_err-tokens c =
    let lexed = steps.IsLexed c.args.self.now.place.now true 0 c.args.define.now.text in
    on_passed c.from_residual.result c.in_err-tokens.field-0.0 lexed
    (λ answer tokens. spec.Defined c.args.self.now.place.now c.args.macros c.args.define.now.name (words_of tokens) answer) (search rules)
    (on_refusal lexed c.in_err-tokens.field-0.0 c.in_err-tokens.ensures.open)

pub returns : goal.returns
returns c =
    let body : c.in_ok-body.body ≡ words_of c.in_ok-tokens.tokens.items = search rules in
    on_next (steps.IsLexed c.args.self.now.place.now true 0 c.args.define.now.text) c.in_ok-tokens.tokens.items c.with_body.result
    (λ tokens answer. spec.Defined c.args.self.now.place.now c.args.macros c.args.define.now.name (words_of tokens) answer) c.in_ok-tokens.ensures.tokens
    (on_same c.with_body.result (λ tokens answer. spec.Defined c.args.self.now.place.now c.args.macros c.args.define.now.name tokens answer) c.in_ok-body.body
    (words_of c.in_ok-tokens.tokens.items) body c.with_body.ensures)
