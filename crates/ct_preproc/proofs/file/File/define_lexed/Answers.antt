use Rattle.std.proofs.Common.{rules, ◌≡◌, true}
use Rattle.std.specs.Prelude.{Ok, Err}
use Rattle.ct_preproc.specs.Reading as steps
use Rattle.ct_preproc.proofs.Choices.{ok_same, fault_same}
use Rattle.ct_preproc.proofs.file.File.define_lexed.Goals as goal

pub returns : goal.returns
returns c =
    let text : c.as_slice.result.now ≡ c.args.define.now.text = search rules in
    record {
      tokens = ok_same c.lexed.result (λ text tokens. steps.IsLexed c.args.self.now.place.now true 0 text (Ok tokens.items)) c.as_slice.result.now c.args.define.now.text text c.lexed.ensures.tokens;
      «open» = fault_same c.lexed.result (λ text fault. steps.IsLexed c.args.self.now.place.now true 0 text (Err fault)) c.as_slice.result.now c.args.define.now.text text c.lexed.ensures.open;
    }
