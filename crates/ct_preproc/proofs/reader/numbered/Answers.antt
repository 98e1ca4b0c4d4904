use Rattle.std.proofs.Common.{rules, ◌≡◌}
use Rattle.std.specs.Prelude.{Ok, Err}
use Rattle.ct_preproc.specs.Reading as steps
use Rattle.ct_preproc.proofs.Choices.{ok_same, fault_same}
use Rattle.ct_preproc.proofs.reader.numbered.Goals as goal

pub returns : goal.returns
returns c =
    let number : c.file_number-number.result ≡ steps.file_number c.args.file.place.now.path c.args.state.now.files = search rules in
    record {
      tokens = ok_same c.lexed.result (λ number tokens. steps.IsLexed c.args.file.place.now c.args.file.place.now.built_in number c.args.text.now (Ok tokens.items)) c.file_number-number.result
          (steps.file_number c.args.file.place.now.path c.args.state.now.files) number c.lexed.ensures.tokens;
      «open» = fault_same c.lexed.result (λ number fault. steps.IsLexed c.args.file.place.now c.args.file.place.now.built_in number c.args.text.now (Err fault)) c.file_number-number.result
          (steps.file_number c.args.file.place.now.path c.args.state.now.files) number c.lexed.ensures.open;
    }
