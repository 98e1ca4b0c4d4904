use Rattle.std.proofs.Common.{rules, ◌≡◌}
use Rattle.ct_preproc.specs.Units as spec
use Rattle.ct_preproc.proofs.Choices.{on_same}
use Rattle.ct_preproc.proofs.file.File.macros_of.Goals as goal

pub returns : goal.returns
returns c =
    let macros : c.in_ok-macros.macros ≡ spec.predefined = search rules in
    on_same c.with_defines.result (λ macros answer. spec.HaveDefines c.args.self.now.place.now macros c.args.defines.now answer) c.in_ok-macros.macros spec.predefined macros
    c.with_defines.ensures
