use Rattle.std.proofs.Common.{rules, ◌≡◌}
use Rattle.ct_directive.specs.Forms.{object_like}
use Rattle.ct_macro.specs.Table.{Refuses}
use Rattle.ct_macro_call.specs.Definition.{without}
use Rattle.ct_preproc.proofs.Defining.{refused_anew}
use Rattle.ct_preproc.proofs.Replacing.{is_refused}
use Rattle.ct_preproc.proofs.file.File.replaced.Goals as goal

pub returns-in-Err-Fault : goal.returns-in-Err-Fault
returns-in-Err-Fault c =
    let same : c.in_ok-macro_.macro_ ≡ object_like c.args.define.now.name c.args.body = search rules in
    let between : c.undef.new.self ≡ without c.args.define.now.name c.args.macros = search rules in
    let named : c.in_ok-macro_.macro_.name ≡ c.args.define.now.name = search rules in
    let refuses : Refuses c.undef.new.self c.in_ok-macro_.macro_ c.in-Err-Fault.field-0-0 = search rules in
    is_refused c.args.self.now.place.now c.args.macros c.args.define.now.name c.args.body c.in_ok-macro_.macro_ c.fault.result same
    (refused_anew c.args.define.now.name c.args.macros c.undef.new.self c.in_ok-macro_.macro_ c.in-Err-Fault.field-0-0 between named refuses) c.fault.ensures
