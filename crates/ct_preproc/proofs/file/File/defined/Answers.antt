use Rattle.std.proofs.Common.{rules, ◌≡◌}
use Rattle.std.specs.Prelude.{Some}
use Rattle.ct_directive.specs.Forms as forms
use Rattle.ct_macro.specs.Table.{Refuses}
use Rattle.ct_preproc.specs.Reading as spec
use Rattle.ct_preproc.proofs.Defined.{refused}
use Rattle.ct_preproc.proofs.Replacing.{on_fault}
use Rattle.ct_preproc.proofs.file.File.defined.Goals as goal

pub returns-in-Err-Fault : goal.returns-in-Err-Fault
returns-in-Err-Fault c =
    let place = c.args.self.now.place.now in
    let found : forms.definition_in c.args.tokens.now ≡ Some c.in-Some.macro_ = search rules in
    let same : c.in_ok-state.state.macros ≡ c.args.state.macros = search rules in
    let refuses : Refuses c.in_ok-state.state.macros c.in-Some.macro_ c.in-Err-Fault.fault = search rules in
    on_fault c.fault-in-Err-Fault.result (spec.fault_at place c.args.line (spec.kind_of c.in-Err-Fault.fault.kind)) (spec.HasDefined place c.args.line c.args.state (forms.definition_in c.args.tokens.now)) (search rules)
    (refused place c.args.line c.args.state c.in_ok-state.state (forms.definition_in c.args.tokens.now) c.in-Some.macro_ c.in-Err-Fault.fault found same refuses)
