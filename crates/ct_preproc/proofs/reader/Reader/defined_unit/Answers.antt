use Rattle.ct_directive.specs.Headers.{built_in_headers}
use Rattle.ct_preproc.specs.Units as spec
use Rattle.ct_preproc.proofs.Choices.{on_next}
use Rattle.ct_preproc.proofs.reader.Reader.defined_unit.Goals as goal

pub returns : goal.returns
returns g c =
    on_next (spec.HaveDefines c.args.place.now spec.predefined c.args.defines.now) c.in_ok-macros.macros c.unit_of.result
    (λ macros answer. spec.ReadsUnit (g.F.Finder.texts c.args.self.now.search.finder.now) c.args.self.now.search.folders.now c.args.self.now.search.heads.now built_in_headers c.args.tool
    c.args.place.now c.args.text.now macros answer)
    c.in_ok-macros.ensures c.unit_of.ensures
