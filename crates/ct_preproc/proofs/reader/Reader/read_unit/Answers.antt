use Rattle.std.proofs.Common.{rules, ◌≡◌}
use Rattle.ct_preproc.specs.Files.{ReadsFile, Enters}
use Rattle.ct_directive.specs.Headers.{built_in_headers}
use Rattle.ct_preproc.specs.Units as spec
use Rattle.ct_preproc.proofs.Choices.{on_same}
use Rattle.ct_preproc.proofs.reader.Reader.read_unit.Goals as goal

pub returns : goal.returns
returns g c =
    let search_in = c.args.self.now.search in
    let limit : c.most_tokens-limit.result ≡ spec.most_tokens c.args.tool = search rules in
    let more : c.most_includes-more.result ≡ spec.most_includes c.args.tool = search rules in
    let state : c.empty-state.result ≡ spec.empty c.args.macros = search rules in
    on_same c.read.result
    (λ limit answer. ReadsFile limit (Enters (g.F.Finder.texts search_in.finder.now) search_in.folders.now search_in.heads.now built_in_headers limit (spec.most_includes c.args.tool))
    c.args.place.now c.args.text.now (spec.empty c.args.macros) answer)
    c.most_tokens-limit.result (spec.most_tokens c.args.tool) limit
    (on_same c.read.result
    (λ more answer. ReadsFile c.most_tokens-limit.result (Enters (g.F.Finder.texts search_in.finder.now) search_in.folders.now search_in.heads.now built_in_headers c.most_tokens-limit.result more)
    c.args.place.now c.args.text.now (spec.empty c.args.macros) answer)
    c.most_includes-more.result (spec.most_includes c.args.tool) more
    (on_same c.read.result
    (λ state answer. ReadsFile c.most_tokens-limit.result (Enters (g.F.Finder.texts search_in.finder.now) search_in.folders.now search_in.heads.now built_in_headers c.most_tokens-limit.result c.most_includes-more.result)
    c.args.place.now c.args.text.now state answer)
    c.empty-state.result (spec.empty c.args.macros) state c.read.ensures))
