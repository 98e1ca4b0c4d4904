use Rattle.std.proofs.Common.{rules, ◌≡◌}
use Rattle.ct_directive.specs.Search.{IsNotAt, folder_of}
use Rattle.ct_directive.proofs.Naming.{found_behind}
use Rattle.ct_directive.proofs.search.Search.beside.Goals as goal

pub returns : goal.returns
returns g c =
    let same : c.as_str.result.now ≡ folder_of c.args.path.now = search rules in
    let none : IsNotAt (g.F.Finder.texts c.args.self.now.finder.now) c.as_str.result.now c.args.name.now = search rules in
    found_behind c.in_folders.result (g.F.Finder.texts c.args.self.now.finder.now) (folder_of c.args.path.now) c.as_str.result.now c.args.self.now.folders.now c.args.name.now same none c.in_folders.ensures
