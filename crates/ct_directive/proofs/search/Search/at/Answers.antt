use Rattle.std.proofs.Common.{rules, ◌≡◌, None, string_bytes}
use Rattle.std.specs.FinMap.{get}
use Rattle.ct_outside.specs.Paths.{IsJoined}
use Rattle.ct_directive.proofs.Joining.{not_at_root, not_at_path}
use Rattle.ct_directive.proofs.search.Search.at.Goals as goal

pub returns-in_default : goal.returns-in_default
returns-in_default g c =
    not_at_root (g.F.Finder.texts c.args.self.now.finder.now) c.args.folder.now c.args.name.now (c.in_ok-path.ensures.root.0 (search rules))

pub returns-in_default-get : goal.returns-in_default-get
returns-in_default-get g c =
    let joined : IsJoined c.args.folder.now c.args.name.now (string_bytes c.in-Some.path) = search rules in
    let none : get (g.F.Finder.texts c.args.self.now.finder.now) (string_bytes c.in-Some.path) ≡ None = search rules in
    not_at_path (g.F.Finder.texts c.args.self.now.finder.now) c.args.folder.now c.args.name.now (string_bytes c.in-Some.path) joined none
