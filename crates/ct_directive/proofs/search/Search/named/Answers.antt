use Rattle.std.proofs.Common.{rules, ◌≡◌, true, false, Some, None}
use Rattle.ct_directive.specs.Search as spec
use Rattle.ct_directive.proofs.Choosing.{ok_true, ok_false, ok_none, ok_some}
use Rattle.ct_directive.proofs.search.Search.named.Goals as goal

pub returns-then-is_own : goal.returns-then-is_own
returns-then-is_own g c =
    let own : spec.is_own c.args.name.now ≡ true = search rules in
    ok_true (spec.is_own c.args.name.now) c.built_in.result _ _ own c.built_in.ensures

pub returns-in-Some : goal.returns-in-Some
returns-in-Some g c =
    let own : spec.is_own c.args.name.now ≡ false = search rules in
    let head : spec.mocked c.args.self.now.heads.now.prefix c.args.name.now ≡ Some c.in-Some.mocked_header.now = search rules in
    ok_false (spec.is_own c.args.name.now) c.head.result _ _ own
    (ok_some (spec.mocked c.args.self.now.heads.now.prefix c.args.name.now) c.in-Some.mocked_header.now c.head.result _ _ head c.head.ensures)

pub returns-in-None : goal.returns-in-None
returns-in-None g c =
    let own : spec.is_own c.args.name.now ≡ false = search rules in
    let none : spec.mocked c.args.self.now.heads.now.prefix c.args.name.now ≡ None = search rules in
    ok_false (spec.is_own c.args.name.now) c.searched.result _ _ own
    (ok_none (spec.mocked c.args.self.now.heads.now.prefix c.args.name.now) c.searched.result _ _ none c.searched.ensures)
