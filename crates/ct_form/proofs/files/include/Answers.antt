use Rattle.std.proofs.Common.{◌≡◌}
use Rattle.ct_form.proofs.Includes.{anywhere, on_its_line, not_on_its_line, none_by, some_by, begins_by}
use Rattle.ct_form.proofs.files.include.Goals as goal

pub returns-then-follows_line-clause-none : goal.returns-then-follows_line-clause-none
returns-then-follows_line-clause-none c =
    none_by c.directive.result c.directive.ensures.none (λ n rest s. n rest (anywhere s))

pub returns-else-follows_line-clause-none : goal.returns-else-follows_line-clause-none
returns-else-follows_line-clause-none c =
    not_on_its_line (λ h. cc) (λ z. let t = c.ends_line-follows_line.ensures.1 z in cc)

pub returns-then-follows_line-clause-found : goal.returns-then-follows_line-clause-found
returns-then-follows_line-clause-found c =
    let b = begins_by c.args.tokens.now c.if-follows_line.either c.ends_line-follows_line.ensures.0 in
    some_by c.directive.result c.directive.ensures.found (λ x s. on_its_line s b)
