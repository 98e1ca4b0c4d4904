use Rattle.std.proofs.Common.{rules, ◌≡◌, ◌==◌, true, false, length, [], ◌∷◌, ◌++◌, ◌≢◌}
use Rattle.std.specs.List.{list_any}
use Rattle.ct_directive.proofs.Names.{other_end_at, name_twice_at, name_is_at}
use Rattle.ct_directive.proofs.forms.name_between.Goals as goal

pub returns-then-end-last : goal.returns-then-end-last
returns-then-end-last c =
    let text : c.args.text.now ≡ c.in_ok-begin.begin.now ∷ c.in_ok-begin.rest.now = search rules in
    let rest : c.in_ok-begin.rest.now ≡ c.in_ok-end.name.now ++ c.in_ok-end.end.now ∷ [] = search rules in
    let begins : c.in_ok-begin.begin.now ≡ c.args.first = search rules in
    let ends : c.in_ok-end.end.now ≢ c.args.last = search rules in
    other_end_at c.args.first c.args.last c.in_ok-begin.begin.now c.in_ok-end.end.now c.args.text.now c.in_ok-begin.rest.now c.in_ok-end.name.now text rest begins ends

pub returns-then-contains : goal.returns-then-contains
returns-then-contains c =
    let text : c.args.text.now ≡ c.in_ok-begin.begin.now ∷ c.in_ok-begin.rest.now = search rules in
    let rest : c.in_ok-begin.rest.now ≡ c.in_ok-end.name.now ++ c.in_ok-end.end.now ∷ [] = search rules in
    let begins : c.in_ok-begin.begin.now ≡ c.args.first = search rules in
    let twice : true ≡ list_any (λ b. b == c.args.last) c.in_ok-end.name.now = c.if-contains.ensures.value in
    name_twice_at c.args.first c.args.last c.in_ok-begin.begin.now c.in_ok-end.end.now c.args.text.now c.in_ok-begin.rest.now c.in_ok-end.name.now text rest begins twice

pub returns : goal.returns
returns c =
    let text : c.args.text.now ≡ c.in_ok-begin.begin.now ∷ c.in_ok-begin.rest.now = search rules in
    let rest : c.in_ok-begin.rest.now ≡ c.in_ok-end.name.now ++ c.in_ok-end.end.now ∷ [] = search rules in
    let begins : c.in_ok-begin.begin.now ≡ c.args.first = search rules in
    let ends : c.in_ok-end.end.now ≡ c.args.last = search rules in
    let some : false ≡ (length c.in_ok-end.name.now == 0) = c.if-is_empty.ensures in
    let free : false ≡ list_any (λ b. b == c.args.last) c.in_ok-end.name.now = c.if-contains.ensures.value in
    name_is_at c.args.first c.args.last c.in_ok-begin.begin.now c.in_ok-end.end.now c.args.text.now c.in_ok-begin.rest.now c.in_ok-end.name.now text rest begins ends some free
