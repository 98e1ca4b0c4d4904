use Rattle.std.proofs.Common.{◌≡◌, rules}
use Rattle.std.specs.Prelude.{Some, None, codes}
use Rattle.ct_form.specs.Form.{EndsLine}
use Rattle.ct_form.specs.Words.{first_word}
use Rattle.ct_form.proofs.Includes.{if_none, no_word, no_hash, no_include_word, no_header, no_line_end, is_include}
use Rattle.ct_form.proofs.files.directive.Goals as goal

pub returns-in_err-hash-clause-none : goal.returns-in_err-hash-clause-none
returns-in_err-hash-clause-none c =
    let e : first_word c.args.tokens.now ≡ None = search rules in
    if_none c.from_residual.result (no_word e)

pub returns-then-not-is_hash-clause-none : goal.returns-then-not-is_hash-clause-none
returns-then-not-is_hash-clause-none c =
    let e : first_word c.args.tokens.now ≡ Some (c.in_ok-hash.hash.now, c.in_ok-hash.behind.now) = search rules in
    no_hash e (λ h. let t = c.is_hash.ensures.1 h in cc)

pub returns-in_err-middle-clause-none : goal.returns-in_err-middle-clause-none
returns-in_err-middle-clause-none c =
    let e : first_word c.args.tokens.now ≡ Some (c.in_ok-hash.hash.now, c.in_ok-hash.behind.now) = search rules in
    if_none c.from_residual-in_err-middle.result (no_include_word e c.in_err-middle.ensures.none)

pub returns-in_err-rest-clause-none : goal.returns-in_err-rest-clause-none
returns-in_err-rest-clause-none c =
    let e : first_word c.args.tokens.now ≡ Some (c.in_ok-hash.hash.now, c.in_ok-hash.behind.now) = search rules in
    if_none c.from_residual-in_err-rest.result (no_header e c.in_ok-middle.ensures.found.1 c.in_err-rest.ensures.none)

pub returns-then-ends_line-clause-found : goal.returns-then-ends_line-clause-found
returns-then-ends_line-clause-found c =
    let e : first_word c.args.tokens.now ≡ Some (c.in_ok-hash.hash.now, c.in_ok-hash.behind.now) = search rules in
    let h : c.in_ok-hash.hash.now.text ≡ codes "#" = c.is_hash.ensures.0 (cc) in
    let z : EndsLine c.in_ok-rest.rest.now = c.ends_line.ensures.0 c.if-ends_line.true in
    let m = c.in_ok-middle.ensures.found in
    let r = c.in_ok-rest.ensures.found in
    is_include e h m.1 m.2 r.1 r.2 z

pub returns-else-ends_line-clause-none : goal.returns-else-ends_line-clause-none
returns-else-ends_line-clause-none c =
    let e : first_word c.args.tokens.now ≡ Some (c.in_ok-hash.hash.now, c.in_ok-hash.behind.now) = search rules in
    let m = c.in_ok-middle.ensures.found in
    let r = c.in_ok-rest.ensures.found in
    no_line_end e m.1 r.1 (λ z. let t = c.ends_line.ensures.1 z in cc)
