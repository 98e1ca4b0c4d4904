use Rattle.std.proofs.Common.{◌≡◌, arith, rules, sym, ◌∙◌, subst, ap}
use Rattle.std.proofs.lemmas.Fmt.{IsAscii-decimal, parse-decimal}
use Rattle.std.proofs.lemmas.Str.{IsUtf8-from_ascii}
use Rattle.std.proofs.lemmas.Slice.Eq.{bytes_eq-Decides}
use Rattle.std.specs.Prelude.{decimal, Ok}
use Rattle.std.specs.Str.{IsUtf8}
use Rattle.ct_form.proofs.words.number_of.Goals as goal

pub returns-in_default-clause-none : goal.returns-in_default-clause-none
returns-in_default-clause-none c m is =
    c.in_default.ensures.cases.0 (subst IsUtf8 (sym is.1) (IsUtf8-from_ascii (decimal m) (IsAscii-decimal m (omega (arith, is.0)))))

pub returns-in_default-parse-clause-none : goal.returns-in_default-parse-clause-none
returns-in_default-parse-clause-none c m is =
    c.in_default-parse.not-Ok m (parse-decimal 32 m c.in-Ok.text.now c.parse.result (omega arith) (omega (arith, is.0)) (c.in-Ok.ensures.cases.0 ∙ is.1) c.parse.ensures.value.0)

pub returns-then-number-gt-INT_MAX-clause-none : goal.returns-then-number-gt-INT_MAX-clause-none
returns-then-number-gt-INT_MAX-clause-none c m is =
    let read : c.parse.result ≡ Ok m = parse-decimal 32 m c.in-Ok.text.now c.parse.result (omega arith) (omega (arith, is.0)) (c.in-Ok.ensures.cases.0 ∙ is.1) c.parse.ensures.value.0 in
    let same : c.in-Ok-parse.number ≡ m = cc in
    omega (arith, is.0)

pub returns-clause-none : goal.returns-clause-none
returns-clause-none c m is =
    let read : c.parse.result ≡ Ok m = parse-decimal 32 m c.in-Ok.text.now c.parse.result (omega arith) (omega (arith, is.0)) (c.in-Ok.ensures.cases.0 ∙ is.1) c.parse.ensures.value.0 in
    let same : c.in-Ok-parse.number ≡ m = cc in
    let digits : c.as_str.result.now ≡ decimal c.in-Ok-parse.number = search rules in
    let equal : c.as_str.result.now ≡ c.in-Ok.text.now = digits ∙ ap decimal same ∙ sym is.1 ∙ sym c.in-Ok.ensures.cases.0 in
    let test = (bytes_eq-Decides c.as_str.result.now c.in-Ok.text.now).1 equal in
    cc
