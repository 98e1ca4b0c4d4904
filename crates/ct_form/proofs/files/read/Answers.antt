use Rattle.std.proofs.Common.{◌≡◌, rules}
use Rattle.std.specs.Prelude.{Some, None, Ok, Err}
use Rattle.ct_form.specs.Words.{first_word}
use Rattle.ct_form.proofs.Items.{has_unit, has_refusal}
use Rattle.ct_form.proofs.OneFile.{one_form}
use Rattle.ct_form.proofs.files.read.Goals as goal

pub returns-in_ok-outside_of-in-Some-clause-form : goal.returns-in_ok-outside_of-in-Some-clause-form
returns-in_ok-outside_of-in-Some-clause-form c =
    let e : first_word c.in_ok-functions.rest.now ≡ Some (c.in-Some.token.now, c.in-Some.field-0-1.now) = search rules in
    has_refusal c.args.path.now c.in_ok-functions.functions c.in_ok-functions.ensures.1 c.in_ok-functions.ensures.2 e c.in_ok-outside_of-in-Some.ensures

pub returns-in_ok-outside_of-in-Some-clause-alone : goal.returns-in_ok-outside_of-in-Some-clause-alone
returns-in_ok-outside_of-in-Some-clause-alone c other h =
    let e : first_word c.in_ok-functions.rest.now ≡ Some (c.in-Some.token.now, c.in-Some.field-0-1.now) = search rules in
    one_form c.args.path.now c.args.tokens.now (Err c.in_ok-outside_of-in-Some.field-0) other (has_refusal c.args.path.now c.in_ok-functions.functions c.in_ok-functions.ensures.1 c.in_ok-functions.ensures.2 e c.in_ok-outside_of-in-Some.ensures) h

pub returns-in_ok-unit_of-in-None-clause-form : goal.returns-in_ok-unit_of-in-None-clause-form
returns-in_ok-unit_of-in-None-clause-form c =
    let e : first_word c.in_ok-functions.rest.now ≡ None = search rules in
    has_unit c.args.path.now c.in_ok-functions.functions c.in_ok-functions.ensures.1 e c.in_ok-unit_of-in-None.ensures

pub returns-in_ok-unit_of-in-None-clause-alone : goal.returns-in_ok-unit_of-in-None-clause-alone
returns-in_ok-unit_of-in-None-clause-alone c other h =
    let e : first_word c.in_ok-functions.rest.now ≡ None = search rules in
    one_form c.args.path.now c.args.tokens.now (Ok c.in_ok-unit_of-in-None.field-0) other (has_unit c.args.path.now c.in_ok-functions.functions c.in_ok-functions.ensures.1 e c.in_ok-unit_of-in-None.ensures) h
