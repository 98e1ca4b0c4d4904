use Rattle.std.proofs.Common.{Bool, List, Bor}
use Rattle.ct_base.specs.declared.lexical.Token.{Token}
use Rattle.ct_form.specs.Functions.{IsResult}
use Rattle.ct_form.specs.declared.functions.Heading.{Heading}
use Rattle.ct_form.proofs.Misses.{missed, handed_on}
use Rattle.ct_form.proofs.Headings.{HeadingThere, no_heading_result, no_heading_name, no_heading_open, is_heading}
use Rattle.ct_form.proofs.functions.heading_of.Goals as goal

pub returns-in_err-gives_value : goal.returns-in_err-gives_value
returns-in_err-gives_value c =
    handed_on (λ (x : Bool × Bor (List Token)). x.0) (λ x. x.1.now) (IsResult c.linkage-linkage.result.1.now)
    (λ (found : Heading × Bor (List Token)). (found.0.linkage, found.0.gives_value, found.0.name.now)) (λ found. found.1.now) (HeadingThere c.args.tokens.now)
    c.from_residual.result c.in_err-gives_value.field-0.0 c.from_residual.ensures.1 c.in_err-gives_value.ensures
    (no_heading_result c.linkage-linkage.ensures)

pub returns-in_err-name : goal.returns-in_err-name
returns-in_err-name c =
    missed (λ (found : Heading × Bor (List Token)). (found.0.linkage, found.0.gives_value, found.0.name.now)) (λ found. found.1.now) (HeadingThere c.args.tokens.now)
    c.from_residual-in_err-name.result c.in_err-name.field-0.0 c.from_residual-in_err-name.ensures.1
    (no_heading_name c.linkage-linkage.ensures c.in_ok-gives_value.ensures c.in_err-name.ensures.absent)

pub returns-in_err-rest : goal.returns-in_err-rest
returns-in_err-rest c =
    missed (λ (found : Heading × Bor (List Token)). (found.0.linkage, found.0.gives_value, found.0.name.now)) (λ found. found.1.now) (HeadingThere c.args.tokens.now)
    c.from_residual-in_err-rest.result c.in_err-rest.field-0.0 c.from_residual-in_err-rest.ensures.1
    (no_heading_open c.linkage-linkage.ensures c.in_ok-gives_value.ensures c.in_ok-name.ensures.found c.in_err-rest.ensures.absent)

pub returns : goal.returns
returns c =
    is_heading c.linkage-linkage.ensures c.in_ok-gives_value.ensures c.in_ok-name.ensures.found c.in_ok-rest.ensures.found
