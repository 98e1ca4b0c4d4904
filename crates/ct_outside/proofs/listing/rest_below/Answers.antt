use Rattle.std.proofs.Common.{rules, ℕ, List, ◌++◌, arith, sym, ap, ◌∙◌}
use Rattle.std.specs.Option.{option_copied}
use Rattle.std.proofs.lemmas.Str.Pattern.{strip_prefix_char}
use Rattle.ct_outside.proofs.BelowLemmas.{rest_none, rest_from_strips}
use Rattle.ct_outside.proofs.listing.rest_below.Goals as goal

pub returns-in_err-strip_prefix : goal.returns-in_err-strip_prefix
returns-in_err-strip_prefix c =
    ap option_copied c.from_residual.ensures
    ∙ sym (rest_none c.args.folder.now c.args.path.now (search rules) (λ rest e. c.in_err-strip_prefix.ensures.cases _ e))

pub returns : goal.returns
returns c =
    let behind = c.in_ok-strip_prefix.ensures.cases in
    rest_from_strips c.args.folder.now c.args.path.now c.in_ok-strip_prefix.field-0.now c.strip_prefix-2.result (search rules) (behind.1.1 ∙ ap (λ (tail : List ℕ). c.args.folder.now ++ tail) (sym behind.2)) (strip_prefix_char 47 _ _ c.strip_prefix-2.ensures.cases (omega arith))
