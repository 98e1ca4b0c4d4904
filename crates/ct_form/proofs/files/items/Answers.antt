use Rattle.std.proofs.Common.{ℕ, ◌<◌, ◌≤◌, List, Bor, length, arith}
use Rattle.ct_base.specs.declared.lexical.Token.{Token}
use Rattle.ct_core.specs.declared.units.CoreFunction.{CoreFunction}
use Rattle.ct_form.specs.Form.{most_functions}
use Rattle.ct_form.proofs.Misses.{elsewhere}
use Rattle.ct_form.proofs.WhichFunction.{FunctionThere}
use Rattle.ct_form.proofs.Items.{before_of, items_begin, items_include, items_function, no_more, no_item, include-shorter, item-shorter}
use Rattle.ct_form.proofs.files.items.Goals as goal

pub loop-after-init : goal.loop-after-init
loop-after-init c = items_begin c.args.tokens.now c.new-functions.ensures c.new-signatures.ensures.items

pub loop-after-smaller-in-Some : goal.loop-after-smaller-in-Some
loop-after-smaller-in-Some c = include-shorter c.in-Some.ensures.found

pub loop-after-preserved-in-Some : goal.loop-after-preserved-in-Some
loop-after-preserved-in-Some c = items_include c.loop-after.invariant c.in-Some.ensures.found

pub returns-then-len-ge-MOST_FUNCTIONS : goal.returns-then-len-ge-MOST_FUNCTIONS
returns-then-len-ge-MOST_FUNCTIONS c =
    let m : most_functions ≤ length c.loop-after.signatures.items = omega (arith, c.loop-after.invariant.as_many) in
    ((before_of c.loop-after.is_first c.loop-after.unity c.loop-after.signatures.items c.loop-after.serial), c.loop-after.invariant.read, no_more c.in_default.ensures.none m)

pub loop-after-smaller : goal.loop-after-smaller
loop-after-smaller c = item-shorter c.in-Ok.ensures

pub loop-after-preserved : goal.loop-after-preserved
loop-after-preserved c =
    let m : length c.loop-after.functions < most_functions = omega arith in
    items_function c.loop-after.invariant m c.in-Ok.ensures c.in_ok-push-in-Ok.ensures.ok

pub returns-in-Err-Elsewhere : goal.returns-in-Err-Elsewhere
returns-in-Err-Elsewhere c =
    let n = elsewhere (λ (x : CoreFunction × ℕ × Bor (List Token)). (x.0, c.function.new.signatures.items, x.1)) (λ x. x.2.now)
    (FunctionThere c.loop-after.signatures.items c.loop-after.unity c.loop-after.serial c.loop-after.rest.now) c.in-Err-Elsewhere.field-0 c.in-Err-Elsewhere.field-0-is c.in-Err-Elsewhere.ensures in
    ((before_of c.loop-after.is_first c.loop-after.unity c.loop-after.signatures.items c.loop-after.serial), c.loop-after.invariant.read, no_item c.in_default.ensures.none n)
