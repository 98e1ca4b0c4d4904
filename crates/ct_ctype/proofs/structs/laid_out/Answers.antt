use mathlib.Core.Path.{ap₂}
use Rattle.std.proofs.Common.{◌≤◌, List, Option, ◌≡◌, ◌<◌, length, max, Some, sym, ap, ◌∙◌, rules, arith, ℕ}
use Rattle.std.specs.Int.{next_multiple_of}
use Rattle.ct_ctype.specs.declared.types.Member.{Member}
use Rattle.ct_ctype.specs.declared.types.StructLayout.{StructLayout}
use Rattle.ct_ctype.specs.Layout.{capped}
use Rattle.ct_ctype.proofs.Placing.{placing_start, placing_stop, placing_end, placing_next}
use Rattle.ct_ctype.proofs.structs.laid_out.Goals as goal

pub loop-i-init : goal.loop-i-init
loop-i-init c = placing_start c.args.s.now c.args.members.items

pub returns-in_err-extent-clause-value : goal.returns-in_err-extent-clause-value
returns-in_err-extent-clause-value c =
    let l = c.loop-i in
    let within : l.i < length l.members.items = search rules in
    c.from_residual.ensures ∙ sym (placing_stop c.args.s.now c.args.members.items l.members.items l.i l.end l.alignment c.index.result.now l.invariant within c.index.ensures (sym c.extent.ensures.value ∙ c.in_err-extent.was))

pub loop-i-preserved : goal.loop-i-preserved
loop-i-preserved c =
    let l = c.loop-i in
    let e = c.in_ok-extent.extent in
    let within : l.i < length l.members.items = search rules in
    let larger : c.max-alignment.result ≡ max l.alignment e.alignment = search rules in
    let offset : c.capped-offset.result ≡ capped (next_multiple_of l.end e.alignment) = c.capped-offset.ensures ∙ ap capped c.aligned.ensures.value in
    placing_next c.args.s.now c.args.members.items l.members.items l.i l.end l.alignment c.index.result.now c.index_mut.result.now e c.capped-offset.result c.capped-end.result c.max-alignment.result
    l.invariant within c.index.ensures c.index_mut.ensures.value (sym c.extent.ensures.value ∙ c.in_ok-extent.was) (c.in_ok-extent.ensures.kept) offset c.capped-end.ensures larger

pub returns-clause-value : goal.returns-clause-value
returns-clause-value c =
    let l = c.loop-i in
    let done : length l.members.items ≤ l.i = search rules in
    let made : List Member → ℕ → Option StructLayout = λ members size. Some (record { members = members; extent = record { size = size; alignment = l.alignment } }) in
    ap₂ made c.from_vec.ensures (c.capped-size.ensures ∙ ap capped c.aligned-2.ensures.value) ∙ sym (placing_end c.args.s.now c.args.members.items l.members.items l.i l.end l.alignment l.invariant done)

pub returns-clause-kept : goal.returns-clause-kept
returns-clause-kept c = record { size = omega arith; some = c.loop-i.invariant.some; alignment = c.loop-i.invariant.bound }
