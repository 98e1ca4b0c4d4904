use Rattle.std.proofs.Common.{◌≡◌, ℕ, ℤ, ◌+◌, ◌<◌, pos, length, get_or, ap, ◌∙◌, arith, rules}
use mir.Syntax.{w128}
use mir.Val.{SFits}
use Rattle.std.proofs.lemmas.Int.{to_z-of_z}
use Rattle.ct_ctype.specs.declared.kinds.IntKind.TheVariants.{UnsignedChar}
use Rattle.ct_core.specs.declared.values.Pointer.{Pointer}
use Rattle.ct_core.specs.declared.values.Value.TheVariants as value
use Rattle.ct_core.specs.declared.objects.Object.{Object}
use Rattle.ct_core.specs.declared.objects.Scalar.TheVariants.{Int}
use Rattle.ct_core.specs.Memory.{Memory, next_pointer, with_new}
use Rattle.ct_core.specs.Access.{initialise_result}
use Rattle.ct_meaning.proofs.Texts.{stored_object, stored_none, stored_more, stored_all, left_by}
use Rattle.ct_meaning.proofs.run.set_text.Goals as goal

pub loop-offset-init : goal.loop-offset-init
loop-offset-init c = c.in_ok-at.ensures.ok ∙ ap (λ (o : Object). with_new c.args.space o c.args.memory.now) (stored_none c.args.place c.args.text.now)

pub loop-offset-preserved : goal.loop-offset-preserved
loop-offset-preserved c =
    let m = c.args.memory.now in
    let i = c.loop-offset.offset in
    let bytes = c.args.text.now in
    let b : c.byte_at.result ≡ get_or c.args.text.now c.loop-offset.offset 0 = c.byte_at.ensures in
    let z : c.from.result ≡ pos (get_or c.args.text.now c.loop-offset.offset 0) = c.from.ensures ∙ ap (λ (n : ℕ). pos n) b in
    let small : get_or c.args.text.now c.loop-offset.offset 0 < 256 = omega arith in
    let within : c.loop-offset.offset < length c.args.text.now + 1 = omega arith in
    let fits : SFits w128 c.from.result = search rules in
    let given = ap (λ (z : ℤ). initialise_result (record c.in_ok-at.at { offset = i }) (Int UnsignedChar) (value.Int z) c.loop-offset.memory) (to_z-of_z w128 c.from.result fits)
    ∙ ap (λ (p : Pointer). initialise_result (record p { offset = i }) (Int UnsignedChar) (value.Int c.from.result) c.loop-offset.memory) c.in_ok-at.ensures.pointer
    ∙ ap (λ (z : ℤ). initialise_result (record (next_pointer c.args.space m) { offset = i }) (Int UnsignedChar) (value.Int z) c.loop-offset.memory) z
    ∙ ap (λ (before : Memory). initialise_result (record (next_pointer c.args.space m) { offset = i }) (Int UnsignedChar) (value.Int (pos (get_or bytes i 0))) before) c.loop-offset.invariant
    ∙ stored_more c.args.space c.args.place i bytes m within small in
    left_by c.initialise.result _ c.loop-offset.memory c.initialise.new.self (with_new c.args.space (stored_object c.args.place bytes (i + 1)) m) c.initialise.ensures given

pub returns : goal.returns
returns c =
    let all : c.loop-offset.offset ≡ length c.args.text.now + 1 = omega arith in
    c.loop-offset.invariant
    ∙ ap (λ (i : ℕ). with_new c.args.space (stored_object c.args.place c.args.text.now i) c.args.memory.now) all
    ∙ ap (λ (o : Object). with_new c.args.space o c.args.memory.now) (stored_all c.args.place c.args.text.now)
