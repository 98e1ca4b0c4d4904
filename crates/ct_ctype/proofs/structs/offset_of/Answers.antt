use Rattle.std.proofs.Common.{option_and_then, ap, ◌∙◌}
use Rattle.ct_ctype.specs.declared.types.StructLayout.{StructLayout}
use Rattle.ct_ctype.specs.Layout.{member_offset}
use Rattle.ct_ctype.proofs.structs.offset_of.Goals as goal

pub returns : goal.returns
returns c =
    let name = c.args.member.now in
    c.find_member.ensures ∙ ap (member_offset name) c.as_slice.ensures
    ∙ ap (option_and_then (λ (layout : StructLayout). member_offset name layout.members)) c.in_ok-layout.ensures.value
