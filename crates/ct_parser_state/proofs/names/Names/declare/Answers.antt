use Rattle.std.proofs.Common.{◌≡◌, List, sym, ap, ◌∙◌}
use Rattle.ct_parser_state.specs.declared.entries.Entry.{Entry}
use Rattle.ct_parser_state.specs.Names.{meaning}
use Rattle.ct_parser_state.proofs.NameRules.{declared}
use Rattle.ct_parser_state.proofs.names.Names.declare.Goals as goal

pub invariant_of-self-in-Ok : goal.invariant_of-self-in-Ok
invariant_of-self-in-Ok c =
    declared c.self.inside.rows.items c.push.new.self.items c.self.inside.meanings.entries c.insert.new.self.entries c.in_ok-key.key c.args.name c.args.is_type c.meaning-hidden.result
    (c.in_ok-key.ensures.items ∙ c.as_slice.ensures)
    (c.meaning-hidden.ensures ∙ ap (meaning c.args.self.now) c.as_slice-2.ensures ∙ ap (λ (es : List Entry). meaning es c.args.name) (sym c.self.view_is))
    c.self.invariant c.in_ok-push.ensures.items c.in-Ok.ensures.entries
