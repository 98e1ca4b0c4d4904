use Rattle.std.proofs.Common.{◌≡◌, ◌∙◌, ap, sym, subst, None, List, ◌∷◌, [], ◌++◌}
use Rattle.std.specs.Map.{values_of}
use Rattle.ct_macro_call.specs.Definition.{macro_named}
use Rattle.ct_macro.specs.Table.{IsTable}
use Rattle.ct_macro.proofs.Tables.{Entry, added, added_values, added_table}
use Rattle.ct_macro.proofs.table.Macros.define.Goals as goal
use Rattle.ct_macro.proofs.table.Macros.define.Goals.{Joined-branch-3}

absent : (c : Joined-branch-3) → macro_named c.args.macro_.name c.args.self.now ≡ None
absent c = ap (λ name. macro_named name c.args.self.now) (sym c.as_slice.ensures) ∙ sym c.in_default.ensures

absent_inside : (c : Joined-branch-3) → macro_named c.args.macro_.name (values_of c.self.inside.table.entries) ≡ None
absent_inside c = ap (macro_named c.args.macro_.name) c.self.view_is ∙ absent c

entries_are : (c : Joined-branch-3) → c.insert.new.self.entries ≡ c.self.inside.table.entries ++ (c.in_ok-key.key, c.args.macro_) ∷ []
entries_are c =
    c.in_ok-insert.ensures.entries
    ∙ added c.in_ok-key.key c.args.macro_ c.self.inside.table.entries c.self.invariant (c.in_ok-key.ensures.items ∙ c.as_slice-2.ensures) (absent_inside c)

pub invariant_of-self-2 : goal.invariant_of-self-2
invariant_of-self-2 c =
    subst (λ (es : List Entry). IsTable es) (sym (entries_are c))
    (added_table c.in_ok-key.key c.args.macro_ c.self.inside.table.entries c.self.invariant (c.in_ok-key.ensures.items ∙ c.as_slice-2.ensures) (absent_inside c))

pub returns-clause-ok : goal.returns-clause-ok
returns-clause-ok c =
    let after : values_of c.insert.new.self.entries ≡ c.args.self.now ++ c.args.macro_ ∷ [] = ap values_of (entries_are c) ∙ added_values c.in_ok-key.key c.args.macro_ c.self.inside.table.entries ∙ ap (λ l. l ++ c.args.macro_ ∷ []) c.self.view_is in
    (sym c.is_malformed.ensures ∙ c.if-is_malformed.false, rw (absent c) after)
