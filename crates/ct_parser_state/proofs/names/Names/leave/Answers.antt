use Rattle.std.proofs.Common.{◌≡◌, List, [], ◌∷◌, ◌++◌, Option, ap, ◌∙◌}
use Rattle.std.specs.Option.{option_to_list}
use Rattle.std.specs.Map.{set_value}
use Rattle.ct_parser_state.specs.Names.{is_key}
use Rattle.ct_parser_state.specs.declared.names.Hiding.{Hiding}
use Rattle.ct_parser_state.proofs.NameRules.{left_name, still_outside}
use Rattle.ct_parser_state.proofs.names.Names.leave.Goals as goal

pub loop-entry-preserved : goal.loop-entry-preserved
loop-entry-preserved c =
    let rest : List Hiding = c.pop.new.self.items in
    let row : Hiding = c.in-Some.field-0 in
    let rows_is : c.loop-entry.self-inside.rows.items ≡ rest ++ row ∷ [] = c.pop.ensures.items ∙ ap (λ (o : Option Hiding). rest ++ option_to_list o) c.in-Some.is in
    let table_is : c.set_meaning.new.table.entries ≡ set_value (is_key c.in-Name.name) c.loop-entry.self-inside.meanings.entries row.hidden = c.set_meaning.ensures ∙ ap (λ name. set_value (is_key name) c.loop-entry.self-inside.meanings.entries row.hidden) c.as_slice.ensures in (
      still_outside _ rest row c.in-Name.name c.in-Name.field-1 rows_is c.in-Name.is ∙ c.loop-entry.invariant.0,
      left_name _ rest _ _ row c.in-Name.name c.in-Name.field-1 c.loop-entry.invariant.1 rows_is c.in-Name.is table_is,
    )
