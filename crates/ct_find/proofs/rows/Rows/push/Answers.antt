use Rattle.std.proofs.Common.{◌≡◌, List, length, rules, sym, subst, ◌∙◌}
use Rattle.std.specs.Prelude.{string_bytes, vec_len}
use Rattle.std.proofs.lemmas.Map.Text.{btree_map_updates_text}
use Rattle.ct_find.specs.declared.rows.Row.{Row}
use Rattle.ct_find.specs.Places.{HavePlaces}
use Rattle.ct_find.proofs.RowsLemmas.{more_places, same_places}
use Rattle.ct_find.proofs.rows.Rows.push.Goals as goal

pub invariant_of-self : goal.invariant_of-self
invariant_of-self c = subst (λ (rows : List Row). HavePlaces rows c.self.inside.places) (sym c.in_err-push.ensures.items) c.self.invariant

pub invariant_of-self-in-Ok : goal.invariant_of-self-in-Ok
invariant_of-self-in-Ok c =
    let last : c.len-place.result ≡ length c.self.inside.items.items = search rules in
    more_places c.self.inside.items.items c.push.new.self.items c.args.row c.self.inside.places c.insert.new.self c.len-place.result (string_bytes c.in_ok-folder.folder)
    c.in_ok-push.ensures.items (c.in_ok-folder.ensures.ok ∙ c.as_str.ensures) last c.self.invariant
    (btree_map_updates_text (string_bytes c.in_ok-folder.folder) c.self.inside.places c.insert.new.self _ c.in-Ok.ensures.updates)

pub invariant_of-self-in-Err : goal.invariant_of-self-in-Err
invariant_of-self-in-Err c =
    let all : vec_len c.push.new.self ≡ length c.push.new.self.items = search rules in
    same_places c.self.inside.items.items c.push.new.self.items c.pop.new.self.items c.args.row c.self.inside.places c.insert.new.self (vec_len c.push.new.self)
    c.in_ok-push.ensures.items all c.pop.ensures.rest c.in-Err.ensures.err c.self.invariant
