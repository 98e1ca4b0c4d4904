use Rattle.std.proofs.Common.{◌≡◌, ◌∙◌, ◌||◌, ap, not}
use Rattle.std.specs.List.{list_any}
use Rattle.std.specs.Str.{bytes_eq}
use Rattle.ct_settings.proofs.DefineLemmas.{contains_name, inserted_name}
use Rattle.ct_settings.proofs.defines.is_new.Goals as goal

pub returns : goal.returns
returns c =
    let name = c.in_ok-name.name in
    let items = c.in_ok-name.ensures.items in
    let names = c.args.names.now.keys in (
      c.in_ok-insert.ensures.added ∙ ap not (contains_name names name) ∙ ap (λ bytes. not (list_any (λ other. bytes_eq other.items bytes) names)) items,
      (λ other. ap (list_any (λ key. bytes_eq key.items other)) c.in_ok-insert.ensures.keys
          ∙ inserted_name names name other
          ∙ ap (λ bytes. bytes_eq bytes other || list_any (λ key. bytes_eq key.items other) names) items),
    )
