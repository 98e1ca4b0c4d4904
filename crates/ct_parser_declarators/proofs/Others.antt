-- What a token does that is another mark than the one that a step looks for.
use Rattle.std.proofs.Common.{◌≡◌, true, false, if◌then◌else◌, [], ◌∷◌, Some, refl}
use Rattle.ct_syntax.specs.Words.{Text, Word, Sign}
use Rattle.ct_syntax.specs.Scopes.{Scope}
use Rattle.ct_syntax.specs.declared.words.Mark.{Mark}
use Rattle.ct_syntax.specs.declared.words.Mark.TheVariants as k
use Rattle.ct_syntax.specs.declared.expressions.ParameterForm.TheVariants as form
use Rattle.ct_grammar_machine.specs.Algebra.{expr, specs, decl}
use Rattle.ct_parser_parts.specs.Parts.{Part, parts_built}
use Rattle.ct_grammar_machine.specs.Frames as m
use Rattle.ct_grammar_machine.specs.Steps as s
use Rattle.ct_parser_state.specs.Code.{PartStack}
use Rattle.ct_parser_declarators.specs.Signs.{opens, is_close, is_close_bracket, is_open_brace}

module _ (scope : Scope) (stack : PartStack) where
  pub wanted_open : (kind : m.Kind) (mark : Mark) → opens mark ≡ true → s.want_mark parts_built scope stack kind mark ≡ Some (scope, stack, m.Opened kind)
  wanted_open kind k.Open e = refl
  wanted_open kind mark e = absurd cc

  pub wanted_other : (kind : m.Kind) (mark : Mark) → opens mark ≡ false → s.want_mark parts_built scope stack kind mark ≡ (if s.is_star mark then Some (scope, stack, m.Qualifying kind []) else s.no_name parts_built scope stack kind (Sign mark))
  wanted_other kind k.Open e = absurd cc
  wanted_other kind mark e = refl

  pub listed_none : (kind : m.Kind) (d : Part decl) (w : Word) → is_close w ≡ true → s.listing parts_built scope stack kind d w ≡ Some (scope, stack, m.HaveDeclarator kind (parts_built.function d form.Empty parts_built.no_parameters))
  listed_none kind d (Sign k.Close) e = refl
  listed_none kind d w e = absurd cc

  pub listed_some : (kind : m.Kind) (d : Part decl) (w : Word) → is_close w ≡ false → s.listing parts_built scope stack kind d w ≡ s.specs_step parts_built scope (m.InParameters kind scope d parts_built.no_parameters ∷ stack) parts_built.no_specs w
  listed_some kind d (Sign k.Close) e = absurd cc
  listed_some kind d w e = refl

  pub sized_none : (kind : m.Kind) (d : Part decl) (w : Word) → is_close_bracket w ≡ true → s.sizing parts_built scope stack kind d w ≡ Some (scope, stack, m.HaveDeclarator kind (parts_built.array_open d))
  sized_none kind d (Sign k.CloseBracket) e = refl
  sized_none kind d w e = absurd cc

  pub sized_some : (kind : m.Kind) (d : Part decl) (w : Word) → is_close_bracket w ≡ false → s.sizing parts_built scope stack kind d w ≡ s.begin parts_built scope (m.InArray kind d ∷ stack) w
  sized_some kind d (Sign k.CloseBracket) e = absurd cc
  sized_some kind d w e = refl

  pub called_none : (f : Part expr) (w : Word) → is_close w ≡ true → s.first parts_built scope stack f w ≡ Some (scope, stack, m.Have (parts_built.call f parts_built.no_arguments))
  called_none f (Sign k.Close) e = refl
  called_none f w e = absurd cc

  pub called_some : (f : Part expr) (w : Word) → is_close w ≡ false → s.first parts_built scope stack f w ≡ s.begin parts_built scope (m.InCall f parts_built.no_arguments ∷ stack) w
  called_some f (Sign k.Close) e = absurd cc
  called_some f w e = refl

  pub tagged_brace : (which : m.Which) (ss : Part specs) (t : Text) (w : Word) → is_open_brace w ≡ true → s.tagged parts_built scope stack which ss t w ≡ s.open_braces parts_built scope stack which ss (Some t)
  tagged_brace which ss t (Sign k.OpenBrace) e = refl
  tagged_brace which ss t w e = absurd cc

  pub tagged_other : (which : m.Which) (ss : Part specs) (t : Text) (w : Word) → is_open_brace w ≡ false → s.tagged parts_built scope stack which ss t w ≡ s.specs_step parts_built scope stack (s.with_tag parts_built which ss t) w
  tagged_other which ss t (Sign k.OpenBrace) e = absurd cc
  tagged_other which ss t w e = refl
