-- What is read of statements is spelled so, and the grammar makes it.
use Rattle.std.proofs.Common.{◌≡◌, Bool, true, false, not, ◌&&◌, if◌then◌else◌, List, [], ◌∷◌, ◌++◌, Option, Some, None, refl, sym, ap, subst, ◌∙◌}
use Rattle.std.proofs.lemmas.Bool.{cond_both}
use Rattle.ct_syntax.specs.declared.words.AssignOp.TheVariants as a
use Rattle.ct_syntax.specs.declared.words.MemberOp.TheVariants as op
use Rattle.ct_syntax.specs.declared.words.Mark.{Mark}
use Rattle.ct_syntax.specs.declared.words.Mark.TheVariants as m
use Rattle.ct_syntax.specs.declared.words.Keyword.{Keyword}
use Rattle.ct_syntax.specs.declared.words.Keyword.TheVariants as w
use Rattle.ct_syntax.specs.Words.{Text, Word, Named, Literal, Sign, Key}
use Rattle.ct_syntax.specs.Scopes.{Scope, after_specs, after_declarator, inside_definition}
use Rattle.ct_syntax.specs.Grammar.{begins_specs, is_if, takes_else, has_items, IsExpression, IsDesignator, IsInitialiser, IsMaybe, IsStatement, IsItem}
use Rattle.ct_syntax.specs.Spelling.{spell_initialiser, spell_items, spell_statement, spell_branches}
use Rattle.ct_syntax.specs.Trees as t
use Rattle.ct_grammar_machine.specs.Algebra.{Tree, trees_built, branches_then, body_then, designator_of, Aimed, AtNext, AtMember, AtIndex}
use Rattle.ct_grammar_machine.specs.Frames.{DeclSpecs, InBraces, InItem, InBlock, InSwitch, InFunction, InUnit, InRun, InReturn, InBranch, InElseBody, InWhile, InDo, InForInit, InForCondition, InForStep, InFor, Aim, ToTest, ToLoop, ToDo, ToSwitch, ToAssert}
use Rattle.ct_grammar_machine.specs.Frames.{Mode, Want, Have, Texts, First, Dotted, Specs, Tagging, Tagged, NextMember, FirstEnumerator, NextEnumerator, Enumerated, WantDeclarator, Qualifying, Opened, HaveDeclarator, Sizing, Listing, NextParameter, AfterEllipsis, Stack, State}
use Rattle.ct_grammar_machine.specs.Frames.{WantInit, HaveInit, FirstItem, NextItem, Pointed, Placed, Opening, AssertText, AssertClose, AssertEnd, Begin, Done, Ending, AfterElse, Returning, Switching, DefaultColon, OpenFor, ForInit, ForCondition, ForStep}
use Rattle.ct_grammar_machine.specs.Steps.{is_label, is_else, begin, specs_step, want_init, have_init, item, close_items, item_or_end, pointed, placed, assert_text, assert_close, assert_end, aim_frame, opening, statement_mark, statement_key, statement, close_body, label, block_part, file_part, begin_part, ended, on_else, do_test, next_in, done, ending, after_else, returning, switching, default_done, default_colon, open_for, no_start, for_starting, no_test, for_testing, no_after, for_aftering, step, then_run, run}
use Rattle.ct_grammar_laws.proofs.Leads.{lead_items, items_comma, branches_lead, branches_else, AreLed-last, has_branches-last, led_else, led_last, body_spelled, unit_spelled, after_unit-last, IsTranslationUnit-last}
use Rattle.ct_grammar_laws.proofs.Unwinding.{frame_words, aim_words, ending_words, unwind, mode_words, NoItems, HasItems, top_is_else, IsPlaced, IsStack, IsAt}
use Rattle.ct_grammar_laws.proofs.SoundPlaces.{Goes, Goes-from, body_more, body_scope, declaration_goes, init_goes}
use Rattle.ct_grammar_laws.proofs.SoundTypes.{want_goes, qualify_goes, specs_goes, begin_specs, tagging_goes, tagged_goes, next_member_goes, first_enumerator_goes, next_enumerator_goes, enumerated_goes, have_goes, listing_goes, opened_goes, next_parameter_goes, after_ellipsis_goes}
use Rattle.ct_grammar_laws.proofs.SoundValues.{after_goes, begin_goes, texts_goes, first_goes, dotted_goes, sizing_goes}

if_else : (z y : Bool) → z ≡ false → (z && y) ≡ false
if_else false y h = refl
if_else true y h = absurd cc

and_true : (z : Bool) → (z && true) ≡ false → z ≡ false
and_true false h = refl
and_true true h = absurd cc

else_is : (v : Word) → is_else v ≡ true → v ≡ Key w.Else
else_is (Key w.Else) h = refl
else_is _ h = absurd cc

aim_opens : (aim : Aim Tree) (ws : List Word) → frame_words (aim_frame trees_built aim) ws ≡ aim_words aim (Sign m.Open ∷ ws)
aim_opens (ToTest bs) ws = refl
aim_opens ToLoop ws = refl
aim_opens (ToDo u) ws = refl
aim_opens ToSwitch ws = refl
aim_opens ToAssert ws = refl

module _ (start : Scope) where
  -- ---- initialisers

  want_init_goes : (sc : Scope) (s : Stack Tree) (v : Word) → IsStack start s sc → Goes start (λ ws. unwind s (v ∷ ws)) (want_init trees_built sc s v)
  want_init_goes sc s (Sign m.OpenBrace) st = ((refl, (tt, st)), λ ws. refl)
  want_init_goes sc s v st = begin_goes start sc s v st

  have_init_goes : (sc : Scope) (s : Stack Tree) (x : t.Initialiser) (v : Word) → IsInitialiser sc x → IsStack start s sc → Goes start (λ ws. unwind s (spell_initialiser x (v ∷ ws))) (have_init trees_built sc s x v)
  have_init_goes sc s x (Sign k) wf st = init_goes start sc k s x wf st
  have_init_goes sc s x _ wf st = tt

  item_goes : (sc : Scope) (s : Stack Tree) (v : Word) → IsStack start s sc → Goes start (λ ws. unwind s (v ∷ ws)) (item trees_built sc s v)
  item_goes sc [] v st = tt
  item_goes sc (InBraces is ∷ s) (Sign (m.Member op.Dot)) st = (st, λ ws. refl)
  item_goes sc (InBraces is ∷ s) (Sign m.OpenBracket) st = (st, λ ws. refl)
  item_goes sc (InBraces is ∷ s) v st = want_init_goes sc (InItem is AtNext ∷ s) v (st.0, tt, st.1)
  item_goes sc (_ ∷ s) v st = tt

  first_close : (sc : Scope) (s : Stack Tree) → NoItems s → IsStack start s sc → Goes start (λ ws. unwind s (Sign m.CloseBrace ∷ ws)) (close_items trees_built sc false s)
  first_close sc [] none st = tt
  first_close sc (InBraces is ∷ s) none st = (((refl, st.0), st.1), λ ws. ap (λ us. unwind s (Sign m.OpenBrace ∷ spell_items us (Sign m.CloseBrace ∷ ws))) none ∙ ap (λ us. unwind s (Sign m.OpenBrace ∷ lead_items us (Sign m.CloseBrace ∷ ws))) (sym none))
  first_close sc (_ ∷ s) none st = tt

  first_item_goes : (sc : Scope) (s : Stack Tree) (v : Word) → NoItems s → IsStack start s sc → Goes start (λ ws. unwind s (v ∷ ws)) (item_or_end trees_built sc false s v)
  first_item_goes sc s (Sign m.CloseBrace) none st = first_close sc s none st
  first_item_goes sc s v none st = item_goes sc s v st

  has_not : (z : Bool) → z ≡ true → (true && not z) ≡ false
  has_not true h = refl
  has_not false h = absurd cc

  next_close : (sc : Scope) (s : Stack Tree) → HasItems s → IsStack start s sc → Goes start (λ ws. unwind s (Sign m.CloseBrace ∷ ws)) (close_items trees_built sc true s)
  next_close sc [] has st = tt
  next_close sc (InBraces is ∷ s) has st = (((has_not (has_items is) has, st.0), st.1), λ ws. ap (λ us. unwind s (Sign m.OpenBrace ∷ us)) (items_comma is (Sign m.CloseBrace ∷ ws) has))
  next_close sc (_ ∷ s) has st = tt

  next_item_goes : (sc : Scope) (s : Stack Tree) (v : Word) → HasItems s → IsStack start s sc → Goes start (λ ws. unwind s (v ∷ ws)) (item_or_end trees_built sc true s v)
  next_item_goes sc s (Sign m.CloseBrace) has st = next_close sc s has st
  next_item_goes sc s v has st = item_goes sc s v st

  pointed_goes : (sc : Scope) (s : Stack Tree) (v : Word) → IsStack start s sc → Goes start (λ ws. unwind s (Sign (m.Member op.Dot) ∷ v ∷ ws)) (pointed trees_built sc s v)
  pointed_goes sc s (Named u) st = ((tt, tt, st), λ ws. refl)
  pointed_goes sc s _ st = tt

  placed_goes : (sc : Scope) (s : Stack Tree) (g : Aimed Tree) (v : Word) → IsPlaced g → IsDesignator sc (designator_of g) → IsStack start s sc → Goes start (λ ws. unwind s (mode_words (Placed g) (v ∷ ws))) (placed trees_built sc s g v)
  placed_goes sc s AtNext v p wf st = absurd p
  placed_goes sc (InBraces is ∷ s) (AtMember u) (Sign (m.Assign a.Plain)) p wf st = ((st.0, wf, st.1), λ ws. refl)
  placed_goes sc (InBraces is ∷ s) (AtIndex x) (Sign (m.Assign a.Plain)) p wf st = ((st.0, wf, st.1), λ ws. refl)
  placed_goes sc _ (AtMember u) _ p wf st = tt
  placed_goes sc _ (AtIndex x) _ p wf st = tt

  -- ---- assertions

  assert_text_goes : (sc : Scope) (s : Stack Tree) (x : t.Expression) (v : Word) → IsAt start (AssertText x) sc s → Goes start (λ ws. unwind s (mode_words (AssertText x) (v ∷ ws))) (assert_text trees_built sc s x v)
  assert_text_goes sc s x (Literal u) st = (st, λ ws. refl)
  assert_text_goes sc s x _ st = tt

  assert_close_goes : (sc : Scope) (s : Stack Tree) (x : t.Expression) (u : Text) (v : Word) → IsAt start (AssertClose x u) sc s → Goes start (λ ws. unwind s (mode_words (AssertClose x u) (v ∷ ws))) (assert_close trees_built sc s x u v)
  assert_close_goes sc s x u (Sign m.Close) st = (st, λ ws. refl)
  assert_close_goes sc s x u _ st = tt

  assert_end_goes : (sc : Scope) (s : Stack Tree) (x : t.Expression) (u : Text) (v : Word) → IsAt start (AssertEnd x u) sc s → Goes start (λ ws. unwind s (mode_words (AssertEnd x u) (v ∷ ws))) (assert_end trees_built sc s x u v)
  assert_end_goes sc s x u (Sign m.Semicolon) st = declaration_goes start sc sc s (t.Assert x u) (st.0, st.1) refl st.2
  assert_end_goes sc s x u _ st = tt

  opening_goes : (sc : Scope) (s : Stack Tree) (aim : Aim Tree) (v : Word) → IsStack start (aim_frame trees_built aim ∷ s) sc → Goes start (λ ws. unwind s (aim_words aim (v ∷ ws))) (opening trees_built sc s aim v)
  opening_goes sc s aim (Sign m.Open) st = (st, λ ws. ap (unwind s) (aim_opens aim ws))
  opening_goes sc s aim _ st = tt

  -- ---- a statement at its first word

  statement_mark_goes : (sc : Scope) (s : Stack Tree) (k : Mark) → IsStack start s sc → Goes start (λ ws. unwind s (Sign k ∷ ws)) (statement_mark trees_built sc s k)
  statement_mark_goes sc s m.OpenBrace st = ((refl, (tt, refl, st)), λ ws. refl)
  statement_mark_goes sc s m.Semicolon st = ((tt, refl, refl, st), λ ws. refl)
  statement_mark_goes sc s k st = begin_goes start sc (InRun ∷ s) (Sign k) st

  statement_key_goes : (sc : Scope) (s : Stack Tree) (k : Keyword) → (k ≡ w.If → top_is_else s ≡ false) → IsStack start s sc → Goes start (λ ws. unwind s (Key k ∷ ws)) (statement_key trees_built sc s k)
  statement_key_goes sc s w.If h st = ((tt, h refl, st), λ ws. refl)
  statement_key_goes sc s w.While h st = (st, λ ws. refl)
  statement_key_goes sc s w.Do h st = ((refl, st), λ ws. refl)
  statement_key_goes sc s w.For h st = (st, λ ws. refl)
  statement_key_goes sc s w.Switch h st = (st, λ ws. refl)
  statement_key_goes sc s w.Break h st = ((tt, refl, refl, (λ ws. refl), st), λ ws. refl)
  statement_key_goes sc s w.Continue h st = ((tt, refl, refl, (λ ws. refl), st), λ ws. refl)
  statement_key_goes sc s w.Return h st = (st, λ ws. refl)
  statement_key_goes sc s k h st = begin_goes start sc (InRun ∷ s) (Key k) st

  statement_goes : (sc : Scope) (s : Stack Tree) (v : Word) → (v ≡ Key w.If → top_is_else s ≡ false) → IsStack start s sc → Goes start (λ ws. unwind s (v ∷ ws)) (statement trees_built sc s v)
  statement_goes sc s (Sign k) h st = statement_mark_goes sc s k st
  statement_goes sc s (Key k) h st = statement_key_goes sc s k (λ e. h (ap Key e)) st
  statement_goes sc s v h st = begin_goes start sc (InRun ∷ s) v st

  -- ---- a part of braces, or an item

  close_goes : (sc : Scope) (s : Stack Tree) → IsStack start s sc → Goes start (λ ws. unwind s (Sign m.CloseBrace ∷ ws)) (close_body trees_built s)
  close_goes sc (InBlock outer c ∷ s) st = ((st.0, refl, refl, st.2), λ ws. refl)
  close_goes sc (InSwitch outer x c ∷ s) st = (((st.0, st.1), refl, refl, st.3), λ ws. refl)
  close_goes sc (InFunction outer ss d c ∷ InUnit is ∷ s) st =
      let here = st.7.2 in
      let whole : IsItem st.0 (t.Definition ss d c) = (st.1, st.2, st.3, st.5) in (
        (refl, (st.7.0, IsTranslationUnit-last st.7.0 is (t.Definition ss d c) st.7.1 (subst (λ z. IsItem z (t.Definition ss d c)) here whole), st.4 ∙ ap (λ z. after_declarator (after_specs z ss) ss d) here ∙ sym (after_unit-last st.7.0 is (t.Definition ss d c)), st.7.3)),
        λ ws. ap (unwind s) (unit_spelled is (t.Definition ss d c) ws),
      )
  close_goes sc _ st = tt

  part_goes : (sc : Scope) (s : Stack Tree) (v : Word) → top_is_else s ≡ false → IsStack start s sc → Goes start (λ ws. unwind s (v ∷ ws)) (if begins_specs sc (v ∷ []) then specs_step trees_built sc (DeclSpecs ∷ s) t.no_spec v else statement trees_built sc s v)
  part_goes sc s v h st =
      cond_both (begins_specs sc (v ∷ [])) (specs_step trees_built sc (DeclSpecs ∷ s) t.no_spec v) (statement trees_built sc s v) (Goes start (λ ws. unwind s (v ∷ ws)))
      (λ e. begin_specs start sc (DeclSpecs ∷ s) v st)
      (λ e. statement_goes sc s v (λ d. h) st)

  block_part_goes : (sc : Scope) (s : Stack Tree) (v : Word) → top_is_else s ≡ false → IsStack start s sc → Goes start (λ ws. unwind s (v ∷ ws)) (block_part trees_built sc s v)
  block_part_goes sc s (Sign m.CloseBrace) h st = close_goes sc s st
  block_part_goes sc s (Key w.StaticAssert) h st = (st, λ ws. refl)
  block_part_goes sc s v h st = part_goes sc s v h st

  label_goes : (sc : Scope) (s : Stack Tree) (v : Word) → IsStack start s sc → Goes start (λ ws. unwind s (v ∷ ws)) (label trees_built sc s v)
  label_goes sc s (Key w.Case) st = (st, λ ws. refl)
  label_goes sc s (Key w.Default) st = (st, λ ws. refl)
  label_goes sc s _ st = tt

  file_part_goes : (sc : Scope) (is : List t.Item) (s : Stack Tree) (v : Word) → IsStack start (InUnit is ∷ s) sc → Goes start (λ ws. unwind (InUnit is ∷ s) (v ∷ ws)) (file_part trees_built sc is s v)
  file_part_goes sc is s (Sign m.Semicolon) st =
      ((refl, (st.0, IsTranslationUnit-last st.0 is t.Lone st.1 tt, st.2 ∙ sym (after_unit-last st.0 is t.Lone), st.3)), λ ws. ap (unwind s) (unit_spelled is t.Lone ws))
  file_part_goes sc is s (Key w.StaticAssert) st = (st, λ ws. refl)
  file_part_goes sc is s v st = begin_specs start sc (DeclSpecs ∷ InUnit is ∷ s) v st

  part_begins : (sc : Scope) (s : Stack Tree) (v : Word) → top_is_else s ≡ false → IsStack start s sc → Goes start (λ ws. unwind s (v ∷ ws)) (begin_part trees_built sc s v)
  part_begins sc (InUnit is ∷ s) v h st = file_part_goes sc is s v st
  part_begins sc (InBlock outer c ∷ s) v h st = block_part_goes sc (InBlock outer c ∷ s) v h st
  part_begins sc (InFunction outer ss d c ∷ s) v h st = block_part_goes sc (InFunction outer ss d c ∷ s) v h st
  part_begins sc (InSwitch outer x c ∷ s) v h st =
      cond_both (is_label v) (label trees_built sc (InSwitch outer x c ∷ s) v) (block_part trees_built sc (InSwitch outer x c ∷ s) v) (Goes start (λ ws. unwind (InSwitch outer x c ∷ s) (v ∷ ws)))
      (λ e. label_goes sc (InSwitch outer x c ∷ s) v st)
      (λ e. block_part_goes sc (InSwitch outer x c ∷ s) v h st)
  part_begins sc s v h st = statement_goes sc s v (λ d. h) st

  -- ---- the end of a statement

  record Ended (s : Stack Tree) (u : t.Statement) (r : Scope × Stack Tree × t.Statement) : Type 0 where
    stack : IsStack start r.1 r.0
    is_statement : IsStatement r.0 r.2
    spelled : (ws : List Word) → unwind r.1 (spell_statement r.2 ws) ≡ unwind s (spell_statement u ws)

  ends : (s : Stack Tree) (sc : Scope) (u : t.Statement) → IsStack start s sc → IsStatement sc u → (is_if u && top_is_else s) ≡ false → Ended s u (ended trees_built sc s u)
  ends (InBranch bs c ∷ s) sc u st wf h =
      let all = branches_then bs (t.branch c u t.no_branch) in
      let r = ends s sc (t.If all t.no_else) st.3 (has_branches-last bs c u, led_last sc bs c u st.0 st.1 wf, tt) st.2 in
      record { stack = r.stack; is_statement = r.is_statement; spelled = λ ws. r.spelled ws ∙ ap (unwind s) (branches_lead bs c u ws) }
  ends (InElseBody bs ∷ s) sc u st wf h =
      let r = ends s sc (t.If bs (t.else_do u)) st.3 (st.0, led_else sc bs u st.1, (and_true (is_if u) h, wf)) st.2 in
      record { stack = r.stack; is_statement = r.is_statement; spelled = r.spelled }
  ends (InWhile c ∷ s) sc u st wf h =
      let r = ends s sc (t.While c u) st.1 (st.0, wf) refl in
      record { stack = r.stack; is_statement = r.is_statement; spelled = r.spelled }
  ends (InFor outer f c e ∷ s) sc u st wf h =
      let r = ends s outer (t.For f c e u) st.4 (st.0, subst (λ z. IsMaybe z c) st.1 st.2, subst (λ z. IsMaybe z e) st.1 st.3, subst (λ z. IsStatement z u) st.1 wf) refl in
      record { stack = r.stack; is_statement = r.is_statement; spelled = r.spelled }
  ends [] sc u st wf h = record { stack = st; is_statement = wf; spelled = λ ws. refl }
  ends (_ ∷ s) sc u st wf h = record { stack = st; is_statement = wf; spelled = λ ws. refl }

  else_goes : (s : Stack Tree) (sc : Scope) (u : t.Statement) → IsStack start s sc → IsStatement sc u → takes_else u ≡ false → (is_if u && top_is_else s) ≡ false → Goes start (λ ws. unwind s (spell_statement u (Key w.Else ∷ ws))) (on_else trees_built sc s u)
  else_goes (InBranch bs c ∷ s) sc u st wf o h =
      ((has_branches-last bs c u, AreLed-last sc bs c u st.0 st.1 o wf, st.2, st.3), λ ws. ap (unwind s) (branches_lead bs c u (Key w.Else ∷ ws)))
  else_goes (InElseBody bs ∷ s) sc u st wf o h = else_goes s sc (t.If bs (t.else_do u)) st.3 (st.0, led_else sc bs u st.1, (and_true (is_if u) h, wf)) o st.2
  else_goes (InWhile c ∷ s) sc u st wf o h = else_goes s sc (t.While c u) st.1 (st.0, wf) o refl
  else_goes (InFor outer f c e ∷ s) sc u st wf o h =
      else_goes s outer (t.For f c e u) st.4 (st.0, subst (λ z. IsMaybe z c) st.1 st.2, subst (λ z. IsMaybe z e) st.1 st.3, subst (λ z. IsStatement z u) st.1 wf) o refl
  else_goes [] sc u st wf o h = tt
  else_goes (_ ∷ s) sc u st wf o h = tt

  do_test_goes : (sc : Scope) (s : Stack Tree) (u : t.Statement) (v : Word) → IsStatement sc u → IsStack start s sc → Goes start (λ ws. unwind (InDo ∷ s) (spell_statement u (v ∷ ws))) (do_test trees_built sc s u v)
  do_test_goes sc s u (Key w.While) wf st = ((wf, st), λ ws. refl)
  do_test_goes sc s u _ wf st = tt

  next_goes : (sc : Scope) (s : Stack Tree) (u : t.Statement) (v : Word) → IsStack start s sc → IsStatement sc u → Goes start (λ ws. unwind s (spell_statement u (v ∷ ws))) (next_in trees_built (sc, s, u) v)
  next_goes sc (InBlock outer c ∷ s) u v st wf =
      let more = body_then c (t.stated u t.no_part) in
      Goes-from start (λ ws. unwind (InBlock outer more ∷ s) (v ∷ ws)) (λ ws. unwind (InBlock outer c ∷ s) (spell_statement u (v ∷ ws))) (λ ws. ap (λ us. unwind (InBlock outer t.no_part ∷ s) us) (body_spelled c (t.stated u t.no_part) (v ∷ ws))) (begin_part trees_built sc (InBlock outer more ∷ s) v)
      (part_begins sc (InBlock outer more ∷ s) v refl (body_more start false outer sc c (t.stated u t.no_part) st.0 st.1 (wf, tt), body_scope start outer sc c (t.stated u t.no_part) st.1, st.2))
  next_goes sc (InFunction outer ss d c ∷ s) u v st wf =
      let more = body_then c (t.stated u t.no_part) in
      let inside = inside_definition st.0 ss d in
      Goes-from start (λ ws. unwind (InFunction outer ss d more ∷ s) (v ∷ ws)) (λ ws. unwind (InFunction outer ss d c ∷ s) (spell_statement u (v ∷ ws))) (λ ws. ap (λ us. unwind (InFunction outer ss d t.no_part ∷ s) us) (body_spelled c (t.stated u t.no_part) (v ∷ ws))) (begin_part trees_built sc (InFunction outer ss d more ∷ s) v)
      (part_begins sc (InFunction outer ss d more ∷ s) v refl (st.0, st.1, st.2, st.3, st.4, body_more start false inside sc c (t.stated u t.no_part) st.5 st.6 (wf, tt), body_scope start inside sc c (t.stated u t.no_part) st.6, st.7))
  next_goes sc (InSwitch outer x c ∷ s) u v st wf =
      let more = body_then c (t.stated u t.no_part) in
      Goes-from start (λ ws. unwind (InSwitch outer x more ∷ s) (v ∷ ws)) (λ ws. unwind (InSwitch outer x c ∷ s) (spell_statement u (v ∷ ws))) (λ ws. ap (λ us. unwind (InSwitch outer x t.no_part ∷ s) us) (body_spelled c (t.stated u t.no_part) (v ∷ ws))) (begin_part trees_built sc (InSwitch outer x more ∷ s) v)
      (part_begins sc (InSwitch outer x more ∷ s) v refl (st.0, body_more start true outer sc c (t.stated u t.no_part) st.1 st.2 (wf, tt), body_scope start outer sc c (t.stated u t.no_part) st.2, st.3))
  next_goes sc (InDo ∷ s) u v st wf = do_test_goes sc s u v wf st
  next_goes sc [] u v st wf = tt
  next_goes sc (_ ∷ s) u v st wf = tt

  done_goes : (z : Bool) (sc : Scope) (s : Stack Tree) (u : t.Statement) (v : Word) → is_else v ≡ z → IsAt start (Done u) sc s → Goes start (λ ws. unwind s (spell_statement u (v ∷ ws))) (done trees_built z sc s u v)
  done_goes true sc s u v e st =
      subst (λ (x : Word). Goes start (λ ws. unwind s (spell_statement u (x ∷ ws))) (on_else trees_built sc s u)) (sym (else_is v e)) (else_goes s sc u st.3 st.0 st.1 (if_else (is_if u) (top_is_else s) st.2))
  done_goes false sc s u v e st =
      let r = ends s sc u st.3 st.0 (if_else (is_if u) (top_is_else s) st.2) in
      let p = ended trees_built sc s u in
      Goes-from start (λ ws. unwind p.1 (spell_statement p.2 (v ∷ ws))) (λ ws. unwind s (spell_statement u (v ∷ ws))) (λ ws. r.spelled (v ∷ ws)) (next_in trees_built p v) (next_goes p.0 p.1 p.2 v r.stack r.is_statement)

  -- ---- the rest of statements

  ending_goes : (sc : Scope) (s : Stack Tree) (u : t.Statement) (v : Word) → IsAt start (Ending u) sc s → Goes start (λ ws. unwind s (ending_words u (v ∷ ws))) (ending trees_built sc s u v)
  ending_goes sc s u (Sign m.Semicolon) st = ((st.0, st.1, st.2, st.4), λ ws. ap (unwind s) (sym (st.3 ws)))
  ending_goes sc s u _ st = tt

  after_else_goes : (sc : Scope) (s : Stack Tree) (bs : t.Branches) (v : Word) → IsAt start (AfterElse bs) sc s → Goes start (λ ws. unwind s (spell_branches bs (Key w.Else ∷ v ∷ ws))) (after_else trees_built sc s bs v)
  after_else_goes sc s bs (Key w.If) st = ((st.1, st.2, st.3), λ ws. ap (unwind s) (sym (branches_else bs (Key w.If ∷ ws) st.0)))
  after_else_goes sc s bs v st = statement_goes sc (InElseBody bs ∷ s) v (λ e. absurd cc) (st.0, st.1, st.2, st.3)

  returning_goes : (sc : Scope) (s : Stack Tree) (v : Word) → IsStack start s sc → Goes start (λ ws. unwind s (Key w.Return ∷ v ∷ ws)) (returning trees_built sc s v)
  returning_goes sc s (Sign m.Semicolon) st = ((tt, refl, refl, st), λ ws. refl)
  returning_goes sc s v st = begin_goes start sc (InReturn ∷ s) v st

  switching_goes : (sc : Scope) (s : Stack Tree) (x : t.Expression) (v : Word) → IsExpression sc x → IsStack start s sc → Goes start (λ ws. unwind s (mode_words (Switching x) (v ∷ ws))) (switching trees_built sc s x v)
  switching_goes sc s x (Sign m.OpenBrace) wf st = ((refl, (wf, tt, refl, st)), λ ws. refl)
  switching_goes sc s x _ wf st = tt

  default_done_goes : (sc : Scope) (s : Stack Tree) → IsStack start s sc → Goes start (λ ws. unwind s (Key w.Default ∷ Sign m.Colon ∷ ws)) (default_done trees_built sc s)
  default_done_goes sc (InSwitch outer x c ∷ s) st = (
    (refl, (st.0, body_more start true outer sc c (t.default_label t.no_part) st.1 st.2 (refl, tt), body_scope start outer sc c (t.default_label t.no_part) st.2, st.3)),
    λ ws. ap (λ us. unwind (InSwitch outer x t.no_part ∷ s) us) (body_spelled c (t.default_label t.no_part) ws),
  )
  default_done_goes sc [] st = tt
  default_done_goes sc (_ ∷ s) st = tt

  default_goes : (sc : Scope) (s : Stack Tree) (v : Word) → IsStack start s sc → Goes start (λ ws. unwind s (Key w.Default ∷ v ∷ ws)) (default_colon trees_built sc s v)
  default_goes sc s (Sign m.Colon) st = default_done_goes sc s st
  default_goes sc s _ st = tt

  open_for_goes : (sc : Scope) (s : Stack Tree) (v : Word) → IsStack start s sc → Goes start (λ ws. unwind s (Key w.For ∷ v ∷ ws)) (open_for trees_built sc s v)
  open_for_goes sc s (Sign m.Open) st = ((refl, st), λ ws. refl)
  open_for_goes sc s _ st = tt

  no_start_goes : (sc : Scope) (s : Stack Tree) → IsStack start s sc → Goes start (λ ws. unwind s (Sign m.Semicolon ∷ ws)) (no_start trees_built sc s)
  no_start_goes sc (InForInit outer ∷ s) st = ((tt, sym st.0, subst (IsStack start s) (sym st.0) st.1), λ ws. refl)
  no_start_goes sc [] st = tt
  no_start_goes sc (_ ∷ s) st = tt

  starting_rest : (sc : Scope) (s : Stack Tree) (v : Word) → IsStack start s sc → Goes start (λ ws. unwind s (v ∷ ws)) (if begins_specs sc (v ∷ []) then specs_step trees_built sc (DeclSpecs ∷ s) t.no_spec v else begin trees_built sc s v)
  starting_rest sc s v st =
      cond_both (begins_specs sc (v ∷ [])) (specs_step trees_built sc (DeclSpecs ∷ s) t.no_spec v) (begin trees_built sc s v) (Goes start (λ ws. unwind s (v ∷ ws)))
      (λ e. begin_specs start sc (DeclSpecs ∷ s) v st)
      (λ e. begin_goes start sc s v st)

  starting_goes : (sc : Scope) (s : Stack Tree) (v : Word) → IsStack start s sc → Goes start (λ ws. unwind s (v ∷ ws)) (for_starting trees_built sc s v)
  starting_goes sc s (Sign m.Semicolon) st = no_start_goes sc s st
  starting_goes sc s (Key w.StaticAssert) st = (st, λ ws. refl)
  starting_goes sc s v st = starting_rest sc s v st

  no_test_goes : (sc : Scope) (s : Stack Tree) → IsStack start s sc → Goes start (λ ws. unwind s (Sign m.Semicolon ∷ ws)) (no_test trees_built sc s)
  no_test_goes sc (InForCondition outer f ∷ s) st = ((st.0, st.1, tt, st.2), λ ws. refl)
  no_test_goes sc [] st = tt
  no_test_goes sc (_ ∷ s) st = tt

  testing_goes : (sc : Scope) (s : Stack Tree) (v : Word) → IsStack start s sc → Goes start (λ ws. unwind s (v ∷ ws)) (for_testing trees_built sc s v)
  testing_goes sc s (Sign m.Semicolon) st = no_test_goes sc s st
  testing_goes sc s v st = begin_goes start sc s v st

  no_after_goes : (sc : Scope) (s : Stack Tree) → IsStack start s sc → Goes start (λ ws. unwind s (Sign m.Close ∷ ws)) (no_after trees_built sc s)
  no_after_goes sc (InForStep outer f c ∷ s) st = ((refl, (st.0, st.1, st.2, tt, st.3)), λ ws. refl)
  no_after_goes sc [] st = tt
  no_after_goes sc (_ ∷ s) st = tt

  aftering_goes : (sc : Scope) (s : Stack Tree) (v : Word) → IsStack start s sc → Goes start (λ ws. unwind s (v ∷ ws)) (for_aftering trees_built sc s v)
  aftering_goes sc s (Sign m.Close) st = no_after_goes sc s st
  aftering_goes sc s v st = begin_goes start sc s v st

  -- ---- one step, and all

  pub step_goes : (sc : Scope) (s : Stack Tree) (mode : Mode Tree) (v : Word) → IsAt start mode sc s → Goes start (λ ws. unwind s (mode_words mode (v ∷ ws))) (step trees_built sc s mode v)
  step_goes sc s Want v st = begin_goes start sc s v st
  step_goes sc s (Have x) v st = after_goes start sc s x v st
  step_goes sc s (Texts u us) v st = texts_goes start sc s u us v st
  step_goes sc s (First f) v st = first_goes start sc s f v st
  step_goes sc s (Dotted x o) v st = dotted_goes start sc s x o v st
  step_goes sc s (Specs ss) v st = specs_goes start sc s ss v st
  step_goes sc s (Tagging k ss) v st = tagging_goes start sc s k ss v st
  step_goes sc s (Tagged k ss u) v st = tagged_goes start sc s k ss u v st
  step_goes sc s NextMember v st = next_member_goes start sc s v st.0 st.1
  step_goes sc s FirstEnumerator v st = first_enumerator_goes start sc s v st
  step_goes sc s NextEnumerator v st = next_enumerator_goes start sc s v st.0 st.1
  step_goes sc s (Enumerated u) v st = enumerated_goes start sc s u v st
  step_goes sc s (WantDeclarator k) v st = want_goes start sc s k v st.0 (st.1 v) st.2
  step_goes sc s (Qualifying k qs) v st = qualify_goes start sc s k qs v st.0 st.1
  step_goes sc s (Opened k) v st = opened_goes start sc s k v st.0 st.1
  step_goes sc s (HaveDeclarator k d) v st = have_goes start sc s k d v st.0.0 st.0.1 st.0.2 st.0.3 (λ ws. st.0.4 (v ∷ ws)) st.1
  step_goes sc s (Sizing k d) v st = sizing_goes start sc s k d v st
  step_goes sc s (Listing k d) v st = listing_goes start sc s k d v st.0 st.1
  step_goes sc s NextParameter v st = next_parameter_goes start sc s v st.0 st.1
  step_goes sc s AfterEllipsis v st = after_ellipsis_goes start sc s v st.0 st.1
  step_goes sc s WantInit v st = want_init_goes sc s v st
  step_goes sc s (HaveInit x) v st = have_init_goes sc s x v st.0 st.1
  step_goes sc s FirstItem v st = first_item_goes sc s v st.0 st.1
  step_goes sc s NextItem v st = next_item_goes sc s v st.0 st.1
  step_goes sc s Pointed v st = pointed_goes sc s v st
  step_goes sc s (Placed g) v st = placed_goes sc s g v st.0 st.1 st.2
  step_goes sc s (Opening aim) v st = opening_goes sc s aim v st
  step_goes sc s (AssertText x) v st = assert_text_goes sc s x v st
  step_goes sc s (AssertClose x u) v st = assert_close_goes sc s x u v st
  step_goes sc s (AssertEnd x u) v st = assert_end_goes sc s x u v st
  step_goes sc s Begin v st = part_begins sc s v st.0 st.1
  step_goes sc s (Done u) v st = done_goes (is_else v) sc s u v refl st
  step_goes sc s (Ending u) v st = ending_goes sc s u v st
  step_goes sc s (AfterElse bs) v st = after_else_goes sc s bs v st
  step_goes sc s Returning v st = returning_goes sc s v st
  step_goes sc s (Switching x) v st = switching_goes sc s x v st.0 st.1
  step_goes sc s DefaultColon v st = default_goes sc s v st
  step_goes sc s OpenFor v st = open_for_goes sc s v st
  step_goes sc s ForInit v st = starting_goes sc s v st
  step_goes sc s ForCondition v st = testing_goes sc s v st
  step_goes sc s ForStep v st = aftering_goes sc s v st

  then_goes : (ws : List Word) (r : Option (State Tree)) → ((sc : Scope) (s : Stack Tree) (mode : Mode Tree) → IsAt start mode sc s → Goes start (λ rest. unwind s (mode_words mode (ws ++ rest))) (run trees_built ws sc s mode)) → (f : List Word → List Word) → Goes start f r → Goes start (λ rest. f (ws ++ rest)) (then_run trees_built (run trees_built ws) r)
  then_goes ws None go f h = tt
  then_goes ws (Some (sc, s, mode)) go f h = Goes-from start (λ rest. unwind s (mode_words mode (ws ++ rest))) (λ rest. f (ws ++ rest)) (λ rest. h.1 (ws ++ rest)) (run trees_built ws sc s mode) (go sc s mode h.0)

  pub run_goes : (ws : List Word) (sc : Scope) (s : Stack Tree) (mode : Mode Tree) → IsAt start mode sc s → Goes start (λ rest. unwind s (mode_words mode (ws ++ rest))) (run trees_built ws sc s mode)
  run_goes [] sc s mode st = (st, λ rest. refl)
  run_goes (v ∷ ws) sc s mode st = then_goes ws (step trees_built sc s mode v) (λ sc' s' mode' st'. run_goes ws sc' s' mode' st') (λ rest. unwind s (mode_words mode (v ∷ rest))) (step_goes sc s mode v st)
