-- Two machines whose parts belong to each other go the same way: initialisers, statements and units.
use Rattle.std.proofs.Common.{◌≡◌, Bool, true, false, if◌then◌else◌, List, [], ◌∷◌, Option, Some, None, refl, ap, ◌∙◌}
use Rattle.ct_syntax.specs.declared.words.AssignOp.TheVariants as ao
use Rattle.ct_syntax.specs.declared.words.MemberOp.TheVariants as op
use Rattle.ct_syntax.specs.declared.words.Mark.{Mark}
use Rattle.ct_syntax.specs.declared.words.Mark.TheVariants as m
use Rattle.ct_syntax.specs.declared.words.Keyword.{Keyword}
use Rattle.ct_syntax.specs.declared.words.Keyword.TheVariants as w
use Rattle.ct_syntax.specs.Words.{Text, Word, Named, Literal, Sign, Key}
use Rattle.ct_syntax.specs.Scopes.{Scope}
use Rattle.ct_syntax.specs.Grammar.{begins_specs}
use Rattle.ct_grammar_machine.specs.Algebra.{Sort, expr, specs, decl, init, stmt, branches, items, Aimed, AtNext, Algebra}
use Rattle.ct_grammar_machine.specs.Frames.{DeclSpecs, InBraces, InItem, InBlock, InSwitch, InFunction, InUnit, InRun, InReturn, InBranch, InElseBody, InWhile, InDo, InForInit, InForCondition, InForStep, InFor, Aim, ToTest, ToLoop, ToDo, ToSwitch, ToAssert}
use Rattle.ct_grammar_machine.specs.Frames.{Mode, Want, Have, Texts, First, Dotted, Specs, Tagging, Tagged, NextMember, FirstEnumerator, NextEnumerator, Enumerated, WantDeclarator, Qualifying, Opened, HaveDeclarator, Sizing, Listing, NextParameter, AfterEllipsis}
use Rattle.ct_grammar_machine.specs.Frames.{WantInit, HaveInit, FirstItem, NextItem, Pointed, Placed, Opening, AssertText, AssertClose, AssertEnd, Begin, Done, Ending, AfterElse, Returning, Switching, DefaultColon, OpenFor, ForInit, ForCondition, ForStep, Stack, State}
use Rattle.ct_grammar_machine.specs.Steps.{qualifier_of, is_label, is_else, declaration_done, specs_step, begin, want_init, have_init, item, close_items, item_or_end, pointed, placed, assert_text, assert_close, assert_end, aim_frame, opening, statement_mark, statement_key, statement, close_body, label, block_part, file_part, begin_part, ended, on_else, do_test, next_in, done, ending, after_else, returning, switching, default_colon, open_for, no_start, for_starting, no_test, for_testing, no_after, for_aftering, step, then_run, run}
use Rattle.ct_grammar_laws.proofs.Map.{map_aimed, map_frame, map_stack, map_aim, map_mode, map_step, Hom}
use Rattle.ct_grammar_laws.proofs.Map as one

module _ {A B : Sort → Type 0} (a : Algebra A) (b : Algebra B) (h : (s : Sort) → A s → B s) (hom : Hom a b h) where
  abbrev stack : Stack A → Stack B
  stack s = map_stack h s

  abbrev to : Option (State A) → Option (State B)
  to r = map_step h r

  if_map : (z : Bool) (x y : Option (State A)) → (if z then to x else to y) ≡ to (if z then x else y)
  if_map true x y = refl
  if_map false x y = refl

  want_init_map : (sc : Scope) (s : Stack A) (v : Word) → want_init b sc (stack s) v ≡ to (want_init a sc s v)
  want_init_map sc s (Sign m.OpenBrace) = ap (λ z. Some (sc, InBraces z ∷ stack s, FirstItem)) hom.no_inits
  want_init_map sc s v = one.begin_map a b h hom sc s v

  have_init_map : (sc : Scope) (s : Stack A) (x : A init) (v : Word) → have_init b sc (stack s) (h init x) v ≡ to (have_init a sc s x v)
  have_init_map sc s x (Sign k) = one.init_done_map a b h hom sc k s x
  have_init_map sc s x _ = refl

  item_map : (sc : Scope) (s : Stack A) (v : Word) → item b sc (stack s) v ≡ to (item a sc s v)
  item_map sc [] v = refl
  item_map sc (InBraces is ∷ s) (Sign (m.Member op.Dot)) = refl
  item_map sc (InBraces is ∷ s) (Sign m.OpenBracket) = refl
  item_map sc (InBraces is ∷ s) v = want_init_map sc (InItem is AtNext ∷ s) v
  item_map sc (_ ∷ s) v = refl

  close_items_map : (sc : Scope) (z : Bool) (s : Stack A) → close_items b sc z (stack s) ≡ to (close_items a sc z s)
  close_items_map sc z [] = refl
  close_items_map sc z (InBraces is ∷ s) = ap (λ x. Some (sc, stack s, HaveInit x)) (hom.braces is z)
  close_items_map sc z (_ ∷ s) = refl

  item_or_end_map : (sc : Scope) (z : Bool) (s : Stack A) (v : Word) → item_or_end b sc z (stack s) v ≡ to (item_or_end a sc z s v)
  item_or_end_map sc z s (Sign m.CloseBrace) = close_items_map sc z s
  item_or_end_map sc z s v = item_map sc s v

  pointed_map : (sc : Scope) (s : Stack A) (v : Word) → pointed b sc (stack s) v ≡ to (pointed a sc s v)
  pointed_map sc s (Named u) = refl
  pointed_map sc s _ = refl

  placed_map : (sc : Scope) (s : Stack A) (g : Aimed A) (v : Word) → placed b sc (stack s) (map_aimed h g) v ≡ to (placed a sc s g v)
  placed_map sc [] g v = refl
  placed_map sc (InBraces is ∷ s) g (Sign (m.Assign ao.Plain)) = refl
  placed_map sc (InBraces is ∷ s) g _ = refl
  placed_map sc (_ ∷ s) g v = refl

  assert_text_map : (sc : Scope) (s : Stack A) (x : A expr) (v : Word) → assert_text b sc (stack s) (h expr x) v ≡ to (assert_text a sc s x v)
  assert_text_map sc s x (Literal u) = refl
  assert_text_map sc s x _ = refl

  assert_close_map : (sc : Scope) (s : Stack A) (x : A expr) (u : Text) (v : Word) → assert_close b sc (stack s) (h expr x) u v ≡ to (assert_close a sc s x u v)
  assert_close_map sc s x u (Sign m.Close) = refl
  assert_close_map sc s x u _ = refl

  assert_end_map : (sc : Scope) (s : Stack A) (x : A expr) (u : Text) (v : Word) → assert_end b sc (stack s) (h expr x) u v ≡ to (assert_end a sc s x u v)
  assert_end_map sc s x u (Sign m.Semicolon) = ap (declaration_done b sc (stack s)) (hom.assert x u) ∙ one.declaration_done_map a b h hom sc s (a.assert x u)
  assert_end_map sc s x u _ = refl

  aim_map : (aim : Aim A) → aim_frame b (map_aim h aim) ≡ map_frame h (aim_frame a aim)
  aim_map (ToTest bs) = refl
  aim_map ToLoop = refl
  aim_map (ToDo u) = refl
  aim_map ToSwitch = refl
  aim_map ToAssert = refl

  opening_map : (sc : Scope) (s : Stack A) (aim : Aim A) (v : Word) → opening b sc (stack s) (map_aim h aim) v ≡ to (opening a sc s aim v)
  opening_map sc s aim (Sign m.Open) = ap (λ f. Some (sc, f ∷ stack s, Want)) (aim_map aim)
  opening_map sc s aim _ = refl

  statement_mark_map : (sc : Scope) (s : Stack A) (k : Mark) → statement_mark b sc (stack s) k ≡ to (statement_mark a sc s k)
  statement_mark_map sc s m.OpenBrace = ap (λ z. Some (sc, InBlock sc z ∷ stack s, Begin)) hom.no_body
  statement_mark_map sc s m.Semicolon = ap (λ z. Some (sc, stack s, Done z)) (hom.run None)
  statement_mark_map sc s k = one.begin_map a b h hom sc (InRun ∷ s) (Sign k)

  statement_key_map : (sc : Scope) (s : Stack A) (k : Keyword) → statement_key b sc (stack s) k ≡ to (statement_key a sc s k)
  statement_key_map sc s w.If = ap (λ z. Some (sc, stack s, Opening (ToTest z))) hom.no_branches
  statement_key_map sc s w.While = refl
  statement_key_map sc s w.Do = refl
  statement_key_map sc s w.For = refl
  statement_key_map sc s w.Switch = refl
  statement_key_map sc s w.Break = ap (λ z. Some (sc, stack s, Ending z)) hom.break
  statement_key_map sc s w.Continue = ap (λ z. Some (sc, stack s, Ending z)) hom.continue
  statement_key_map sc s w.Return = refl
  statement_key_map sc s k = one.begin_map a b h hom sc (InRun ∷ s) (Key k)

  statement_map : (sc : Scope) (s : Stack A) (v : Word) → statement b sc (stack s) v ≡ to (statement a sc s v)
  statement_map sc s (Sign k) = statement_mark_map sc s k
  statement_map sc s (Key k) = statement_key_map sc s k
  statement_map sc s v = one.begin_map a b h hom sc (InRun ∷ s) v

  close_body_map : (s : Stack A) → close_body b (stack s) ≡ to (close_body a s)
  close_body_map [] = refl
  close_body_map (InBlock outer c ∷ s) = ap (λ z. Some (outer, stack s, Done z)) (hom.block c)
  close_body_map (InSwitch outer x c ∷ s) = ap (λ z. Some (outer, stack s, Done z)) (hom.switch x c)
  close_body_map (InFunction outer ss d c ∷ []) = refl
  close_body_map (InFunction outer ss d c ∷ InUnit is ∷ s) = ap (λ z. Some (outer, InUnit z ∷ stack s, Begin)) (hom.push_definition is ss d c)
  close_body_map (InFunction outer ss d c ∷ _ ∷ s) = refl
  close_body_map (_ ∷ s) = refl

  label_map : (sc : Scope) (s : Stack A) (v : Word) → label b sc (stack s) v ≡ to (label a sc s v)
  label_map sc s (Key w.Case) = refl
  label_map sc s (Key w.Default) = refl
  label_map sc s _ = refl

  part_map : (sc : Scope) (s : Stack A) (v : Word) → (if begins_specs sc (v ∷ []) then specs_step b sc (DeclSpecs ∷ stack s) b.no_specs v else statement b sc (stack s) v) ≡ to (if begins_specs sc (v ∷ []) then specs_step a sc (DeclSpecs ∷ s) a.no_specs v else statement a sc s v)
  part_map sc s v =
      let z = begins_specs sc (v ∷ []) in
      ap (λ x. if z then x else statement b sc (stack s) v) (one.begin_specs_map a b h hom sc (DeclSpecs ∷ s) v)
      ∙ ap (λ x. if z then to (specs_step a sc (DeclSpecs ∷ s) a.no_specs v) else x) (statement_map sc s v)
      ∙ if_map z (specs_step a sc (DeclSpecs ∷ s) a.no_specs v) (statement a sc s v)

  block_part_map : (sc : Scope) (s : Stack A) (v : Word) → block_part b sc (stack s) v ≡ to (block_part a sc s v)
  block_part_map sc s (Sign m.CloseBrace) = close_body_map s
  block_part_map sc s (Key w.StaticAssert) = refl
  block_part_map sc s v = part_map sc s v

  file_part_map : (sc : Scope) (is : A items) (s : Stack A) (v : Word) → file_part b sc (h items is) (stack s) v ≡ to (file_part a sc is s v)
  file_part_map sc is s (Sign m.Semicolon) = ap (λ z. Some (sc, InUnit z ∷ stack s, Begin)) (hom.push_lone is)
  file_part_map sc is s (Key w.StaticAssert) = refl
  file_part_map sc is s v = one.begin_specs_map a b h hom sc (DeclSpecs ∷ InUnit is ∷ s) v

  switch_part_map : (sc : Scope) (s : Stack A) (v : Word) → (if is_label v then label b sc (stack s) v else block_part b sc (stack s) v) ≡ to (if is_label v then label a sc s v else block_part a sc s v)
  switch_part_map sc s v =
      ap (λ x. if is_label v then x else block_part b sc (stack s) v) (label_map sc s v)
      ∙ ap (λ x. if is_label v then to (label a sc s v) else x) (block_part_map sc s v)
      ∙ if_map (is_label v) (label a sc s v) (block_part a sc s v)

  begin_part_map : (sc : Scope) (s : Stack A) (v : Word) → begin_part b sc (stack s) v ≡ to (begin_part a sc s v)
  begin_part_map sc (InUnit is ∷ s) v = file_part_map sc is s v
  begin_part_map sc (InBlock outer c ∷ s) v = block_part_map sc (InBlock outer c ∷ s) v
  begin_part_map sc (InFunction outer ss d c ∷ s) v = block_part_map sc (InFunction outer ss d c ∷ s) v
  begin_part_map sc (InSwitch outer x c ∷ s) v = switch_part_map sc (InSwitch outer x c ∷ s) v
  begin_part_map sc [] v = statement_map sc [] v
  begin_part_map sc (f ∷ s) v = statement_map sc (f ∷ s) v

  abbrev map_end : Scope × Stack A × A stmt → Scope × Stack B × B stmt
  map_end r = (r.0, stack r.1, h stmt r.2)

  ended_map : (s : Stack A) (sc : Scope) (u : A stmt) → ended b sc (stack s) (h stmt u) ≡ map_end (ended a sc s u)
  ended_map [] sc u = refl
  ended_map (InBranch bs x ∷ s) sc u =
      ap (λ z. ended b sc (stack s) (b.if_else z None)) (hom.push_branch bs x u) ∙ ap (ended b sc (stack s)) (hom.if_else (a.push_branch bs x u) None) ∙ ended_map s sc (a.if_else (a.push_branch bs x u) None)
  ended_map (InElseBody bs ∷ s) sc u = ap (ended b sc (stack s)) (hom.if_else bs (Some u)) ∙ ended_map s sc (a.if_else bs (Some u))
  ended_map (InWhile x ∷ s) sc u = ap (ended b sc (stack s)) (hom.while_loop x u) ∙ ended_map s sc (a.while_loop x u)
  ended_map (InFor outer f c e ∷ s) sc u = ap (ended b outer (stack s)) (hom.for_loop f c e u) ∙ ended_map s outer (a.for_loop f c e u)
  ended_map (_ ∷ s) sc u = refl

  on_else_map : (s : Stack A) (sc : Scope) (u : A stmt) → on_else b sc (stack s) (h stmt u) ≡ to (on_else a sc s u)
  on_else_map [] sc u = refl
  on_else_map (InBranch bs x ∷ s) sc u = ap (λ z. Some (sc, stack s, AfterElse z)) (hom.push_branch bs x u)
  on_else_map (InElseBody bs ∷ s) sc u = ap (on_else b sc (stack s)) (hom.if_else bs (Some u)) ∙ on_else_map s sc (a.if_else bs (Some u))
  on_else_map (InWhile x ∷ s) sc u = ap (on_else b sc (stack s)) (hom.while_loop x u) ∙ on_else_map s sc (a.while_loop x u)
  on_else_map (InFor outer f c e ∷ s) sc u = ap (on_else b outer (stack s)) (hom.for_loop f c e u) ∙ on_else_map s outer (a.for_loop f c e u)
  on_else_map (_ ∷ s) sc u = refl

  do_test_map : (sc : Scope) (s : Stack A) (u : A stmt) (v : Word) → do_test b sc (stack s) (h stmt u) v ≡ to (do_test a sc s u v)
  do_test_map sc s u (Key w.While) = refl
  do_test_map sc s u _ = refl

  next_in_map : (sc : Scope) (s : Stack A) (u : A stmt) (v : Word) → next_in b (sc, stack s, h stmt u) v ≡ to (next_in a (sc, s, u) v)
  next_in_map sc [] u v = refl
  next_in_map sc (InBlock outer c ∷ s) u v = ap (λ z. begin_part b sc (InBlock outer z ∷ stack s) v) (hom.push_stated c u) ∙ begin_part_map sc (InBlock outer (a.push_stated c u) ∷ s) v
  next_in_map sc (InFunction outer ss d c ∷ s) u v =
      ap (λ z. begin_part b sc (InFunction outer (h specs ss) (h decl d) z ∷ stack s) v) (hom.push_stated c u) ∙ begin_part_map sc (InFunction outer ss d (a.push_stated c u) ∷ s) v
  next_in_map sc (InSwitch outer x c ∷ s) u v = ap (λ z. begin_part b sc (InSwitch outer (h expr x) z ∷ stack s) v) (hom.push_stated c u) ∙ begin_part_map sc (InSwitch outer x (a.push_stated c u) ∷ s) v
  next_in_map sc (InDo ∷ s) u v = do_test_map sc s u v
  next_in_map sc (_ ∷ s) u v = refl

  done_map : (z : Bool) (sc : Scope) (s : Stack A) (u : A stmt) (v : Word) → done b z sc (stack s) (h stmt u) v ≡ to (done a z sc s u v)
  done_map true sc s u v = on_else_map s sc u
  done_map false sc s u v = let r = ended a sc s u in ap (λ q. next_in b q v) (ended_map s sc u) ∙ next_in_map r.0 r.1 r.2 v

  ending_map : (sc : Scope) (s : Stack A) (u : A stmt) (v : Word) → ending b sc (stack s) (h stmt u) v ≡ to (ending a sc s u v)
  ending_map sc s u (Sign m.Semicolon) = refl
  ending_map sc s u _ = refl

  after_else_map : (sc : Scope) (s : Stack A) (bs : A branches) (v : Word) → after_else b sc (stack s) (h branches bs) v ≡ to (after_else a sc s bs v)
  after_else_map sc s bs (Key w.If) = refl
  after_else_map sc s bs v = statement_map sc (InElseBody bs ∷ s) v

  returning_map : (sc : Scope) (s : Stack A) (v : Word) → returning b sc (stack s) v ≡ to (returning a sc s v)
  returning_map sc s (Sign m.Semicolon) = ap (λ z. Some (sc, stack s, Done z)) (hom.return None)
  returning_map sc s v = one.begin_map a b h hom sc (InReturn ∷ s) v

  switching_map : (sc : Scope) (s : Stack A) (x : A expr) (v : Word) → switching b sc (stack s) (h expr x) v ≡ to (switching a sc s x v)
  switching_map sc s x (Sign m.OpenBrace) = ap (λ z. Some (sc, InSwitch sc (h expr x) z ∷ stack s, Begin)) hom.no_body
  switching_map sc s x _ = refl

  default_colon_map : (sc : Scope) (s : Stack A) (v : Word) → default_colon b sc (stack s) v ≡ to (default_colon a sc s v)
  default_colon_map sc s (Sign m.Colon) = one.default_done_map a b h hom sc s
  default_colon_map sc s _ = refl

  open_for_map : (sc : Scope) (s : Stack A) (v : Word) → open_for b sc (stack s) v ≡ to (open_for a sc s v)
  open_for_map sc s (Sign m.Open) = refl
  open_for_map sc s _ = refl

  no_start_map : (sc : Scope) (s : Stack A) → no_start b sc (stack s) ≡ to (no_start a sc s)
  no_start_map sc [] = refl
  no_start_map sc (InForInit outer ∷ s) = ap (λ z. Some (sc, InForCondition outer z ∷ stack s, ForCondition)) (hom.start_value None)
  no_start_map sc (_ ∷ s) = refl

  starting_map : (sc : Scope) (s : Stack A) (v : Word) → (if begins_specs sc (v ∷ []) then specs_step b sc (DeclSpecs ∷ stack s) b.no_specs v else begin b sc (stack s) v) ≡ to (if begins_specs sc (v ∷ []) then specs_step a sc (DeclSpecs ∷ s) a.no_specs v else begin a sc s v)
  starting_map sc s v =
      let z = begins_specs sc (v ∷ []) in
      ap (λ x. if z then x else begin b sc (stack s) v) (one.begin_specs_map a b h hom sc (DeclSpecs ∷ s) v)
      ∙ ap (λ x. if z then to (specs_step a sc (DeclSpecs ∷ s) a.no_specs v) else x) (one.begin_map a b h hom sc s v)
      ∙ if_map z (specs_step a sc (DeclSpecs ∷ s) a.no_specs v) (begin a sc s v)

  for_starting_map : (sc : Scope) (s : Stack A) (v : Word) → for_starting b sc (stack s) v ≡ to (for_starting a sc s v)
  for_starting_map sc s (Sign m.Semicolon) = no_start_map sc s
  for_starting_map sc s (Key w.StaticAssert) = refl
  for_starting_map sc s v = starting_map sc s v

  no_test_map : (sc : Scope) (s : Stack A) → no_test b sc (stack s) ≡ to (no_test a sc s)
  no_test_map sc [] = refl
  no_test_map sc (InForCondition outer f ∷ s) = refl
  no_test_map sc (_ ∷ s) = refl

  for_testing_map : (sc : Scope) (s : Stack A) (v : Word) → for_testing b sc (stack s) v ≡ to (for_testing a sc s v)
  for_testing_map sc s (Sign m.Semicolon) = no_test_map sc s
  for_testing_map sc s v = one.begin_map a b h hom sc s v

  no_after_map : (sc : Scope) (s : Stack A) → no_after b sc (stack s) ≡ to (no_after a sc s)
  no_after_map sc [] = refl
  no_after_map sc (InForStep outer f c ∷ s) = refl
  no_after_map sc (_ ∷ s) = refl

  for_aftering_map : (sc : Scope) (s : Stack A) (v : Word) → for_aftering b sc (stack s) v ≡ to (for_aftering a sc s v)
  for_aftering_map sc s (Sign m.Close) = no_after_map sc s
  for_aftering_map sc s v = one.begin_map a b h hom sc s v

  pub step_map : (sc : Scope) (s : Stack A) (mode : Mode A) (v : Word) → step b sc (stack s) (map_mode h mode) v ≡ to (step a sc s mode v)
  step_map sc s Want v = one.begin_map a b h hom sc s v
  step_map sc s (Have x) v = one.after_map a b h hom sc s x v
  step_map sc s (Texts u us) v = one.texts_map a b h hom sc s u us v
  step_map sc s (First f) v = one.first_map a b h hom sc s f v
  step_map sc s (Dotted x o) v = one.dotted_map a b h hom sc s x o v
  step_map sc s (Specs ss) v = one.specs_map a b h hom sc s ss v
  step_map sc s (Tagging k ss) v = one.tagging_map a b h hom sc s k ss v
  step_map sc s (Tagged k ss u) v = one.tagged_map a b h hom sc s k ss u v
  step_map sc s NextMember v = one.next_member_map a b h hom sc s v
  step_map sc s FirstEnumerator v = one.first_enumerator_map a b h hom sc s v
  step_map sc s NextEnumerator v = one.next_enumerator_map a b h hom sc s v
  step_map sc s (Enumerated u) v = one.enumerated_map a b h hom sc s u v
  step_map sc s (WantDeclarator k) v = one.want_map a b h hom sc s k v
  step_map sc s (Qualifying k qs) v = one.qualify_map a b h hom sc s k qs (qualifier_of v) v
  step_map sc s (Opened k) v = one.opened_map a b h hom sc s k v
  step_map sc s (HaveDeclarator k d) v = one.have_declarator_map a b h hom sc s k d v
  step_map sc s (Sizing k d) v = one.sizing_map a b h hom sc s k d v
  step_map sc s (Listing k d) v = one.listing_map a b h hom sc s k d v
  step_map sc s NextParameter v = one.next_parameter_map a b h hom sc s v
  step_map sc s AfterEllipsis v = one.after_ellipsis_map a b h hom s v
  step_map sc s WantInit v = want_init_map sc s v
  step_map sc s (HaveInit x) v = have_init_map sc s x v
  step_map sc s FirstItem v = item_or_end_map sc false s v
  step_map sc s NextItem v = item_or_end_map sc true s v
  step_map sc s Pointed v = pointed_map sc s v
  step_map sc s (Placed g) v = placed_map sc s g v
  step_map sc s (Opening aim) v = opening_map sc s aim v
  step_map sc s (AssertText x) v = assert_text_map sc s x v
  step_map sc s (AssertClose x u) v = assert_close_map sc s x u v
  step_map sc s (AssertEnd x u) v = assert_end_map sc s x u v
  step_map sc s Begin v = begin_part_map sc s v
  step_map sc s (Done u) v = done_map (is_else v) sc s u v
  step_map sc s (Ending u) v = ending_map sc s u v
  step_map sc s (AfterElse bs) v = after_else_map sc s bs v
  step_map sc s Returning v = returning_map sc s v
  step_map sc s (Switching x) v = switching_map sc s x v
  step_map sc s DefaultColon v = default_colon_map sc s v
  step_map sc s OpenFor v = open_for_map sc s v
  step_map sc s ForInit v = for_starting_map sc s v
  step_map sc s ForCondition v = for_testing_map sc s v
  step_map sc s ForStep v = for_aftering_map sc s v

  then_map : (ws : List Word) (r : Option (State A)) → ((sc : Scope) (s : Stack A) (mode : Mode A) → run b ws sc (stack s) (map_mode h mode) ≡ to (run a ws sc s mode)) → then_run b (run b ws) (to r) ≡ to (then_run a (run a ws) r)
  then_map ws None go = refl
  then_map ws (Some (sc, s, mode)) go = go sc s mode

  pub run_map : (ws : List Word) (sc : Scope) (s : Stack A) (mode : Mode A) → run b ws sc (stack s) (map_mode h mode) ≡ to (run a ws sc s mode)
  run_map [] sc s mode = refl
  run_map (v ∷ ws) sc s mode = ap (then_run b (run b ws)) (step_map sc s mode v) ∙ then_map ws (step a sc s mode v) (λ sc' s' mode'. run_map ws sc' s' mode')
