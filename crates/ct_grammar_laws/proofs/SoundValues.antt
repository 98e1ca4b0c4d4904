-- What is read of expressions is spelled so, and the grammar makes it.
use Rattle.std.proofs.Common.{◌≡◌, ℕ, ◌<◌, ◌≤◌, ltb, Bool, true, false, if◌then◌else◌, List, [], ◌∷◌, ◌++◌, Some, None, refl, sym, ap, subst, ◌∙◌, arith}
use Rattle.std.proofs.lemmas.Bool.{ltb-true, ltb-false, cond_both}
use Rattle.ct_base.specs.declared.operators.BinaryOp.TheVariants as b
use Rattle.ct_syntax.specs.declared.words.InfixOp.TheVariants as i
use Rattle.ct_syntax.specs.declared.words.AssignOp.{AssignOp}
use Rattle.ct_syntax.specs.declared.words.MemberOp.{MemberOp}
use Rattle.ct_syntax.specs.declared.words.Mark.{Mark}
use Rattle.ct_syntax.specs.declared.words.Mark.TheVariants as m
use Rattle.ct_syntax.specs.declared.words.Keyword.{Keyword}
use Rattle.ct_syntax.specs.declared.words.Keyword.TheVariants as w
use Rattle.ct_syntax.specs.Words.{Text, Word, Named, Numbered, Quote, Literal, Sign, Key, Stray}
use Rattle.ct_syntax.specs.Scopes.{Scope, with_name, after_specs}
use Rattle.ct_syntax.specs.Grammar.{infix_level, expression_level, IsExpression}
use Rattle.ct_syntax.specs.Spelling.{spell, spell_texts, spell_tag, spell_specs, spell_declarator}
use Rattle.ct_syntax.specs.Trees as t
use Rattle.ct_grammar_machine.specs.Algebra.{Tree, trees_built, enumerators_then}
use Rattle.ct_grammar_machine.specs.Frames.{Kind, Frame, InParen, InCall, InIndex, InPrefix, InUnary, InSizeof, InCast, InInfix, InThen, InElse, InAssign, InComma, CastSpecs, SizeofSpecs, InEnumerator, InArray}
use Rattle.ct_grammar_machine.specs.Frames.{Want, Have, First, Dotted, Sizing, Stack, State, mark_pull, needs, stack_needs, holds}
use Rattle.ct_grammar_machine.specs.Frames.{DeclInit, InItem, InPlace, InAssert, InSwitch, InCase, InRun, InReturn, InTest, InLoopTest, InDoTest, InSwitchTest, InForInit, InForCondition, InForStep}
use Rattle.ct_grammar_machine.specs.Steps.{case_done, on_semicolon, plug, reduced, on_close, on_close_bracket, on_comma, on_colon, on_close_brace, on_assign, on_postfix, act, after, begin_type, named, begin_mark, begin_key, begin, texts, first, dotted, sizing, specs_step}
use Rattle.ct_grammar_laws.proofs.Basics.{infix_range, stack_holds}
use Rattle.ct_grammar_laws.proofs.Leads.{body_spelled}
use Rattle.ct_grammar_laws.proofs.Unwinding.{list_lead, lead_expressions-last, AreArguments-last, specs_spelled, enumerators_lead, lead_enumerators-last, after_enumerators-last, AreEnumerators-last, has_enumerators-last}
use Rattle.ct_grammar_laws.proofs.Unwinding.{frame_words, unwind, IsStack, IsAt}
use Rattle.ct_grammar_laws.proofs.SoundPlaces.{Goes, Goes-from, init_goes, body_more, body_scope}
use Rattle.ct_grammar_laws.proofs.SoundTypes.{begin_specs, enum_read}

-- ---- needs and holds

frame_modest : (f : Frame Tree) → needs f ≤ 15
frame_modest (InInfix o x) = omega (arith, (infix_range o).1)
frame_modest _ = omega arith

modest : (s : Stack Tree) → stack_needs s ≤ 15
modest [] = omega arith
modest (f ∷ s) = frame_modest f

frame_room : (f : Frame Tree) (p : ℕ) → holds f < p → 4 ≤ p → p ≤ 13 → needs f ≤ p
frame_room (InPrefix o) p h lo hi = absurd (omega arith)
frame_room InSizeof p h lo hi = absurd (omega arith)
frame_room (InUnary o) p h lo hi = absurd (omega arith)
frame_room (InCast ss d) p h lo hi = absurd (omega arith)
frame_room (InInfix o x) p h lo hi = omega arith
frame_room _ p h lo hi = omega arith

room : (s : Stack Tree) (p : ℕ) → stack_holds s < p → 4 ≤ p → p ≤ 13 → stack_needs s ≤ p
room [] p h lo hi = omega arith
room (f ∷ s) p h lo hi = frame_room f p h lo hi

frame_low : (f : Frame Tree) → holds f < 4 → needs f ≤ 3
frame_low (InPrefix o) h = absurd (omega arith)
frame_low InSizeof h = absurd (omega arith)
frame_low (InUnary o) h = absurd (omega arith)
frame_low (InCast ss d) h = absurd (omega arith)
frame_low (InInfix o x) h = absurd (omega (arith, (infix_range o).0))
frame_low _ h = omega arith

low : (s : Stack Tree) → stack_holds s < 4 → stack_needs s ≤ 3
low [] h = omega arith
low (f ∷ s) h = frame_low f h

texts_last : (ts : List Text) (u : Text) (ws : List Word) → spell_texts (ts ++ u ∷ []) ws ≡ spell_texts ts (Literal u ∷ ws)
texts_last [] u ws = refl
texts_last (v ∷ ts) u ws = ap (λ us. Literal v ∷ us) (texts_last ts u ws)

mark_low : (k : Mark) → 1 ≤ mark_pull k
mark_low (m.Infix o) = omega (arith, (infix_range o).0)
mark_low _ = omega arith

module _ (start : Scope) where
  -- ---- a frame that is ended

  record Plugged (sc : Scope) (f : Frame Tree) (s : Stack Tree) (x : t.Expression) : Type 0 where
    well_formed : IsExpression sc (plug trees_built f x)
    high : expression_level (plug trees_built f x) ≡ holds f
    rooms : stack_needs s ≤ holds f
    stack : IsStack start s sc
    spelled : (ws : List Word) → spell (plug trees_built f x) ws ≡ frame_words f (spell x ws)

  plugged : (sc : Scope) (f : Frame Tree) (s : Stack Tree) (x : t.Expression) → 1 ≤ holds f → IsStack start (f ∷ s) sc → needs f ≤ expression_level x → IsExpression sc x → Plugged sc f s x
  plugged sc (InPrefix o) s x h st n wf = record { well_formed = (n, wf); high = refl; rooms = modest s; stack = st; spelled = λ ws. refl }
  plugged sc (InUnary o) s x h st n wf = record { well_formed = (n, wf); high = refl; rooms = modest s; stack = st; spelled = λ ws. refl }
  plugged sc InSizeof s x h st n wf = record { well_formed = (n, wf); high = refl; rooms = modest s; stack = st; spelled = λ ws. refl }
  plugged sc (InCast ss d) s x h st n wf = record { well_formed = (n, wf, st.0, st.1, st.2, st.3); high = refl; rooms = st.4; stack = st.5; spelled = λ ws. refl }
  plugged sc (InInfix o y) s x h st n wf = record { well_formed = (st.0, n, st.1, wf); high = refl; rooms = st.2; stack = st.3; spelled = λ ws. refl }
  plugged sc (InElse c y) s x h st n wf = record { well_formed = (st.0, n, st.1, st.2, wf); high = refl; rooms = st.3; stack = st.4; spelled = λ ws. refl }
  plugged sc (InAssign o y) s x h st n wf = record { well_formed = (st.0, n, st.1, wf); high = refl; rooms = st.2; stack = st.3; spelled = λ ws. refl }
  plugged sc (InComma y) s x h st n wf = record { well_formed = (n, st.0, wf); high = refl; rooms = st.1; stack = st.2; spelled = λ ws. refl }
  plugged sc _ s x h st n wf = absurd (omega arith)

  record Reduced (sc : Scope) (p : ℕ) (s : Stack Tree) (x : t.Expression) (r : Stack Tree × t.Expression) : Type 0 where
    stack : IsStack start r.0 sc
    well_formed : IsExpression sc r.1
    fits : stack_needs r.0 ≤ expression_level r.1
    loose : stack_holds r.0 < p
    high : p ≤ expression_level x → p ≤ expression_level r.1
    spelled : (ws : List Word) → unwind r.0 (spell r.1 ws) ≡ unwind s (spell x ws)

  reduces : (sc : Scope) (p : ℕ) (s : Stack Tree) (x : t.Expression) → 1 ≤ p → IsStack start s sc → IsExpression sc x → stack_needs s ≤ expression_level x → Reduced sc p s x (reduced trees_built p s x)
  reduces sc p [] x one st wf fits = record { stack = st; well_formed = wf; fits = fits; loose = one; high = λ h. h; spelled = λ ws. refl }
  reduces sc p (f ∷ s) x one st wf fits =
      cond_both (ltb (holds f) p) (f ∷ s, x) (reduced trees_built p s (plug trees_built f x)) (Reduced sc p (f ∷ s) x)
      (λ e. record { stack = st; well_formed = wf; fits = fits; loose = ltb-true (holds f) p e; high = λ h. h; spelled = λ ws. refl })
      (λ e.
      let le : p ≤ holds f = ltb-false (holds f) p e in
      let q = plugged sc f s x (omega arith) st fits wf in
      let r = reduces sc p s (plug trees_built f x) one q.stack q.well_formed (omega (arith, q.high, q.rooms)) in
      record { stack = r.stack; well_formed = r.well_formed; fits = r.fits; loose = r.loose; high = λ h. r.high (omega (arith, q.high)); spelled = λ ws. r.spelled ws ∙ ap (unwind s) (q.spelled ws) })

  -- ---- a mark behind an operand

  module _ (sc : Scope) (x : t.Expression) (wf : IsExpression sc x) where
    close_goes : (s : Stack Tree) → IsStack start s sc → stack_needs s ≤ expression_level x → Goes start (λ ws. unwind s (spell x (Sign m.Close ∷ ws))) (on_close trees_built sc s x)
    close_goes [] st n = tt
    close_goes (InParen ∷ s) st n = ((wf, omega arith, st), λ ws. refl)
    close_goes (InCall f xs ∷ s) st n =
        (((st.0, st.1, AreArguments-last sc xs x st.2 n wf), omega arith, st.3), λ ws. ap (λ us. unwind s (spell f (Sign m.Open ∷ us))) (list_lead xs x (Sign m.Close ∷ ws)))
    close_goes (InTest bs ∷ s) st n = ((refl, (st.0, wf, st.1, st.2)), λ ws. refl)
    close_goes (InLoopTest ∷ s) st n = ((refl, (wf, st)), λ ws. refl)
    close_goes (InDoTest u ∷ s) st n = (((st.0, wf), refl, refl, (λ ws. refl), st.1), λ ws. refl)
    close_goes (InSwitchTest ∷ s) st n = ((wf, st), λ ws. refl)
    close_goes (InForStep outer f c ∷ s) st n = ((refl, (st.0, st.1, st.2, wf, st.3)), λ ws. refl)
    close_goes (_ ∷ s) st n = tt

    close_bracket_goes : (s : Stack Tree) → IsStack start s sc → stack_needs s ≤ expression_level x → Goes start (λ ws. unwind s (spell x (Sign m.CloseBracket ∷ ws))) (on_close_bracket trees_built sc s x)
    close_bracket_goes [] st n = tt
    close_bracket_goes (InIndex y ∷ s) st n = (((st.0, st.1, wf), omega arith, st.2), λ ws. refl)
    close_bracket_goes (InArray k d ∷ s) st n = (((refl, (st.0, st.1, (n, wf)), st.2, st.3, λ ws. st.4 _), st.5), λ ws. refl)
    close_bracket_goes (InPlace is ∷ s) st n = ((tt, (n, wf), st), λ ws. refl)
    close_bracket_goes (_ ∷ s) st n = tt

    comma_goes_on : (s : Stack Tree) → IsStack start s sc → Goes start (λ ws. unwind s (spell x (Sign m.Comma ∷ ws))) (if ltb 1 (stack_needs s) then None else Some (sc, InComma x ∷ s, Want))
    comma_goes_on s st =
        cond_both (ltb 1 (stack_needs s)) None (Some (sc, InComma x ∷ s, Want)) (Goes start (λ ws. unwind s (spell x (Sign m.Comma ∷ ws))))
        (λ e. tt)
        (λ e. ((wf, ltb-false 1 (stack_needs s) e, st), λ ws. refl))

    comma_goes : (s : Stack Tree) → IsStack start s sc → stack_needs s ≤ expression_level x → Goes start (λ ws. unwind s (spell x (Sign m.Comma ∷ ws))) (on_comma trees_built sc s x)
    comma_goes (InCall f xs ∷ s) st n =
        ((st.0, st.1, AreArguments-last sc xs x st.2 n wf, st.3), λ ws. ap (λ us. unwind s (spell f (Sign m.Open ∷ us))) (lead_expressions-last xs x ws))
    comma_goes (InEnumerator us tag es u ∷ s) st n =
        let base = after_specs st.0 us in (
          (has_enumerators-last es u (t.present x), (st.0, st.1, AreEnumerators-last base es u (t.present x) st.2 (n, subst (λ z. IsExpression z x) st.3 wf), ap (λ z. with_name z u false) st.3 ∙ sym (after_enumerators-last base es u (t.present x)), st.4)),
          λ ws. ap (λ vs. unwind s (spell_specs us (Key w.Enum ∷ spell_tag tag (Sign m.OpenBrace ∷ vs)))) (lead_enumerators-last es u (t.present x) ws),
        )
    comma_goes (DeclInit ss ds d ∷ s) st n = init_goes start sc m.Comma (DeclInit ss ds d ∷ s) (t.Value x) (n, wf) st
    comma_goes (InItem is g ∷ s) st n = init_goes start sc m.Comma (InItem is g ∷ s) (t.Value x) (n, wf) st
    comma_goes (InAssert ∷ s) st n = ((n, wf, st), λ ws. refl)
    comma_goes s st n = comma_goes_on s st

    case_goes : (s : Stack Tree) → IsStack start s sc → 3 ≤ expression_level x → Goes start (λ ws. unwind (InCase ∷ s) (spell x (Sign m.Colon ∷ ws))) (case_done trees_built sc s x)
    case_goes (InSwitch outer y c ∷ s) st n = (
      (refl, (st.0, body_more start true outer sc c (t.case_label x t.no_part) st.1 st.2 (refl, n, wf, tt), body_scope start outer sc c (t.case_label x t.no_part) st.2, st.3)),
      λ ws. ap (λ us. unwind (InSwitch outer y t.no_part ∷ s) us) (body_spelled c (t.case_label x t.no_part) ws),
    )
    case_goes [] st n = tt
    case_goes (_ ∷ s) st n = tt

    colon_goes : (s : Stack Tree) → IsStack start s sc → stack_needs s ≤ expression_level x → Goes start (λ ws. unwind s (spell x (Sign m.Colon ∷ ws))) (on_colon trees_built sc s x)
    colon_goes [] st n = tt
    colon_goes (InThen c ∷ s) st n = ((st.0, st.1, wf, st.2, st.3), λ ws. refl)
    colon_goes (InCase ∷ s) st n = case_goes s st n
    colon_goes (_ ∷ s) st n = tt

    close_brace_goes : (s : Stack Tree) → IsStack start s sc → stack_needs s ≤ expression_level x → Goes start (λ ws. unwind s (spell x (Sign m.CloseBrace ∷ ws))) (on_close_brace trees_built sc s x)
    close_brace_goes [] st n = tt
    close_brace_goes (InEnumerator us tag es u ∷ s) st n =
        let base = after_specs st.0 us in
        let all = enumerators_then es (t.enumerator u (t.present x) t.no_enumerator) in (
          enum_read start (with_name sc u false) s st.0 us tag all false st.1 (has_enumerators-last es u (t.present x)) (AreEnumerators-last base es u (t.present x) st.2 (n, subst (λ z. IsExpression z x) st.3 wf)) (ap (λ z. with_name z u false) st.3 ∙ sym (after_enumerators-last base es u (t.present x))) st.4,
          λ ws. ap (unwind s) (specs_spelled us (t.enum_list tag all false t.no_spec) ws ∙ ap (λ vs. spell_specs us (Key w.Enum ∷ spell_tag tag (Sign m.OpenBrace ∷ vs))) (enumerators_lead es u (t.present x) (Sign m.CloseBrace ∷ ws))),
        )
    close_brace_goes (InItem is g ∷ s) st n = init_goes start sc m.CloseBrace (InItem is g ∷ s) (t.Value x) (n, wf) st
    close_brace_goes (_ ∷ s) st n = tt

    semicolon_goes : (s : Stack Tree) → IsStack start s sc → stack_needs s ≤ expression_level x → Goes start (λ ws. unwind s (spell x (Sign m.Semicolon ∷ ws))) (on_semicolon trees_built sc s x)
    semicolon_goes [] st n = tt
    semicolon_goes (DeclInit ss ds d ∷ s) st n = init_goes start sc m.Semicolon (DeclInit ss ds d ∷ s) (t.Value x) (n, wf) st
    semicolon_goes (InRun ∷ s) st n = ((wf, refl, refl, st), λ ws. refl)
    semicolon_goes (InReturn ∷ s) st n = ((wf, refl, refl, st), λ ws. refl)
    semicolon_goes (InForInit outer ∷ s) st n = ((subst (λ z. IsExpression z x) (sym st.0) wf, sym st.0, subst (IsStack start s) (sym st.0) st.1), λ ws. refl)
    semicolon_goes (InForCondition outer f ∷ s) st n = ((st.0, st.1, wf, st.2), λ ws. refl)
    semicolon_goes (_ ∷ s) st n = tt

    assign_goes : (o : AssignOp) (s : Stack Tree) → IsStack start s sc → Goes start (λ ws. unwind s (spell x (Sign (m.Assign o) ∷ ws))) (on_assign trees_built sc o s x)
    assign_goes o s st =
        cond_both (ltb 2 (stack_needs s)) None (if ltb (expression_level x) 15 then None else Some (sc, InAssign o x ∷ s, Want)) (Goes start (λ ws. unwind s (spell x (Sign (m.Assign o) ∷ ws))))
        (λ e. tt)
        (λ e. cond_both (ltb (expression_level x) 15) None (Some (sc, InAssign o x ∷ s, Want)) (Goes start (λ ws. unwind s (spell x (Sign (m.Assign o) ∷ ws))))
        (λ d. tt)
        (λ d. ((ltb-false (expression_level x) 15 d, wf, ltb-false 2 (stack_needs s) e, st), λ ws. refl)))

    postfix_goes : (before : List Word → List Word) (next : State Tree) → (16 ≤ expression_level x → Goes start before (Some next)) → Goes start before (on_postfix trees_built x next)
    postfix_goes before next h =
        cond_both (ltb (expression_level x) 16) None (Some next) (Goes start before) (λ e. tt) (λ e. h (ltb-false (expression_level x) 16 e))

    act_goes : (k : Mark) (s : Stack Tree) → IsStack start s sc → stack_needs s ≤ expression_level x → stack_holds s < mark_pull k → (mark_pull k ≤ 15 → mark_pull k ≤ expression_level x) → Goes start (λ ws. unwind s (spell x (Sign k ∷ ws))) (act trees_built sc k s x)
    act_goes m.Open s st n lt le = postfix_goes _ (sc, s, First x) (λ h. ((h, wf, st), λ ws. refl))
    act_goes m.OpenBracket s st n lt le = postfix_goes _ (sc, InIndex x ∷ s, Want) (λ h. ((h, wf, st), λ ws. refl))
    act_goes (m.Member o) s st n lt le = postfix_goes _ (sc, s, Dotted x o) (λ h. ((h, wf, st), λ ws. refl))
    act_goes (m.Step o) s st n lt le = postfix_goes _ (sc, s, Have (t.Postfix x o)) (λ h. (((h, wf), omega arith, st), λ ws. refl))
    act_goes (m.Infix o) s st n lt le =
        let range = infix_range o in
        ((le (omega (arith, range.1)), wf, room s (infix_level o) lt range.0 range.1, st), λ ws. refl)
    act_goes (m.Assign o) s st n lt le = assign_goes o s st
    act_goes m.Question s st n lt le = ((le (omega arith), wf, low s lt, st), λ ws. refl)
    act_goes m.Close s st n lt le = close_goes s st n
    act_goes m.CloseBracket s st n lt le = close_bracket_goes s st n
    act_goes m.Comma s st n lt le = comma_goes s st n
    act_goes m.Colon s st n lt le = colon_goes s st n
    act_goes m.Semicolon s st n lt le = semicolon_goes s st n
    act_goes m.CloseBrace s st n lt le = close_brace_goes s st n
    act_goes _ s st n lt le = tt

  pub after_goes : (sc : Scope) (s : Stack Tree) (x : t.Expression) (v : Word) → IsAt start (Have x) sc s → Goes start (λ ws. unwind s (spell x (v ∷ ws))) (after trees_built sc s x v)
  after_goes sc s x (Sign k) st =
      let r = reduces sc (mark_pull k) s x (mark_low k) st.2 st.0 (omega (arith, modest s, st.1)) in
      let p = reduced trees_built (mark_pull k) s x in
      Goes-from start (λ ws. unwind p.0 (spell p.1 (Sign k ∷ ws))) (λ ws. unwind s (spell x (Sign k ∷ ws))) (λ ws. r.spelled (Sign k ∷ ws)) (act trees_built sc k p.0 p.1) (act_goes sc p.1 r.well_formed k p.0 r.stack r.fits r.loose (λ h. r.high (omega (arith, h, st.1))))
  after_goes sc s x _ st = tt

  -- ---- a word where an operand is wanted

  cast_begins : (sc : Scope) (s : Stack Tree) (v : Word) → IsStack start s sc → Goes start (λ ws. unwind s (Sign m.Open ∷ v ∷ ws)) (if ltb 14 (stack_needs s) then None else specs_step trees_built sc (CastSpecs sc ∷ s) t.no_spec v)
  cast_begins sc s v st =
      cond_both (ltb 14 (stack_needs s)) None (specs_step trees_built sc (CastSpecs sc ∷ s) t.no_spec v) (Goes start (λ ws. unwind s (Sign m.Open ∷ v ∷ ws)))
      (λ e. tt)
      (λ e. begin_specs start sc (CastSpecs sc ∷ s) v (refl, ltb-false 14 (stack_needs s) e, st))

  type_goes : (sc : Scope) (s : Stack Tree) (v : Word) → IsStack start s sc → Goes start (λ ws. unwind s (v ∷ ws)) (begin_type trees_built sc s v)
  type_goes sc (InParen ∷ InSizeof ∷ s) v st = begin_specs start sc (SizeofSpecs sc ∷ s) v (refl, st)
  type_goes sc (InParen ∷ s) v st = cast_begins sc s v st
  type_goes sc _ v st = tt

  name_goes : (z : Bool) (sc : Scope) (s : Stack Tree) (u : Text) → sc u ≡ z → IsStack start s sc → Goes start (λ ws. unwind s (Named u ∷ ws)) (named trees_built z sc s u)
  name_goes false sc s u e st = ((e, omega arith, st), λ ws. refl)
  name_goes true sc s u e st = type_goes sc s (Named u) st

  mark_goes : (sc : Scope) (s : Stack Tree) (k : Mark) → IsStack start s sc → Goes start (λ ws. unwind s (Sign k ∷ ws)) (begin_mark trees_built sc s k)
  mark_goes sc s m.Open st = (st, λ ws. refl)
  mark_goes sc s (m.Step o) st = (st, λ ws. refl)
  mark_goes sc s m.Complement st = (st, λ ws. refl)
  mark_goes sc s m.Not st = (st, λ ws. refl)
  mark_goes sc s (m.Infix (i.Number b.And)) st = (st, λ ws. refl)
  mark_goes sc s (m.Infix (i.Number b.Multiply)) st = (st, λ ws. refl)
  mark_goes sc s (m.Infix (i.Number b.Add)) st = (st, λ ws. refl)
  mark_goes sc s (m.Infix (i.Number b.Subtract)) st = (st, λ ws. refl)
  mark_goes sc s _ st = tt

  key_goes : (sc : Scope) (s : Stack Tree) (k : Keyword) → IsStack start s sc → Goes start (λ ws. unwind s (Key k ∷ ws)) (begin_key trees_built sc s k)
  key_goes sc s w.Sizeof st = (st, λ ws. refl)
  key_goes sc s k st = type_goes sc s (Key k) st

  pub begin_goes : (sc : Scope) (s : Stack Tree) (v : Word) → IsStack start s sc → Goes start (λ ws. unwind s (v ∷ ws)) (begin trees_built sc s v)
  begin_goes sc s (Named u) st = name_goes (sc u) sc s u refl st
  begin_goes sc s (Numbered u) st = ((tt, omega arith, st), λ ws. refl)
  begin_goes sc s (Quote u) st = ((tt, omega arith, st), λ ws. refl)
  begin_goes sc s (Literal u) st = (st, λ ws. refl)
  begin_goes sc s (Sign k) st = mark_goes sc s k st
  begin_goes sc s (Key k) st = key_goes sc s k st
  begin_goes sc s Stray st = tt

  pub texts_goes : (sc : Scope) (s : Stack Tree) (u : Text) (us : List Text) (v : Word) → IsStack start s sc → Goes start (λ ws. unwind s (Literal u ∷ spell_texts us (v ∷ ws))) (texts trees_built sc s u us v)
  texts_goes sc s u us (Literal x) st = (st, λ ws. ap (λ vs. unwind s (Literal u ∷ vs)) (texts_last us x ws))
  texts_goes sc s u us v st = after_goes sc s (t.Strings u us) v (tt, omega arith, st)

  pub first_goes : (sc : Scope) (s : Stack Tree) (f : t.Expression) (v : Word) → IsAt start (First f) sc s → Goes start (λ ws. unwind s (spell f (Sign m.Open ∷ v ∷ ws))) (first trees_built sc s f v)
  first_goes sc s f (Sign m.Close) st = (((st.0, st.1, tt), omega arith, st.2), λ ws. refl)
  first_goes sc s f v st = begin_goes sc (InCall f t.no_expression ∷ s) v (st.0, st.1, tt, st.2)

  pub dotted_goes : (sc : Scope) (s : Stack Tree) (x : t.Expression) (o : MemberOp) (v : Word) → IsAt start (Dotted x o) sc s → Goes start (λ ws. unwind s (spell x (Sign (m.Member o) ∷ v ∷ ws))) (dotted trees_built sc s x o v)
  dotted_goes sc s x o (Named u) st = (((st.0, st.1), omega arith, st.2), λ ws. refl)
  dotted_goes sc s x o _ st = tt

  pub sizing_goes : (sc : Scope) (s : Stack Tree) (k : Kind) (d : t.Declarator) (v : Word) → IsAt start (Sizing k d) sc s → Goes start (λ ws. unwind s (spell_declarator d (Sign m.OpenBracket ∷ v ∷ ws))) (sizing trees_built sc s k d v)
  sizing_goes sc s k d (Sign m.CloseBracket) st = (((refl, (st.0.0, st.0.1, tt), st.0.2, st.0.3, λ ws. st.0.4 _), st.1), λ ws. refl)
  sizing_goes sc s k d v st = begin_goes sc (InArray k d ∷ s) v (st.0.0, st.0.1, st.0.2, st.0.3, st.0.4, st.1)
