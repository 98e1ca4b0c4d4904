-- What is read of declarations and initialisers is spelled so, where it ends.
use Rattle.std.proofs.Common.{◌≡◌, Bool, true, false, List, [], ◌∷◌, ◌++◌, Option, Some, None, refl, sym, ap, subst, ◌∙◌}
use Rattle.ct_syntax.specs.declared.words.Mark.{Mark}
use Rattle.ct_syntax.specs.declared.words.Mark.TheVariants as m
use Rattle.ct_syntax.specs.Words.{Word, Sign}
use Rattle.ct_syntax.specs.Scopes.{Scope, after_specs, after_declarator, after_init_declarators, after_declaration, inside_definition, own_parameters, after_parameters}
use Rattle.ct_syntax.specs.TypeWords.{form_type}
use Rattle.ct_syntax.specs.Grammar.{IsDeclarator, IsInitialiser, IsDeclaration, IsBody, AreSpecs, AreInitDeclarators}
use Rattle.ct_syntax.specs.Spelling.{spell_specs, spell_declarator, spell_initialiser, spell_start, spell_declaration}
use Rattle.ct_syntax.specs.Trees as t
use Rattle.ct_grammar_machine.specs.Algebra.{Tree, trees_built, body_then, designator_of}
use Rattle.ct_grammar_machine.specs.Frames.{Ordinary, DeclDeclarator, DeclInit, InItem, InBlock, InSwitch, InFunction, InUnit, InForInit, WantDeclarator, Stack, State}
use Rattle.ct_grammar_machine.specs.Steps.{declaration_done, definition_opens, init_done}
use Rattle.ct_grammar_laws.proofs.CompleteStatements.{after_body}
use Rattle.ct_grammar_laws.proofs.Leads.{items_lead, lead_items-last, AreItems-last, has_items-last, lead_inits, inits_lead, lead_inits-last, after_inits-last, AreInits-last, body_spelled, after_body-then, IsBody-then, unit_spelled, after_unit-last, IsTranslationUnit-last}
use Rattle.ct_grammar_laws.proofs.Unwinding.{unwind, mode_words, IsStack, IsAt}

module _ (start : Scope) where
  -- a step that goes on, from what the words so far are
  abbrev pub Goes : (List Word → List Word) → Option (State Tree) → Type 0
  Goes before None = Unit {0}
  Goes before (Some (sc, s, mode)) = IsAt start mode sc s × ((ws : List Word) → unwind s (mode_words mode ws) ≡ before ws)

  pub Goes-from : (f g : List Word → List Word) → ((ws : List Word) → f ws ≡ g ws) → (r : Option (State Tree)) → Goes f r → Goes g r
  Goes-from f g e None h = tt
  Goes-from f g e (Some (sc, s, mode)) h = (h.0, λ ws. h.1 ws ∙ e ws)

  -- a part of braces more
  pub body_more : (labels : Bool) (outer base : Scope) (c d : t.Body) → IsBody labels outer c → base ≡ after_body outer c → IsBody labels base d → IsBody labels outer (body_then c d)
  body_more labels outer base c d h e k = IsBody-then labels outer c d h (subst (λ z. IsBody labels z d) e k)

  pub body_scope : (outer base : Scope) (c d : t.Body) → base ≡ after_body outer c → after_body base d ≡ after_body outer (body_then c d)
  body_scope outer base c d e = ap (λ z. after_body z d) e ∙ sym (after_body-then outer c d)

  pub declaration_goes : (sc base : Scope) (s : Stack Tree) (d : t.Declaration) → IsDeclaration base d → sc ≡ after_declaration base d → IsStack start s base → Goes (λ ws. unwind s (spell_declaration d ws)) (declaration_done trees_built sc s d)
  declaration_goes sc base (InUnit is ∷ s) d wf e st = (
    (refl, (st.0, IsTranslationUnit-last st.0 is (t.Outside d) st.1 (subst (λ z. IsDeclaration z d) st.2 wf), e ∙ ap (λ z. after_declaration z d) st.2 ∙ sym (after_unit-last st.0 is (t.Outside d)), st.3)),
    λ ws. ap (unwind s) (unit_spelled is (t.Outside d) ws),
  )
  declaration_goes sc base (InBlock outer c ∷ s) d wf e st = (
    (refl, (body_more false outer base c (t.declared d t.no_part) st.0 st.1 (wf, tt), e ∙ body_scope outer base c (t.declared d t.no_part) st.1, st.2)),
    λ ws. ap (λ us. unwind (InBlock outer t.no_part ∷ s) us) (body_spelled c (t.declared d t.no_part) ws),
  )
  declaration_goes sc base (InSwitch outer x c ∷ s) d wf e st = (
    (refl, (st.0, body_more true outer base c (t.declared d t.no_part) st.1 st.2 (wf, tt), e ∙ body_scope outer base c (t.declared d t.no_part) st.2, st.3)),
    λ ws. ap (λ us. unwind (InSwitch outer x t.no_part ∷ s) us) (body_spelled c (t.declared d t.no_part) ws),
  )
  declaration_goes sc base (InFunction outer ss f c ∷ s) d wf e st =
      let inside = inside_definition st.0 ss f in (
        (refl, (st.0, st.1, st.2, st.3, st.4, body_more false inside base c (t.declared d t.no_part) st.5 st.6 (wf, tt), e ∙ body_scope inside base c (t.declared d t.no_part) st.6, st.7)),
        λ ws. ap (λ us. unwind (InFunction outer ss f t.no_part ∷ s) us) (body_spelled c (t.declared d t.no_part) ws),
      )
  declaration_goes sc base (InForInit outer ∷ s) d wf e st =
      ((subst (λ z. IsDeclaration z d) (sym st.0) wf, e ∙ ap (λ z. after_declaration z d) (sym st.0), subst (IsStack start s) (sym st.0) st.1), λ ws. refl)
  declaration_goes sc base _ d wf e st = tt

  -- one declarator more, with or without an initialiser, and the end of its declaration
  pub declare_goes : (base : Scope) (s : Stack Tree) (ss : t.Specs) (ds : List t.InitDeclarator) (d : t.InitDeclarator) → AreSpecs base ss → form_type ss ≡ true → AreInitDeclarators (after_specs base ss) ss (ds ++ d ∷ []) → IsStack start s base → (sc : Scope) → sc ≡ after_declarator (after_init_declarators (after_specs base ss) ss ds) ss d.declarator → Goes (λ ws. unwind s (spell_specs ss (lead_inits ds (spell_declarator d.declarator (spell_start d.start (Sign m.Semicolon ∷ ws)))))) (declaration_done trees_built sc s (t.Declare ss (ds ++ d ∷ [])))
  declare_goes base s ss ds d wf f all st sc e =
      Goes-from (λ ws. unwind s (spell_declaration (t.Declare ss (ds ++ d ∷ [])) ws)) (λ ws. unwind s (spell_specs ss (lead_inits ds (spell_declarator d.declarator (spell_start d.start (Sign m.Semicolon ∷ ws)))))) (λ ws. ap (λ us. unwind s (spell_specs ss us)) (inits_lead ds d (Sign m.Semicolon ∷ ws))) (declaration_done trees_built sc s (t.Declare ss (ds ++ d ∷ [])))
      (declaration_goes sc base s (t.Declare ss (ds ++ d ∷ [])) (wf, f, all) (e ∙ sym (after_inits-last (after_specs base ss) ss ds d)) st)

  no_first : (ds : List t.InitDeclarator) → false ≡ true → ds ≡ []
  no_first ds h = absurd cc

  -- the same, with a comma behind it
  pub more_declarators : (base : Scope) (s : Stack Tree) (ss : t.Specs) (ds : List t.InitDeclarator) (d : t.InitDeclarator) → AreSpecs base ss → form_type ss ≡ true → AreInitDeclarators (after_specs base ss) ss (ds ++ d ∷ []) → IsStack start s base → (sc : Scope) → sc ≡ after_declarator (after_init_declarators (after_specs base ss) ss ds) ss d.declarator → Goes (λ ws. unwind s (spell_specs ss (lead_inits ds (spell_declarator d.declarator (spell_start d.start (Sign m.Comma ∷ ws)))))) (Some (sc, DeclDeclarator false ss (ds ++ d ∷ []) ∷ s, WantDeclarator Ordinary))
  more_declarators base s ss ds d wf f all st sc e =
      ((refl, (λ v. tt), (base, wf, f, all, e ∙ sym (after_inits-last (after_specs base ss) ss ds d), no_first _, st)), λ ws. ap (λ us. unwind s (spell_specs ss us)) (lead_inits-last ds d ws))

  pub definition_goes : (sc sc' base : Scope) (s : Stack Tree) (first : Bool) (ss : t.Specs) (ds : List t.InitDeclarator) (d : t.Declarator) → AreSpecs base ss → form_type ss ≡ true → IsDeclarator false sc d → sc ≡ after_init_declarators (after_specs base ss) ss ds → (first ≡ true → ds ≡ []) → sc' ≡ after_declarator sc ss d → IsStack start s base → Goes (λ ws. unwind s (spell_specs ss (lead_inits ds (spell_declarator d (Sign m.OpenBrace ∷ ws))))) (definition_opens trees_built sc' s first ss d)
  definition_goes sc sc' base (InUnit is ∷ s) true ss ds d wf f h e first e' st =
      let none = first refl in
      let here : sc ≡ after_specs base ss = e ∙ ap (after_init_declarators (after_specs base ss) ss) none in (
        (refl, (base, wf, f, subst (λ z. IsDeclarator false z d) here h, e' ∙ ap (λ z. after_declarator z ss d) here, tt, ap (λ z. after_parameters z (own_parameters d)) (e' ∙ ap (λ z. after_declarator z ss d) here), st)),
        λ ws. ap (λ us. unwind (InUnit is ∷ s) (spell_specs ss (lead_inits us (spell_declarator d (Sign m.OpenBrace ∷ ws))))) (sym none),
      )
  definition_goes sc sc' base [] first ss ds d wf f h e _ e' st = tt
  definition_goes sc sc' base (_ ∷ s) first ss ds d wf f h e _ e' st = tt

  pub init_goes : (sc : Scope) (mark : Mark) (s : Stack Tree) (v : t.Initialiser) → IsInitialiser sc v → IsStack start s sc → Goes (λ ws. unwind s (spell_initialiser v (Sign mark ∷ ws))) (init_done trees_built sc mark s v)
  init_goes sc m.Comma (DeclInit ss ds d ∷ s) v wf st =
      more_declarators st.0 s ss ds (record { declarator = d; start = Some v }) st.1 st.2 (AreInits-last (after_specs st.0 ss) ss ds (record { declarator = d; start = Some v }) st.3 st.4 (subst (λ z. IsInitialiser z v) st.5 wf)) st.6 sc st.5
  init_goes sc m.Semicolon (DeclInit ss ds d ∷ s) v wf st =
      declare_goes st.0 s ss ds (record { declarator = d; start = Some v }) st.1 st.2 (AreInits-last (after_specs st.0 ss) ss ds (record { declarator = d; start = Some v }) st.3 st.4 (subst (λ z. IsInitialiser z v) st.5 wf)) st.6 sc st.5
  init_goes sc m.Comma (InItem is g ∷ s) v wf st =
      ((has_items-last is (designator_of g) v, (AreItems-last sc is (designator_of g) v st.0 st.1 wf, st.2)), λ ws. ap (λ us. unwind s (Sign m.OpenBrace ∷ us)) (lead_items-last is (designator_of g) v ws))
  init_goes sc m.CloseBrace (InItem is g ∷ s) v wf st =
      (((refl, AreItems-last sc is (designator_of g) v st.0 st.1 wf), st.2), λ ws. ap (λ us. unwind s (Sign m.OpenBrace ∷ us)) (items_lead is (designator_of g) v (Sign m.CloseBrace ∷ ws)))
  init_goes sc _ _ v wf st = tt
