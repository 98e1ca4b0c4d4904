-- What is read of specifiers and declarators is spelled so, and the grammar makes it.
use Rattle.std.proofs.Common.{◌≡◌, Bool, true, false, not, ◌&&◌, if◌then◌else◌, List, [], ◌∷◌, ◌++◌, Option, Some, None, refl, sym, ap, subst, ◌∙◌, arith}
use Rattle.std.proofs.lemmas.Bool.{cond_both}
use Rattle.ct_base.specs.declared.operators.BinaryOp.TheVariants as b
use Rattle.ct_syntax.specs.declared.words.InfixOp.TheVariants as i
use Rattle.ct_syntax.specs.declared.words.AssignOp.TheVariants as a
use Rattle.ct_syntax.specs.declared.words.Mark.{Mark}
use Rattle.ct_syntax.specs.declared.words.Mark.TheVariants as m
use Rattle.ct_syntax.specs.declared.words.Keyword.TheVariants as w
use Rattle.ct_syntax.specs.declared.words.SpecWord.TheVariants as sw
use Rattle.ct_syntax.specs.declared.words.Qualifier.{Qualifier}
use Rattle.ct_syntax.specs.declared.words.Qualifier.TheVariants as q
use Rattle.ct_syntax.specs.declared.expressions.ParameterForm.TheVariants as form
use Rattle.ct_syntax.specs.Words.{Text, Word, Named, Sign, Key, star, qualifier_keyword}
use Rattle.ct_syntax.specs.Scopes.{Scope, with_name, name_of, after_specs, after_enumerators, after_declarator, after_parameters}
use Rattle.ct_syntax.specs.TypeWords.{form_type}
use Rattle.ct_syntax.specs.Grammar.{is_direct, begins_list, has_enumerators, has_parameters, is_only_void, AreSpecs, AreEnumerators, AreDeclarators, IsDeclarator}
use Rattle.ct_syntax.specs.Spelling.{spell_qualifiers, spell_tag, spell_specs, spell_members, spell_declarator, spell_parameters}
use Rattle.ct_syntax.specs.Trees as t
use Rattle.ct_grammar_machine.specs.Algebra.{Tree, trees_built, has_type_part, specs_then, enumerators_then, declarators_then, parameters_then}
use Rattle.ct_grammar_machine.specs.Frames.{Kind, Ordinary, OfParameter, OfType, is_free, Which, AStruct, AnEnum, CastSpecs, SizeofSpecs, CastDeclarator, SizeofDeclarator, InMembers, InMember, InEnumerators, InGroup, InPointer, InParameters, InParameter}
use Rattle.ct_grammar_machine.specs.Frames.{Specs, Qualifying, HaveDeclarator, Stack}
use Rattle.ct_grammar_machine.specs.Frames.{DeclSpecs, DeclDeclarator}
use Rattle.ct_grammar_machine.specs.Steps.{declaration_specs, is_star, qualifier_of, reduced_pointers, declarator_done, have_declarator, no_name, want_named, want_declarator, qualify, specs_done, specs_end, specs_step, open_braces, tagging, with_tag, tagged, close_members, next_member, first_enumerator, close_enumerators, next_enumerator, enumerated, listing, opened, next_parameter, after_ellipsis}
use Rattle.ct_grammar_laws.proofs.Starts.{may_name, first_alone, has_more}
use Rattle.ct_grammar_laws.proofs.Unwinding.{specs_spelled, members_spelled, declarators_lead, lead_declarators-last, enumerators_lead, lead_enumerators-last, enumerators_comma, parameters_lead, lead_parameters-last, parameters_comma}
use Rattle.ct_grammar_laws.proofs.Unwinding.{after_specs-then, AreSpecs-then, after_members-last, AreMembers-last, has_members-last, has_declarators-last, AreDeclarators-last, after_enumerators-last, AreEnumerators-last, has_enumerators-last, after_parameters-last, AreParameters-last}
use Rattle.ct_grammar_laws.proofs.Leads.{AreInits-last}
use Rattle.ct_grammar_laws.proofs.SoundPlaces.{Goes, Goes-from, declaration_goes, declare_goes, more_declarators, definition_goes}
use Rattle.ct_grammar_laws.proofs.Unwinding.{which_key, unwind, KindOk, GroupOk, HasMembers, HasEnumerators, HasParameters, IsRead, IsStack, AreRead, IsAt}

-- ---- facts about words

and_false : (v : Bool) → (v && false) ≡ false
and_false true = refl
and_false false = refl

and_left : (v z : Bool) → (v && z) ≡ true → v ≡ true
and_left true z h = refl
and_left false z h = absurd cc

and_right : (v z : Bool) → (v && z) ≡ true → z ≡ true
and_right true z h = h
and_right false z h = absurd cc

star_is : (mark : Mark) → is_star mark ≡ true → mark ≡ star
star_is (m.Infix (i.Number b.Multiply)) h = refl
star_is _ h = absurd cc

group_star : (scope : Scope) (s : Stack Tree) (ws : List Word) → GroupOk scope s (Sign star ∷ ws)
group_star scope [] ws = tt
group_star scope (InGroup k ∷ s) ws = and_false (is_free k)
group_star scope (_ ∷ s) ws = tt

group_open : (scope : Scope) (s : Stack Tree) (ws : List Word) → GroupOk scope s (Sign m.Open ∷ ws)
group_open scope [] ws = tt
group_open scope (InGroup k ∷ s) ws = and_false (is_free k)
group_open scope (_ ∷ s) ws = tt

group_word : (scope : Scope) (s : Stack Tree) (v : Word) (us ws : List Word) → GroupOk scope s (v ∷ us) → GroupOk scope s (v ∷ ws)
group_word scope [] v us ws h = tt
group_word scope (InGroup k ∷ s) v us ws h = ap (λ z. is_free k && z) (first_alone scope v ws us) ∙ h
group_word scope (_ ∷ s) v us ws h = tt

no_name_is : (n : Option Text) → may_name OfType n ≡ true → n ≡ None
no_name_is None h = refl
no_name_is (Some u) h = absurd cc

only_void_is : (ps : t.Parameters) → is_only_void ps ≡ true → ps ≡ t.parameter (t.spec_word sw.Void t.no_spec) t.Nameless t.no_parameter
only_void_is (t.parameter (t.spec_word sw.Void t.no_spec) t.Nameless t.no_parameter) h = refl
only_void_is _ h = absurd cc

not_void : (v z : Bool) → v ≡ true → z ≡ false → (v && not z) ≡ true
not_void true false e f = refl
not_void true true e f = absurd cc
not_void false z e f = absurd cc

qualifiers_last : (qs : List Qualifier) (v : Qualifier) (ws : List Word) → spell_qualifiers (qs ++ v ∷ []) ws ≡ spell_qualifiers qs (Key (qualifier_keyword v) ∷ ws)
qualifiers_last [] v ws = refl
qualifiers_last (u ∷ qs) v ws = ap (λ us. Key (qualifier_keyword u) ∷ us) (qualifiers_last qs v ws)

module _ (start : Scope) where
  -- ---- declarators

  record Pointed (sc : Scope) (s : Stack Tree) (k : Kind) (d : t.Declarator) (v : Word) (r : Stack Tree × t.Declarator) : Type 0 where
    kind : KindOk r.0 k
    stack : IsStack start r.0 sc
    declarator : IsDeclarator (is_free k) sc r.1
    named : may_name k (name_of r.1) ≡ true
    group : (ws : List Word) → GroupOk sc r.0 (spell_declarator r.1 (v ∷ ws))
    spelled : (ws : List Word) → unwind r.0 (spell_declarator r.1 ws) ≡ unwind s (spell_declarator d ws)

  pointers : (sc : Scope) (s : Stack Tree) (k : Kind) (d : t.Declarator) (v : Word) → KindOk s k → IsStack start s sc → IsDeclarator (is_free k) sc d → may_name k (name_of d) ≡ true → ((ws : List Word) → GroupOk sc s (spell_declarator d (v ∷ ws))) → Pointed sc s k d v (reduced_pointers trees_built s d)
  pointers sc [] k d v kind st wf named group = record { kind = kind; stack = st; declarator = wf; named = named; group = group; spelled = λ ws. refl }
  pointers sc (InPointer j qs ∷ s) k d v kind st wf named group =
      let r = pointers sc s k (t.Pointer qs d) v (subst (KindOk s) (sym kind) st.0) st.1 wf named (λ ws. group_star sc s _) in
      record { kind = r.kind; stack = r.stack; declarator = r.declarator; named = r.named; group = r.group; spelled = r.spelled }
  pointers sc (_ ∷ s) k d v kind st wf named group = record { kind = kind; stack = st; declarator = wf; named = named; group = group; spelled = λ ws. refl }

  -- the closing parenthesis of a parameter list
  closed_goes : (outer sc : Scope) (s : Stack Tree) (k : Kind) (f : t.Declarator) (ps : t.Parameters) (ss : t.Specs) (d : t.Declarator) → IsStack start (InParameter k outer f ps ss ∷ s) sc → IsDeclarator true sc d → Goes start (λ ws. unwind (InParameter k outer f ps ss ∷ s) (spell_declarator d (Sign m.Close ∷ ws))) (declarator_done trees_built sc m.Close (InParameter k outer f ps ss ∷ s, d))
  closed_goes outer sc s k f ps ss d st wf =
      let all = parameters_then ps (t.parameter ss d t.no_parameter) in
      let wf' : IsDeclarator true (after_specs (after_parameters outer ps) ss) d = subst (λ z. IsDeclarator true z d) st.9 wf in
      let are = AreParameters-last outer ps ss d st.6 st.7 st.8 wf' in
      cond_both (is_only_void all) (t.Function f form.Void t.no_parameter) (t.Function f form.Fixed all) (λ z. Goes start (λ ws. unwind (InParameter k outer f ps ss ∷ s) (spell_declarator d (Sign m.Close ∷ ws))) (Some (outer, s, HaveDeclarator k z)))
      (λ e. (
        ((refl, (st.0, st.1, refl, tt), st.2, st.3, λ ws. st.4 _), st.5),
        λ ws. ap (λ us. unwind s (spell_declarator f (Sign m.Open ∷ us))) (ap (λ z. spell_parameters z (Sign m.Close ∷ ws)) (sym (only_void_is all e)) ∙ parameters_lead ps ss d (Sign m.Close ∷ ws)),
      ))
      (λ e. (
        ((refl, (st.0, st.1, not_void (has_parameters all) (is_only_void all) (has_more ps t.no_parameter ss d) e, are), st.2, st.3, λ ws. st.4 _), st.5),
        λ ws. ap (λ us. unwind s (spell_declarator f (Sign m.Open ∷ us))) (parameters_lead ps ss d (Sign m.Close ∷ ws)),
      ))

  done_goes : (sc : Scope) (mark : Mark) (s : Stack Tree) (k : Kind) (d : t.Declarator) → KindOk s k → IsStack start s sc → IsDeclarator (is_free k) sc d → may_name k (name_of d) ≡ true → ((ws : List Word) → GroupOk sc s (spell_declarator d (Sign mark ∷ ws))) → Goes start (λ ws. unwind s (spell_declarator d (Sign mark ∷ ws))) (declarator_done trees_built sc mark (s, d))
  done_goes sc m.Close (InGroup j ∷ s) k d kind st wf named group =
      (((refl, (group [], subst (λ z. IsDeclarator (is_free z) sc d) kind wf), subst (λ z. may_name z (name_of d) ≡ true) kind named, st.0, λ ws. group_open sc s _), st.1), λ ws. refl)
  done_goes sc m.Close (CastDeclarator outer ss ∷ s) k d kind st wf named group =
      let wf' : IsDeclarator true sc d = subst (λ z. IsDeclarator (is_free z) sc d) kind wf in
      ((st.0, st.1, no_name_is (name_of d) (subst (λ z. may_name z (name_of d) ≡ true) kind named), subst (λ z. IsDeclarator true z d) st.2 wf', st.3, st.4), λ ws. refl)
  done_goes sc m.Close (SizeofDeclarator outer ss ∷ s) k d kind st wf named group =
      let wf' : IsDeclarator true sc d = subst (λ z. IsDeclarator (is_free z) sc d) kind wf in
      (((st.0, st.1, no_name_is (name_of d) (subst (λ z. may_name z (name_of d) ≡ true) kind named), subst (λ z. IsDeclarator true z d) st.2 wf'), omega arith, st.3), λ ws. refl)
  done_goes sc m.Close (InParameter j outer f ps ss ∷ s) k d kind st wf named group =
      closed_goes outer sc s j f ps ss d st (subst (λ z. IsDeclarator (is_free z) sc d) kind wf)
  done_goes sc m.Comma (InParameter j outer f ps ss ∷ s) k d kind st wf named group =
      let wf' : IsDeclarator true sc d = subst (λ z. IsDeclarator (is_free z) sc d) kind wf in
      let are = AreParameters-last outer ps ss d st.6 st.7 st.8 (subst (λ z. IsDeclarator true z d) st.9 wf') in (
        (has_more ps t.no_parameter ss d, (st.0, st.1, st.2, st.3, st.4, st.5, are, ap (λ z. after_declarator z ss d) st.9 ∙ sym (after_parameters-last outer ps ss d))),
        λ ws. ap (λ us. unwind s (spell_declarator f (Sign m.Open ∷ us))) (lead_parameters-last ps ss d ws),
      )
  done_goes sc m.Comma (InMember us tag ms ss ds ∷ s) k d kind st wf named group = (
    (refl, (λ v. tt), (st.0, st.1, st.2, st.3, st.4, AreDeclarators-last sc ds d st.5 (subst (λ z. IsDeclarator (is_free z) sc d) kind wf), st.6, st.7)),
    λ ws. ap (λ vs. unwind s (spell_specs us (Key w.Struct ∷ spell_tag tag (Sign m.OpenBrace ∷ spell_members ms (spell_specs ss vs))))) (lead_declarators-last ds d ws),
  )
  done_goes sc m.Semicolon (InMember us tag ms ss ds ∷ s) k d kind st wf named group =
      let all = declarators_then ds (t.declarator d t.no_declarator) in
      let are : AreDeclarators sc all = AreDeclarators-last sc ds d st.5 (subst (λ z. IsDeclarator (is_free z) sc d) kind wf) in (
        (
          has_members-last ms ss all,
          (st.0, st.1, AreMembers-last (after_specs st.0 us) ms ss all st.2 st.3 st.4 (has_declarators-last ds d) (subst (λ z. AreDeclarators z all) st.6 are), st.6 ∙ sym (after_members-last (after_specs st.0 us) ms ss all), st.7),
        ),
        λ ws. ap (λ vs. unwind s (spell_specs us (Key w.Struct ∷ spell_tag tag (Sign m.OpenBrace ∷ vs)))) (members_spelled ms ss all ws ∙ ap (λ vs. spell_members ms (spell_specs ss vs)) (declarators_lead ds d (Sign m.Semicolon ∷ ws))),
      )
  done_goes sc m.Comma (DeclDeclarator first ss ds ∷ s) k d kind st wf named group =
      more_declarators start st.0 s ss ds (record { declarator = d; start = None }) st.1 st.2 (AreInits-last (after_specs st.0 ss) ss ds (record { declarator = d; start = None }) st.3 (subst (λ z. IsDeclarator false z d) st.4 (subst (λ z. IsDeclarator (is_free z) sc d) kind wf)) tt) st.6 (after_declarator sc ss d) (ap (λ z. after_declarator z ss d) st.4)
  done_goes sc m.Semicolon (DeclDeclarator first ss ds ∷ s) k d kind st wf named group =
      declare_goes start st.0 s ss ds (record { declarator = d; start = None }) st.1 st.2 (AreInits-last (after_specs st.0 ss) ss ds (record { declarator = d; start = None }) st.3 (subst (λ z. IsDeclarator false z d) st.4 (subst (λ z. IsDeclarator (is_free z) sc d) kind wf)) tt) st.6 (after_declarator sc ss d) (ap (λ z. after_declarator z ss d) st.4)
  done_goes sc (m.Assign a.Plain) (DeclDeclarator first ss ds ∷ s) k d kind st wf named group =
      ((st.0, st.1, st.2, st.3, subst (λ z. IsDeclarator false z d) st.4 (subst (λ z. IsDeclarator (is_free z) sc d) kind wf), ap (λ z. after_declarator z ss d) st.4, st.6), λ ws. refl)
  done_goes sc m.OpenBrace (DeclDeclarator first ss ds ∷ s) k d kind st wf named group =
      definition_goes start sc (after_declarator sc ss d) st.0 s first ss ds d st.1 st.2 (subst (λ z. IsDeclarator (is_free z) sc d) kind wf) st.4 st.5 refl st.6
  done_goes sc _ _ k d kind st wf named group = tt

  pub have_goes : (sc : Scope) (s : Stack Tree) (k : Kind) (d : t.Declarator) (v : Word) → is_direct d ≡ true → IsDeclarator (is_free k) sc d → may_name k (name_of d) ≡ true → KindOk s k → ((ws : List Word) → GroupOk sc s (spell_declarator d (v ∷ ws))) → IsStack start s sc → Goes start (λ ws. unwind s (spell_declarator d (v ∷ ws))) (have_declarator trees_built sc s k d v)
  have_goes sc s k d (Sign m.OpenBracket) direct wf named kind group st = (((direct, wf, named, kind, group), st), λ ws. refl)
  have_goes sc s k d (Sign m.Open) direct wf named kind group st = (((direct, wf, named, kind, group), st), λ ws. refl)
  have_goes sc s k d (Sign mark) direct wf named kind group st =
      let r = pointers sc s k d (Sign mark) kind st wf named group in
      let p = reduced_pointers trees_built s d in
      Goes-from start (λ ws. unwind p.0 (spell_declarator p.1 (Sign mark ∷ ws))) (λ ws. unwind s (spell_declarator d (Sign mark ∷ ws))) (λ ws. r.spelled (Sign mark ∷ ws)) (declarator_done trees_built sc mark p) (done_goes sc mark p.0 k p.1 r.kind r.stack r.declarator r.named r.group)
  have_goes sc s k d _ direct wf named kind group st = tt

  nameless_goes : (sc : Scope) (s : Stack Tree) (k : Kind) (v : Word) → KindOk s k → GroupOk sc s (v ∷ []) → IsStack start s sc → Goes start (λ ws. unwind s (v ∷ ws)) (no_name trees_built sc s k v)
  nameless_goes sc s Ordinary v kind group st = tt
  nameless_goes sc s OfParameter v kind group st = have_goes sc s OfParameter t.Nameless v refl refl refl kind (λ ws. group_word sc s v [] ws group) st
  nameless_goes sc s OfType v kind group st = have_goes sc s OfType t.Nameless v refl refl refl kind (λ ws. group_word sc s v [] ws group) st

  named_goes : (sc : Scope) (s : Stack Tree) (k : Kind) (u : Text) → KindOk s k → GroupOk sc s (Named u ∷ []) → IsStack start s sc → Goes start (λ ws. unwind s (Named u ∷ ws)) (want_named trees_built sc s k u)
  named_goes sc s OfType u kind group st = tt
  named_goes sc s Ordinary u kind group st = (((refl, tt, refl, kind, λ ws. group_word sc s (Named u) [] ws group), st), λ ws. refl)
  named_goes sc s OfParameter u kind group st = (((refl, tt, refl, kind, λ ws. group_word sc s (Named u) [] ws group), st), λ ws. refl)

  star_goes : (sc : Scope) (s : Stack Tree) (k : Kind) (mark : Mark) → KindOk s k → GroupOk sc s (Sign mark ∷ []) → IsStack start s sc → Goes start (λ ws. unwind s (Sign mark ∷ ws)) (if is_star mark then Some (sc, s, Qualifying k []) else no_name trees_built sc s k (Sign mark))
  star_goes sc s k mark kind group st =
      cond_both (is_star mark) (Some (sc, s, Qualifying k [])) (no_name trees_built sc s k (Sign mark)) (Goes start (λ ws. unwind s (Sign mark ∷ ws)))
      (λ e. ((kind, st), λ ws. ap (λ z. unwind s (Sign z ∷ ws)) (sym (star_is mark e))))
      (λ e. nameless_goes sc s k (Sign mark) kind group st)

  pub want_goes : (sc : Scope) (s : Stack Tree) (k : Kind) (v : Word) → KindOk s k → GroupOk sc s (v ∷ []) → IsStack start s sc → Goes start (λ ws. unwind s (v ∷ ws)) (want_declarator trees_built sc s k v)
  want_goes sc s k (Named u) kind group st = named_goes sc s k u kind group st
  want_goes sc s k (Sign m.Open) kind group st = ((kind, st), λ ws. refl)
  want_goes sc s k (Sign mark) kind group st = star_goes sc s k mark kind group st
  want_goes sc s k _ kind group st = tt

  pub qualify_goes : (sc : Scope) (s : Stack Tree) (k : Kind) (qs : List Qualifier) (v : Word) → KindOk s k → IsStack start s sc → Goes start (λ ws. unwind s (Sign star ∷ spell_qualifiers qs (v ∷ ws))) (qualify trees_built sc s k qs (qualifier_of v) v)
  qualify_goes sc s k qs (Key (w.Spec sw.Const)) kind st = ((kind, st), λ ws. ap (λ us. unwind s (Sign star ∷ us)) (qualifiers_last qs q.Const ws))
  qualify_goes sc s k qs (Key (w.Spec sw.Volatile)) kind st = ((kind, st), λ ws. ap (λ us. unwind s (Sign star ∷ us)) (qualifiers_last qs q.Volatile ws))
  qualify_goes sc s k qs (Key w.Restrict) kind st = ((kind, st), λ ws. ap (λ us. unwind s (Sign star ∷ us)) (qualifiers_last qs q.Restrict ws))
  qualify_goes sc s k qs (Key _) kind st = tt
  qualify_goes sc s k qs v kind st = want_goes sc (InPointer k qs ∷ s) k v refl tt (kind, st)

  -- ---- specifiers

  declaration_specs_goes : (sc base : Scope) (s : Stack Tree) (ss : t.Specs) (v : Word) → AreSpecs base ss → form_type ss ≡ true → sc ≡ after_specs base ss → IsStack start s base → Goes start (λ ws. unwind s (spell_specs ss (v ∷ ws))) (declaration_specs trees_built sc s ss v)
  declaration_specs_goes sc base s ss (Sign m.Semicolon) wf f e st = declaration_goes start sc base s (t.Declare ss []) (wf, f, tt) e st
  declaration_specs_goes sc base s ss v wf f e st = want_goes sc (DeclDeclarator true ss [] ∷ s) Ordinary v refl tt (base, wf, f, tt, e, (λ h. refl), st)

  specs_done_goes : (sc base : Scope) (s : Stack Tree) (ss : t.Specs) (v : Word) → AreSpecs base ss → form_type ss ≡ true → sc ≡ after_specs base ss → IsStack start s base → Goes start (λ ws. unwind s (spell_specs ss (v ∷ ws))) (specs_done trees_built sc s ss v)
  specs_done_goes sc base (CastSpecs outer ∷ s) ss v wf f e st =
      want_goes sc (CastDeclarator outer ss ∷ s) OfType v refl tt (subst (λ z. AreSpecs z ss) (sym st.0) wf, f, e ∙ ap (λ z. after_specs z ss) (sym st.0), st.1, subst (IsStack start s) (sym st.0) st.2)
  specs_done_goes sc base (SizeofSpecs outer ∷ s) ss v wf f e st =
      want_goes sc (SizeofDeclarator outer ss ∷ s) OfType v refl tt (subst (λ z. AreSpecs z ss) (sym st.0) wf, f, e ∙ ap (λ z. after_specs z ss) (sym st.0), subst (IsStack start s) (sym st.0) st.1)
  specs_done_goes sc base (InMembers us tag ms ∷ s) ss v wf f e st =
      want_goes sc (InMember us tag ms ss t.no_declarator ∷ s) Ordinary v refl tt (st.0, st.1, st.2, subst (λ z. AreSpecs z ss) st.3 wf, f, tt, e ∙ ap (λ z. after_specs z ss) st.3, st.4)
  specs_done_goes sc base (InParameters k outer d ps ∷ s) ss v wf f e st =
      want_goes sc (InParameter k outer d ps ss ∷ s) OfParameter v refl tt (st.0, st.1, st.2, st.3, st.4, st.5, st.6, subst (λ z. AreSpecs z ss) st.7 wf, f, e ∙ ap (λ z. after_specs z ss) st.7)
  specs_done_goes sc base (DeclSpecs ∷ s) ss v wf f e st = declaration_specs_goes sc base s ss v wf f e st
  specs_done_goes sc base _ ss v wf f e st = tt

  specs_end_goes : (sc base : Scope) (s : Stack Tree) (ss : t.Specs) (v : Word) → AreSpecs base ss → sc ≡ after_specs base ss → IsStack start s base → Goes start (λ ws. unwind s (spell_specs ss (v ∷ ws))) (specs_end trees_built sc s ss v)
  specs_end_goes sc base s ss v wf e st =
      cond_both (form_type ss) (specs_done trees_built sc s ss v) None (Goes start (λ ws. unwind s (spell_specs ss (v ∷ ws))))
      (λ f. specs_done_goes sc base s ss v wf f e st)
      (λ f. tt)

  -- one specifier more
  more_goes : (sc : Scope) (s : Stack Tree) (ss us : t.Specs) (before : List Word → List Word) → AreRead start sc s ss → ((base : Scope) → sc ≡ after_specs base ss → AreSpecs (after_specs base ss) us × (sc ≡ after_specs (after_specs base ss) us)) → ((ws : List Word) → spell_specs ss (spell_specs us ws) ≡ before ws) → IsAt start (Specs (specs_then ss us)) sc s × ((ws : List Word) → unwind s (spell_specs (specs_then ss us) ws) ≡ unwind s (before ws))
  more_goes sc s ss us before read h e =
      let k = h read.0 read.2 in
      ((read.0, AreSpecs-then read.0 ss us read.1 k.0, k.1 ∙ sym (after_specs-then read.0 ss us), read.3), λ ws. ap (unwind s) (specs_spelled ss us ws ∙ e ws))

  pub specs_goes : (sc : Scope) (s : Stack Tree) (ss : t.Specs) (v : Word) → AreRead start sc s ss → Goes start (λ ws. unwind s (spell_specs ss (v ∷ ws))) (specs_step trees_built sc s ss v)
  specs_goes sc s ss (Key (w.Spec k)) read = more_goes sc s ss (t.spec_word k t.no_spec) (λ ws. spell_specs ss (Key (w.Spec k) ∷ ws)) read (λ base e. (tt, e)) (λ ws. refl)
  specs_goes sc s ss (Key w.Struct) read = (read, λ ws. refl)
  specs_goes sc s ss (Key w.Enum) read = (read, λ ws. refl)
  specs_goes sc s ss (Named u) read =
      cond_both (sc u && not (has_type_part ss)) (Some (sc, s, Specs (specs_then ss (t.typedef_name u t.no_spec)))) (specs_end trees_built sc s ss (Named u)) (Goes start (λ ws. unwind s (spell_specs ss (Named u ∷ ws))))
      (λ f. more_goes sc s ss (t.typedef_name u t.no_spec) (λ ws. spell_specs ss (Named u ∷ ws)) read (λ base e. ((subst (λ z. z u ≡ true) e (and_left (sc u) (not (has_type_part ss)) f), tt), e)) (λ ws. refl))
      (λ f. specs_end_goes sc read.0 s ss (Named u) read.1 read.2 read.3)
  specs_goes sc s ss v read = specs_end_goes sc read.0 s ss v read.1 read.2 read.3

  -- at a first specifier
  pub begin_specs : (sc : Scope) (s : Stack Tree) (v : Word) → IsStack start s sc → Goes start (λ ws. unwind s (v ∷ ws)) (specs_step trees_built sc s t.no_spec v)
  begin_specs sc s v st = specs_goes sc s t.no_spec v (sc, tt, refl, st)

  braces_goes : (sc : Scope) (s : Stack Tree) (which : Which) (ss : t.Specs) (tag : Option Text) → AreRead start sc s ss → Goes start (λ ws. unwind s (spell_specs ss (Key (which_key which) ∷ spell_tag tag (Sign m.OpenBrace ∷ ws)))) (open_braces trees_built sc s which ss tag)
  braces_goes sc s AStruct ss tag read = ((sc, tt, refl, (read.0, read.1, tt, read.2, read.3)), λ ws. refl)
  braces_goes sc s AnEnum ss tag read = ((read.0, read.1, tt, read.2, read.3), λ ws. refl)

  pub tagging_goes : (sc : Scope) (s : Stack Tree) (which : Which) (ss : t.Specs) (v : Word) → AreRead start sc s ss → Goes start (λ ws. unwind s (spell_specs ss (Key (which_key which) ∷ v ∷ ws))) (tagging trees_built sc s which ss v)
  tagging_goes sc s which ss (Named u) read = (read, λ ws. refl)
  tagging_goes sc s which ss (Sign m.OpenBrace) read = braces_goes sc s which ss None read
  tagging_goes sc s which ss _ read = tt

  tag_read : (sc : Scope) (s : Stack Tree) (which : Which) (ss : t.Specs) (u : Text) → AreRead start sc s ss → AreRead start sc s (with_tag trees_built which ss u) × ((ws : List Word) → unwind s (spell_specs (with_tag trees_built which ss u) ws) ≡ unwind s (spell_specs ss (Key (which_key which) ∷ Named u ∷ ws)))
  tag_read sc s AStruct ss u read = more_goes sc s ss (t.struct_tag u t.no_spec) (λ ws. spell_specs ss (Key w.Struct ∷ Named u ∷ ws)) read (λ base e. (tt, e)) (λ ws. refl)
  tag_read sc s AnEnum ss u read = more_goes sc s ss (t.enum_tag u t.no_spec) (λ ws. spell_specs ss (Key w.Enum ∷ Named u ∷ ws)) read (λ base e. (tt, e)) (λ ws. refl)

  tag_goes : (sc : Scope) (s : Stack Tree) (which : Which) (ss : t.Specs) (u : Text) (v : Word) → AreRead start sc s ss → Goes start (λ ws. unwind s (spell_specs ss (Key (which_key which) ∷ Named u ∷ v ∷ ws))) (specs_step trees_built sc s (with_tag trees_built which ss u) v)
  tag_goes sc s which ss u v read =
      let r = tag_read sc s which ss u read in
      Goes-from start (λ ws. unwind s (spell_specs (with_tag trees_built which ss u) (v ∷ ws))) (λ ws. unwind s (spell_specs ss (Key (which_key which) ∷ Named u ∷ v ∷ ws))) (λ ws. r.1 (v ∷ ws)) (specs_step trees_built sc s (with_tag trees_built which ss u) v) (specs_goes sc s (with_tag trees_built which ss u) v r.0)

  pub tagged_goes : (sc : Scope) (s : Stack Tree) (which : Which) (ss : t.Specs) (u : Text) (v : Word) → AreRead start sc s ss → Goes start (λ ws. unwind s (spell_specs ss (Key (which_key which) ∷ Named u ∷ v ∷ ws))) (tagged trees_built sc s which ss u v)
  tagged_goes sc s which ss u (Sign m.OpenBrace) read = braces_goes sc s which ss (Some u) read
  tagged_goes sc s which ss u v read = tag_goes sc s which ss u v read

  members_close : (sc : Scope) (s : Stack Tree) → HasMembers s → IsStack start s sc → Goes start (λ ws. unwind s (Sign m.CloseBrace ∷ ws)) (close_members trees_built sc s)
  members_close sc [] has st = tt
  members_close sc (InMembers us tag ms ∷ s) has st =
      ((st.0, AreSpecs-then st.0 us (t.struct_list tag ms t.no_spec) st.1 (has, st.2, tt), st.3 ∙ sym (after_specs-then st.0 us (t.struct_list tag ms t.no_spec)), st.4), λ ws. ap (unwind s) (specs_spelled us (t.struct_list tag ms t.no_spec) ws))
  members_close sc (_ ∷ s) has st = tt

  pub next_member_goes : (sc : Scope) (s : Stack Tree) (v : Word) → HasMembers s → IsStack start s sc → Goes start (λ ws. unwind s (v ∷ ws)) (next_member trees_built sc s v)
  next_member_goes sc s (Sign m.CloseBrace) has st = members_close sc s has st
  next_member_goes sc s v has st = begin_specs sc s v st

  pub first_enumerator_goes : (sc : Scope) (s : Stack Tree) (v : Word) → IsStack start s sc → Goes start (λ ws. unwind s (v ∷ ws)) (first_enumerator trees_built sc s v)
  first_enumerator_goes sc s (Named u) st = (st, λ ws. refl)
  first_enumerator_goes sc s _ st = tt

  -- the closing brace behind enumerators
  pub enum_read : (sc : Scope) (s : Stack Tree) (base : Scope) (us : t.Specs) (tag : Option Text) (es : t.Enumerators) (c : Bool) → AreSpecs base us → has_enumerators es ≡ true → AreEnumerators (after_specs base us) es → sc ≡ after_enumerators (after_specs base us) es → IsStack start s base → AreRead start sc s (specs_then us (t.enum_list tag es c t.no_spec))
  enum_read sc s base us tag es c wf has are e st = (base, AreSpecs-then base us (t.enum_list tag es c t.no_spec) wf (has, are, tt), e ∙ sym (after_specs-then base us (t.enum_list tag es c t.no_spec)), st)

  enumerators_close : (sc : Scope) (s : Stack Tree) → HasEnumerators s → IsStack start s sc → Goes start (λ ws. unwind s (Sign m.CloseBrace ∷ ws)) (close_enumerators trees_built sc s)
  enumerators_close sc [] has st = tt
  enumerators_close sc (InEnumerators us tag es ∷ s) has st = (
    enum_read sc s st.0 us tag es true st.1 has st.2 st.3 st.4,
    λ ws. ap (unwind s) (specs_spelled us (t.enum_list tag es true t.no_spec) ws ∙ ap (λ vs. spell_specs us (Key w.Enum ∷ spell_tag tag (Sign m.OpenBrace ∷ vs))) (enumerators_comma es (Sign m.CloseBrace ∷ ws) has)),
  )
  enumerators_close sc (_ ∷ s) has st = tt

  pub next_enumerator_goes : (sc : Scope) (s : Stack Tree) (v : Word) → HasEnumerators s → IsStack start s sc → Goes start (λ ws. unwind s (v ∷ ws)) (next_enumerator trees_built sc s v)
  next_enumerator_goes sc s (Sign m.CloseBrace) has st = enumerators_close sc s has st
  next_enumerator_goes sc s v has st = first_enumerator_goes sc s v st

  pub enumerated_goes : (sc : Scope) (s : Stack Tree) (u : Text) (v : Word) → IsStack start s sc → Goes start (λ ws. unwind s (Named u ∷ v ∷ ws)) (enumerated trees_built sc s u v)
  enumerated_goes sc (InEnumerators us tag es ∷ s) u (Sign (m.Assign a.Plain)) st = (st, λ ws. refl)
  enumerated_goes sc (InEnumerators us tag es ∷ s) u (Sign m.Comma) st =
      let b = after_specs st.0 us in (
        (has_enumerators-last es u t.absent, (st.0, st.1, AreEnumerators-last b es u t.absent st.2 tt, ap (λ z. with_name z u false) st.3 ∙ sym (after_enumerators-last b es u t.absent), st.4)),
        λ ws. ap (λ vs. unwind s (spell_specs us (Key w.Enum ∷ spell_tag tag (Sign m.OpenBrace ∷ vs)))) (lead_enumerators-last es u t.absent ws),
      )
  enumerated_goes sc (InEnumerators us tag es ∷ s) u (Sign m.CloseBrace) st =
      let b = after_specs st.0 us in
      let all = enumerators_then es (t.enumerator u t.absent t.no_enumerator) in (
        enum_read (with_name sc u false) s st.0 us tag all false st.1 (has_enumerators-last es u t.absent) (AreEnumerators-last b es u t.absent st.2 tt) (ap (λ z. with_name z u false) st.3 ∙ sym (after_enumerators-last b es u t.absent)) st.4,
        λ ws. ap (unwind s) (specs_spelled us (t.enum_list tag all false t.no_spec) ws ∙ ap (λ vs. spell_specs us (Key w.Enum ∷ spell_tag tag (Sign m.OpenBrace ∷ vs))) (enumerators_lead es u t.absent (Sign m.CloseBrace ∷ ws))),
      )
  enumerated_goes sc _ u _ st = tt

  -- ---- parameter lists

  pub listing_goes : (sc : Scope) (s : Stack Tree) (k : Kind) (d : t.Declarator) (v : Word) → IsRead sc s k d (λ ws. spell_declarator d (Sign m.Open ∷ ws)) → IsStack start s sc → Goes start (λ ws. unwind s (spell_declarator d (Sign m.Open ∷ v ∷ ws))) (listing trees_built sc s k d v)
  listing_goes sc s k d (Sign m.Close) read st = (((refl, (read.0, read.1, refl, tt), read.2, read.3, λ ws. read.4 _), st), λ ws. refl)
  listing_goes sc s k d v read st = begin_specs sc (InParameters k sc d t.no_parameter ∷ s) v (read.0, read.1, read.2, read.3, read.4, st, tt, refl)

  pub opened_goes : (sc : Scope) (s : Stack Tree) (k : Kind) (v : Word) → KindOk s k → IsStack start s sc → Goes start (λ ws. unwind s (Sign m.Open ∷ v ∷ ws)) (opened trees_built sc s k v)
  opened_goes sc s k v kind st =
      cond_both (is_free k && begins_list sc (v ∷ [])) (listing trees_built sc s k t.Nameless v) (want_declarator trees_built sc (InGroup k ∷ s) k v) (Goes start (λ ws. unwind s (Sign m.Open ∷ v ∷ ws)))
      (λ e. listing_goes sc s k t.Nameless v (refl, and_left (is_free k) (begins_list sc (v ∷ [])) e, nameless_named k, kind, λ ws. group_open sc s ws) st)
      (λ e. want_goes sc (InGroup k ∷ s) k v refl e (kind, st))
    where
      nameless_named : (j : Kind) → may_name j None ≡ true
      nameless_named Ordinary = refl
      nameless_named OfParameter = refl
      nameless_named OfType = refl

  pub next_parameter_goes : (sc : Scope) (s : Stack Tree) (v : Word) → HasParameters s → IsStack start s sc → Goes start (λ ws. unwind s (v ∷ ws)) (next_parameter trees_built sc s v)
  next_parameter_goes sc s (Sign m.Ellipsis) has st = ((has, st), λ ws. refl)
  next_parameter_goes sc s v has st = begin_specs sc s v st

  pub after_ellipsis_goes : (sc : Scope) (s : Stack Tree) (v : Word) → HasParameters s → IsStack start s sc → Goes start (λ ws. unwind s (Sign m.Ellipsis ∷ v ∷ ws)) (after_ellipsis trees_built s v)
  after_ellipsis_goes sc (InParameters k outer d ps ∷ s) (Sign m.Close) has st =
      (((refl, (st.0, st.1, has, st.6), st.2, st.3, λ ws. st.4 _), st.5), λ ws. ap (λ vs. unwind s (spell_declarator d (Sign m.Open ∷ vs))) (parameters_comma ps (Sign m.Ellipsis ∷ Sign m.Close ∷ ws) has))
  after_ellipsis_goes sc _ _ has st = tt
