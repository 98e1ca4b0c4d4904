use Rattle.std.proofs.Common.{◌∷◌, ◌++◌, ◌≡◌, ◌∙◌, ap, sym}
use Rattle.std.proofs.lemmas.Result.{on_ok_weaker}
use Rattle.ct_syntax.specs.declared.words.Mark.TheVariants.{Open, Close, OpenBrace, CloseBrace, Member as MemberMark}
use Rattle.ct_syntax.specs.Words.{Sign, Named}
use Rattle.ct_syntax.specs.Trees.{no_spec}
use Rattle.ct_syntax.specs.Views.{view, view_spec, view_declarator, expressions_of, specs_of}
use Rattle.ct_syntax.specs.Lists.{declarators_of, members_of, enumerators_of, parameters_of}
use Rattle.ct_syntax.specs.Spelling.{spell, spell_list, spell_more, spell_tag, spell_comma, spell_specs, spell_members, spell_declarators, spell_more_declarators, spell_enumerators, spell_more_enumerators, spell_declarator, spell_parameters, spell_more_parameters, spell_form}
use Rattle.ct_syntax.proofs.Views.{view_Call, view_SizeofType, view_Cast, view_StructList, view_EnumList, view_Function}
use Rattle.ct_print.specs.Text.{text_of}
use Rattle.ct_print.proofs.Steps.{enumerator_step, member_step}
use Rattle.ct_print.proofs.Chain.{spelled_as, next_item, specs_first}
use Rattle.ct_print.proofs.expressions.+expressions.Goals as goal

pub put_expression-returns-in-Call : goal.put_expression-returns-in-Call
put_expression-returns-in-Call t c =
    on_ok_weaker c.put_call.result
    (λ put rest.
    let h1 = put rest in
    let h2 = c.deref-in-Call.ensures in
    let h3 = c.deref-in-Call-2.ensures.value in
    spelled_as (λ x. spell (view x) rest) _ _ c.in-Call.is _ _ rest
    (spelled_as (λ v. spell v rest) _ _ (view_Call c.in-Call.field-0 c.in-Call.function c.in-Call.arguments) _ _ rest cc))
    c.put_call.ensures

pub put_expression-returns-in-SizeofType : goal.put_expression-returns-in-SizeofType
put_expression-returns-in-SizeofType t c =
    on_ok_weaker c.put_sizeof_type.result
    (λ put rest.
    let h1 = put rest in
    let h2 = c.deref-in-SizeofType.ensures.value in
    let h3 = c.deref-in-SizeofType-2.ensures in
    spelled_as (λ x. spell (view x) rest) _ _ c.in-SizeofType.is _ _ rest
    (spelled_as (λ v. spell v rest) _ _ (view_SizeofType c.in-SizeofType.field-0 c.in-SizeofType.specs c.in-SizeofType.declarator) _ _ rest cc))
    c.put_sizeof_type.ensures

pub put_expression-returns-in-Cast : goal.put_expression-returns-in-Cast
put_expression-returns-in-Cast t c =
    on_ok_weaker c.put_cast.result
    (λ put rest.
    let h1 = put rest in
    let h2 = c.deref-in-Cast.ensures.value in
    let h3 = c.deref-in-Cast-2.ensures in
    let h4 = c.deref-in-Cast-3.ensures in
    spelled_as (λ x. spell (view x) rest) _ _ c.in-Cast.is _ _ rest
    (spelled_as (λ v. spell v rest) _ _ (view_Cast c.in-Cast.field-0 c.in-Cast.specs c.in-Cast.declarator c.in-Cast.operand) _ _ rest cc))
    c.put_cast.ensures

pub put_member-returns : goal.put_member-returns
put_member-returns t c rest =
    c.in_ok-put_text.ensures.name rest
    ∙ c.in_ok-put_mark.ensures (Named c.args.name.now ∷ rest)
    ∙ c.in_ok-put_expression.ensures (Sign (MemberMark c.args.op) ∷ Named c.args.name.now ∷ rest)

pub put_sizeof_type-returns : goal.put_sizeof_type-returns
put_sizeof_type-returns t c rest =
    let named = spell_declarator (view_declarator c.args.declarator.now) (Sign Close ∷ rest) in
    c.in_ok-put_type_name.ensures rest
    ∙ c.in_ok-put_keyword.ensures (Sign Open ∷ spell_specs (specs_of c.args.specs.now) named)

pub put_declarator-returns-in_ok-put_mark-in-Function-2 : goal.put_declarator-returns-in_ok-put_mark-in-Function-2
put_declarator-returns-in_ok-put_mark-in-Function-2 t c rest =
    let h1 = c.in_ok-put_mark-in-Function-2.ensures rest in
    let h2 = c.in_ok-put_form-in-Function.ensures (Sign Close ∷ rest) in
    let h3 = c.in_ok-put_parameters-in-Function.ensures (spell_form c.in-Function.form (Sign Close ∷ rest)) in
    let h4 = c.in_ok-put_mark-in-Function.ensures (spell_parameters (parameters_of c.in-Function.parameters.items) (spell_form c.in-Function.form (Sign Close ∷ rest))) in
    let h5 = c.in_ok-put_declarator-in-Function.ensures (Sign Open ∷ spell_parameters (parameters_of c.in-Function.parameters.items) (spell_form c.in-Function.form (Sign Close ∷ rest))) in
    spelled_as (λ d. spell_declarator (view_declarator d) rest) _ _ c.in-Function.is _ _ rest
    (spelled_as (λ v. spell_declarator v rest) _ _ (view_Function c.in-Function.field-0 c.in-Function.inner c.in-Function.form c.in-Function.parameters) _ _ rest cc)

pub put_spec-returns-in_ok-put_text-in-StructTag : goal.put_spec-returns-in_ok-put_text-in-StructTag
put_spec-returns-in_ok-put_text-in-StructTag t c rest =
    let h1 = c.in_ok-put_text-in-StructTag.ensures.name rest in
    let h2 = c.in_ok-put_keyword-in-StructTag.ensures (Named c.in-StructTag.tag ∷ rest) in
    spelled_as (λ x. spell_specs (view_spec x no_spec) rest) _ _ c.in-StructTag.is _ _ rest cc

pub put_spec-returns-in_ok-put_text-in-EnumTag : goal.put_spec-returns-in_ok-put_text-in-EnumTag
put_spec-returns-in_ok-put_text-in-EnumTag t c rest =
    let h1 = c.in_ok-put_text-in-EnumTag.ensures.name rest in
    let h2 = c.in_ok-put_keyword-in-EnumTag.ensures (Named c.in-EnumTag.tag ∷ rest) in
    spelled_as (λ x. spell_specs (view_spec x no_spec) rest) _ _ c.in-EnumTag.is _ _ rest cc

pub put_spec-returns-in_ok-put_mark-in-StructList-2 : goal.put_spec-returns-in_ok-put_mark-in-StructList-2
put_spec-returns-in_ok-put_mark-in-StructList-2 t c rest =
    let members = spell_members (members_of c.in-StructList.members.items) (Sign CloseBrace ∷ rest) in
    let h1 = c.in_ok-put_mark-in-StructList-2.ensures rest in
    let h2 = c.in_ok-put_members-in-StructList.ensures (Sign CloseBrace ∷ rest) in
    let h3 = c.in_ok-put_mark-in-StructList.ensures members in
    let h4 = c.in_ok-put_tag-in-StructList.ensures (Sign OpenBrace ∷ members) in
    let h5 = c.in_ok-put_keyword-in-StructList.ensures (spell_tag c.in-StructList.tag (Sign OpenBrace ∷ members)) in
    spelled_as (λ x. spell_specs (view_spec x no_spec) rest) _ _ c.in-StructList.is _ _ rest
    (spelled_as (λ v. spell_specs v rest) _ _ (view_StructList c.in-StructList.field-0 c.in-StructList.tag c.in-StructList.members no_spec) _ _ rest cc)

pub put_spec-returns-in_ok-put_mark-in-EnumList-2 : goal.put_spec-returns-in_ok-put_mark-in-EnumList-2
put_spec-returns-in_ok-put_mark-in-EnumList-2 t c rest =
    let behind = spell_comma c.in-EnumList.comma (Sign CloseBrace ∷ rest) in
    let enumerators = spell_enumerators (enumerators_of c.in-EnumList.enumerators.items) behind in
    let h1 = c.in_ok-put_mark-in-EnumList-2.ensures rest in
    let h2 = c.in_ok-put_comma-in-EnumList.ensures (Sign CloseBrace ∷ rest) in
    let h3 = c.in_ok-put_enumerators-in-EnumList.ensures behind in
    let h4 = c.in_ok-put_mark-in-EnumList.ensures enumerators in
    let h5 = c.in_ok-put_tag-in-EnumList.ensures (Sign OpenBrace ∷ enumerators) in
    let h6 = c.in_ok-put_keyword-in-EnumList.ensures (spell_tag c.in-EnumList.tag (Sign OpenBrace ∷ enumerators)) in
    spelled_as (λ x. spell_specs (view_spec x no_spec) rest) _ _ c.in-EnumList.is _ _ rest
    (spelled_as (λ v. spell_specs v rest) _ _ (view_EnumList c.in-EnumList.field-0 c.in-EnumList.tag c.in-EnumList.enumerators c.in-EnumList.comma no_spec) _ _ rest cc)

pub put_list-loop-x-preserved : goal.put_list-loop-x-preserved
put_list-loop-x-preserved t c rest =
    c.in_ok-put_behind.ensures _
    ∙ ap (λ xs. c.loop-x.into.items ++ text_of (spell_more (expressions_of xs) rest)) (sym (next_item _ _ _ c.loop-x-test.true c.x-item.is))
    ∙ c.loop-x.invariant rest

pub put_declarators-loop-declarator-preserved : goal.put_declarators-loop-declarator-preserved
put_declarators-loop-declarator-preserved t c rest =
    c.in_ok-put_declarator-2.ensures _
    ∙ c.in_ok-put_mark.ensures _
    ∙ ap (λ ds. c.loop-declarator.into.items ++ text_of (spell_more_declarators (declarators_of ds) rest)) (sym (next_item _ _ _ c.loop-declarator-test.true c.declarator-item.is))
    ∙ c.loop-declarator.invariant rest

pub put_enumerators-loop-enumerator-preserved : goal.put_enumerators-loop-enumerator-preserved
put_enumerators-loop-enumerator-preserved t c rest =
    enumerator_step _ _ _ _ _ _ _ rest c.loop-enumerator-test.true c.enumerator-item.is (c.loop-enumerator.invariant rest) c.in_ok-put_mark.ensures c.in_ok-put_enumerator-2.ensures

pub put_members-loop-member-preserved : goal.put_members-loop-member-preserved
put_members-loop-member-preserved t c rest =
    member_step _ _ _ _ _ _ _ _ _ _ rest c.loop-member-test.true c.member-item.is c.deref.ensures.value c.deref-in-loop-member.ensures.value (c.loop-member.invariant rest) c.in_ok-put_specs.ensures c.in_ok-put_declarators.ensures c.in_ok-put_mark.ensures

pub put_parameters-loop-parameter-preserved : goal.put_parameters-loop-parameter-preserved
put_parameters-loop-parameter-preserved t c rest =
    c.in_ok-put_parameter-2.ensures _
    ∙ c.in_ok-put_mark.ensures _
    ∙ ap (λ ps. c.loop-parameter.into.items ++ text_of (spell_more_parameters (parameters_of ps) rest)) (sym (next_item _ _ _ c.loop-parameter-test.true c.parameter-item.is))
    ∙ c.loop-parameter.invariant rest

pub put_specs-loop-spec-preserved : goal.put_specs-loop-spec-preserved
put_specs-loop-spec-preserved t c rest =
    c.in_ok-put_spec.ensures _
    ∙ ap (λ ws. c.loop-spec.into.items ++ text_of ws) (sym (specs_first c.spec-item.result _ rest))
    ∙ ap (λ ss. c.loop-spec.into.items ++ text_of (spell_specs (specs_of ss) rest)) (sym (next_item _ _ _ c.loop-spec-test.true c.spec-item.is))
    ∙ c.loop-spec.invariant rest
