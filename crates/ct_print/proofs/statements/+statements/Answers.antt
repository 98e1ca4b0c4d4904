use Rattle.std.proofs.Common.{◌∷◌, ◌++◌, ◌∙◌, ap}
use Rattle.std.proofs.lemmas.Result.{on_ok_weaker}
use Rattle.ct_syntax.specs.declared.words.Mark.TheVariants.{OpenBrace, CloseBrace, Colon}
use Rattle.ct_syntax.specs.Words.{Sign}
use Rattle.ct_syntax.specs.Trees.{no_part}
use Rattle.ct_syntax.specs.Lists.{branches_of, other_of}
use Rattle.ct_syntax.specs.UnitViews.{view_statement, view_part, body_of}
use Rattle.ct_syntax.specs.Spelling.{spell_statement, spell_branches, spell_other, spell_body}
use Rattle.ct_syntax.proofs.UnitViews.{view_Block, view_If, view_Switch}
use Rattle.ct_print.specs.Text.{text_of}
use Rattle.ct_print.proofs.Steps.{branch_step, part_step}
use Rattle.ct_print.proofs.Chain.{spelled_as}
use Rattle.ct_print.proofs.statements.+statements.Goals as goal

pub put_statement-returns-in-Block : goal.put_statement-returns-in-Block
put_statement-returns-in-Block t c =
    on_ok_weaker c.put_block.result
    (λ put rest.
    spelled_as (λ s. spell_statement (view_statement s) rest) _ _ c.in-Block.is _ _ rest
    (spelled_as (λ v. spell_statement v rest) _ _ (view_Block c.in-Block.block) _ _ rest (put rest)))
    c.put_block.ensures

pub put_statement-returns-in_ok-put_other-in-If : goal.put_statement-returns-in_ok-put_other-in-If
put_statement-returns-in_ok-put_other-in-If t c rest =
    let other = spell_other (other_of c.in-If.other) rest in
    spelled_as (λ s. spell_statement (view_statement s) rest) _ _ c.in-If.is _ _ rest
    (spelled_as (λ v. spell_statement v rest) _ _ (view_If c.in-If.field-0 c.in-If.branches c.in-If.other) _ _ rest
    (c.in_ok-put_other-in-If.ensures rest
    ∙ c.in_ok-put_branches-in-If.ensures other
    ∙ ap (λ bs. c.args.into.now.items ++ text_of (spell_branches (branches_of bs) other)) c.deref.ensures.value))

pub put_statement-returns-in_ok-put_block-in-Switch : goal.put_statement-returns-in_ok-put_block-in-Switch
put_statement-returns-in_ok-put_block-in-Switch t c rest =
    spelled_as (λ s. spell_statement (view_statement s) rest) _ _ c.in-Switch.is _ _ rest
    (spelled_as (λ v. spell_statement v rest) _ _ (view_Switch c.in-Switch.field-0 c.in-Switch.value c.in-Switch.block) _ _ rest
    (c.in_ok-put_block-in-Switch.ensures rest
    ∙ c.in_ok-put_tested-in-Switch.ensures (Sign OpenBrace ∷ spell_body (body_of c.in-Switch.block.items.items) (Sign CloseBrace ∷ rest))))

pub put_block-returns : goal.put_block-returns
put_block-returns t c rest =
    c.in_ok-put_mark-2.ensures rest
    ∙ c.in_ok-put_parts.ensures (Sign CloseBrace ∷ rest)
    ∙ c.in_ok-put_mark.ensures (spell_body (body_of c.deref.result.now) (Sign CloseBrace ∷ rest))
    ∙ ap (λ ps. c.args.into.now.items ++ text_of (Sign OpenBrace ∷ spell_body (body_of ps) (Sign CloseBrace ∷ rest))) c.deref.ensures.value

pub put_part-returns-in_ok-put_mark-in-Default : goal.put_part-returns-in_ok-put_mark-in-Default
put_part-returns-in_ok-put_mark-in-Default t c rest =
    let h1 = c.in_ok-put_mark-in-Default.ensures rest in
    let h2 = c.in_ok-put_keyword-in-Default.ensures (Sign Colon ∷ rest) in
    spelled_as (λ p. spell_body (view_part p no_part) rest) _ _ c.in-Default.is _ _ rest cc

pub put_branches-loop-branch-preserved : goal.put_branches-loop-branch-preserved
put_branches-loop-branch-preserved t c rest =
    branch_step _ _ _ _ _ _ _ rest c.loop-branch-test.true c.branch-item.is (c.loop-branch.invariant rest) c.in_ok-put_keyword.ensures c.in_ok-put_branch-2.ensures

pub put_parts-loop-part-preserved : goal.put_parts-loop-part-preserved
put_parts-loop-part-preserved t c rest =
    part_step _ _ _ _ _ _ rest c.loop-part-test.true c.part-item.is (c.loop-part.invariant rest) c.in_ok-put_part.ensures
