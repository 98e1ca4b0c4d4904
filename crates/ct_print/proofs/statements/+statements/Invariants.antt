use Rattle.std.proofs.Common.{drop}
use Rattle.ct_syntax.specs.UnitViews.{body_of}
use Rattle.ct_syntax.specs.Lists.{branches_of}
use Rattle.ct_syntax.specs.Spelling.{spell_branches, spell_more_branches, spell_body}
use Rattle.ct_print.proofs.Chain.{Continues}
use Rattle.ct_print.proofs.statements.+statements.Given as goal

abbrev pub invariant-put_branches-loop-branch : goal.invariant-put_branches-loop-branch
invariant-put_branches-loop-branch l =
    Continues l.fn.into.items l.into.items
    (spell_more_branches (branches_of (drop l.branch-index l.others)))
    (spell_branches (branches_of l.fn.branches))

abbrev pub invariant-put_parts-loop-part : goal.invariant-put_parts-loop-part
invariant-put_parts-loop-part l =
    Continues l.fn.into.items l.into.items
    (spell_body (body_of (drop l.part-index l.parts)))
    (spell_body (body_of l.fn.parts))
