-- Lists of parts, as the parts of a tree.
use Rattle.std.specs.Prelude.{List, [], ◌∷◌, Option, Some, None}
use Rattle.std.specs.declared.boxed.Box.{Box}
use Rattle.std.specs.declared.alloc.Global.{Global}
use Rattle.ct_syntax.specs.Trees as t
use Rattle.ct_syntax.specs.Views.{view, view_declarator, specs_of}
use Rattle.ct_syntax.specs.declared.expressions.Expr.{Expr}
use Rattle.ct_syntax.specs.declared.expressions.Declarator.{Declarator}
use Rattle.ct_syntax.specs.declared.expressions.Member.{Member}
use Rattle.ct_syntax.specs.declared.expressions.Enumerator.{Enumerator}
use Rattle.ct_syntax.specs.declared.expressions.Parameter.{Parameter}
use Rattle.ct_syntax.specs.declared.declarations.InitialiserItem.{InitialiserItem}
use Rattle.ct_syntax.specs.declared.statements.Statement.{Statement}
use Rattle.ct_syntax.specs.declared.statements.Branch.{Branch}
use Rattle.ct_syntax.specs.UnitViews.{view_designator, view_initialiser, view_statement}

abbrev pub optional_of : Option (Box Expr Global) → t.Optional
optional_of None = t.absent
optional_of (Some x) = t.present (view x.value)

abbrev pub declarators_of : List Declarator → t.Declarators
declarators_of [] = t.no_declarator
declarators_of (d ∷ ds) = t.declarator (view_declarator d) (declarators_of ds)

abbrev pub members_of : List Member → t.Members
members_of [] = t.no_member
members_of (m ∷ ms) = t.member (specs_of m.specs.items) (declarators_of m.declarators.items) (members_of ms)

abbrev pub enumerators_of : List Enumerator → t.Enumerators
enumerators_of [] = t.no_enumerator
enumerators_of (e ∷ es) = t.enumerator e.name (optional_of e.value) (enumerators_of es)

abbrev pub parameters_of : List Parameter → t.Parameters
parameters_of [] = t.no_parameter
parameters_of (p ∷ ps) = t.parameter (specs_of p.specs.items) (view_declarator p.declarator) (parameters_of ps)

abbrev pub initialisers_of : List InitialiserItem → t.InitialiserItems
initialisers_of [] = t.no_item
initialisers_of (i ∷ is) = t.item (view_designator i.designator) (view_initialiser i.value) (initialisers_of is)

abbrev pub branches_of : List Branch → t.Branches
branches_of [] = t.no_branch
branches_of (b ∷ bs) = t.branch (view b.test) (view_statement b.body) (branches_of bs)

abbrev pub other_of : Option (Box Statement Global) → t.Other
other_of None = t.no_else
other_of (Some x) = t.else_do (view_statement x.value)
