-- What the code holds, as the parts that the definitions speak of.
use Rattle.std.specs.Prelude.{List, [], ◌∷◌, Option, map, option_map}
use Rattle.ct_syntax.specs.Views.{view, view_declarator, expressions_of, specs_of}
use Rattle.ct_syntax.specs.UnitViews.{view_initialiser, view_init_declarator, view_declaration, view_for_start, view_statement, body_of, view_item}
use Rattle.ct_syntax.specs.Lists.{declarators_of, members_of, enumerators_of, parameters_of, initialisers_of, branches_of}
use Rattle.ct_syntax.specs.declared.expressions.Expr.{Expr}
use Rattle.ct_syntax.specs.declared.expressions.Declarator.{Declarator}
use Rattle.ct_syntax.specs.declared.declarations.Initialiser.{Initialiser}
use Rattle.ct_syntax.specs.declared.declarations.InitialiserItem.{InitialiserItem}
use Rattle.ct_syntax.specs.declared.declarations.InitDeclarator.{InitDeclarator}
use Rattle.ct_syntax.specs.declared.declarations.Declaration.{Declaration}
use Rattle.ct_syntax.specs.declared.statements.ForStart.{ForStart}
use Rattle.ct_syntax.specs.declared.statements.Statement.{Statement}
use Rattle.ct_syntax.specs.declared.statements.Branch.{Branch}
use Rattle.ct_syntax.specs.declared.statements.BlockItem.{BlockItem}
use Rattle.ct_syntax.specs.declared.statements.Item.{Item}
use Rattle.std.specs.declared.vec.Vec.{Vec}
use Rattle.std.specs.declared.boxed.Box.{Box}
use Rattle.std.specs.declared.alloc.Global.{Global}
use Rattle.ct_grammar_machine.specs.Algebra.{Sort, expr, exprs, specs, members, enumerators, declarators, decl, parameters, init, inits, init_declarators, declaration, for_start, stmt, branches, body, items, Tree}
use Rattle.ct_grammar_machine.specs.Algebra as a
use Rattle.ct_parser_parts.specs.Parts.{Part, Names}
use Rattle.ct_parser_parts.specs.Parts as p
use Rattle.ct_parser_parts.specs.Reach.{Depth}
use Rattle.ct_parser_parts.specs.declared.parts.Built.{Built}
use Rattle.ct_parser_parts.specs.declared.parts.Declared.{Declared}
use Rattle.ct_parser_parts.specs.declared.parts.ExprPart.{ExprPart}
use Rattle.ct_parser_parts.specs.declared.parts.SpecsPart.{SpecsPart}
use Rattle.ct_parser_parts.specs.declared.parts.MembersPart.{MembersPart}
use Rattle.ct_parser_parts.specs.declared.parts.EnumeratorsPart.{EnumeratorsPart}
use Rattle.ct_parser_parts.specs.declared.parts.DeclaratorPart.{DeclaratorPart}
use Rattle.ct_parser_parts.specs.declared.parts.ParametersPart.{ParametersPart}
use Rattle.ct_parser_parts.specs.declared.parts.Aimed.{Aimed}
use Rattle.ct_parser_parts.specs.declared.parts.Aimed.TheVariants as aim

abbrev pub built : {A B : Type 0} → (A → B) → Option A → Depth → p.Built B
built f tree reach = record { tree = option_map f tree; reach = reach }

abbrev pub boxed : {A B : Type 0} → (A → B) → Built (Box A Global) → p.Built B
boxed f x = built (λ b. f b.value) x.tree x.reach

abbrev pub names_of : List Declared → Names
names_of [] = []
names_of (d ∷ ds) = (d.name, d.is_type) ∷ names_of ds

abbrev pub expr_of : ExprPart → Part expr
expr_of x = record { built = boxed view x.built; info = x.level }

abbrev pub exprs_of : Built (Vec Expr Global) → Part exprs
exprs_of x = record { built = built (λ v. expressions_of v.items) x.tree x.reach; info = tt }

abbrev pub specs_part : SpecsPart → Part specs
specs_part x = record { built = built (λ v. specs_of v.items) x.built.tree x.built.reach; info = record { words = x.words; wholes = x.wholes; typedef = x.typedef; names = names_of x.names } }

abbrev pub members_part : MembersPart → Part members
members_part x = record { built = built (λ v. members_of v.items) x.built.tree x.built.reach; info = names_of x.names }

abbrev pub enumerators_part : EnumeratorsPart → Part enumerators
enumerators_part x = record { built = built (λ v. enumerators_of v.items) x.built.tree x.built.reach; info = names_of x.names }

abbrev pub declarators_part : Built (Vec Declarator Global) → Part declarators
declarators_part x = record { built = built (λ v. declarators_of v.items) x.tree x.reach; info = tt }

abbrev pub declarator_part : DeclaratorPart → Part decl
declarator_part x = record { built = boxed view_declarator x.built; info = record { nameless = x.nameless; name = x.name; plain = x.plain; own = names_of x.own } }

abbrev pub parameters_part : ParametersPart → Part parameters
parameters_part x = record { built = built (λ v. parameters_of v.items) x.built.tree x.built.reach; info = record { empty = x.empty; only_void = x.only_void; names = names_of x.names } }

abbrev pub initialiser_part : Built Initialiser → Part init
initialiser_part x = record { built = built view_initialiser x.tree x.reach; info = tt }

abbrev pub initialisers_part : Built (Vec InitialiserItem Global) → Part inits
initialisers_part x = record { built = built (λ v. initialisers_of v.items) x.tree x.reach; info = tt }

abbrev pub init_declarators_part : Built (Vec InitDeclarator Global) → Part init_declarators
init_declarators_part x = record { built = built (λ v. map view_init_declarator v.items) x.tree x.reach; info = tt }

abbrev pub declaration_part : Built Declaration → Part declaration
declaration_part x = record { built = built view_declaration x.tree x.reach; info = tt }

abbrev pub for_start_part : Built ForStart → Part for_start
for_start_part x = record { built = built view_for_start x.tree x.reach; info = tt }

abbrev pub statement_part : Built (Box Statement Global) → Part stmt
statement_part x = record { built = boxed view_statement x; info = tt }

abbrev pub branches_part : Built (Vec Branch Global) → Part branches
branches_part x = record { built = built (λ v. branches_of v.items) x.tree x.reach; info = tt }

abbrev pub body_part : Built (Vec BlockItem Global) → Part body
body_part x = record { built = built (λ v. body_of v.items) x.tree x.reach; info = tt }

abbrev pub items_part : Built (Vec Item Global) → Part items
items_part x = record { built = built (λ v. map view_item v.items) x.tree x.reach; info = tt }

abbrev pub aimed_part : Aimed → a.Aimed Part
aimed_part aim.Next = a.AtNext
aimed_part (aim.Member at name) = a.AtMember name
aimed_part (aim.Index at x) = a.AtIndex (expr_of x)
