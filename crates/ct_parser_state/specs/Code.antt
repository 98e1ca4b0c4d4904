-- What the code holds, as the machine has it.
use Rattle.std.specs.Prelude.{◌≡◌, List, [], ◌∷◌, Option, Some, None, Bool, true, false, reverse, option_map}
use Rattle.std.specs.Str.{bytes_eq}
use Rattle.ct_syntax.specs.Words.{Text}
use Rattle.ct_syntax.specs.Scopes.{Scope, no_names, with_name}
use Rattle.ct_parser_parts.specs.Parts.{Part, parts_built}
use Rattle.ct_parser_parts.specs.Views.{expr_of, exprs_of, specs_part, members_part, enumerators_part, declarators_part, declarator_part, parameters_part, initialiser_part, initialisers_part, init_declarators_part, for_start_part, statement_part, branches_part, body_part, items_part, aimed_part}
use Rattle.ct_grammar_machine.specs.Frames as m
use Rattle.ct_parser_state.specs.declared.frames.Purpose.{Purpose}
use Rattle.ct_parser_state.specs.declared.frames.Purpose.TheVariants as purpose
use Rattle.ct_parser_state.specs.declared.frames.TagSort.{TagSort}
use Rattle.ct_parser_state.specs.declared.frames.TagSort.TheVariants as tag
use Rattle.ct_parser_state.specs.declared.frames.Frame.{Frame}
use Rattle.ct_parser_state.specs.declared.frames.Frame.TheVariants as f
use Rattle.ct_parser_state.specs.declared.frames.OperandFrame.{OperandFrame}
use Rattle.ct_parser_state.specs.declared.frames.OperandFrame.TheVariants as o
use Rattle.ct_parser_state.specs.declared.frames.ValueFrame.{ValueFrame}
use Rattle.ct_parser_state.specs.declared.frames.ValueFrame.TheVariants as v
use Rattle.ct_parser_state.specs.declared.frames.ClauseFrame.{ClauseFrame}
use Rattle.ct_parser_state.specs.declared.frames.ClauseFrame.TheVariants as c
use Rattle.ct_parser_state.specs.declared.frames.SpecsFrame.{SpecsFrame}
use Rattle.ct_parser_state.specs.declared.frames.SpecsFrame.TheVariants as s
use Rattle.ct_parser_state.specs.declared.frames.DeclaratorFrame.{DeclaratorFrame}
use Rattle.ct_parser_state.specs.declared.frames.DeclaratorFrame.TheVariants as d
use Rattle.ct_parser_state.specs.declared.frames.ListFrame.{ListFrame}
use Rattle.ct_parser_state.specs.declared.frames.ListFrame.TheVariants as l
use Rattle.ct_parser_state.specs.declared.frames.BodyFrame.{BodyFrame}
use Rattle.ct_parser_state.specs.declared.frames.BodyFrame.TheVariants as b
use Rattle.ct_parser_state.specs.declared.frames.StatementFrame.{StatementFrame}
use Rattle.ct_parser_state.specs.declared.frames.StatementFrame.TheVariants as t
use Rattle.ct_parser_state.specs.declared.frames.Aim.{Aim}
use Rattle.ct_parser_state.specs.declared.frames.Aim.TheVariants as aim
use Rattle.ct_parser_state.specs.declared.frames.Mode.{Mode}
use Rattle.ct_parser_state.specs.declared.frames.Mode.TheVariants as mode
use Rattle.ct_parser_state.specs.declared.frames.ValueMode.{ValueMode}
use Rattle.ct_parser_state.specs.declared.frames.ValueMode.TheVariants as vm
use Rattle.ct_parser_state.specs.declared.frames.SpecsMode.{SpecsMode}
use Rattle.ct_parser_state.specs.declared.frames.SpecsMode.TheVariants as sm
use Rattle.ct_parser_state.specs.declared.frames.DeclaratorMode.{DeclaratorMode}
use Rattle.ct_parser_state.specs.declared.frames.DeclaratorMode.TheVariants as dm
use Rattle.ct_parser_state.specs.declared.frames.InitMode.{InitMode}
use Rattle.ct_parser_state.specs.declared.frames.InitMode.TheVariants as im
use Rattle.ct_parser_state.specs.declared.frames.AssertMode.{AssertMode}
use Rattle.ct_parser_state.specs.declared.frames.AssertMode.TheVariants as am
use Rattle.ct_parser_state.specs.declared.frames.StatementMode.{StatementMode}
use Rattle.ct_parser_state.specs.declared.frames.StatementMode.TheVariants as tm
use Rattle.ct_parser_state.specs.declared.entries.Entry.{Entry}
use Rattle.ct_parser_state.specs.declared.entries.Entry.TheVariants as e
use Rattle.ct_parser_state.specs.declared.state.ParserState.{ParserState}
pub use Rattle.ct_parser_state.specs.Names.{outside}

abbrev pub PartStack : Type 0
PartStack = m.Stack Part

abbrev pub PartStep : Type 0
PartStep = Option (m.State Part)

-- ---- names in scope, the innermost first

abbrev pub scope_of : List Entry → Scope
scope_of [] = no_names
scope_of (e.Scope ∷ es) = scope_of es
scope_of (e.Name name is_type ∷ es) = with_name (scope_of es) name is_type

-- ---- productions that are open

abbrev pub kind_of : Purpose → m.Kind
kind_of purpose.Ordinary = m.Ordinary
kind_of purpose.Parameter = m.OfParameter
kind_of purpose.TypeName = m.OfType

abbrev pub which_of : TagSort → m.Which
which_of tag.Struct = m.AStruct
which_of tag.Enum = m.AnEnum

abbrev pub operand_frame : OperandFrame → m.Frame Part
operand_frame (o.Prefix at op) = m.InPrefix op
operand_frame (o.Unary at op) = m.InUnary op
operand_frame (o.Sizeof at) = m.InSizeof
operand_frame (o.Cast at type declarator) = m.InCast (specs_part type) (declarator_part declarator)
operand_frame (o.Infix op left) = m.InInfix op (expr_of left)
operand_frame (o.Else test first) = m.InElse (expr_of test) (expr_of first)
operand_frame (o.Assign op left) = m.InAssign op (expr_of left)
operand_frame (o.Comma left) = m.InComma (expr_of left)

abbrev pub value_frame : ValueFrame → m.Frame Part
value_frame (v.Paren at) = m.InParen
value_frame (v.Call function before) = m.InCall (expr_of function) (exprs_of before)
value_frame (v.Index array) = m.InIndex (expr_of array)
value_frame (v.Then test) = m.InThen (expr_of test)
value_frame (v.Enumerator at before tag enumerators place name) = m.InEnumerator (specs_part before) tag (enumerators_part enumerators) name
value_frame (v.Array purpose inner) = m.InArray (kind_of purpose) (declarator_part inner)
value_frame (v.Init type before declarator) = m.DeclInit (specs_part type) (init_declarators_part before) (declarator_part declarator)
value_frame (v.Item at items place aim) = m.InItem (initialisers_part items) (aimed_part aim)
value_frame (v.Place at items place) = m.InPlace (initialisers_part items)

-- with the names outside the innermost scope
abbrev pub clause_frame : List Entry → ClauseFrame → m.Frame Part
clause_frame os (c.Assert at) = m.InAssert
clause_frame os (c.Case at) = m.InCase
clause_frame os (c.Run at) = m.InRun
clause_frame os (c.Return at) = m.InReturn
clause_frame os (c.Test ladder before at) = m.InTest (branches_part before)
clause_frame os (c.LoopTest at) = m.InLoopTest
clause_frame os (c.DoTest at body) = m.InDoTest (statement_part body)
clause_frame os (c.SwitchTest at) = m.InSwitchTest
clause_frame os (c.ForInit at) = m.InForInit (scope_of os)
clause_frame os (c.ForCondition at start) = m.InForCondition (scope_of os) (for_start_part start)
clause_frame os (c.ForStep at start test) = m.InForStep (scope_of os) (for_start_part start) (option_map expr_of test)

abbrev pub specs_frame : List Entry → SpecsFrame → m.Frame Part
specs_frame os (s.Cast at) = m.CastSpecs (scope_of os)
specs_frame os (s.Sizeof at) = m.SizeofSpecs (scope_of os)
specs_frame os (s.Members at before tag members) = m.InMembers (specs_part before) tag (members_part members)
specs_frame os (s.Parameters purpose inner parameters) = m.InParameters (kind_of purpose) (scope_of os) (declarator_part inner) (parameters_part parameters)
specs_frame os s.Declaration = m.DeclSpecs

abbrev pub declarator_frame : List Entry → DeclaratorFrame → m.Frame Part
declarator_frame os (d.Cast at type) = m.CastDeclarator (scope_of os) (specs_part type)
declarator_frame os (d.Sizeof at type) = m.SizeofDeclarator (scope_of os) (specs_part type)
declarator_frame os (d.Member at before tag members type declarators) = m.InMember (specs_part before) tag (members_part members) (specs_part type) (declarators_part declarators)
declarator_frame os (d.Parameter purpose inner parameters type) = m.InParameter (kind_of purpose) (scope_of os) (declarator_part inner) (parameters_part parameters) (specs_part type)
declarator_frame os (d.Declaration first type before) = m.DeclDeclarator first (specs_part type) (init_declarators_part before)
declarator_frame os (d.Group at purpose) = m.InGroup (kind_of purpose)
declarator_frame os (d.Pointer at purpose qualifiers) = m.InPointer (kind_of purpose) qualifiers

abbrev pub list_frame : ListFrame → m.Frame Part
list_frame (l.Enumerators at before tag enumerators) = m.InEnumerators (specs_part before) tag (enumerators_part enumerators)
list_frame (l.Braces at items) = m.InBraces (initialisers_part items)

abbrev pub body_frame : List Entry → BodyFrame → m.Frame Part
body_frame os (b.Block at parts) = m.InBlock (scope_of os) (body_part parts)
body_frame os (b.Switch at value brace parts) = m.InSwitch (scope_of os) (expr_of value) (body_part parts)
body_frame os (b.Function type declarator brace parts) = m.InFunction (scope_of os) (specs_part type) (declarator_part declarator) (body_part parts)
body_frame os (b.Unit items) = m.InUnit (items_part items)

abbrev pub statement_frame : List Entry → StatementFrame → m.Frame Part
statement_frame os (t.Branch ladder before at test) = m.InBranch (branches_part before) (expr_of test)
statement_frame os (t.ElseBody at branches) = m.InElseBody (branches_part branches)
statement_frame os (t.While at test) = m.InWhile (expr_of test)
statement_frame os (t.Do at) = m.InDo
statement_frame os (t.For at start test after) = m.InFor (scope_of os) (for_start_part start) (option_map expr_of test) (option_map expr_of after)

abbrev pub frame_of : List Entry → Frame → m.Frame Part
frame_of os (f.Operand x) = operand_frame x
frame_of os (f.Value x) = value_frame x
frame_of os (f.Clause x) = clause_frame os x
frame_of os (f.Specs x) = specs_frame os x
frame_of os (f.Declarator x) = declarator_frame os x
frame_of os (f.List x) = list_frame x
frame_of os (f.Body x) = body_frame os x
frame_of os (f.Statement x) = statement_frame os x

-- A production in a scope of its own has round it the names outside that scope.
abbrev pub behind : List Entry → Frame → List Entry
behind os (f.Operand x) = os
behind os (f.Value x) = os
behind os (f.Clause (c.ForInit at)) = outside os
behind os (f.Clause (c.ForCondition at start)) = outside os
behind os (f.Clause (c.ForStep at start test)) = outside os
behind os (f.Clause x) = os
behind os (f.Specs (s.Cast at)) = outside os
behind os (f.Specs (s.Sizeof at)) = outside os
behind os (f.Specs (s.Parameters purpose inner parameters)) = outside os
behind os (f.Specs x) = os
behind os (f.Declarator (d.Cast at type)) = outside os
behind os (f.Declarator (d.Sizeof at type)) = outside os
behind os (f.Declarator (d.Parameter purpose inner parameters type)) = outside os
behind os (f.Declarator x) = os
behind os (f.List x) = os
behind os (f.Body (b.Unit items)) = os
behind os (f.Body x) = outside os
behind os (f.Statement (t.For at start test after)) = outside os
behind os (f.Statement x) = os

-- with the names outside the innermost scope, and the productions, the innermost first
abbrev pub stack_of : List Entry → List Frame → PartStack
stack_of os [] = []
stack_of os (x ∷ xs) = frame_of os x ∷ stack_of (behind os x) xs

-- ---- what the code holds

abbrev pub entries : ParserState → List Entry
entries x = x.names

abbrev pub frames : ParserState → List Frame
frames x = reverse x.frames.items

abbrev pub scope : ParserState → Scope
scope x = scope_of (entries x)

abbrev pub stack : ParserState → PartStack
stack x = stack_of (outside (entries x)) (frames x)

-- the stack with a production that was taken off it
abbrev pub under : ParserState → Frame → PartStack
under x top = stack_of (outside (entries x)) (top ∷ frames x)

-- ---- what comes next

abbrev pub aim_of : Aim → m.Aim Part
aim_of (aim.Test ladder before at) = m.ToTest (branches_part before)
aim_of (aim.Loop at) = m.ToLoop
aim_of (aim.Do at body) = m.ToDo (statement_part body)
aim_of (aim.Switch at) = m.ToSwitch
aim_of (aim.Assert at) = m.ToAssert

abbrev pub value_mode : ValueMode → m.Mode Part
value_mode vm.Want = m.Want
value_mode (vm.Have x) = m.Have (expr_of x)
value_mode (vm.Texts at first others) = m.Texts first others
value_mode (vm.First function) = m.First (expr_of function)
value_mode (vm.Dotted whole op) = m.Dotted (expr_of whole) op

abbrev pub specs_mode : SpecsMode → m.Mode Part
specs_mode (sm.Next before) = m.Specs (specs_part before)
specs_mode (sm.Tagging sort at before) = m.Tagging (which_of sort) (specs_part before)
specs_mode (sm.Tagged sort at before tag) = m.Tagged (which_of sort) (specs_part before) tag
specs_mode sm.FirstMember = m.Specs parts_built.no_specs
specs_mode sm.NextMember = m.NextMember
specs_mode sm.FirstEnumerator = m.FirstEnumerator
specs_mode sm.NextEnumerator = m.NextEnumerator
specs_mode (sm.Enumerated at name) = m.Enumerated name

abbrev pub declarator_mode : DeclaratorMode → m.Mode Part
declarator_mode (dm.Want purpose) = m.WantDeclarator (kind_of purpose)
declarator_mode (dm.Qualifying at purpose before) = m.Qualifying (kind_of purpose) before
declarator_mode (dm.Opened at purpose) = m.Opened (kind_of purpose)
declarator_mode (dm.Have purpose inner) = m.HaveDeclarator (kind_of purpose) (declarator_part inner)
declarator_mode (dm.Sizing purpose inner) = m.Sizing (kind_of purpose) (declarator_part inner)
declarator_mode (dm.Listing purpose inner) = m.Listing (kind_of purpose) (declarator_part inner)
declarator_mode dm.NextParameter = m.NextParameter
declarator_mode dm.AfterEllipsis = m.AfterEllipsis

abbrev pub init_mode : InitMode → m.Mode Part
init_mode im.Want = m.WantInit
init_mode (im.Have x) = m.HaveInit (initialiser_part x)
init_mode im.FirstItem = m.FirstItem
init_mode im.NextItem = m.NextItem
init_mode (im.Pointed at) = m.Pointed
init_mode (im.Placed at aim) = m.Placed (aimed_part aim)

abbrev pub assert_mode : AssertMode → m.Mode Part
assert_mode (am.Text at condition) = m.AssertText (expr_of condition)
assert_mode (am.Close at condition text) = m.AssertClose (expr_of condition) text
assert_mode (am.End at condition text) = m.AssertEnd (expr_of condition) text

abbrev pub statement_mode : StatementMode → m.Mode Part
statement_mode (tm.Opening x) = m.Opening (aim_of x)
statement_mode tm.Begin = m.Begin
statement_mode (tm.Done x) = m.Done (statement_part x)
statement_mode (tm.Ending x) = m.Ending (statement_part x)
statement_mode (tm.AfterElse at branches) = m.AfterElse (branches_part branches)
statement_mode (tm.Returning at) = m.Returning
statement_mode (tm.Switching at value) = m.Switching (expr_of value)
statement_mode (tm.DefaultColon at) = m.DefaultColon
statement_mode (tm.OpenFor at) = m.OpenFor
statement_mode tm.ForInit = m.ForInit
statement_mode tm.ForCondition = m.ForCondition
statement_mode tm.ForStep = m.ForStep

abbrev pub mode_of : Mode → m.Mode Part
mode_of (mode.Value x) = value_mode x
mode_of (mode.Specs x) = specs_mode x
mode_of (mode.Declarator x) = declarator_mode x
mode_of (mode.Init x) = init_mode x
mode_of (mode.Assert x) = assert_mode x
mode_of (mode.Statement x) = statement_mode x

-- what a step came to
abbrev pub Stepped : ParserState → Option Mode → PartStep → Type 0
Stepped x None r = r ≡ None
Stepped x (Some next) r = r ≡ Some (scope x, stack x, mode_of next)

-- whether the end of its last part ends a statement, an `else` behind it too
abbrev pub is_passed : StatementFrame → Bool
is_passed (t.ElseBody at branches) = true
is_passed (t.While at test) = true
is_passed (t.For at start test after) = true
is_passed _ = false
