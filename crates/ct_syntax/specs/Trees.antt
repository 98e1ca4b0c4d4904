-- Syntax trees without their places. Each constructor is a production of the grammar; a list of parts is a
-- type of its own, and so is a part that may be absent.
use Rattle.std.specs.Prelude.{Bool, List, Option}
use Rattle.ct_syntax.specs.declared.words.StepOp.{StepOp}
use Rattle.ct_syntax.specs.declared.words.PrefixOp.{PrefixOp}
use Rattle.ct_syntax.specs.declared.words.InfixOp.{InfixOp}
use Rattle.ct_syntax.specs.declared.words.AssignOp.{AssignOp}
use Rattle.ct_syntax.specs.declared.words.MemberOp.{MemberOp}
use Rattle.ct_syntax.specs.declared.words.Qualifier.{Qualifier}
use Rattle.ct_syntax.specs.declared.words.SpecWord.{SpecWord}
use Rattle.ct_syntax.specs.declared.expressions.ParameterForm.{ParameterForm}
use Rattle.ct_syntax.specs.Words.{Text}

mutual
  pub data Expression : Type 0 where
    Name : (text : Text) → Expression
    Number : (text : Text) → Expression
    Character : (text : Text) → Expression
    -- string literals, one behind the other
    Strings : (first : Text) → (others : List Text) → Expression
    Paren : (inner : Expression) → Expression
    Index : (array : Expression) → (place : Expression) → Expression
    Call : (function : Expression) → (arguments : Expressions) → Expression
    Member : (whole : Expression) → (op : MemberOp) → (name : Text) → Expression
    Postfix : (operand : Expression) → (op : StepOp) → Expression
    Prefix : (op : StepOp) → (operand : Expression) → Expression
    Unary : (op : PrefixOp) → (operand : Expression) → Expression
    SizeofValue : (operand : Expression) → Expression
    -- a type name: its specifiers and its declarator
    SizeofType : (specs : Specs) → (declarator : Declarator) → Expression
    Cast : (specs : Specs) → (declarator : Declarator) → (operand : Expression) → Expression
    Infix : (op : InfixOp) → (left : Expression) → (right : Expression) → Expression
    Conditional : (test : Expression) → (yes : Expression) → (no : Expression) → Expression
    Assign : (op : AssignOp) → (left : Expression) → (right : Expression) → Expression
    Comma : (left : Expression) → (right : Expression) → Expression

  pub data Expressions : Type 0 where
    no_expression : Expressions
    expression : (first : Expression) → (rest : Expressions) → Expressions

  pub data Optional : Type 0 where
    absent : Optional
    present : (value : Expression) → Optional

  -- declaration specifiers, the first one and the others
  pub data Specs : Type 0 where
    no_spec : Specs
    spec_word : (word : SpecWord) → (rest : Specs) → Specs
    typedef_name : (name : Text) → (rest : Specs) → Specs
    struct_tag : (tag : Text) → (rest : Specs) → Specs
    struct_list : (tag : Option Text) → (members : Members) → (rest : Specs) → Specs
    enum_tag : (tag : Text) → (rest : Specs) → Specs
    -- whether a comma stands behind the last enumerator
    enum_list : (tag : Option Text) → (enumerators : Enumerators) → (comma : Bool) → (rest : Specs) → Specs

  pub data Members : Type 0 where
    no_member : Members
    member : (specs : Specs) → (declarators : Declarators) → (rest : Members) → Members

  pub data Enumerators : Type 0 where
    no_enumerator : Enumerators
    enumerator : (name : Text) → (value : Optional) → (rest : Enumerators) → Enumerators

  pub data Declarators : Type 0 where
    no_declarator : Declarators
    declarator : (first : Declarator) → (rest : Declarators) → Declarators

  pub data Declarator : Type 0 where
    -- an abstract declarator has nothing in the place of the name
    Nameless : Declarator
    Called : (name : Text) → Declarator
    Group : (inner : Declarator) → Declarator
    Pointer : (qualifiers : List Qualifier) → (inner : Declarator) → Declarator
    Array : (inner : Declarator) → (size : Optional) → Declarator
    Function : (inner : Declarator) → (form : ParameterForm) → (parameters : Parameters) → Declarator

  pub data Parameters : Type 0 where
    no_parameter : Parameters
    parameter : (specs : Specs) → (declarator : Declarator) → (rest : Parameters) → Parameters

-- what an initialiser in braces is for
pub data Designator : Type 0 where
  Next : Designator
  OfMember : (name : Text) → Designator
  OfIndex : (place : Expression) → Designator

mutual
  pub data Initialiser : Type 0 where
    Value : (value : Expression) → Initialiser
    -- whether a comma stands behind the last item
    Braces : (items : InitialiserItems) → (comma : Bool) → Initialiser

  pub data InitialiserItems : Type 0 where
    no_item : InitialiserItems
    item : (designator : Designator) → (value : Initialiser) → (rest : InitialiserItems) → InitialiserItems

-- a declarator and its initialiser
pub record InitDeclarator : Type 0 where
  pub declarator : Declarator
  pub start : Option Initialiser

pub data Declaration : Type 0 where
  Declare : (specs : Specs) → (declarators : List InitDeclarator) → Declaration
  Assert : (condition : Expression) → (text : Text) → Declaration

-- what stands before the first `;` of a `for`
pub data ForStart : Type 0 where
  StartDeclaration : (declaration : Declaration) → ForStart
  StartValue : (value : Option Expression) → ForStart

mutual
  pub data Statement : Type 0 where
    Block : (body : Body) → Statement
    Run : (value : Option Expression) → Statement
    If : (branches : Branches) → (other : Other) → Statement
    While : (test : Expression) → (body : Statement) → Statement
    Do : (body : Statement) → (test : Expression) → Statement
    For : (start : ForStart) → (test : Option Expression) → (after : Option Expression) → (body : Statement) → Statement
    Switch : (value : Expression) → (body : Body) → Statement
    Break : Statement
    Continue : Statement
    Return : (value : Option Expression) → Statement

  -- the tests of an `if` and its `else if`, with what is done
  pub data Branches : Type 0 where
    no_branch : Branches
    branch : (test : Expression) → (body : Statement) → (rest : Branches) → Branches

  -- what stands behind a last `else`
  pub data Other : Type 0 where
    no_else : Other
    else_do : (body : Statement) → Other

  -- what stands in braces, part by part
  pub data Body : Type 0 where
    no_part : Body
    case_label : (value : Expression) → (rest : Body) → Body
    default_label : (rest : Body) → Body
    declared : (declaration : Declaration) → (rest : Body) → Body
    stated : (statement : Statement) → (rest : Body) → Body

pub data Item : Type 0 where
  Definition : (specs : Specs) → (declarator : Declarator) → (body : Body) → Item
  Outside : (declaration : Declaration) → Item
  Lone : Item
