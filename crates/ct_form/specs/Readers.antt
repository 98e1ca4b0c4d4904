-- What the functions that read statements, functions and files answer.
use Rattle.std.specs.Prelude.{◌≡◌, ℕ, ◌-◌, ◌<◌, Bool, false, IsTrue, List, [], ◌∷◌, ◌++◌, length, Option, Result, Ok, Err, codes}
use Rattle.std.specs.Borrow.{Bor}
use Rattle.std.specs.List.{list_any}
use Rattle.ct_base.specs.declared.lexical.Token.{Token}
use Rattle.ct_core.specs.declared.trees.CoreExpression.{CoreExpression}
use Rattle.ct_core.specs.declared.trees.CoreStatement.{CoreStatement}
use Rattle.ct_core.specs.declared.trees.CoreStatement.TheVariants.{Block, Declare}
use Rattle.ct_core.specs.declared.units.CoreFunction.{CoreFunction}
use Rattle.ct_core.specs.declared.units.Linkage.{Linkage}
use Rattle.ct_form.specs.declared.functions.Heading.{Heading}
use Rattle.ct_form.specs.declared.names.Binding.{Binding}
use Rattle.ct_form.specs.declared.names.Signature.{Signature}
use Rattle.ct_form.specs.declared.places.Place.{Place}
use Rattle.ct_form.specs.declared.statements.Context.{Context}
use Rattle.ct_form.specs.declared.statements.Inside.{Inside}
use Rattle.ct_form.specs.declared.words.NoMatch.{NoMatch}
use Rattle.ct_form.specs.Answers.{Answers}
use Rattle.ct_form.specs.Expressions.{int}
use Rattle.ct_form.specs.Form.{Before, Reads, StandsFunction, StandsInclude, start}
use Rattle.ct_form.specs.Functions.{IsFunction, IsLinkage, IsResult, is_allowed, signature_of}
use Rattle.ct_form.specs.Names.{is_declared, is_signed, type_of}
use Rattle.ct_form.specs.Statements.{At, IsStart, IsStatement, IsBody, mark, begun, moved, declared, binding, nested, most_variables}
use Rattle.ct_form.specs.Words.{Stands, StandsName}

abbrev pub at_of : Place → At
at_of place = record { tokens = place.tokens.now; serial = place.serial; variables = place.variables }

abbrev pub AnswersStatement : Context → ℕ → List Binding → At → Result (CoreStatement × Place) NoMatch → Type 0
AnswersStatement context room scope at result =
    Answers {C = CoreStatement} {R = At} (λ found. found.0) (λ found. at_of found.1)
    (IsStatement context.functions.now context.unity context.gives_value room scope at) result

abbrev pub AnswersBody : Context → ℕ → List Binding → List Binding → At → Result (Inside × Place) NoMatch → Type 0
AnswersBody context room scope own at result =
    Answers {C = List ℕ × List CoreStatement} {R = At} (λ found. (found.0.numbers, found.0.parts)) (λ found. at_of found.1)
    (λ what. IsBody context.functions.now context.unity context.gives_value room scope own at what.0 what.1) result

-- A declaration stands behind its `int`, and declares this name.
pub record IsDeclaration (signatures : List Signature) (scope own : List Binding) (at : At) (behind : List Token)
    (core : CoreStatement) (name : Token) (after : At) : Type 0 where
  pub middle : List Token
  pub ending : List Token
  pub rest : List Token
  pub start : Option CoreExpression
  pub is_name : StandsName behind name middle
  pub is_new : is_declared own name.text ≡ false
  pub room : length at.variables < most_variables
  pub is_start : IsStart signatures (scope ++ own ++ binding at name ∷ []) middle start ending
  pub closed : Stands (codes ";") ending rest
  pub core_is : core ≡ Declare (mark at) (length at.variables) int start
  pub after_is : after ≡ declared (begun at rest) name

-- The core tree of a declaration, and the scope behind it.
abbrev pub AnswersDeclaration : Context → List Binding → List Binding → At → List Token → List Binding → Result (ℕ × CoreStatement × Place) NoMatch → Type 0
AnswersDeclaration context scope own at behind new result =
    Answers {C = CoreStatement × List Binding} {R = At} (λ found. (found.1, new)) (λ found. at_of found.2)
    (λ what after. (name : Token) × IsDeclaration context.functions.now scope own at behind what.0 name after
    × (what.1 ≡ scope ++ own ++ binding at name ∷ [])) result

-- The words of a function up to the opening parenthesis of its parameters.
pub record IsHeading (tokens : List Token) (linkage : Linkage) (gives_value : Bool) (name : Token) (rest : List Token) : Type 0 where
  pub kind_at : List Token
  pub name_at : List Token
  pub open_at : List Token
  pub is_linkage : IsLinkage tokens linkage kind_at
  pub is_result : IsResult kind_at gives_value name_at
  pub is_name : StandsName name_at name open_at
  pub opened : Stands (codes "(") open_at rest

-- One parameter stands at a place, behind these declarations: the declarations with it, and the place behind its name.
pub record IsParameter (own : List Binding) (at : At) (with_it : List Binding) (after : At) : Type 0 where
  pub behind : List Token
  pub name : Token
  pub middle : List Token
  pub is_int : Stands (codes "int") at.tokens behind
  pub is_name : StandsName behind name middle
  pub is_new : is_declared own name.text ≡ false
  pub room : length at.variables < most_variables
  pub with_it_is : with_it ≡ own ++ binding at name ∷ []
  pub after_is : after ≡ declared (moved at middle) name

-- What stands behind the parameters of a function, whose heading and parameters these are.
pub record IsDefinition (signatures : List Signature) (unity : Bool) (linkage : Linkage) (gives_value : Bool) (name : Token)
    (own : List Binding) (heading : At) (function : CoreFunction) (next : ℕ) (rest : List Token) : Type 0 where
  pub is_new : list_any (is_signed name.text) signatures ≡ false
  pub allowed : IsTrue (is_allowed (signature_of name gives_value own))
  pub inside : List Token
  pub braced : Stands (codes "{") heading.tokens inside
  pub numbers : List ℕ
  pub parts : List CoreStatement
  pub ending : At
  pub body : IsBody (signatures ++ signature_of name gives_value own ∷ []) unity gives_value (nested - 1) [] own (begun heading inside) numbers parts ending
  pub function_is : function ≡ record {
    name = name.text;
    kind = type_of (signature_of name gives_value own);
    linkage = linkage;
    span = name.span;
    parameters = length own;
    variables = ending.variables;
    body = Block (mark heading) numbers parts;
  }
  pub next_is : next ≡ ending.serial
  pub rest_is : rest ≡ ending.tokens

-- The function, the signatures with its own, and how many statements and declarations began up to its end.
abbrev pub AnswersDefinition : List Signature → Bool → Heading → List Binding → At → List Signature → Result (CoreFunction × ℕ × Bor (List Token)) NoMatch → Type 0
AnswersDefinition signatures unity heading own at new result =
    Answers {C = CoreFunction × List Signature × ℕ} {R = List Token} (λ found. (found.0, new, found.1)) (λ found. found.2.now)
    (λ what rest. IsDefinition signatures unity heading.linkage heading.gives_value heading.name.now own at what.0 what.2 rest
    × (what.1 ≡ signatures ++ signature_of heading.name.now heading.gives_value own ∷ [])) result

abbrev pub AnswersFunction : List Signature → Bool → ℕ → List Token → List Signature → Result (CoreFunction × ℕ × Bor (List Token)) NoMatch → Type 0
AnswersFunction signatures unity serial tokens new result =
    Answers {C = CoreFunction × List Signature × ℕ} {R = List Token} (λ found. (found.0, new, found.1)) (λ found. found.2.now)
    (λ what rest. (signature : Signature) × IsFunction signatures unity serial tokens what.0 signature what.2 rest
    × (what.1 ≡ signatures ++ signature ∷ [])) result

-- neither an include nor a function stands there
pub record HasNoItem (before : Before) (tokens : List Token) : Type 0 where
  pub no_include : (rest : List Token) → StandsInclude before.is_first tokens rest → ⊥
  pub no_function : (function : CoreFunction) (signature : Signature) (next : ℕ) (rest : List Token)
      → StandsFunction before tokens function signature next rest → ⊥

-- these functions before those that follow
abbrev pub led_by_all : List CoreFunction → Result (List CoreFunction) Token → Result (List CoreFunction) Token
led_by_all functions (Ok more) = Ok (functions ++ more)
led_by_all functions (Err token) = Err token

-- A file is read up to a place: it has these functions, and then what the rest has.
abbrev pub ReadsUpTo : List Token → List CoreFunction → Before → List Token → Type 0
ReadsUpTo tokens functions before rest =
    (outcome : Result (List CoreFunction) Token) → Reads before rest outcome → Reads start tokens (led_by_all functions outcome)
