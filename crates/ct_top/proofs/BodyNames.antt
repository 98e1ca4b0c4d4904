-- The functions that the bodies of the form name: those that a test file may declare, and the assertion.
use Rattle.std.proofs.Common.{◌≡◌, ℕ, Bool, true, List, [], ◌∷◌, map, Option, Some, None, pos, refl, sym, ap, ◌∙◌}
use Rattle.std.specs.Prelude.{◌&&◌, codes, option_map}
use Rattle.std.specs.List.{list_all}
use Rattle.std.proofs.lemmas.Bool.{and_from}
use Rattle.ct_base.specs.declared.lexical.Token.{Token}
use Rattle.ct_base.specs.declared.operators.BinaryOp.{BinaryOp}
use Rattle.ct_base.specs.declared.operators.BinaryOp.TheVariants.{Less}
use Rattle.ct_ctype.specs.declared.kinds.IntKind.{IntKind}
use Rattle.ct_ctype.specs.declared.kinds.IntKind.TheVariants.{UnsignedInt, Int, LongLong}
use Rattle.ct_core.specs.declared.trees.Mark.{Mark}
use Rattle.ct_core.specs.declared.trees.CoreExpression.{CoreExpression}
use Rattle.ct_core.specs.declared.trees.CoreExpression.TheVariants.{Constant, Variable, Function, Assign, Convert, Binary, Call}
use Rattle.ct_core.specs.declared.trees.CoreStatement.{CoreStatement}
use Rattle.ct_core.specs.declared.trees.CoreStatement.TheVariants.{Declare}
use Rattle.ct_form.specs.declared.names.Binding.{Binding}
use Rattle.ct_form.specs.declared.names.Signature.{Signature}
use Rattle.ct_form.specs.Names.{assertion_type, type_of}
use Rattle.ct_form.specs.Expressions.{IsExpression, IsSum, IsSumOf, IsUnit, IsCall, IsArguments, IsList, sum, less, units, whole, further, number, variable, call, group, named, none, some, last, more, int, value_of}
use Rattle.ct_form.specs.Statements as form
use Rattle.ct_form.specs.Statements.{At, IsStart, IsStatement, IsBody, assertion_core}
use Rattle.ct_phases.specs.Linked.{is_ordinary}
use Rattle.ct_meaning_laws.specs.Names.{expression_names, statement_names, all_of}
use Rattle.ct_meaning_laws.proofs.NameLaws as laws
use Rattle.ct_top.proofs.FreeNames.{free_parts}

abbrev pub Ordinary : CoreExpression → Type 0
Ordinary e = expression_names is_ordinary e ≡ true

abbrev pub AllOrdinary : List CoreExpression → Type 0
AllOrdinary es = list_all (λ b. b) (map (expression_names is_ordinary) es) ≡ true

binary_ordinary : (op : BinaryOp) (k : IntKind) (a b : CoreExpression) → Ordinary a → Ordinary b → Ordinary (Binary op k a b)
binary_ordinary op k a b p q = laws.binary_names is_ordinary op k a b ∙ and_from _ _ p q

not_of_false : (b : Bool) → b ≡ Rattle.std.proofs.Common.false → Rattle.std.specs.Prelude.not b ≡ true
not_of_false b e = ap Rattle.std.specs.Prelude.not e

module _ (signatures : List Signature) (scope : List Binding) where
  mutual
    pub expression_ordinary : {room : ℕ} {tokens rest : List Token} {core : CoreExpression} → IsExpression signatures scope room tokens core rest → Ordinary core
    expression_ordinary (sum s a) = sum_ordinary s
    expression_ordinary (less {left = left} {right = right} s w t) = binary_ordinary Less Int left right (sum_ordinary s) (sum_ordinary t)

    sum_ordinary : {room : ℕ} {tokens rest : List Token} {core : CoreExpression} → IsSum signatures scope room tokens core rest → Ordinary core
    sum_ordinary (units u f) = sum_of_ordinary (unit_ordinary u) f

    sum_of_ordinary : {room : ℕ} {tokens rest : List Token} {sofar core : CoreExpression} → Ordinary sofar → IsSumOf signatures scope room sofar tokens core rest → Ordinary core
    sum_of_ordinary p (whole n) = p
    sum_of_ordinary {sofar = sofar} p (further {op = op} {right = right} w u f) = sum_of_ordinary (binary_ordinary op Int sofar right p (unit_ordinary u)) f

    unit_ordinary : {room : ℕ} {tokens rest : List Token} {core : CoreExpression} → IsUnit signatures scope room tokens core rest → Ordinary core
    unit_ordinary (number {value = value} w) = laws.constant_names is_ordinary Int (pos value)
    unit_ordinary (variable {place = place} v a k) = laws.load_names is_ordinary int (Variable place) ∙ laws.variable_names is_ordinary place
    unit_ordinary (call c g) = call_ordinary c
    unit_ordinary (group w l e z) = expression_ordinary e

    pub call_ordinary : {room : ℕ} {tokens rest : List Token} {signature : Signature} {core : CoreExpression} → IsCall signatures scope room tokens signature core rest → Ordinary core
    call_ordinary (named {name = name} {signature = signature} {arguments = arguments} v w k l a h) =
        laws.call_names is_ordinary (type_of signature) (Function name.text) arguments
        ∙ and_from _ _ (laws.function_names is_ordinary name.text ∙ not_of_false _ (free_parts name.text v.free).2) (arguments_ordinary a)

    arguments_ordinary : {room : ℕ} {tokens rest : List Token} {cores : List CoreExpression} → IsArguments signatures scope room tokens cores rest → AllOrdinary cores
    arguments_ordinary (none w) = refl
    arguments_ordinary (some a l) = list_ordinary l

    list_ordinary : {room : ℕ} {tokens rest : List Token} {cores : List CoreExpression} → IsList signatures scope room tokens cores rest → AllOrdinary cores
    list_ordinary (last e w) = and_from _ _ (expression_ordinary e) refl
    list_ordinary (more e w l) = and_from _ _ (expression_ordinary e) (list_ordinary l)

  start_ordinary : {tokens rest : List Token} {core : Option CoreExpression} → IsStart signatures scope tokens core rest → all_of (option_map (expression_names is_ordinary) core) ≡ true
  start_ordinary (form.absent a) = refl
  start_ordinary (form.present w e) = expression_ordinary e

assertion_ordinary : (mark : Mark) (expected actual : CoreExpression) → Ordinary expected → Ordinary actual → Ordinary (assertion_core mark expected actual)
assertion_ordinary mark expected actual p q =
    laws.call_names is_ordinary assertion_type (Function (codes "ceedling_assert_TEST_ASSERT_EQUAL_INT")) _
    ∙ and_from _ _ (laws.function_names is_ordinary (codes "ceedling_assert_TEST_ASSERT_EQUAL_INT"))
    (and_from _ _ (laws.constant_names is_ordinary UnsignedInt (pos mark.span.line))
    (and_from _ _ (laws.convert_names is_ordinary LongLong expected ∙ p) (and_from _ _ (laws.convert_names is_ordinary LongLong actual ∙ q) refl)))

abbrev pub OrdinaryPart : CoreStatement → Type 0
OrdinaryPart b = statement_names is_ordinary b ≡ true

abbrev pub AllOrdinaryParts : List CoreStatement → Type 0
AllOrdinaryParts all = list_all (λ b. b) (map (statement_names is_ordinary) all) ≡ true

module _ (signatures : List Signature) (unity gives_value : Bool) where
  mutual
    statement_ordinary : {room : ℕ} {scope : List Binding} {at after : At} {core : CoreStatement} → IsStatement signatures unity gives_value room scope at core after → OrdinaryPart core
    statement_ordinary {at = at} (form.block {numbers = numbers} {parts = parts} w l b) = laws.block_names is_ordinary (form.mark at) numbers parts ∙ body_ordinary b
    statement_ordinary {scope = scope} {at = at} (form.assignment {number = place} {core = core} v w k e z) =
        laws.run_names is_ordinary (form.mark at) (Assign int (Variable place) core)
        ∙ laws.assign_names is_ordinary int (Variable place) core
        ∙ and_from _ _ (laws.variable_names is_ordinary place) (expression_ordinary signatures scope e)
    statement_ordinary {scope = scope} {at = at} (form.call {core = core} c z) = laws.run_names is_ordinary (form.mark at) core ∙ call_ordinary signatures scope c
    statement_ordinary {scope = scope} {at = at} (form.only {test = test} {yes = first} w l t s a) =
        laws.if_names is_ordinary (form.mark at) test first None ∙ and_from _ _ (expression_ordinary signatures scope t.test) (and_from _ _ (statement_ordinary s) refl)
    statement_ordinary {scope = scope} {at = at} (form.either {test = test} {yes = first} {no = second} w l t s o n) =
        laws.if_names is_ordinary (form.mark at) test first (Some second)
        ∙ and_from _ _ (expression_ordinary signatures scope t.test) (and_from _ _ (statement_ordinary s) (statement_ordinary n))
    statement_ordinary {scope = scope} {at = at} (form.while {test = test} {turn = turn} w l t s) =
        laws.while_names is_ordinary (form.mark at) test turn ∙ and_from _ _ (expression_ordinary signatures scope t.test) (statement_ordinary s)
    statement_ordinary {scope = scope} {at = at} (form.returned {core = core} w g e z) =
        laws.return_names is_ordinary (form.mark at) (Some core) ∙ expression_ordinary signatures scope e
    statement_ordinary {scope = scope} {at = at} (form.assertion {expected = expected} {actual = actual} w u p z) =
        laws.run_names is_ordinary (form.mark at) (assertion_core (form.mark at) expected actual)
        ∙ assertion_ordinary (form.mark at) expected actual (expression_ordinary signatures scope p.one) (expression_ordinary signatures scope p.other)

    pub body_ordinary : {room : ℕ} {scope own : List Binding} {at after : At} {numbers : List ℕ} {parts : List CoreStatement}
        → IsBody signatures unity gives_value room scope own at numbers parts after → AllOrdinaryParts parts
    body_ordinary (form.close w) = refl
    body_ordinary {at = at} (form.declaration {start = start} w v d l s z b) =
        and_from _ _ (laws.declare_names is_ordinary (form.mark at) _ int start ∙ start_ordinary signatures _ s) (body_ordinary b)
    body_ordinary (form.statement a i s b) = and_from _ _ (statement_ordinary s) (body_ordinary b)
