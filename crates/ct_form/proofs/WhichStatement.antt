-- Which statement stands at a place, or that none does, by what was read of it.
use Rattle.std.proofs.Common.{◌≡◌, ℕ, ◌-◌, ◌<◌, Bool, List, [], ◌++◌, refl, sym, ap, ◌∙◌}
use Rattle.std.specs.Prelude.{Option, Some, None, IsTrue, Result, codes}
use Rattle.std.specs.Result.{IsErrAnd}
use Rattle.ct_base.specs.declared.lexical.Token.{Token}
use Rattle.ct_core.specs.declared.trees.CoreExpression.{CoreExpression}
use Rattle.ct_core.specs.declared.trees.CoreExpression.TheVariants.{Variable, Assign}
use Rattle.ct_core.specs.declared.trees.CoreStatement.{CoreStatement}
use Rattle.ct_core.specs.declared.trees.CoreStatement.TheVariants.{Run, Block, If, While, Return}
use Rattle.ct_core.specs.declared.trees.Mark.{Mark}
use Rattle.ct_form.specs.declared.names.Binding.{Binding}
use Rattle.ct_form.specs.declared.names.Signature.{Signature}
use Rattle.ct_form.specs.declared.places.Place.{Place}
use Rattle.ct_form.specs.declared.statements.Context.{Context}
use Rattle.ct_form.specs.declared.words.NoMatch.{NoMatch}
use Rattle.ct_form.specs.Words.{Nothing, Stands, Absent, StandsName}
use Rattle.ct_form.specs.Names.{variable_number}
use Rattle.ct_form.specs.Expressions.{IsExpression, IsCall, int}
use Rattle.ct_form.specs.Readers.{AnswersStatement, at_of}
use Rattle.ct_form.specs.Statements.{At, IsStatement, IsBody, IsTest, IsPair, block, assignment, call, only, either, while, returned, assertion, mark, begun, moved, parentheses, assertion_core}
use Rattle.ct_form.proofs.Misses.{missed, handed_on}
use Rattle.ct_form.proofs.OneExpression.{one_expression, one_call, some_of, Stands-at}
use Rattle.ct_form.proofs.OneStatement.{IsStatement-at, one_test, one_pair, one_statement}
use Rattle.ct_form.proofs.StatementParts.{block_parts, choice_parts, turn_parts, return_parts, assertion_parts, assignment_parts, call_parts}

none_or_some : {A : Type 0} {x : A} → None ≡ Some x → ⊥
none_or_some e = cc

-- where no statement stands, a reader that missed has answered
pub statement_missed : (context : Context) (room : ℕ) (scope : List Binding) (at : At) (result : Result (CoreStatement × Place) NoMatch) (miss : NoMatch)
    → IsErrAnd result (λ m. m ≡ miss) → Nothing (IsStatement context.functions.now context.unity context.gives_value room scope at)
    → AnswersStatement context room scope at result
statement_missed context room scope at result miss e n =
    missed (λ (found : CoreStatement × Place). found.0) (λ found. at_of found.1)
    (IsStatement context.functions.now context.unity context.gives_value room scope at) result miss e n

module _ (signatures : List Signature) (unity gives_value : Bool) where
  IsBody-of : {room : ℕ} {scope scope' own own' : List Binding} {at at' after : At} {n : List ℕ} {c : List CoreStatement}
      → scope ≡ scope' → own ≡ own' → at ≡ at'
      → IsBody signatures unity gives_value room scope' own' at' n c after → IsBody signatures unity gives_value room scope own at n c after
  IsBody-of s q p h = rw (s, q, p) h

  IsTest-of : {scope scope' : List Binding} {t r : List Token} {core : CoreExpression}
      → scope ≡ scope' → IsTest signatures scope' t core r → IsTest signatures scope t core r
  IsTest-of p h = rw p h

  IsStatement-of : {room : ℕ} {scope scope' : List Binding} {at at' after : At} {c : CoreStatement}
      → scope ≡ scope' → at ≡ at' → IsStatement signatures unity gives_value room scope' at' c after → IsStatement signatures unity gives_value room scope at c after
  IsStatement-of p q h = rw (p, q) h

  -- a block
  pub is_block : {room : ℕ} {scope base own : List Binding} {at at' after : At} {inside : List Token} {m : Mark} {numbers : List ℕ} {parts : List CoreStatement}
      → Stands (codes "{") at.tokens inside → 0 < room → m ≡ mark at → base ≡ scope → own ≡ [] → at' ≡ begun at inside
      → IsBody signatures unity gives_value (room - 1) base own at' numbers parts after
      → IsStatement signatures unity gives_value room scope at (Block m numbers parts) after
  is_block w p e b o f h = rw e (block w p (IsBody-of (sym b) (sym o) (sym f) h))

  pub no_block_room : {room : ℕ} {scope : List Binding} {at : At} {inside : List Token}
      → Stands (codes "{") at.tokens inside → (0 < room → ⊥) → Nothing (IsStatement signatures unity gives_value room scope at)
  no_block_room w n core after s = n (block_parts signatures unity gives_value w s).has_room

  pub no_block_body : {room : ℕ} {scope base own : List Binding} {at at' : At} {inside : List Token}
      → Stands (codes "{") at.tokens inside → base ≡ scope → own ≡ [] → at' ≡ begun at inside
      → Nothing {C = List ℕ × List CoreStatement} {R = At} (λ what. IsBody signatures unity gives_value (room - 1) base own at' what.0 what.1)
      → Nothing (IsStatement signatures unity gives_value room scope at)
  no_block_body w b o f n core after s =
      let p = block_parts signatures unity gives_value w s in
      n (p.numbers, p.parts) after (IsBody-of b o f p.body)

  -- an `if`
  pub is_only : {room : ℕ} {scope seen : List Binding} {at at' after : At} {behind inside : List Token} {m : Mark} {test : CoreExpression} {yes first : CoreStatement}
      → Stands (codes "if") at.tokens behind → 0 < room → m ≡ mark at → seen ≡ scope → IsTest signatures seen behind test inside → at' ≡ begun at inside
      → IsStatement signatures unity gives_value (room - 1) scope at' yes after → first ≡ yes → Absent (codes "else") after.tokens
      → IsStatement signatures unity gives_value room scope at (If m test first None) after
  is_only w p e b q f s y a = rw (e, y) (only w p (IsTest-of (sym b) q) (IsStatement-at signatures unity gives_value (sym f) s) a)

  pub is_either : {room : ℕ} {scope seen later : List Binding} {at at' at'' middle after : At} {behind inside others : List Token} {m : Mark} {test : CoreExpression} {yes no first second : CoreStatement}
      → Stands (codes "if") at.tokens behind → 0 < room → m ≡ mark at → seen ≡ scope → IsTest signatures seen behind test inside → at' ≡ begun at inside
      → IsStatement signatures unity gives_value (room - 1) scope at' yes middle → first ≡ yes → Stands (codes "else") middle.tokens others
      → later ≡ scope → at'' ≡ moved middle others → IsStatement signatures unity gives_value (room - 1) later at'' no after → second ≡ no
      → IsStatement signatures unity gives_value room scope at (If m test first (Some second)) after
  is_either w p e b q f s y o l g d z = rw (e, y, z) (either w p (IsTest-of (sym b) q) (IsStatement-at signatures unity gives_value (sym f) s) o (IsStatement-of (sym l) (sym g) d))

  pub no_choice_room : {room : ℕ} {scope : List Binding} {at : At} {behind : List Token}
      → Stands (codes "if") at.tokens behind → (0 < room → ⊥) → Nothing (IsStatement signatures unity gives_value room scope at)
  no_choice_room w n core after s = n (choice_parts signatures unity gives_value w s).has_room

  pub no_choice_test : {room : ℕ} {scope seen : List Binding} {at : At} {behind : List Token}
      → Stands (codes "if") at.tokens behind → seen ≡ scope → Nothing (IsTest signatures seen behind)
      → Nothing (IsStatement signatures unity gives_value room scope at)
  no_choice_test w b n core after s =
      let p = choice_parts signatures unity gives_value w s in
      n p.test p.inside (IsTest-of b p.is_test)

  pub no_choice_yes : {room : ℕ} {scope seen : List Binding} {at at' : At} {behind inside : List Token} {test : CoreExpression}
      → Stands (codes "if") at.tokens behind → seen ≡ scope → IsTest signatures seen behind test inside → at' ≡ begun at inside
      → Nothing (IsStatement signatures unity gives_value (room - 1) scope at') → Nothing (IsStatement signatures unity gives_value room scope at)
  no_choice_yes {scope = scope} {at = at} w b q f n core after s =
      let p = choice_parts signatures unity gives_value w s in
      let e = one_test signatures scope (IsTest-of (sym b) q) p.is_test in
      n p.yes p.middle (IsStatement-at signatures unity gives_value (f ∙ ap (begun at) e.1) p.is_yes)

  pub no_choice_no : {room : ℕ} {scope seen later : List Binding} {at at' at'' middle : At} {behind inside others : List Token} {test : CoreExpression} {yes : CoreStatement}
      → Stands (codes "if") at.tokens behind → seen ≡ scope → IsTest signatures seen behind test inside → at' ≡ begun at inside
      → IsStatement signatures unity gives_value (room - 1) scope at' yes middle → Stands (codes "else") middle.tokens others
      → later ≡ scope → at'' ≡ moved middle others → Nothing (IsStatement signatures unity gives_value (room - 1) later at'')
      → Nothing (IsStatement signatures unity gives_value room scope at)
  no_choice_no {scope = scope} {at = at} {others = others} w b q f s o l g n core after h =
      let p = choice_parts signatures unity gives_value w h in
      let e = one_test signatures scope (IsTest-of (sym b) q) p.is_test in
      let y = one_statement signatures unity gives_value s (IsStatement-at signatures unity gives_value (f ∙ ap (begun at) e.1) p.is_yes) in
      let other = p.other others (Stands-at signatures scope (sym (ap (λ (a : At). a.tokens) y.1)) o) in
      n other.0 other.1 (IsStatement-of l (g ∙ ap (λ (a : At). moved a others) y.1) other.2)

  -- a `while`
  pub is_turn : {room : ℕ} {scope seen : List Binding} {at at' after : At} {behind inside : List Token} {m : Mark} {test : CoreExpression} {turn part : CoreStatement}
      → Stands (codes "while") at.tokens behind → 0 < room → m ≡ mark at → seen ≡ scope → IsTest signatures seen behind test inside → at' ≡ begun at inside
      → IsStatement signatures unity gives_value (room - 1) scope at' turn after → part ≡ turn
      → IsStatement signatures unity gives_value room scope at (While m test part) after
  is_turn w p e b q f s y = rw (e, y) (while w p (IsTest-of (sym b) q) (IsStatement-at signatures unity gives_value (sym f) s))

  pub no_turn_room : {room : ℕ} {scope : List Binding} {at : At} {behind : List Token}
      → Stands (codes "while") at.tokens behind → (0 < room → ⊥) → Nothing (IsStatement signatures unity gives_value room scope at)
  no_turn_room w n core after s = n (turn_parts signatures unity gives_value w s).has_room

  pub no_turn_test : {room : ℕ} {scope seen : List Binding} {at : At} {behind : List Token}
      → Stands (codes "while") at.tokens behind → seen ≡ scope → Nothing (IsTest signatures seen behind)
      → Nothing (IsStatement signatures unity gives_value room scope at)
  no_turn_test w b n core after s =
      let p = turn_parts signatures unity gives_value w s in
      n p.test p.inside (IsTest-of b p.is_test)

  pub no_turn_part : {room : ℕ} {scope seen : List Binding} {at at' : At} {behind inside : List Token} {test : CoreExpression}
      → Stands (codes "while") at.tokens behind → seen ≡ scope → IsTest signatures seen behind test inside → at' ≡ begun at inside
      → Nothing (IsStatement signatures unity gives_value (room - 1) scope at') → Nothing (IsStatement signatures unity gives_value room scope at)
  no_turn_part {scope = scope} {at = at} w b q f n core after s =
      let p = turn_parts signatures unity gives_value w s in
      let e = one_test signatures scope (IsTest-of (sym b) q) p.is_test in
      n p.turn p.ending (IsStatement-at signatures unity gives_value (f ∙ ap (begun at) e.1) p.is_turn)

  -- a `return`
  pub is_return : {room : ℕ} {scope : List Binding} {at after : At} {behind ending rest : List Token} {m : Mark} {core : CoreExpression}
      → Stands (codes "return") at.tokens behind → IsTrue gives_value → m ≡ mark at → IsExpression signatures scope parentheses behind core ending
      → Stands (codes ";") ending rest → after ≡ begun at rest
      → IsStatement signatures unity gives_value room scope at (Return m (Some core)) after
  is_return w g e x z f = rw (e, f) (returned w g x z)

  pub no_return_here : {room : ℕ} {scope : List Binding} {at : At} {behind : List Token}
      → Stands (codes "return") at.tokens behind → (IsTrue gives_value → ⊥) → Nothing (IsStatement signatures unity gives_value room scope at)
  no_return_here w n core after s = n (return_parts signatures unity gives_value w s).gives

  pub no_return_value : {room : ℕ} {scope : List Binding} {at : At} {behind : List Token}
      → Stands (codes "return") at.tokens behind → Nothing (IsExpression signatures scope parentheses behind)
      → Nothing (IsStatement signatures unity gives_value room scope at)
  no_return_value w n core after s = let p = return_parts signatures unity gives_value w s in n p.value p.ending p.is_value

  pub no_return_end : {room : ℕ} {scope : List Binding} {at : At} {behind ending : List Token} {value : CoreExpression}
      → Stands (codes "return") at.tokens behind → IsExpression signatures scope parentheses behind value ending → Absent (codes ";") ending
      → Nothing (IsStatement signatures unity gives_value room scope at)
  no_return_end {scope = scope} w x a core after s =
      let p = return_parts signatures unity gives_value w s in
      let e = one_expression signatures scope x p.is_value in
      a _ (Stands-at signatures scope e.1 p.closed)

  -- the assertion
  pub is_assertion : {room : ℕ} {scope : List Binding} {at after : At} {behind ending rest : List Token} {m : Mark} {expected actual core : CoreExpression}
      → Stands (codes "TEST_ASSERT_EQUAL_INT") at.tokens behind → IsTrue unity → m ≡ mark at → IsPair signatures scope behind expected actual ending
      → Stands (codes ";") ending rest → core ≡ assertion_core m expected actual → after ≡ begun at rest
      → IsStatement signatures unity gives_value room scope at (Run m core) after
  is_assertion w u e q z k f = rw (k, e, f) (assertion w u q z)

  pub no_assertion_here : {room : ℕ} {scope : List Binding} {at : At} {behind : List Token}
      → Stands (codes "TEST_ASSERT_EQUAL_INT") at.tokens behind → (IsTrue unity → ⊥) → Nothing (IsStatement signatures unity gives_value room scope at)
  no_assertion_here w n core after s = n (assertion_parts signatures unity gives_value w s).declared

  pub no_assertion_pair : {room : ℕ} {scope : List Binding} {at : At} {behind : List Token}
      → Stands (codes "TEST_ASSERT_EQUAL_INT") at.tokens behind
      → Nothing {C = CoreExpression × CoreExpression} {R = List Token} (λ both. IsPair signatures scope behind both.0 both.1)
      → Nothing (IsStatement signatures unity gives_value room scope at)
  no_assertion_pair w n core after s = let p = assertion_parts signatures unity gives_value w s in n (p.expected, p.actual) p.ending p.is_pair

  pub no_assertion_end : {room : ℕ} {scope : List Binding} {at : At} {behind ending : List Token} {expected actual : CoreExpression}
      → Stands (codes "TEST_ASSERT_EQUAL_INT") at.tokens behind → IsPair signatures scope behind expected actual ending → Absent (codes ";") ending
      → Nothing (IsStatement signatures unity gives_value room scope at)
  no_assertion_end {scope = scope} w q a core after s =
      let p = assertion_parts signatures unity gives_value w s in
      let e = one_pair signatures scope q p.is_pair in
      a _ (Stands-at signatures scope e.2 p.closed)

  -- an assignment
  pub is_assignment : {room number : ℕ} {scope : List Binding} {at after : At} {name : Token} {middle behind ending rest : List Token} {m : Mark} {core object stored : CoreExpression}
      → StandsName at.tokens name middle → Stands (codes "=") middle behind → m ≡ mark at → variable_number scope name.text ≡ Some number
      → IsExpression signatures scope parentheses behind core ending → Stands (codes ";") ending rest
      → object ≡ Variable number → stored ≡ core → after ≡ begun at rest
      → IsStatement signatures unity gives_value room scope at (Run m (Assign int object stored)) after
  is_assignment v w e k x z o y f = rw (e, f, o, y) (assignment v w k x z)

  pub no_assignment_variable : {room : ℕ} {scope : List Binding} {at : At} {name : Token} {middle behind : List Token}
      → StandsName at.tokens name middle → Stands (codes "=") middle behind → variable_number scope name.text ≡ None
      → Nothing (IsStatement signatures unity gives_value room scope at)
  no_assignment_variable v w k core after s =
      let p = assignment_parts signatures unity gives_value v w s in
      none_or_some (sym k ∙ p.number_is)

  pub no_assignment_value : {room : ℕ} {scope : List Binding} {at : At} {name : Token} {middle behind : List Token}
      → StandsName at.tokens name middle → Stands (codes "=") middle behind → Nothing (IsExpression signatures scope parentheses behind)
      → Nothing (IsStatement signatures unity gives_value room scope at)
  no_assignment_value v w n core after s = let p = assignment_parts signatures unity gives_value v w s in n p.value p.ending p.is_value

  pub no_assignment_end : {room : ℕ} {scope : List Binding} {at : At} {name : Token} {middle behind ending : List Token} {value : CoreExpression}
      → StandsName at.tokens name middle → Stands (codes "=") middle behind → IsExpression signatures scope parentheses behind value ending → Absent (codes ";") ending
      → Nothing (IsStatement signatures unity gives_value room scope at)
  no_assignment_end {scope = scope} v w x a core after s =
      let p = assignment_parts signatures unity gives_value v w s in
      let e = one_expression signatures scope x p.is_value in
      a _ (Stands-at signatures scope e.1 p.closed)

  -- a call
  pub is_call : {room : ℕ} {scope : List Binding} {at after : At} {signature : Signature} {ending rest : List Token} {m : Mark} {core : CoreExpression}
      → m ≡ mark at → IsCall signatures scope parentheses at.tokens signature core ending → Stands (codes ";") ending rest → after ≡ begun at rest
      → IsStatement signatures unity gives_value room scope at (Run m core) after
  is_call e c z f = rw (e, f) (call c z)

  pub no_call : {room : ℕ} {scope : List Binding} {at : At} {name : Token} {middle : List Token}
      → StandsName at.tokens name middle → Absent (codes "=") middle
      → Nothing {C = Signature × CoreExpression} {R = List Token} (λ what. IsCall signatures scope parentheses at.tokens what.0 what.1)
      → Nothing (IsStatement signatures unity gives_value room scope at)
  no_call v a n core after s = let p = call_parts signatures unity gives_value v a s in n (p.signature, p.value) p.ending p.is_call

  pub no_call_end : {room : ℕ} {scope : List Binding} {at : At} {name : Token} {middle ending : List Token} {signature : Signature} {value : CoreExpression}
      → StandsName at.tokens name middle → Absent (codes "=") middle → IsCall signatures scope parentheses at.tokens signature value ending → Absent (codes ";") ending
      → Nothing (IsStatement signatures unity gives_value room scope at)
  no_call_end {scope = scope} v a c z core after s =
      let p = call_parts signatures unity gives_value v a s in
      let e = one_call signatures scope c p.is_call in
      z _ (Stands-at signatures scope e.2 p.closed)
