-- The parts of a statement that begins with a word or a name that is known.
use Rattle.std.proofs.Common.{◌≡◌, ℕ, ◌-◌, ◌<◌, Bool, List, [], ◌++◌, refl, sym, ap, ◌∙◌}
use Rattle.std.specs.Prelude.{Some, IsTrue, codes}
use Rattle.ct_base.specs.declared.lexical.Token.{Token}
use Rattle.ct_core.specs.declared.trees.CoreExpression.{CoreExpression}
use Rattle.ct_core.specs.declared.trees.CoreStatement.{CoreStatement}
use Rattle.ct_form.specs.declared.names.Binding.{Binding}
use Rattle.ct_form.specs.declared.names.Signature.{Signature}
use Rattle.ct_form.specs.Words.{Nothing, Stands, Absent, StandsName}
use Rattle.ct_form.specs.Names.{variable_number}
use Rattle.ct_form.specs.Expressions.{IsExpression, IsCall}
use Rattle.ct_form.specs.Statements.{At, IsStatement, IsBody, IsTest, IsPair, block, assignment, call, only, either, while, returned, assertion, begun, moved, parentheses}
use Rattle.ct_form.proofs.OneWord.{one_rest, not_both, one_name, no_name}
use Rattle.ct_form.proofs.OneExpression.{Stands-at, IsExpression-at}
use Rattle.ct_form.proofs.OneStatement.{IsStatement-at, IsBody-at, IsTest-at, IsPair-at, call_or_word, call_or_assignment}
use Rattle.ct_form.proofs.Units.{no_call_name}

module _ (signatures : List Signature) (unity gives_value : Bool) where
  pub record BlockParts (room : ℕ) (scope : List Binding) (at : At) (inside : List Token) (after : At) : Type 0 where
    pub has_room : 0 < room
    pub numbers : List ℕ
    pub parts : List CoreStatement
    pub body : IsBody signatures unity gives_value (room - 1) scope [] (begun at inside) numbers parts after

  pub block_parts : {room : ℕ} {scope : List Binding} {at after : At} {inside : List Token} {core : CoreStatement}
      → Stands (codes "{") at.tokens inside → IsStatement signatures unity gives_value room scope at core after
      → BlockParts room scope at inside after
  block_parts {at = at} w (block w' p' b') = record { has_room = p'; numbers = _; parts = _; body = IsBody-at signatures unity gives_value refl (ap (begun at) (one_rest w w')) b' }
  block_parts w (assignment v' e' k' x' z') = absurd (no_name w v' refl)
  block_parts {scope = scope} w (call c' z') = absurd (call_or_word signatures scope c' w refl)
  block_parts w (only w' p' q' s' a') = absurd (not_both w w' refl)
  block_parts w (either w' p' q' s' o' d') = absurd (not_both w w' refl)
  block_parts w (while w' p' q' s') = absurd (not_both w w' refl)
  block_parts w (returned w' g' x' z') = absurd (not_both w w' refl)
  block_parts w (assertion w' u' q' z') = absurd (not_both w w' refl)

  pub record ChoiceParts (room : ℕ) (scope : List Binding) (at : At) (behind : List Token) : Type 0 where
    pub has_room : 0 < room
    pub test : CoreExpression
    pub inside : List Token
    pub is_test : IsTest signatures scope behind test inside
    pub yes : CoreStatement
    pub middle : At
    pub is_yes : IsStatement signatures unity gives_value (room - 1) scope (begun at inside) yes middle
    pub other : (others : List Token) → Stands (codes "else") middle.tokens others
        → (no : CoreStatement) × (ending : At) × IsStatement signatures unity gives_value (room - 1) scope (moved middle others) no ending

  pub choice_parts : {room : ℕ} {scope : List Binding} {at after : At} {behind : List Token} {core : CoreStatement}
      → Stands (codes "if") at.tokens behind → IsStatement signatures unity gives_value room scope at core after
      → ChoiceParts room scope at behind
  choice_parts {scope = scope} w (block w' p' b') = absurd (not_both w w' refl)
  choice_parts {scope = scope} w (assignment v' e' k' x' z') = absurd (no_name w v' refl)
  choice_parts {scope = scope} w (call c' z') = absurd (call_or_word signatures scope c' w refl)
  choice_parts {scope = scope} w (only w' p' q' s' a') = record {
    has_room = p';
    test = _;
    inside = _;
    is_test = IsTest-at signatures scope (one_rest w w') q';
    yes = _;
    middle = _;
    is_yes = s';
    other = λ others o. absurd (a' _ o);
  }
  choice_parts {scope = scope} w (either {middle = m} w' p' q' s' o' d') = record {
    has_room = p';
    test = _;
    inside = _;
    is_test = IsTest-at signatures scope (one_rest w w') q';
    yes = _;
    middle = _;
    is_yes = s';
    other = λ others o. (_, _, IsStatement-at signatures unity gives_value (ap (moved m) (one_rest o o')) d');
  }
  choice_parts {scope = scope} w (while w' p' q' s') = absurd (not_both w w' refl)
  choice_parts {scope = scope} w (returned w' g' x' z') = absurd (not_both w w' refl)
  choice_parts {scope = scope} w (assertion w' u' q' z') = absurd (not_both w w' refl)

  pub record TurnParts (room : ℕ) (scope : List Binding) (at : At) (behind : List Token) : Type 0 where
    pub has_room : 0 < room
    pub test : CoreExpression
    pub inside : List Token
    pub is_test : IsTest signatures scope behind test inside
    pub turn : CoreStatement
    pub ending : At
    pub is_turn : IsStatement signatures unity gives_value (room - 1) scope (begun at inside) turn ending

  pub turn_parts : {room : ℕ} {scope : List Binding} {at after : At} {behind : List Token} {core : CoreStatement}
      → Stands (codes "while") at.tokens behind → IsStatement signatures unity gives_value room scope at core after
      → TurnParts room scope at behind
  turn_parts {scope = scope} w (block w' p' b') = absurd (not_both w w' refl)
  turn_parts {scope = scope} w (assignment v' e' k' x' z') = absurd (no_name w v' refl)
  turn_parts {scope = scope} w (call c' z') = absurd (call_or_word signatures scope c' w refl)
  turn_parts {scope = scope} w (only w' p' q' s' a') = absurd (not_both w w' refl)
  turn_parts {scope = scope} w (either w' p' q' s' o' d') = absurd (not_both w w' refl)
  turn_parts {scope = scope} w (while w' p' q' s') = record { has_room = p'; test = _; inside = _; is_test = IsTest-at signatures scope (one_rest w w') q'; turn = _; ending = _; is_turn = s' }
  turn_parts {scope = scope} w (returned w' g' x' z') = absurd (not_both w w' refl)
  turn_parts {scope = scope} w (assertion w' u' q' z') = absurd (not_both w w' refl)

  pub record ReturnParts (scope : List Binding) (behind : List Token) : Type 0 where
    pub gives : IsTrue gives_value
    pub value : CoreExpression
    pub ending : List Token
    pub rest : List Token
    pub is_value : IsExpression signatures scope parentheses behind value ending
    pub closed : Stands (codes ";") ending rest

  pub return_parts : {room : ℕ} {scope : List Binding} {at after : At} {behind : List Token} {core : CoreStatement}
      → Stands (codes "return") at.tokens behind → IsStatement signatures unity gives_value room scope at core after
      → ReturnParts scope behind
  return_parts {scope = scope} w (block w' p' b') = absurd (not_both w w' refl)
  return_parts {scope = scope} w (assignment v' e' k' x' z') = absurd (no_name w v' refl)
  return_parts {scope = scope} w (call c' z') = absurd (call_or_word signatures scope c' w refl)
  return_parts {scope = scope} w (only w' p' q' s' a') = absurd (not_both w w' refl)
  return_parts {scope = scope} w (either w' p' q' s' o' d') = absurd (not_both w w' refl)
  return_parts {scope = scope} w (while w' p' q' s') = absurd (not_both w w' refl)
  return_parts {scope = scope} w (returned w' g' x' z') = record { gives = g'; value = _; ending = _; rest = _; is_value = IsExpression-at signatures scope (one_rest w w') x'; closed = z' }
  return_parts {scope = scope} w (assertion w' u' q' z') = absurd (not_both w w' refl)

  pub record AssertionParts (scope : List Binding) (behind : List Token) : Type 0 where
    pub declared : IsTrue unity
    pub expected : CoreExpression
    pub actual : CoreExpression
    pub ending : List Token
    pub rest : List Token
    pub is_pair : IsPair signatures scope behind expected actual ending
    pub closed : Stands (codes ";") ending rest

  pub assertion_parts : {room : ℕ} {scope : List Binding} {at after : At} {behind : List Token} {core : CoreStatement}
      → Stands (codes "TEST_ASSERT_EQUAL_INT") at.tokens behind → IsStatement signatures unity gives_value room scope at core after
      → AssertionParts scope behind
  assertion_parts {scope = scope} w (block w' p' b') = absurd (not_both w w' refl)
  assertion_parts {scope = scope} w (assignment v' e' k' x' z') = absurd (no_name w v' refl)
  assertion_parts {scope = scope} w (call c' z') = absurd (call_or_word signatures scope c' w refl)
  assertion_parts {scope = scope} w (only w' p' q' s' a') = absurd (not_both w w' refl)
  assertion_parts {scope = scope} w (either w' p' q' s' o' d') = absurd (not_both w w' refl)
  assertion_parts {scope = scope} w (while w' p' q' s') = absurd (not_both w w' refl)
  assertion_parts {scope = scope} w (returned w' g' x' z') = absurd (not_both w w' refl)
  assertion_parts {scope = scope} w (assertion w' u' q' z') = record { declared = u'; expected = _; actual = _; ending = _; rest = _; is_pair = IsPair-at signatures scope (one_rest w w') q'; closed = z' }

  pub record AssignmentParts (scope : List Binding) (name : Token) (behind : List Token) : Type 0 where
    pub number : ℕ
    pub number_is : variable_number scope name.text ≡ Some number
    pub value : CoreExpression
    pub ending : List Token
    pub rest : List Token
    pub is_value : IsExpression signatures scope parentheses behind value ending
    pub closed : Stands (codes ";") ending rest

  pub assignment_parts : {room : ℕ} {scope : List Binding} {at after : At} {name : Token} {middle behind : List Token} {core : CoreStatement}
      → StandsName at.tokens name middle → Stands (codes "=") middle behind → IsStatement signatures unity gives_value room scope at core after
      → AssignmentParts scope name behind
  assignment_parts {scope = scope} v e (block w' p' b') = absurd (no_name w' v refl)
  assignment_parts {scope = scope} v e (assignment v' e' k' x' z') =
      let n = one_name v v' in
      record {
        number = _;
        number_is = ap (λ (t : Token). variable_number scope t.text) n.0 ∙ k';
        value = _;
        ending = _;
        rest = _;
        is_value = IsExpression-at signatures scope (one_rest e (Stands-at signatures scope n.1 e')) x';
        closed = z';
      }
  assignment_parts {scope = scope} v e (call c' z') = absurd (call_or_assignment signatures scope c' v e)
  assignment_parts {scope = scope} v e (only w' p' q' s' a') = absurd (no_name w' v refl)
  assignment_parts {scope = scope} v e (either w' p' q' s' o' d') = absurd (no_name w' v refl)
  assignment_parts {scope = scope} v e (while w' p' q' s') = absurd (no_name w' v refl)
  assignment_parts {scope = scope} v e (returned w' g' x' z') = absurd (no_name w' v refl)
  assignment_parts {scope = scope} v e (assertion w' u' q' z') = absurd (no_name w' v refl)

  pub record CallParts (scope : List Binding) (at : At) : Type 0 where
    pub signature : Signature
    pub value : CoreExpression
    pub ending : List Token
    pub rest : List Token
    pub is_call : IsCall signatures scope parentheses at.tokens signature value ending
    pub closed : Stands (codes ";") ending rest

  pub call_parts : {room : ℕ} {scope : List Binding} {at after : At} {name : Token} {middle : List Token} {core : CoreStatement}
      → StandsName at.tokens name middle → Absent (codes "=") middle → IsStatement signatures unity gives_value room scope at core after
      → CallParts scope at
  call_parts {scope = scope} v a (block w' p' b') = absurd (no_name w' v refl)
  call_parts {scope = scope} v a (assignment v' e' k' x' z') = absurd (a _ (Stands-at signatures scope (one_name v v').1 e'))
  call_parts {scope = scope} v a (call c' z') = record { signature = _; value = _; ending = _; rest = _; is_call = c'; closed = z' }
  call_parts {scope = scope} v a (only w' p' q' s' a') = absurd (no_name w' v refl)
  call_parts {scope = scope} v a (either w' p' q' s' o' d') = absurd (no_name w' v refl)
  call_parts {scope = scope} v a (while w' p' q' s') = absurd (no_name w' v refl)
  call_parts {scope = scope} v a (returned w' g' x' z') = absurd (no_name w' v refl)
  call_parts {scope = scope} v a (assertion w' u' q' z') = absurd (no_name w' v refl)

  -- a statement begins with a name or with one of five words
  pub no_statement : {room : ℕ} {scope : List Binding} {at : At}
      → Nothing (StandsName at.tokens) → Absent (codes "{") at.tokens → Absent (codes "if") at.tokens → Absent (codes "while") at.tokens
      → Absent (codes "return") at.tokens → Absent (codes "TEST_ASSERT_EQUAL_INT") at.tokens
      → Nothing (IsStatement signatures unity gives_value room scope at)
  no_statement n b i h r t core after (block w' p' b') = b _ w'
  no_statement n b i h r t core after (assignment v' e' k' x' z') = n _ _ v'
  no_statement {scope = scope} n b i h r t core after (call c' z') = no_call_name signatures scope n c'
  no_statement n b i h r t core after (only w' p' q' s' a') = i _ w'
  no_statement n b i h r t core after (either w' p' q' s' o' d') = i _ w'
  no_statement n b i h r t core after (while w' p' q' s') = h _ w'
  no_statement n b i h r t core after (returned w' g' x' z') = r _ w'
  no_statement n b i h r t core after (assertion w' u' q' z') = t _ w'
