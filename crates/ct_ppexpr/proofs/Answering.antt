-- From what reading says to the answer of a condition.
use Rattle.std.proofs.Common.{◌≡◌, List, None, Some, refl, sym, ap, subst, ◌∙◌, inl, inr, ⊎_elim}
use Rattle.std.specs.Prelude.{Bool, Result, Err}
use Rattle.ct_base.specs.declared.lexical.Token.{Token}
use Rattle.ct_ppexpr.specs.declared.CondFault.{CondFault}
use Rattle.ct_ppexpr.specs.declared.CondFault.TheVariants.{Grammar}
use Rattle.ct_ppexpr.specs.declared.values.Value.{Value}
use Rattle.ct_ppexpr.specs.declared.words.Word.{Word}
use Rattle.ct_ppexpr.specs.Values.{Evaluated}
use Rattle.ct_ppexpr.specs.Trees.{Tree, SpellsCondition, value_of}
use Rattle.ct_ppexpr.specs.Machine.{run_all, values}
use Rattle.ct_ppexpr.specs.Words.{AreWords}
use Rattle.ct_ppexpr.specs.Conditions.{Evaluates, IsNoExpression, answer_of, HasValue}
use Rattle.ct_ppexpr.proofs.Reading.{same_words}
use Rattle.ct_ppexpr.proofs.Both.{Tells, tells, one_tree}

-- the words are an expression with this value
pub evaluates : (tokens : List Token) (words : List Word) (value : Value) (outcome : Evaluated) → AreWords tokens words → Some value ≡ run_all values words → value.outcome ≡ outcome → Evaluates tokens outcome
evaluates tokens words value outcome are run is =
    let told = subst (Tells words) (sym run) (tells words) in
    (words, told.0, are, told.1, ap (λ (v : Value). v.outcome) told.2 ∙ is)

-- or no expression
pub no_expression : (tokens : List Token) (words : List Word) → AreWords tokens words → None ≡ run_all values words → IsNoExpression tokens
no_expression tokens words are run others tree are' h =
    let told = subst (Tells words) (sym run) (tells words) in
    told tree (subst (SpellsCondition tree) (same_words tokens others words are' are) h)

-- one outcome
pub one_outcome : (tokens : List Token) (a b : Evaluated) → Evaluates tokens a → Evaluates tokens b → a ≡ b
one_outcome tokens a b one other =
    let words = same_words tokens one.0 other.0 one.2 other.2 in
    let tree = one_tree other.0 one.1 other.1 (subst (SpellsCondition one.1) words one.3) other.3 in
    sym one.4 ∙ ap (λ (t : Tree). (value_of t).outcome) tree ∙ other.4

not_none : (tokens : List Token) (a : Evaluated) → Evaluates tokens a → IsNoExpression tokens → ⊥
not_none tokens a one none = none one.0 one.1 one.2 one.3

pub same_answer : (tokens : List Token) (a b : Result Bool CondFault) → HasValue tokens a → HasValue tokens b → a ≡ b
same_answer tokens a b one other =
    ⊎_elim
    (λ h. ⊎_elim
    (λ k. h.2 ∙ ap answer_of (one_outcome tokens h.0 k.0 h.1 k.1) ∙ sym k.2)
    (λ k. absurd (not_none tokens h.0 h.1 k.0)) other)
    (λ h. ⊎_elim (λ k. absurd (not_none tokens k.0 k.1 h.0)) (λ k. h.1 ∙ sym k.1) other)
    one

-- the answers of `condition`
pub valued : (tokens : List Token) (words : List Word) (value : Value) (answer : Result Bool CondFault) → AreWords tokens words → Some value ≡ run_all values words → answer ≡ answer_of value.outcome → HasValue tokens answer
valued tokens words value answer are run is =
    inl (value.outcome, evaluates tokens words value value.outcome are run refl, is)

pub refused : (tokens : List Token) (words : List Word) → AreWords tokens words → None ≡ run_all values words → HasValue tokens (Err Grammar)
refused tokens words are run = inr (no_expression tokens words are run, refl)
