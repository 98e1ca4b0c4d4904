-- Which declaration stands behind an `int`, or that none does, by what was read of it.
use Rattle.std.proofs.Common.{◌≡◌, ℕ, ◌<◌, Bool, List, [], ◌∷◌, ◌++◌, length, take, drop, false, sym, ap, ◌∙◌}
use Rattle.std.proofs.lemmas.List.{take-append-drop}
use Rattle.std.specs.Prelude.{Option, codes}
use Rattle.ct_base.specs.declared.lexical.Token.{Token}
use Rattle.ct_core.specs.declared.trees.CoreExpression.{CoreExpression}
use Rattle.ct_core.specs.declared.trees.CoreStatement.{CoreStatement}
use Rattle.ct_core.specs.declared.trees.CoreStatement.TheVariants.{Declare}
use Rattle.ct_core.specs.declared.trees.Mark.{Mark}
use Rattle.ct_form.specs.declared.names.Binding.{Binding}
use Rattle.ct_form.specs.declared.names.Signature.{Signature}
use Rattle.ct_form.specs.Words.{Nothing, Stands, Absent, StandsName}
use Rattle.ct_form.specs.Names.{is_declared}
use Rattle.ct_form.specs.Expressions.{int}
use Rattle.ct_form.specs.Readers.{IsDeclaration}
use Rattle.ct_form.specs.Statements.{At, IsStart, mark, begun, binding, declared, most_variables}
use Rattle.ct_form.proofs.OneWord.{one_name}
use Rattle.ct_form.proofs.OneExpression.{Stands-at}
use Rattle.ct_form.proofs.OneStatement.{one_start, IsStart-of}

-- a declaration and the scope behind it
abbrev pub DeclaresThere : List Signature → List Binding → List Binding → At → List Token → CoreStatement × List Binding → At → Type 0
DeclaresThere signatures scope own at behind what after =
    (name : Token) × IsDeclaration signatures scope own at behind what.0 name after × (what.1 ≡ scope ++ own ++ binding at name ∷ [])

-- the scope in two parts, with one more
pub in_two : (outer : ℕ) (scope : List Binding) (b : Binding) {new : List Binding} → new ≡ scope ++ b ∷ [] → new ≡ take outer scope ++ drop outer scope ++ b ∷ []
in_two outer scope b e =
    e ∙ ap (λ l. l ++ b ∷ []) (sym (take-append-drop outer scope))

IsStart-in : {signatures : List Signature} {scope scope' : List Binding} {t r : List Token} {c : Option CoreExpression}
    → scope ≡ scope' → IsStart signatures scope' t c r → IsStart signatures scope t c r
IsStart-in p h = rw p h

module _ (signatures : List Signature) (scope own : List Binding) where
  pub no_declaration_name : {at : At} {behind : List Token}
      → Nothing (StandsName behind) → Nothing (DeclaresThere signatures scope own at behind)
  no_declaration_name n what after h = n _ _ h.1.is_name

  pub no_declaration_room : {at : At} {behind middle : List Token} {name : Token}
      → StandsName behind name middle → (is_declared own name.text ≡ false → length at.variables < most_variables → ⊥)
      → Nothing (DeclaresThere signatures scope own at behind)
  no_declaration_room v n what after h =
      let m = one_name v h.1.is_name in
      n (ap (λ (t : Token). is_declared own t.text) m.0 ∙ h.1.is_new) h.1.room

  pub no_declaration_start : {at : At} {behind middle : List Token} {name : Token} {new : List Binding}
      → StandsName behind name middle → new ≡ scope ++ own ++ binding at name ∷ [] → Nothing (IsStart signatures new middle)
      → Nothing (DeclaresThere signatures scope own at behind)
  no_declaration_start {at = at} v e n what after h =
      let m = one_name v h.1.is_name in
      n _ _ (IsStart-in e (IsStart-of signatures scope own at m.0 m.1 h.1.is_start))

  pub no_declaration_end : {at : At} {behind middle ending : List Token} {name : Token} {new : List Binding} {start : Option CoreExpression}
      → StandsName behind name middle → new ≡ scope ++ own ++ binding at name ∷ [] → IsStart signatures new middle start ending → Absent (codes ";") ending
      → Nothing (DeclaresThere signatures scope own at behind)
  no_declaration_end {at = at} v e s a what after h =
      let m = one_name v h.1.is_name in
      let y = one_start signatures _ (IsStart-in (sym e) s) (IsStart-of signatures scope own at m.0 m.1 h.1.is_start) in
      a _ (Stands-at signatures scope y.1 h.1.closed)

  pub is_declaration : {at after : At} {behind middle ending rest : List Token} {name : Token} {new : List Binding} {start : Option CoreExpression} {m : Mark} {number : ℕ}
      → StandsName behind name middle → is_declared own name.text ≡ false → length at.variables < most_variables
      → new ≡ scope ++ own ++ binding at name ∷ [] → IsStart signatures new middle start ending → Stands (codes ";") ending rest
      → m ≡ mark at → number ≡ length at.variables → after ≡ declared (begun at rest) name
      → IsDeclaration signatures scope own at behind (Declare m number int start) name after
  is_declaration {middle = middle} {ending = ending} {rest = rest} {start = start} v d l e s z k n f = record {
    middle = middle;
    ending = ending;
    rest = rest;
    start = start;
    is_name = v;
    is_new = d;
    room = l;
    is_start = IsStart-in (sym e) s;
    closed = z;
    core_is = rw (k, n);
    after_is = f;
  }

-- the scope behind a declaration, however it is read again
pub with_binding : (scope : List Binding) (at : At) (name : Token) {number : ℕ} {b : Binding} {new : List Binding}
    → new ≡ scope ++ b ∷ [] → b ≡ record { name = name.text; number = number } → number ≡ length at.variables
    → new ≡ scope ++ binding at name ∷ []
with_binding scope at name e f k = rw (e, f, k)
