-- What follows a statement, a block or a function is shorter.
use Rattle.std.proofs.Common.{◌≡◌, ℕ, ◌<◌, ◌≤◌, Bool, List, length, arith}
use Rattle.std.specs.Prelude.{Option}
use Rattle.ct_base.specs.declared.lexical.Token.{Token}
use Rattle.ct_core.specs.declared.trees.CoreExpression.{CoreExpression}
use Rattle.ct_core.specs.declared.trees.CoreStatement.{CoreStatement}
use Rattle.ct_form.specs.declared.names.Binding.{Binding}
use Rattle.ct_form.specs.declared.names.Signature.{Signature}
use Rattle.ct_form.specs.Statements.{At, IsStatement, IsBody, IsStart, IsTest, IsPair, absent, present, block, assignment, call, only, either, while, returned, assertion, close, declaration, statement}
use Rattle.ct_form.proofs.OneWord.{Stands-shorter, StandsName-shorter}
use Rattle.ct_form.proofs.Shorter.{expression-shorter, call-shorter}

module _ (signatures : List Signature) (scope : List Binding) where
  pub start-shorter : {t r : List Token} {c : Option CoreExpression} → IsStart signatures scope t c r → length r ≤ length t
  start-shorter (absent a) = omega arith
  start-shorter (present w x) =
      let a = Stands-shorter w in
      let b = expression-shorter signatures scope x in
      omega arith

  pub test-shorter : {t r : List Token} {c : CoreExpression} → IsTest signatures scope t c r → length r < length t
  test-shorter h =
      let a = Stands-shorter h.opened in
      let b = expression-shorter signatures scope h.test in
      let c = Stands-shorter h.closed in
      omega arith

  pub pair-shorter : {t r : List Token} {c d : CoreExpression} → IsPair signatures scope t c d r → length r < length t
  pair-shorter h =
      let a = Stands-shorter h.opened in
      let b = expression-shorter signatures scope h.one in
      let c = Stands-shorter h.comma in
      let d = expression-shorter signatures scope h.other in
      let e = Stands-shorter h.closed in
      omega arith

module _ (signatures : List Signature) (unity gives_value : Bool) where
  mutual
    pub statement-shorter : {room : ℕ} {scope : List Binding} {at after : At} {c : CoreStatement}
        → IsStatement signatures unity gives_value room scope at c after → length after.tokens < length at.tokens
    statement-shorter (block w p b) =
        let x = Stands-shorter w in
        let y = body-shorter b in
        omega arith
    statement-shorter {scope = scope} (assignment v e k x z) =
        let a = StandsName-shorter v in
        let b = Stands-shorter e in
        let c = expression-shorter signatures scope x in
        let d = Stands-shorter z in
        omega arith
    statement-shorter {scope = scope} (call c z) =
        let a = call-shorter signatures scope c in
        let b = Stands-shorter z in
        omega arith
    statement-shorter {scope = scope} (only w p q s a) =
        let x = Stands-shorter w in
        let y = test-shorter signatures scope q in
        let z = statement-shorter s in
        omega arith
    statement-shorter {scope = scope} (either w p q s o d) =
        let x = Stands-shorter w in
        let y = test-shorter signatures scope q in
        let z = statement-shorter s in
        let u = Stands-shorter o in
        let v = statement-shorter d in
        omega arith
    statement-shorter {scope = scope} (while w p q s) =
        let x = Stands-shorter w in
        let y = test-shorter signatures scope q in
        let z = statement-shorter s in
        omega arith
    statement-shorter {scope = scope} (returned w g x z) =
        let a = Stands-shorter w in
        let b = expression-shorter signatures scope x in
        let c = Stands-shorter z in
        omega arith
    statement-shorter {scope = scope} (assertion w u q z) =
        let a = Stands-shorter w in
        let b = pair-shorter signatures scope q in
        let c = Stands-shorter z in
        omega arith

    pub body-shorter : {room : ℕ} {scope own : List Binding} {at after : At} {n : List ℕ} {c : List CoreStatement}
        → IsBody signatures unity gives_value room scope own at n c after → length after.tokens < length at.tokens
    body-shorter (close w) = Stands-shorter w
    body-shorter (declaration w v d l x z b) =
        let p = Stands-shorter w in
        let q = StandsName-shorter v in
        let r = start-shorter signatures _ x in
        let s = Stands-shorter z in
        let t = body-shorter b in
        omega arith
    body-shorter (statement a i s b) =
        let x = statement-shorter s in
        let y = body-shorter b in
        omega arith
