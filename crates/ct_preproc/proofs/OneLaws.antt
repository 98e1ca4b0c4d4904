-- The laws of the layers below: each thing that a unit is read by is one at most.
use Rattle.std.proofs.Common.{◌≡◌, ℕ, Bool, List, Option}
use Rattle.std.specs.Prelude.{Result}
use Rattle.ct_base.specs.declared.lexical.Token.{Token}
use Rattle.ct_token.specs.Lexing.{IsTokenization, LeavesOpen}
use Rattle.ct_macro_call.specs.declared.definition.Macro.{Macro}
use Rattle.ct_macro.specs.declared.faults.MacroFault.{MacroFault}
use Rattle.ct_macro.specs.Expansion.{IsExpansion, IsRefusal}
use Rattle.ct_directive.specs.Groups.{Group, IsOutline}
use Rattle.ct_ppexpr.specs.declared.CondFault.{CondFault}
use Rattle.ct_ppexpr.specs.Conditions.{HasValue}

pub record Laws : Type 0 where
  pub tokens : (file : ℕ) (text : List ℕ) (a b : List Token) → IsTokenization file text a → IsTokenization file text b → a ≡ b
  pub comment : (text : List ℕ) (a b : ℕ) → LeavesOpen text a → LeavesOpen text b → a ≡ b
  pub closed : (file : ℕ) (text : List ℕ) (tokens : List Token) (line : ℕ) → IsTokenization file text tokens → LeavesOpen text line → ⊥
  pub expansion : (condition : Bool) (macros : List Macro) (tokens a b : List Token) (room m n : ℕ) → IsExpansion condition macros tokens room a m
      → IsExpansion condition macros tokens room b n → (a ≡ b) × (m ≡ n)
  pub apart : (condition : Bool) (macros : List Macro) (tokens a : List Token) (room m : ℕ) (fault : MacroFault)
      → IsExpansion condition macros tokens room a m → IsRefusal condition macros tokens room fault → ⊥
  pub refusal : (condition : Bool) (macros : List Macro) (tokens : List Token) (room : ℕ) (one other : MacroFault)
      → IsRefusal condition macros tokens room one → IsRefusal condition macros tokens room other → one ≡ other
  pub condition : (tokens : List Token) (a b : Result Bool CondFault) → HasValue tokens a → HasValue tokens b → a ≡ b
  pub group : (lines : List (List Token)) (a b : Group) (first second : Option ℕ) → IsOutline lines a first → IsOutline lines b second → a ≡ b
  pub broken : (lines : List (List Token)) (a b : Group) (first second : Option ℕ) → IsOutline lines a first → IsOutline lines b second → first ≡ second
