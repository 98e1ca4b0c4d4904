-- How far the arguments of a call are collected. No public clause speaks of it.
use Rattle.std.specs.Prelude.{◌≡◌, ℕ, ◌+◌, Bool, true, false, List, ◌++◌, Option}
use Rattle.ct_base.specs.declared.lexical.Token.{Token}
use Rattle.ct_macro_call.specs.declared.marked.Marked.{Marked}
use Rattle.ct_macro_call.specs.Words.{is_open, is_close}
use Rattle.ct_macro_call.specs.Calls.{opens, closes, closes_call, separates, NoneAtLevel, MaySeparate, AreArguments}

abbrev pub count_of : Bool → ℕ
count_of true = 1
count_of false = 0

-- the parentheses that are open behind a token
abbrev pub IsDepthBehind : ℕ → Token → ℕ → Type 0
IsDepthBehind depth token behind = behind + count_of (is_close token) ≡ depth + count_of (is_open token)

-- Of these tokens the rest is left, so many inner parentheses are open, so many commas may still separate, and the
-- arguments before the last are done.
pub record Collected (most : Option ℕ) (tokens rest : List Marked) (arguments : List (List Marked)) (last : List Marked) (depth : ℕ) (left : Option ℕ) : Type 0 where
  pub spent : List Marked
  pub split : tokens ≡ spent ++ rest
  pub depth_spent : depth + closes spent ≡ opens spent
  pub depth_last : depth + closes last ≡ opens last
  pub unclosed : NoneAtLevel closes_call spent
  pub unseparated : MaySeparate left → NoneAtLevel separates last
  pub goes_on : (more : List Marked) (others : List (List Marked)) → AreArguments left (last ++ more) others
      → AreArguments most (spent ++ more) (arguments ++ others)
