-- Calls that were named as failing.
use Rattle.std.proofs.Common.{◌≡◌, ℕ, List, subst}
use Rattle.std.specs.List.{Contains}
use Rattle.ct_outside.specs.declared.mem_tree.TreeCall.{TreeCall}

-- the same call in the same list
pub named_too : (calls failing : List (TreeCall × ℕ)) (call : TreeCall) (m n : ℕ) → calls ≡ failing → m ≡ n → Contains calls (call, m) → Contains failing (call, n)
named_too calls failing call m n same number named =
    let P : List (TreeCall × ℕ) → Type 0 = λ cs. Contains cs (call, n) in
    let Q : ℕ → Type 0 = λ k. Contains calls (call, k) in
    subst P same (subst Q number named)
