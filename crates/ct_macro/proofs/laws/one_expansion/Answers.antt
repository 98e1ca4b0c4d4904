use Rattle.std.proofs.Common.{◌≡◌, sym, ap, ◌∙◌}
use Rattle.std.specs.Prelude.{map}
use Rattle.ct_macro_call.specs.declared.marked.Marked.{Marked}
use Rattle.ct_macro.specs.Expansion.{done, stopped}
use Rattle.ct_macro.proofs.Unique.{expands_one}
use Rattle.ct_macro.proofs.laws.one_expansion.Goals as goal

pub returns-clause-one : goal.returns-clause-one
returns-clause-one c =
    λ condition macros tokens a b room m n one other.
    let same : done one.0 m ≡ done other.0 n = expands_one macros room c.one_replacement.ensures one.1 (done other.0 n) other.1 in
    let lists : one.0 ≡ other.0 = cc in
    let counts : m ≡ n = cc in
    (one.2 ∙ ap (λ l. map (λ (marked : Marked). marked.token) l) lists ∙ sym other.2, counts)

pub returns-clause-apart : goal.returns-clause-apart
returns-clause-apart c =
    λ condition macros tokens a room m fault one other.
    let same : done one.0 m ≡ stopped fault = expands_one macros room c.one_replacement.ensures one.1 (stopped fault) other in cc

pub returns-clause-refusal : goal.returns-clause-refusal
returns-clause-refusal c =
    λ condition macros tokens room one other a b.
    let same : stopped one ≡ stopped other = expands_one macros room c.one_replacement.ensures a (stopped other) b in cc
