-- Texts that begin with what they were.
use Rattle.std.proofs.Common.{◌≡◌, ℕ, List, [], ◌++◌, sym, ◌∙◌, ap, append_assoc}
use Rattle.std.proofs.lemmas.List.{append-nil}
use Rattle.ct_report.specs.Report.{Extends}

-- a text begins with itself
pub extends_same : (old new : List ℕ) → new ≡ old → Extends old new
extends_same old new same = record { more = []; is = same ∙ sym (append-nil old) }

-- what was appended to a text begins with it
pub extends_append : (old more new : List ℕ) → new ≡ old ++ more → Extends old new
extends_append old more new same = record { more = more; is = same }

-- two steps of growth are one
pub extends_trans : (old middle new : List ℕ) → Extends old middle → Extends middle new → Extends old new
extends_trans old middle new first second =
    record { more = first.more ++ second.more; is = rw (← append_assoc old first.more second.more) (second.is ∙ ap (λ front. front ++ second.more) first.is) }

pub ruleset extending = (extends_same, extends_append, extends_trans)
