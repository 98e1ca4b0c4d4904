-- A file that is read line by line is read by its groups.
use Rattle.std.proofs.Common.{ℕ, List, Option}
use Rattle.std.specs.Prelude.{Result}
use Rattle.ct_base.specs.declared.lexical.Token.{Token}
use Rattle.ct_directive.specs.declared.faults.PreFault.{PreFault}
use Rattle.ct_directive.specs.declared.forms.Header.{Header}
use Rattle.ct_directive.specs.Groups.{Group, IsOutline}
use Rattle.ct_preproc.specs.declared.state.State.{State}
use Rattle.ct_preproc.specs.declared.state.Place.{Place}
use Rattle.ct_preproc.specs.Files.{ReadsLines, begins}
use Rattle.ct_preproc.specs.Steps.{StepsLines, begun}
use Rattle.ct_preproc.proofs.Balance.{by_outline}

pub by_groups : ((lines : List (List Token)) → (group : Group) × (broken : Option ℕ) × IsOutline lines group broken)
    → (limit : ℕ) (Enters : Place → ℕ → Header → State → Result State PreFault → Type 0) (place : Place) (state : State) (lines : List (List Token)) (answer : Result State PreFault)
    → StepsLines limit Enters place (begun place state) lines answer → ReadsLines limit Enters place (begins place state) lines answer
by_groups each limit Enters place state lines answer read =
    let found = each lines in
    (found.0, found.1, found.2, by_outline limit Enters place state lines found.0 found.1 answer found.2 read)
