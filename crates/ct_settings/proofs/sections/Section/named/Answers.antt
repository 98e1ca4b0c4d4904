use Rattle.std.proofs.Common.{rules}
use Rattle.ct_settings.specs.Places.{place_of}
use Rattle.ct_settings.proofs.Faults.{fault_named}
use Rattle.ct_settings.proofs.sections.Section.named.Goals as goal

pub returns-in_ok-key-in-Err-Fault-clause-fault : goal.returns-in_ok-key-in-Err-Fault-clause-fault
returns-in_ok-key-in-Err-Fault-clause-fault g c =
    fault_named (place_of c.args.self.now) c.args.key.now c.as_str.result.now c.args.read c.in-Err-Fault.kind c.refused.result
    (search rules) (search rules) c.refused.ensures
