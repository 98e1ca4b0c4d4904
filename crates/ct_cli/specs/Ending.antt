-- How a run shows its end to the system.
use Rattle.std.specs.Prelude.{ℕ}
use Rattle.ct_base.specs.declared.answers.Status.{Status}
use Rattle.ct_base.specs.declared.answers.Status.TheVariants.{Passed, Failed, Refused, ReadFault, WriteFault, OutFault, OutOfMemory, Usage}

-- the exit status of the program
abbrev pub exit_code_of : Status → ℕ
exit_code_of Passed = 0
exit_code_of Failed = 1
exit_code_of Refused = 2
exit_code_of ReadFault = 3
exit_code_of WriteFault = 4
exit_code_of OutOfMemory = 5
exit_code_of OutFault = 6
exit_code_of Usage = 64
