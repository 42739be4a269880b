-- The code of each status, and the status of a run whose files give nothing to work on.
use Rattle.std.specs.Prelude.{ℕ}
use Rattle.clear_load.specs.declared.fault.LoadFault.{LoadFault}
use Rattle.clear_load.specs.declared.fault.LoadFault.TheVariants as fault
use Rattle.clear_top.specs.declared.status.Status.{Status}
use Rattle.clear_top.specs.declared.status.Status.TheVariants as status

-- the code with which the program ends
abbrev pub code_of : Status → ℕ
code_of status.Done = 0
code_of status.Usage = 2
code_of (status.ReadFault k) = 3
code_of (status.Refused f) = 4
code_of status.WriteFault = 5
code_of status.Mem = 6
code_of (status.Unlawful v) = 7

-- the status with which a run ends that has nothing to work on
abbrev pub status_of : LoadFault → Status
status_of (fault.Unread k) = status.ReadFault k
status_of (fault.Refused f) = status.Refused f
status_of fault.Mem = status.Mem
