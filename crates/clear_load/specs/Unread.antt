-- The fault of a network that is not read.
use Rattle.net_check.specs.declared.fault.ReadNet.{ReadNet}
use Rattle.net_check.specs.declared.fault.ReadNet.TheVariants as read
use Rattle.clear_load.specs.declared.fault.LoadFault.{LoadFault}
use Rattle.clear_load.specs.declared.fault.LoadFault.TheVariants as fault

-- the fault that loading tells where what was fetched is not read
abbrev pub fault_of : ReadNet → LoadFault
fault_of (read.Refused f) = fault.Refused f
fault_of read.Mem = fault.Mem
