-- What is said of a text that gives no name.
use Rattle.std.specs.Prelude.{ℕ, List, codes}
use Rattle.clr_net.specs.declared.name.NameFault.{NameFault}
use Rattle.clr_net.specs.declared.name.NameFault.TheVariants as fault

-- why a text gives no name
abbrev pub name_fault_text : NameFault → List ℕ
name_fault_text fault.Bad = codes "not a name"
name_fault_text fault.Mem = codes "out of memory"
