-- What is said of a file that was not fetched.
use Rattle.std.specs.Prelude.{ℕ, List, codes}
use Rattle.clr_edge.specs.declared.shelf.FetchFault.{FetchFault}
use Rattle.clr_edge.specs.declared.shelf.FetchFault.TheVariants as fault

-- why a file was not fetched
abbrev pub fetch_fault_text : FetchFault → List ℕ
fetch_fault_text fault.Failed = codes "cannot read the file"
fetch_fault_text fault.Mem = codes "out of memory"
