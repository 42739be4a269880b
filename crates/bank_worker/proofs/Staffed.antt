-- A worker stays staffed over a visit and over a take.
use Rattle.std.proofs.Common.{ℕ, Bool, true, false, List}
use Rattle.std.specs.Prelude.{if◌then◌else◌}
use Rattle.clear_core.specs.declared.event.Raise.{Raise}
use Rattle.pay_words.specs.declared.view.Shown.{Shown}
use Rattle.pay_words.specs.Views.{took}
use Rattle.bank_worker.specs.Offices.{IsOfficeFor, OfficeView}
use Rattle.bank_worker.specs.Staff.{IsStaffed}
use Rattle.bank_worker.specs.Views.{banks_held}
use Rattle.bank_worker.specs.Visits.{IsSameSeat}

-- over a take, whatever its answer
pub staffed_taken : (s : Shown) (b : ℕ) (up : Bool) (journal : List Raise) (o : OfficeView) → IsStaffed s journal o
    → IsStaffed (if up then took s b else s) journal o
staffed_taken s b true journal o h = record { office = h.office; not_the_master = h.not_the_master; noted = h.noted; no_rings = h.no_rings }
staffed_taken s b false journal o h = h

-- the network and the banks of the seat stay, and so the office serves them
pub office_kept : (s t : Shown) (o : OfficeView) → IsSameSeat s t → IsOfficeFor s.net (banks_held s) o → IsOfficeFor t.net (banks_held t) o
office_kept s t o same h = rw (same.net, same.banks) h
