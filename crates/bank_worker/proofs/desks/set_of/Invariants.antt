use Rattle.std.proofs.Common.{◌≡◌, ℕ, take}
use Rattle.bank_worker.specs.BankSets.{is_in}
use Rattle.bank_worker.specs.Rings.{is_among}
use Rattle.bank_worker.proofs.desks.set_of.Given as goal

-- the set is that of the banks so far
abbrev pub invariant-loop-bank : goal.invariant-loop-bank
invariant-loop-bank l = (b : ℕ) → is_in l.set b ≡ is_among (take l.bank-index l.banks) b
