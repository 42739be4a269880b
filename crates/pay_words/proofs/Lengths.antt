-- A seat has a place for each bank, or for each debt, in each of its lists: by how long the lists are.
use Rattle.std.proofs.Common.{◌≡◌, ℕ, List, length}
use Rattle.std.proofs.lemmas.List.{length-set, length-replicate, length-map}
use Rattle.std.proofs.lemmas.List.FromFn.{length-map-range_with_len}
use Rattle.clr_net.specs.Net.{Net}
use Rattle.pay_words.specs.declared.payment.Payment.{Payment}
use Rattle.pay_words.specs.declared.view.Shown.{Shown}
use Rattle.pay_words.specs.Sound.{IsOver}
use Rattle.pay_words.specs.Seating.{opening, rejoined_over, without}
use Rattle.pay_words.specs.Paying.{looked, raised}

-- a look keeps the lengths of the lists
pub over_looked : (s : Shown) (x : ℕ) (p : Payment) → IsOver s → IsOver (looked s x p)
over_looked s x p h = search length-set

-- a raise keeps them
pub over_raised : (s : Shown) (x to : ℕ) → IsOver s → IsOver (raised s x to)
over_raised s x to h = search length-set

-- so does handing out a seat
pub over_without : (workers i : ℕ) (s : Shown) → IsOver s → IsOver (without workers i s)
over_without workers i s h = search length-map-range_with_len

-- the lists of a master that took a seat back have their lengths
pub over_rejoined : (net : Net) (s t : Shown) → s.net ≡ net → IsOver (rejoined_over net s t)
over_rejoined net s t e = rw (← e) (search length-map-range_with_len)

-- so have those of the master of a new board
pub over_opening : (net : Net) (start : List Payment) → length start ≡ length net.debts → IsOver (opening net start)
over_opening net start e = search (length-replicate, length-map, e)
