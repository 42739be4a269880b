-- What one visit does: it looks at what is paid to the bank of a desk, raises what the bank pays, and
-- rings the creditors that are paid more.
use Rattle.std.specs.Prelude.{◌≡◌, ◌≢◌, ◌⊎◌, ℕ, ◌+◌, ◌<◌, ◌≤◌, ◌++◌, true, false, All, List, length}
use Rattle.std.specs.Prelude.{map, slice_index}
use Rattle.clr_net.specs.Net.{Net, creditor_of, debtor_of}
use Rattle.clear_core.specs.declared.event.Raise.{Raise}
use Rattle.bank_desk.specs.Desks.{BankView, target}
use Rattle.pay_words.specs.declared.payment.Payment.{Payment}
use Rattle.pay_words.specs.declared.view.Act.{Act}
use Rattle.pay_words.specs.declared.view.Shown.{Shown}
use Rattle.pay_words.specs.Views.{holds, is_marked, raise_of, ring_of}
use Rattle.bank_worker.specs.declared.visit.Visit.{Visit}
use Rattle.bank_worker.specs.declared.visit.Visit.TheVariants.{Raised, Mem}
use Rattle.bank_worker.specs.Rising.{Rises}
use Rattle.bank_worker.specs.Looks.{IsSeenAt, HasSameSight, last_seen, loaded_in, looks_at}
use Rattle.bank_worker.specs.Raises.{HasSamePay, IsAmong, IsRaisedIn, debts_of}
use Rattle.bank_worker.specs.Rings.{called_by}
use Rattle.bank_worker.specs.Views.{Divides, DividesOf, WorkerView, paid_by}

-- the answer is this number of units
abbrev pub WhenRaised : Visit → (ℕ → Type 0) → Type 0
WhenRaised (Raised n) P = P n
WhenRaised Mem P = Unit {0}

-- the answer is want of memory
abbrev pub WhenMem : Visit → Type 0 → Type 0
WhenMem (Raised n) P = Unit {0}
WhenMem Mem P = P

-- what no visit and no round changes of a seat
pub record IsSameSeat (s t : Shown) : Type 0 where
  pub net : t.net ≡ s.net
  pub master : t.master ≡ s.master
  pub banks : t.banks ≡ s.banks
  pub floor : t.floor ≡ s.floor
  pub seats : t.seats ≡ s.seats

-- what no visit and no round changes of a worker
pub record IsSameWorker (old new : WorkerView) : Type 0 where
  pub table : new.seat.table ≡ old.seat.table
  pub seat : IsSameSeat old.seat.shows new.seat.shows
  pub desks : new.desks ≡ old.desks
  pub worker : new.worker ≡ old.worker

-- a visit at the desk, of the seat that showed s and then shows t: each debt of the column was
-- looked at once, and no other
pub record LooksOnce (desk : BankView) (s t : Shown) : Type 0 where
  pub column : (x : ℕ) → x < length s.net.debts → creditor_of s.net x ≡ desk.bank → IsSeenAt s t x
  pub others : (x : ℕ) → x < length s.net.debts → creditor_of s.net x ≢ desk.bank
      → HasSameSight s t x

-- the raises of the seat are kept, and where n units were raised there are more of them
abbrev pub AddsRaises : ℕ → Shown → Shown → Type 0
AddsRaises n s t = (length s.raises ≤ length t.raises)
    × (n ≢ 0 → length s.raises + 1 ≤ length t.raises)

-- each debt on which more is paid is one of those that the seat raised
abbrev pub TellsRaises : Shown → Shown → Type 0
TellsRaises s t = (x : ℕ) → x < length s.net.debts
    → IsRaisedIn t.raises x ⊎ (slice_index t.paid x ≡ slice_index s.paid x)

-- the bank's payments rose by n units in all to what its rule gives from its cash and these sights,
-- less what it owes outside, and no other changed
pub record PaysOut (desk : BankView) (n : ℕ) (s t : Shown) : Type 0 where
  pub divides : Divides t desk
  pub rose : paid_by t desk ≡ paid_by s desk + n
  pub none_fell : (x : ℕ) → x < length s.net.debts → slice_index s.paid x ≤ slice_index t.paid x
  pub others : (x : ℕ) → x < length s.net.debts → debtor_of s.net x ≢ desk.bank → HasSamePay s t x
  pub raises : AddsRaises n s t
  pub told : TellsRaises s t

-- what a visit at the desk does that finds these payments and makes these raises: it looks at the
-- debts to the bank, then raises, and then rings the creditors that are paid more, each once
abbrev pub acts_of : Net → BankView → (ℕ → Payment) → List Raise → List Act
acts_of net desk found made = looks_at found desk.debts_in ++ map raise_of (debts_of made)
    ++ map ring_of (called_by net made)

-- each of these raises is of a debt of the desk's bank, to what the bank's rule gives that debt
-- from its cash and from so many units, less what it owes outside
abbrev pub AreRaisedBy : BankView → ℕ → List Raise → Type 0
AreRaisedBy desk received made =
    All (IsAmong desk.debts_out (target desk received) (length desk.debts_out)) made

-- the raises that a seat made in a visit at the desk are all of the bank's debts, in file order;
-- they, the looks before them and the rings after them are all that was done with it. The bank pays
-- the division of what these very looks loaded and so were its raises; and that was last seen
pub record AreNoted (desk : BankView) (s t : Shown) : Type 0 where
  pub made : List Raise
  pub grew : t.raises ≡ s.raises ++ made
  pub theirs : (j : ℕ) → j < length made → (slice_index (debts_of made) j < length s.net.debts)
      × (debtor_of s.net (slice_index (debts_of made) j) ≡ desk.bank)
  pub in_file_order : Rises (debts_of made)
  pub acts : t.acts ≡ s.acts ++ acts_of s.net desk (last_seen t) made
  pub divides : DividesOf (loaded_in (acts_of s.net desk (last_seen t) made)) t desk
  pub raised : AreRaisedBy desk (loaded_in (acts_of s.net desk (last_seen t) made)) made

-- no debt of the bank owes a ring. For the other banks of the seat nothing changed, and the fresh
-- marks and the bells taken are as before
pub record RingsAll (desk : BankView) (s t : Shown) : Type 0 where
  pub row : (x : ℕ) → x < length s.net.debts → debtor_of s.net x ≡ desk.bank
      → is_marked t.owes_ring x ≡ false
  pub others : (x : ℕ) → x < length s.net.debts → debtor_of s.net x ≢ desk.bank
      → holds s (debtor_of s.net x) ≡ true
      → is_marked t.owes_ring x ≡ is_marked s.owes_ring x
  pub fresh : t.fresh ≡ s.fresh
  pub taken : t.taken ≡ s.taken

-- what a visit at the desk that raised n units does to the seat
pub record IsSeatVisited (desk : BankView) (n : ℕ) (s t : Shown) : Type 0 where
  pub same : IsSameSeat s t
  pub looks : LooksOnce desk s t
  pub pays : PaysOut desk n s t
  pub notes : AreNoted desk s t
  pub rings : RingsAll desk s t

-- what it does to the worker: its journal grows by the very raises that the seat made
pub record IsVisited (desk : BankView) (n : ℕ) (old new : WorkerView) : Type 0 where
  pub seat : IsSeatVisited desk n old.seat.shows new.seat.shows
  pub journal : new.journal ≡ old.journal ++ seat.notes.made
