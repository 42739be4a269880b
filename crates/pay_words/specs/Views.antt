-- What contracts see of a board and of a seat. Crates above find here also what the calls ask for
-- and change, which stands in files by topic.
use Rattle.std.specs.Prelude.{◌≡◌, ℕ, List}
use Rattle.atomic_table.specs.Seated.{TableId}
use Rattle.clr_net.specs.Net.{Net}
use Rattle.clear_core.specs.declared.event.Raise.{Raise}
use Rattle.pay_words.specs.declared.view.Shown.{Shown}
pub use Rattle.clear_core.specs.Raised.{is_marked}
pub use Rattle.pay_words.specs.Tables.{tabled, chosen}
pub use Rattle.pay_words.specs.Holding.{holds, HoldsAll, is_of_worker, HoldsAllOf}
pub use Rattle.pay_words.specs.Sound.{PaysWithin, IsOver, IsSound}
pub use Rattle.pay_words.specs.Seating.{greatest, opening, handed, without, rejoined_over, rejoined}
pub use Rattle.pay_words.specs.Paying.{look_at, looked, raise_of, a_raise, MayRaise, raised}
pub use Rattle.pay_words.specs.Ringing.{ring_of, owes_ring_to, OwesRing, OwesNoRing, rung, take_of}
pub use Rattle.pay_words.specs.Ringing.{IsCalm, HasSeenFloor, HasSeenAll, took}

-- the table of words that boards and seats are at, and for how many workers it was laid out
pub record Place : Type 0 where
  pub id : TableId
  pub workers : ℕ

-- a board: at which table, its network, and the raises that were made before it
pub record BoardView : Type 0 where
  pub table : Place
  pub net : Net
  pub past : List Raise

-- a seat: at which table, and what it shows
pub record SeatView : Type 0 where
  pub table : Place
  pub shows : Shown

-- the seat is one of this board
abbrev pub IsAt : BoardView → SeatView → Type 0
IsAt board seat = (seat.table ≡ board.table) × (seat.shows.net ≡ board.net)
