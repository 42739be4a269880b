-- What the inner halves of making a board and of handing out a seat ask for and answer.
use Rattle.std.specs.Prelude.{◌≡◌, ℕ, ◌+◌, ◌<◌, true, IfOk, List, length, OnErr, OnOk, Result}
use Rattle.std.specs.Prelude.{slice_index, slice_index_or}
use Rattle.clr_net.specs.Net.{Net}
use Rattle.clear_core.specs.declared.event.Raise.{Raise}
use Rattle.pay_words.specs.declared.TheConstants.{MAX_SEATS}
use Rattle.pay_words.specs.declared.payment.Payment.{Payment}
use Rattle.pay_words.specs.Bells.{bell}
use Rattle.pay_words.specs.Holding.{HoldsAllOf}
use Rattle.pay_words.specs.Positions.{position_of}
use Rattle.pay_words.specs.Seating.{handed, opening, without}
use Rattle.pay_words.specs.Views.{BoardView, IsAt, SeatView}
use Rattle.pay_words.specs.Words.{unpaid, word_of}

-- the words of a new board: the roll word is 1, that of each debt has its payment, and the bells
-- are all up
pub record AreOpening (net : Net) (start : List Payment) (words : List ℕ) : Type 0 where
  pub size : length words ≡ 1 + length net.debts + length net.banks
  pub roll : slice_index words 0 ≡ 1
  pub paid : (x : ℕ) → x < length net.debts
      → slice_index words (position_of net x + 1) ≡ word_of (slice_index_or start x unpaid)
  pub up : (b : ℕ) → b < length net.banks → bell net words b ≡ 1

-- a board of the network for so many workers, on which the payments of a past stand, and its master
pub record AreMade (net : Net) (workers : ℕ) (start : List Payment) (past : List Raise)
    (made : BoardView × SeatView) : Type 0 where
  pub net_is : made.0.net ≡ net
  pub past_is : made.0.past ≡ past
  pub workers_are : made.0.table.workers ≡ workers
  pub table : made.1.table ≡ made.0.table
  pub shows : made.1.shows ≡ opening net start

-- the master of the board may hand the banks of a worker to a new seat
pub record MayHandOut (board : BoardView) (master : SeatView) (worker : ℕ) : Type 0 where
  pub at : IsAt board master
  pub is_the_master : master.shows.master ≡ true
  pub known : worker < board.table.workers
  pub banks : HoldsAllOf board.table.workers worker master.shows
  pub seats : master.shows.seats < MAX_SEATS

-- it handed them to the seat that it answers, or for want of memory nothing has changed
pub record HandsOut {E : Type 0} (board : BoardView) (worker : ℕ) (old new : SeatView)
    (answer : Result SeatView E) : Type 0 where
  pub table : new.table ≡ old.table
  pub rest : OnOk answer (new.shows ≡ without board.table.workers worker old.shows)
  pub seat : IfOk answer (λ s. (s.table ≡ board.table)
      × (s.shows ≡ handed board.table.workers worker old.shows))
  pub unchanged : OnErr answer (new.shows ≡ old.shows)
