-- What is idle between two rounds, and what holds of a board while all its bells are down.
use Rattle.std.specs.Prelude.{◌≡◌, ◌⊎◌, ℕ, ◌<◌, ◌≤◌, true, false, List, length, slice_index}
use Rattle.clr_net.specs.Net.{Net, debtor_of}
use Rattle.clear_core.specs.Clearing.{Clears, least, part, receipts}
use Rattle.bank_desk.specs.Desks.{desk_of}
use Rattle.bank_worker.specs.Views.{Divides}
use Rattle.pay_words.specs.BoardRule.{MeetsRule, Sits}
use Rattle.pay_words.specs.Bells.{bell}
use Rattle.pay_words.specs.Ends.{values}
use Rattle.pay_words.specs.Standing.{payments_in}
use Rattle.pay_words.specs.declared.view.Shown.{Shown}
use Rattle.pay_words.specs.declared.view.View.{View}
use Rattle.pay_words.specs.Views.{BoardView, HoldsAll, OwesNoRing, is_marked}

-- all banks are held, no ring is owed, nothing is pending, and each bank is fresh or pays its
-- division at what was last seen: what a round leaves, and an opened board
pub record IsIdle (net : Net) (s : Shown) : Type 0 where
  pub net_is : s.net ≡ net
  pub holds_all : HoldsAll s
  pub no_rings : OwesNoRing s
  pub calm : (x : ℕ) → x < length net.debts → is_marked s.pending x ≡ false
  pub rest : (b : ℕ) → b < length net.banks
      → (is_marked s.fresh b ≡ true) ⊎ Divides s (desk_of net b)

-- at some moment between two atomic steps these are the words of the board, as its rule allows; one
-- of its seats shows s then, and each bell is down
pub record AreAllDown (board : BoardView) (words : List ℕ) (s : Shown) : Type 0 where
  pub views : List View
  pub rule : MeetsRule (record { net = board.net; past = board.past }) words views
  pub id : ℕ
  pub seat : Sits views id (λ v. v.shown ≡ s)
  pub down : (b : ℕ) → b < length board.net.banks → bell board.net words b ≡ 0

-- with what the seat saw no debt can be raised, and it saw all that is paid. What is paid clears, and
-- is the least that does; and so it stands in the words
pub record NobodyCanPayMore (net : Net) (words : List ℕ) (s : Shown) : Type 0 where
  pub no_raise : (x : ℕ) → x < length net.debts
      → part net x (receipts net s.sights (debtor_of net x)) ≤ slice_index s.paid x
  pub seen : (x : ℕ) → x < length net.debts → slice_index s.sights x ≡ slice_index s.paid x
  pub clears : Clears net s.paid
  pub paid : s.paid ≡ least net
  pub words_are : values (payments_in net words) ≡ least net
