-- What stands in the words of a board, whatever its seats do and whichever of them come back.
use Rattle.std.specs.Prelude.{ℕ, ◌+◌, ◌≤◌, All, List, length, slice_index, sum}
use Rattle.clr_net.specs.Amounts.{IsAtMost}
use Rattle.clr_net.specs.Net.{Net}
use Rattle.clear_core.specs.Clearing.{least}
use Rattle.pay_words.specs.declared.payment.Payment.{Payment}
use Rattle.pay_words.specs.declared.view.View.{View}
use Rattle.pay_words.specs.Ends.{values}
use Rattle.pay_words.specs.BoardRule.{MeetsRule}
use Rattle.pay_words.specs.Positions.{position_of}
use Rattle.pay_words.specs.Tables.{tabled}
use Rattle.pay_words.specs.Views.{BoardView}
use Rattle.pay_words.specs.Words.{payment_of}

-- the words may stand on the board at some moment: its rule, which holds between any two atomic
-- steps, holds of them beside what some seats show
abbrev pub MayStand : BoardView → List ℕ → Type 0
MayStand board words = (views : List View)
    × MeetsRule (record { net = board.net; past = board.past }) words views

-- the payments in the words of the debts, in file order
abbrev pub payments_in : Net → List ℕ → List Payment
payments_in net words = tabled (length net.debts)
    (λ x. payment_of (slice_index words (position_of net x + 1)))

-- at no moment is a payment word of the board above the least clearing payments
abbrev pub StaysBelowLeast : BoardView → Type 0
StaysBelowLeast board = (words : List ℕ) → MayStand board words
    → IsAtMost (values (payments_in board.net words)) (least board.net)

-- at no moment is a stamp in a payment word above the sum of what is paid
abbrev pub KeepsStampsLow : BoardView → Type 0
KeepsStampsLow board = (words : List ℕ) → MayStand board words
    → All (λ p. p.stamp ≤ sum (values (payments_in board.net words))) (payments_in board.net words)
