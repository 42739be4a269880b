-- What the rule of a board says of its payment words.
use Rattle.std.proofs.Common.{◌≡◌, ℕ, ◌+◌, ◌<◌, ◌≤◌, All, List, length, sum, sym, ap, ◌∙◌, subst, arith}
use Rattle.std.specs.Prelude.{slice_index}
use mathlib.Core.List.{map-map}
use Rattle.clr_net.specs.Amounts.{IsAtMost}
use Rattle.clr_net.specs.Net.{debt_numbers}
use Rattle.clear_core.specs.Clearing.{least}
use Rattle.pay_words.specs.declared.origin.Origin.{Origin}
use Rattle.pay_words.specs.declared.payment.Payment.{Payment}
use Rattle.pay_words.specs.declared.view.View.{View}
use Rattle.pay_words.specs.Ends.{values}
use Rattle.pay_words.specs.BoardRule.{MeetsRule}
use Rattle.pay_words.specs.Positions.{position_of}
use Rattle.pay_words.specs.Standing.{StaysBelowLeast, KeepsStampsLow, payments_in}
use Rattle.pay_words.specs.Traces.{Traces, ending, paid_in}
use Rattle.pay_words.specs.Views.{BoardView}
use Rattle.pay_words.specs.Words.{payment_of, unpaid}
use Rattle.pay_words.proofs.Tables.{tabled_at, tabled_agree, length-tabled}
use Rattle.pay_words.proofs.Traces.{read_back}
use Rattle.pay_words.proofs.Lawful.{value_fits, paid_in_below}

module _ (d : Origin) (words : List ℕ) (views : List View) (h : MeetsRule d words views) where
  -- the raises of each debt
  abbrev trace : Traces
  trace = h.history.trace

  -- the word of a debt holds what the debt's last raise left
  pub stands : (x : ℕ) → x < length d.net.debts → payment_of (slice_index words (position_of d.net x + 1)) ≡ ending (trace x)
  stands x lt = ap payment_of (h.stands x lt)
      ∙ read_back (ending (trace x)) (omega (arith, value_fits d.net trace h.lawful x lt h.network))

  -- so the values are what the raises paid
  pub values_are : values (payments_in d.net words) ≡ paid_in d.net trace
  values_are =
      ap values (tabled_agree unpaid (length d.net.debts) (λ x. payment_of (slice_index words (position_of d.net x + 1))) (λ x. ending (trace x)) stands)
      ∙ map-map (λ (p : Payment). p.value) (λ x. ending (trace x)) (debt_numbers d.net)

  -- no payment is above the least one
  below : IsAtMost (values (payments_in d.net words)) (least d.net)
  below = subst (λ (ps : List ℕ). IsAtMost ps (least d.net)) (sym values_are) (paid_in_below d.net trace h.lawful)

  -- no stamp is above what is paid in all
  low : All (λ p. p.stamp ≤ sum (values (payments_in d.net words))) (payments_in d.net words)
  low k p lt =
      let l : k < length d.net.debts = omega (arith, lt, length-tabled (length d.net.debts) (λ x. payment_of (slice_index words (position_of d.net x + 1)))) in
      omega (
        arith,
        ap (λ (q : Payment). q.stamp) (tabled_at (length d.net.debts) (λ x. payment_of (slice_index words (position_of d.net x + 1))) k p l ∙ stands k l),
        h.lawful.low k l,
        ap sum values_are,
      )

-- at no moment is a payment word above the least clearing payments
pub stays_below_least : (board : BoardView) → StaysBelowLeast board
stays_below_least board words may = below (record { net = board.net; past = board.past }) words may.0 may.1

-- nor a stamp above what is paid in all
pub keeps_stamps_low : (board : BoardView) → KeepsStampsLow board
keeps_stamps_low board words may = low (record { net = board.net; past = board.past }) words may.0 may.1
