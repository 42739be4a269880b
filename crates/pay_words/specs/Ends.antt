-- What is true of the payments when a board is closed.
use Rattle.std.specs.Prelude.{◌≡◌, ℕ, ◌+◌, ◌<◌, ◌≤◌, ◌++◌, All, List, length, map, sum, slice_index}
use Rattle.clr_net.specs.Amounts.{IsAtMost}
use Rattle.clr_net.specs.Net.{Net}
use Rattle.clear_core.specs.Clearing.{least, pay}
use Rattle.clear_core.specs.History.{ordered, replayed}
use Rattle.clear_core.specs.declared.event.Raise.{Raise}
use Rattle.pay_words.specs.declared.payment.Payment.{Payment}
use Rattle.pay_words.specs.declared.view.Shown.{Shown}
use Rattle.pay_words.specs.Belongs.{Belongs}
use Rattle.pay_words.specs.Tables.{tabled}

-- the payments that a seat shows
abbrev pub payments_of : Shown → List Payment
payments_of s = tabled (length s.net.debts)
    (λ x. record { value = slice_index s.paid x; stamp = slice_index s.paid_stamps x })

-- their values, without the stamps
abbrev pub values : List Payment → List ℕ
values payments = map (λ p. p.value) payments

-- these raises, in order, are lawful where they stand and by their stamps, and what they leave on
-- each debt is its payment
abbrev pub AreLawful : Net → List Raise → List Payment → Type 0
AreLawful net raises payments = Belongs net payments (ordered raises)

-- in order, they replay to the values of the payments
abbrev pub Replay : Net → List Raise → List Payment → Type 0
Replay net raises payments = replayed net (ordered raises) ≡ values payments

-- no stamp is above the sum of the values
abbrev pub HaveLowStamps : List Raise → List Payment → Type 0
HaveLowStamps raises payments = All (λ r. r.stamp ≤ sum (values payments)) raises

-- each raise is stamped after all of the past
abbrev pub AreAfter : List Raise → List Raise → Type 0
AreAfter past raises = All (λ r. All (λ p. p.stamp < r.stamp) past) raises

-- The payments of a closed board, whose master showed s: none is above the least clearing payment,
-- or above what its bank would pay where all are paid. The raises of the past and those of the
-- board, in order, are lawful, replay to the payments, and have low stamps. And bells were taken at
-- most once for each bank and once for each raise
pub record Ends (net : Net) (past : List Raise) (s : Shown) (payments : List Payment) : Type 0 where
  pub payments_are : payments ≡ payments_of s
  pub below_least : IsAtMost (values payments) (least net)
  pub covered : IsAtMost (values payments) (pay net (values payments))
  pub lawful : AreLawful net (past ++ s.raises) payments
  pub replays : Replay net (past ++ s.raises) payments
  pub low_stamps : HaveLowStamps (past ++ s.raises) payments
  pub low_in_order : HaveLowStamps (ordered (past ++ s.raises)) payments
  pub after_past : AreAfter past s.raises
  pub few_bells : s.taken ≤ length net.banks + length s.raises
