-- The raises of each debt, in the order in which they were made, and what makes them a lawful
-- history.
use Rattle.std.specs.Prelude.{◌≡◌, ◌⊎◌, ℕ, ◌<◌, ◌≤◌, ◌==◌, All, List, [], ◌∷◌, length, filter, sum}
use Rattle.std.specs.Prelude.{sum_by, slice_index}
use Rattle.std.specs.List.{AllPairs, Contains}
use Rattle.clr_net.specs.Net.{Net, debtor_of, column}
use Rattle.clear_core.specs.Clearing.{part, least}
use Rattle.clear_core.specs.History.{raised_before}
use Rattle.clear_core.specs.declared.event.Raise.{Raise}
use Rattle.pay_words.specs.declared.payment.Payment.{Payment}
use Rattle.pay_words.specs.Words.{unpaid}
use Rattle.pay_words.specs.Tables.{tabled}

-- the raises of the debt x
abbrev pub raises_of : ℕ → List Raise → List Raise
raises_of x rs = filter (λ r. r.debt.0 == x) rs

-- the payment of the last raise, or p where there is none
abbrev pub ending_from : Payment → List Raise → Payment
ending_from p [] = p
ending_from p (r ∷ rs) = ending_from (record { value = r.to; stamp = r.stamp }) rs

-- the payment of the last raise, or nothing paid where there is none
abbrev pub ending : List Raise → Payment
ending rs = ending_from unpaid rs

-- the payment of the debt's last raise
abbrev pub last_payment : ℕ → List Raise → Payment
last_payment x rs = ending (raises_of x rs)

-- what the raises leave on each debt
abbrev pub start_of : Net → List Raise → List Payment
start_of net rs = tabled (length net.debts) (λ x. last_payment x rs)

-- stamps and amounts rise along the list
abbrev pub Rise : List Raise → Type 0
Rise rs = AllPairs (λ r s. (r.stamp < s.stamp) × (r.to < s.to)) rs

-- the raises of each debt
abbrev pub Traces : Type 0
Traces = ℕ → List Raise

-- what is paid on each debt after all raises
abbrev pub paid_in : Net → Traces → List ℕ
paid_in net t = tabled (length net.debts) (λ x. (ending (t x)).value)

-- what is paid in all
abbrev pub total : Net → Traces → ℕ
total net t = sum (paid_in net t)

-- what raises of smaller stamp have paid to the debtor of the debt x
abbrev pub paid_to : Net → Traces → ℕ → ℕ → ℕ
paid_to net t stamp x = sum_by (λ y. raised_before stamp (t y) y) (column net (debtor_of net x))

-- of each debt the stamps and amounts rise, and each raise is within what its debtor's rule gives
-- from its cash and from what raises of smaller stamp pay to it, less what it owes outside; no
-- stamp is above the sum of what is paid
pub record AreLawfulTraces (net : Net) (t : Traces) : Type 0 where
  pub rise : (x : ℕ) → x < length net.debts → Rise (t x)
  pub each : (x : ℕ) → x < length net.debts → All (λ r. (0 < r.to) × (r.debt.0 ≡ x)) (t x)
  pub within : (x : ℕ) → x < length net.debts
      → All (λ r. r.to ≤ part net x (paid_to net t r.stamp x)) (t x)
  pub most : (x : ℕ) → x < length net.debts → (ending (t x)).value ≤ slice_index (least net) x
  pub low : (x : ℕ) → x < length net.debts → (ending (t x)).stamp ≤ total net t

-- a payment that stood once: none yet, or that of one of the raises
abbrev pub Stood : List Raise → ℕ → ℕ → Type 0
Stood rs value stamp = ((value ≡ 0) × (stamp ≡ 0))
    ⊎ ((r : Raise) × Contains rs r × (value ≡ r.to) × (stamp ≡ r.stamp))
