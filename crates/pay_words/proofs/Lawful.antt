-- One more raise keeps the raises lawful, and no payment word overflows.
use Rattle.std.proofs.Common.{le_refl}
use Rattle.std.proofs.Common.{◌≡◌, ◌≢◌, ℕ, ◌+◌, ◌<◌, ◌≤◌, List, length, sum, refl, ap, ◌∙◌, le_trans, arith, All, get_or, ◌++◌, ◌∷◌, []}
use Rattle.std.specs.Prelude.{slice_index}
use Rattle.std.proofs.lemmas.List.{get_or_past}
use Rattle.std.proofs.lemmas.List.Sums.{sum_by-le-sum_by}
use Rattle.clear_core.proofs.Within.{least_in_limit}
use native.Mathlib.Decide.{dec_lt}
use mathlib.Core.Logic.{dite}
use Rattle.clr_net.specs.declared.TheConstants.{MAX_CLAIM}
use Rattle.clr_net.specs.Amounts.{IsAtMost}
use Rattle.clr_net.specs.Limits.{IsNetwork}
use Rattle.clr_net.specs.Net.{Net, debtor_of, column, units_owed}
use Rattle.clr_net.proofs.Lists.{sum-le}
use Rattle.clear_core.specs.Clearing.{part, receipts, least}
use Rattle.clear_core.specs.History.{raised_before}
use Rattle.clear_core.specs.declared.event.Raise.{Raise}
use Rattle.clear_core.proofs.Pay.{part_mono, sum-pay_le}
use Rattle.clear_core.proofs.Least.{least_clears}
use Rattle.pay_words.specs.declared.payment.Payment.{Payment}
use Rattle.pay_words.specs.Words.{unpaid}
use Rattle.pay_words.specs.Traces.{Traces, AreLawfulTraces, Rise, Stood, ending, paid_in, paid_to, total}
use Rattle.pay_words.proofs.Tables.{tabled_at, length-tabled, sum_less, tabled_most, changed_here, changed_else, changed_each}
use Rattle.pay_words.proofs.Traces.{left_by, pushed, before_pushed, under_ending, ending_push, stood_before}
use Rattle.std.proofs.lemmas.List.Quantifiers.{all_pairs_push}
use Rattle.std.proofs.lemmas.List.Elements.{All-push}

-- the least clearing payments are in all within what is owed
pub sum-least_le : (net : Net) → sum (least net) ≤ units_owed net
sum-least_le net = omega (arith, ap sum (least_clears net), sum-pay_le net (least net))

module _ (net : Net) (t : Traces) (h : AreLawfulTraces net t) where
  -- what the traces have paid on a debt is the value of its last raise
  pub paid_in_at : (x : ℕ) → x < length net.debts → slice_index (paid_in net t) x ≡ (ending (t x)).value
  paid_in_at x lt = tabled_at (length net.debts) (λ y. (ending (t y)).value) x 0 lt

  -- no payment of lawful traces is above the least clearing payment
  pub paid_in_below : IsAtMost (paid_in net t) (least net)
  paid_in_below x = grind (arith, paid_in_at x, h.most x, get_or_past (paid_in net t) x 0, length-tabled (length net.debts) (λ y. (ending (t y)).value))

  -- lawful traces pay in all no more than is owed
  pub total_le : total net t ≤ units_owed net
  total_le = omega (arith, sum-le (paid_in net t) (least net) paid_in_below, sum-least_le net)

  -- both halves of a payment word fit
  pub value_fits : (x : ℕ) → x < length net.debts → IsNetwork net → (ending (t x)).value ≤ MAX_CLAIM
  value_fits x lt network = omega (arith, h.most x lt, least_in_limit net x network)

  module _ (x : ℕ) (lt : x < length net.debts) (r : Raise) (is : r.debt.0 ≡ x) where
    -- the raises with one more on the debt x
    abbrev more : Traces
    more = pushed t x r

    -- the debt ends with what this raise left
    pub ending_here : (y : ℕ) → y ≡ x → ending (more y) ≡ left_by r
    ending_here y e = ap ending (changed_here x (t x ++ r ∷ []) t y e) ∙ ending_push unpaid (t x) r

    -- each other debt ends as before
    pub ending_else : (y : ℕ) → y ≢ x → ending (more y) ≡ ending (t y)
    ending_else y ne = ap ending (changed_else x (t x ++ r ∷ []) t y ne)

    module _ (up : (ending (t x)).value < r.to) where
      -- no debt ends with less
      pub ending_rises : (y : ℕ) → (ending (t y)).value ≤ (ending (more y)).value
      ending_rises = changed_each (λ y rs. (ending (t y)).value ≤ (ending rs).value) x (t x ++ r ∷ []) t
          (omega (arith, up, ap (λ (q : Payment). q.value) (ending_push unpaid (t x) r))) (λ y _. le_refl _)

      -- more is paid in all
      pub total_rises : total net t < total net more
      total_rises = sum_less (paid_in net t) (paid_in net more) x (omega (arith, length-tabled (length net.debts) (λ y. (ending (t y)).value)))
          (tabled_most (length net.debts) (λ y. (ending (t y)).value) (λ y. (ending (more y)).value) (λ y _. ending_rises y))
          (omega (arith, paid_in_at x lt, tabled_at (length net.debts) (λ z. (ending (more z)).value) x 0 lt, up, ap (λ (q : Payment). q.value) (ending_here x refl)))

      -- no bank's part is less by what was paid
      within_more : (stamp y : ℕ) → part net y (paid_to net t stamp y) ≤ part net y (paid_to net more stamp y)
      within_more stamp y = part_mono net y _ _
          (sum_by-le-sum_by (λ z. raised_before stamp (t z) z) (λ z. raised_before stamp (more z) z) (column net (debtor_of net y)) (before_pushed t x r stamp))

      -- one more raise within the debtor's part, with a later stamp, keeps all of them lawful
      pub lawful_push : (ending (t x)).stamp < r.stamp → r.to ≤ part net x (paid_to net t r.stamp x) → r.to ≤ slice_index (least net) x → r.stamp ≤ total net t + 1 → AreLawfulTraces net more
      lawful_push late within below low = record {
        rise = changed_each (λ y rs. y < length net.debts → Rise rs) x (t x ++ r ∷ []) t
            (λ _. all_pairs_push (λ q s. (q.stamp < s.stamp) × (q.to < s.to)) (t x) r (h.rise x lt) (λ k d l.
            let u = under_ending unpaid (t x) (h.rise x lt) k d l in
            (omega (arith, late, u.0), omega (arith, up, u.1))))
            (λ y _. h.rise y);
        each = changed_each (λ y rs. y < length net.debts → All (λ s. (0 < s.to) × (s.debt.0 ≡ y)) rs) x (t x ++ r ∷ []) t
            (λ _. All-push (λ s. (0 < s.to) × (s.debt.0 ≡ x)) (t x) r (h.each x lt) (omega (arith, up), is))
            (λ y _. h.each y);
        within = changed_each (λ y rs. y < length net.debts → All (λ s. s.to ≤ part net y (paid_to net more s.stamp y)) rs) x
            (t x ++ r ∷ []) t
            (λ _. All-push (λ s. s.to ≤ part net x (paid_to net more s.stamp x)) (t x) r (still x lt)
            (le_trans within (within_more r.stamp x)))
            (λ y _. still y);
        most = changed_each (λ y rs. y < length net.debts → (ending rs).value ≤ slice_index (least net) y) x (t x ++ r ∷ []) t
            (λ _. omega (arith, below, ap (λ (q : Payment). q.value) (ending_push unpaid (t x) r))) (λ y _. h.most y);
        low = changed_each (λ y rs. y < length net.debts → (ending rs).stamp ≤ total net more) x (t x ++ r ∷ []) t
            (λ _. omega (arith, low, total_rises, ap (λ (q : Payment). q.stamp) (ending_push unpaid (t x) r)))
            (λ y _ l. omega (arith, h.low y l, total_rises));
      }
        where
          still : (y : ℕ) → y < length net.debts → All (λ s. s.to ≤ part net y (paid_to net more s.stamp y)) (t y)
          still y l k d lk = le_trans (h.within y l k d lk) (within_more (get_or (t y) k d).stamp y)

  -- what was seen before the stamp was paid before it
  pub seen_before : (sights stamps : List ℕ) (stamp x : ℕ) → length sights ≡ length net.debts
      → ((y : ℕ) → y < length net.debts → Stood (t y) (slice_index sights y) (slice_index stamps y)) → ((y : ℕ) → slice_index stamps y < stamp)
      → part net x (receipts net sights (debtor_of net x)) ≤ part net x (paid_to net t stamp x)
  seen_before sights stamps stamp x size stood early = part_mono net x _ _
      (sum_by-le-sum_by (slice_index sights) (λ y. raised_before stamp (t y) y) (column net (debtor_of net x))
      (λ y. dite (dec_lt y (length net.debts))
      (λ l. stood_before y (t y) (λ k d lk. (h.each y l k d lk).1) stamp (slice_index sights y) (slice_index stamps y) (stood y l)
      (early y))
      (λ ge. let far : length sights ≤ y = omega arith in omega (arith, get_or_past sights y 0 far))))
