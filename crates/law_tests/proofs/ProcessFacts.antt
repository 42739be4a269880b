-- What laws on events, histories and rounds ask for, met at concrete networks.
use Rattle.std.proofs.Common.{◌≡◌, ◌≢◌, ◌⊎◌, ℕ, zero, suc, ◌+◌, ◌<◌, ◌≤◌, true, All, [], ◌∷◌}
use Rattle.std.proofs.Common.{length, get_or, slice_get, Some, Ok, refl, subst, inl, arith, ap}
use Rattle.std.proofs.Common.{lit<, lit≤, rules}
use Rattle.std.specs.List.Sorted.{IsPermutation}
use Rattle.std.specs.Prelude.{slice_index_or}
use Rattle.clr_net.specs.Amounts.{IsAtMost}
use Rattle.clr_net.specs.Division.{share_by_from}
use Rattle.clr_net.specs.Samples.{chain}
use Rattle.clr_net.specs.declared.debt.DebtId.{DebtId}
use Rattle.rule_unit.specs.Units.{awards_after}
use Rattle.clear_core.specs.Clearing.{pay, least}
use Rattle.clear_core.specs.Cases.{chain_least, chain_pays_on}
use Rattle.clear_core.specs.History.{IsHistory, may_precede, paid_before}
use Rattle.clear_core.specs.Process.{AreLegal, opening}
use Rattle.clear_core.specs.declared.event.Raise.{Raise}
use Rattle.cascade.specs.Cases.{chain_clears}
use Rattle.pay_words.specs.Ends.{HaveLowStamps}
use Rattle.pay_words.specs.Traces.{start_of}
use Rattle.net_csv.specs.Cases.{reading_on_literals}
use Rattle.net_csv.specs.Reading.{network_of}
use Rattle.law_tests.specs.Nets.{events, raise, two, two_ordered, dry_ring, dry_banks, dry_debts}
use Rattle.law_tests.specs.Nets.{cycle, cycle_banks, cycle_debts}
use Rattle.law_tests.proofs.AtMost.{at_most}

-- the three events are legal from the opening of the chain on
pub legal : AreLegal chain (opening chain) events
unfolding AreLegal awards_after share_by_from
legal = ((lit< tt, lit< tt, lit≤ tt), (lit< tt, ((lit< tt, lit< tt, lit≤ tt), tt)))

-- no two of the two raises have both the same stamp and the same debt
differ : (i j : ℕ) (a b : Raise) → i < j → slice_get two i ≡ Some a → slice_get two j ≡ Some b
    → (a.stamp ≢ b.stamp) ⊎ (a.debt ≢ b.debt)
differ zero zero a b l e f = absurd (omega arith)
differ zero (suc zero) a b l e f =
    let s : 2 ≡ a.stamp = cc in
    let t : 1 ≡ b.stamp = cc in
    inl (λ same. omega arith)
differ zero (suc (suc j)) a b l e f = cc
differ (suc i) zero a b l e f = absurd (omega arith)
differ (suc i) (suc zero) a b l e f = absurd (omega arith)
differ (suc i) (suc (suc j)) a b l e f = cc

-- before stamp 1 nothing is paid: A pays its 7, and B the 1 that it has
before_1 : pay chain (paid_before chain 1 two) ≡ 7 ∷ 1 ∷ []
unfolding awards_after share_by_from pay
before_1 = refl

-- before stamp 2 the 7 of A are paid: B pays 8
before_2 : pay chain (paid_before chain 2 two) ≡ 7 ∷ 8 ∷ []
unfolding awards_after share_by_from pay
before_2 = refl

-- each of the two raises is within what its bank pays from what came before it
within_pay : (i : ℕ) (r : Raise) → slice_get two i ≡ Some r
    → r.to ≤ get_or (pay chain (paid_before chain r.stamp two)) r.debt.0 0
within_pay zero r e =
    let same : raise 2 1 8 ≡ r = cc in
    subst (λ r. r.to ≤ get_or (pay chain (paid_before chain r.stamp two)) r.debt.0 0) same
    (rw before_2 (lit≤ tt))
within_pay (suc zero) r e =
    let same : raise 1 0 7 ≡ r = cc in
    subst (λ r. r.to ≤ get_or (pay chain (paid_before chain r.stamp two)) r.debt.0 0) same
    (rw before_1 (lit≤ tt))
within_pay (suc (suc i)) r e = cc

-- each of the two raises is to more than 0
above_zero : (i : ℕ) (r : Raise) → slice_get two i ≡ Some r → 0 < r.to
above_zero zero r e = let t : 8 ≡ r.to = cc in omega arith
above_zero (suc zero) r e = let t : 7 ≡ r.to = cc in omega arith
above_zero (suc (suc i)) r e = cc

-- there is no third raise
nowhere : (i : ℕ) (r : Raise) → slice_get two (suc (suc i)) ≡ Some r → ⊥
nowhere i r e = cc

-- raises that are equal have one stamp
at_stamp : (q r : Raise) → Some q ≡ Some r → q.stamp ≡ r.stamp
at_stamp q r e = let same : q ≡ r = cc in ap (λ (d : Raise). d.stamp) same

-- raises that are equal are of one debt
at_debt : (q r : Raise) → Some q ≡ Some r → q.debt.0 ≡ r.debt.0
at_debt q r e = let same : q ≡ r = cc in ap (λ (d : Raise). d.debt.0) same

-- two raises of one debt would rise with their stamps; there are none
rises : (i j : ℕ) (a b : Raise) → slice_get two i ≡ Some a → slice_get two j ≡ Some b
    → a.debt ≡ b.debt → a.stamp < b.stamp → a.to < b.to
rises zero zero a b e f d l = absurd (omega (arith, at_stamp (raise 2 1 8) a e, at_stamp (raise 2 1 8) b f))
rises zero (suc zero) a b e f d l =
    let x : 1 ≡ a.debt.0 = at_debt (raise 2 1 8) a e in
    let y : 0 ≡ b.debt.0 = at_debt (raise 1 0 7) b f in
    let z : a.debt.0 ≡ b.debt.0 = ap (λ (d : DebtId). d.0) d in absurd (omega arith)
rises (suc zero) zero a b e f d l =
    let x : 0 ≡ a.debt.0 = at_debt (raise 1 0 7) a e in
    let y : 1 ≡ b.debt.0 = at_debt (raise 2 1 8) b f in
    let z : a.debt.0 ≡ b.debt.0 = ap (λ (d : DebtId). d.0) d in absurd (omega arith)
rises (suc zero) (suc zero) a b e f d l = absurd (omega (arith, at_stamp (raise 1 0 7) a e, at_stamp (raise 1 0 7) b f))
rises (suc (suc i)) j a b e f d l = absurd (nowhere i a e)
rises zero (suc (suc j)) a b e f d l = absurd (nowhere j b f)
rises (suc zero) (suc (suc j)) a b e f d l = absurd (nowhere j b f)

-- the two raises are a history of the chain
pub history : IsHistory chain two
history = record {
  traced = record { differ = differ; within = within_pay };
  above_zero = above_zero;
  rises = rises;
}

-- in order they are the same raises, exchanged once
pub permuted : IsPermutation two two_ordered
permuted = record { moves = (0, 1) ∷ []; below = (lit< tt, lit< tt, tt); is = refl }

-- in order each may come before the next
pub in_steps : (k : ℕ) (d : Raise) → k + 1 < length two_ordered
    → may_precede (slice_index_or two_ordered k d) (slice_index_or two_ordered (k + 1) d) ≡ true
in_steps zero d l = refl
in_steps (suc k) d l = absurd (omega arith)

-- two further raises have greater stamps than both
pub later : All (λ r. All (λ p. p.stamp < r.stamp) two) (raise 4 0 9 ∷ raise 3 1 9 ∷ [])
later = search rules

-- from payments of 7 and 0 no payment of the chain falls
pub seven_rises : IsAtMost (7 ∷ 0 ∷ []) (pay chain (7 ∷ 0 ∷ []))
seven_rises = rw chain_pays_on (at_most (7 ∷ 0 ∷ []) (7 ∷ 8 ∷ []) refl)

-- payments of 7 and 0 are at most the least ones
pub seven_below : IsAtMost (7 ∷ 0 ∷ []) (least chain)
seven_below = rw chain_least (at_most (7 ∷ 0 ∷ []) (7 ∷ 8 ∷ []) refl)

-- payments of 7 and 8 are at most the least ones
pub all_below : IsAtMost (7 ∷ 8 ∷ []) (least chain)
all_below = rw chain_least (at_most (7 ∷ 8 ∷ []) (7 ∷ 8 ∷ []) refl)

-- at payments of 7 and 8 nothing is left to raise
pub all_covered : IsAtMost (pay chain (7 ∷ 8 ∷ [])) (7 ∷ 8 ∷ [])
all_covered = rw chain_clears (at_most (7 ∷ 8 ∷ []) (7 ∷ 8 ∷ []) refl)

-- the stamps of both raises are within those that were given out
pub low_stamps : HaveLowStamps two_ordered (start_of chain two_ordered)
low_stamps = search rules

-- the ring without cash is what its files say
pub dry_reads : network_of dry_banks dry_debts ≡ Ok dry_ring
unfolding reading_on_literals
dry_reads = refl

-- the cycle of three debts is what its files say
pub cycle_reads : network_of cycle_banks cycle_debts ≡ Ok cycle
unfolding reading_on_literals
cycle_reads = refl
