-- `greatest_by_is`: the payments after as many rounds as units owed from all debts paid in full
-- clear, and are at least all that clear, by whatever banks divide, where it never falls.
use Rattle.std.proofs.Common.{◌≡◌, ℕ, zero, suc, ◌+◌, ◌-◌, ◌≤◌, List, length, sym, ap, ◌∙◌, subst, arith}
use Rattle.std.proofs.lemmas.List.{length-map}
use Rattle.std.proofs.lemmas.List.Sums.{sum-map}
use Rattle.clr_net.specs.Amounts.{IsAtMost}
use Rattle.clr_net.specs.Claims.{all_claims}
use Rattle.clr_net.specs.Net.{Net, units_owed}
use Rattle.clr_net.proofs.Lists.{IsAtMost_antisym}
use Rattle.clr_net.proofs.RowsAndColumns.{claim_of_at}
use Rattle.clear_core.specs.Clearing.{spend, RisesTo, NeverFalls, pay_by, pay, Clears, estate, least_by}
use Rattle.clear_core.specs.Rounds.{rounds_of}
use Rattle.clear_core.proofs.Least.{least_by_is}
use Rattle.clear_core.proofs.Pay.{length-pay_by, pay_by_mono, pay_by_within, spend_mono}
use Rattle.clear_core.proofs.Settling.{rounds_fall, rounds_above, falling_settles, settled_stays, pay_by_is_paying}
use Rattle.cascade.proofs.Equities.{estate_mono}
use Rattle.upper.specs.Bounds.{IsGreatest, falling, greatest}
use Rattle.upper.specs.Greatest.{IsGreatestBy, falling_by, greatest_by}

-- no debt is paid more than its claim
pub pay_le_claims : (net : Net) (f : ℕ → ℕ → ℕ) (P : List ℕ)
    → IsAtMost (pay_by net f P) (all_claims net)
pay_le_claims net f P x = omega (arith, pay_by_within net f P x, claim_of_at net x)

module _ (net : Net) (f : ℕ → ℕ → ℕ) (never : NeverFalls f) where
  -- no round pays more than the one before
  pub falling_falls : (n : ℕ) → IsAtMost (pay_by net f (falling_by net f n)) (falling_by net f n)
  falling_falls n =
      rounds_fall (pay_by net f) (length net.debts) (units_owed net) (pay_by_is_paying net f never)
      (all_claims net) (pay_le_claims net f (all_claims net)) n

  -- nor than any before it
  pub falling_back : (n m : ℕ) → IsAtMost (falling_by net f (m + n)) (falling_by net f n)
  unfolding rounds_of
  falling_back n zero = let e : zero + n ≡ n = omega arith in rw e (λ x. omega arith)
  falling_back n (suc m) =
      let e : suc m + n ≡ suc (m + n) = omega arith in
      rw e (λ x. omega (arith, falling_falls (m + n) x, falling_back n m x))

  -- and none passes payments on which no less would be paid
  pub covered_le_falling : (n : ℕ) (Q : List ℕ) → IsAtMost Q (pay_by net f Q)
      → IsAtMost Q (falling_by net f n)
  covered_le_falling n Q covered =
      rounds_above (pay_by net f) (length net.debts) (units_owed net) (pay_by_is_paying net f never)
      (all_claims net) Q (λ x. omega (arith, covered x, pay_le_claims net f Q x)) covered n

  -- so none passes payments that clear
  pub clearing_le_falling : (n : ℕ) (Q : List ℕ) → pay_by net f Q ≡ Q
      → IsAtMost Q (falling_by net f n)
  clearing_le_falling n Q c =
      covered_le_falling n Q (subst (λ R. IsAtMost R (pay_by net f Q)) c (λ x. omega arith))

  -- once as many rounds were made as units are owed, nothing changes
  greatest_by_clears : pay_by net f (greatest_by net f) ≡ greatest_by net f
  greatest_by_clears =
      falling_settles (pay_by net f) (length net.debts) (units_owed net)
      (pay_by_is_paying net f never) (all_claims net)
      (length-map net.debts (λ d. d.claim)) (pay_le_claims net f (all_claims net)) (units_owed net)
      (omega (arith, sum-map (λ d. d.claim) net.debts))

  -- that is the greatest
  pub greatest_by_is : IsGreatestBy net f (greatest_by net f)
  greatest_by_is = record {
    clears = greatest_by_clears;
    greatest = clearing_le_falling (units_owed net);
  }

  -- so there is one greatest
  pub greatest_by_only : (P : List ℕ) → IsGreatestBy net f P → P ≡ greatest_by net f
  greatest_by_only P p =
      IsAtMost_antisym P (greatest_by net f)
      (sym (ap length p.clears)
      ∙ length-pay_by net f P
      ∙ sym (length-pay_by net f (greatest_by net f))
      ∙ ap length greatest_by_clears)
      (clearing_le_falling (units_owed net) P p.clears)
      (p.greatest (greatest_by net f) greatest_by_clears)

  -- payments that a round does not change are those of every later round
  pub falling_settled : (n m : ℕ) → pay_by net f (falling_by net f n) ≡ falling_by net f n → n ≤ m
      → falling_by net f m ≡ falling_by net f n
  falling_settled n m c g =
      let k : m - n + n ≡ m = omega arith in
      ap (falling_by net f) (sym k)
      ∙ settled_stays (pay_by net f) (length net.debts) (units_owed net)
      (pay_by_is_paying net f never) (all_claims net) n (m - n) c

  -- so as many rounds as units are owed, and any more, come to the greatest
  pub rounds_come_to : (n : ℕ) → units_owed net ≤ n → falling_by net f n ≡ greatest_by net f
  rounds_come_to n g = falling_settled (units_owed net) n greatest_by_clears g

  -- the least are nowhere above the greatest
  pub least_le_greatest : IsAtMost (least_by net f) (greatest_by net f)
  least_le_greatest = (least_by_is net f never).least (greatest_by net f) greatest_by_clears

-- where less is divided the greatest are nowhere greater
pub greatest_by_mono : (net : Net) (f g : ℕ → ℕ → ℕ) → NeverFalls f → NeverFalls g → RisesTo f g
    → IsAtMost (greatest_by net f) (greatest_by net g)
greatest_by_mono net f g n m rise =
    let top = greatest_by net f in
    covered_le_falling net g m (units_owed net) top
    (subst (λ R. IsAtMost R (pay_by net g top)) (greatest_by_is net f n).clears
    (pay_by_mono net f g top top rise (λ x. omega arith)))

-- so it is where banks divide all that they have, less what they owe outside
pub greatest_rounds : (net : Net) → IsGreatest net (greatest net)
unfolding pay
greatest_rounds net = greatest_by_is net (spend net) (spend_mono net)

-- the greatest payments clear
pub greatest_clears : (net : Net) → Clears net (greatest net)
greatest_clears net = (greatest_rounds net).clears

-- and no other list is the greatest
pub greatest_only : (net : Net) (P : List ℕ) → IsGreatest net P → P ≡ greatest net
unfolding pay
greatest_only net = greatest_by_only net (spend net) (spend_mono net)

-- no bank has less after a round than under the greatest
pub estate_le_falling : (net : Net) (n i : ℕ)
    → estate net (greatest net) i ≤ estate net (falling net n) i
unfolding pay
estate_le_falling net n i =
    estate_mono net (greatest net) (falling net n) i
    (clearing_le_falling net (spend net) (spend_mono net) n (greatest net)
    (greatest_by_is net (spend net) (spend_mono net)).clears)
