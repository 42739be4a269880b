-- Rounds settle: those that only rise from a list, and those that only fall. Said of any way of paying that rises with what was
-- paid and pays no more in all than some bound.
use Rattle.std.proofs.Common.{◌≡◌, ◌⊎◌, ℕ, zero, suc, ◌+◌, ◌<◌, ◌≤◌, List, length, sum, sym, ap, ◌∙◌, subst, inl, inr, ⊎_elim, arith}
use Rattle.std.proofs.lemmas.Bool.{cases_lt}
use Rattle.clr_net.specs.Amounts.{IsAtMost}
use Rattle.clr_net.specs.Net.{Net, units_owed}
use Rattle.clr_net.proofs.Lists.{IsAtMost_antisym, same_from_sum}
use Rattle.clear_core.specs.Clearing.{spend, NeverFalls, pay_by, pay}
use Rattle.clear_core.specs.Rounds.{rounds_of}
use Rattle.clear_core.proofs.Pay.{length-pay_by, pay_by_mono, sum-pay_by_le, spend_mono}

-- a way in which all banks pay at once: it gives one payment for each debt, no payment falls as what was paid grows, and all
-- payments together are at most a bound
pub record IsPaying (f : List ℕ → List ℕ) (debts most : ℕ) : Type 0 where
  pub as_many : (P : List ℕ) → length (f P) ≡ debts
  pub rises : (P Q : List ℕ) → IsAtMost P Q → IsAtMost (f P) (f Q)
  pub within : (P : List ℕ) → sum (f P) ≤ most

module _ (f : List ℕ → List ℕ) (debts most : ℕ) (paying : IsPaying f debts most) where
  -- rounds keep the number of payments
  pub length-rounds_of : (P : List ℕ) → length P ≡ debts → (n : ℕ) → length (rounds_of f P n) ≡ debts
  unfolding rounds_of
  length-rounds_of P l zero = l
  length-rounds_of P l (suc n) = paying.as_many (rounds_of f P n)

  -- rounds that begin by rising go on so, and those that begin by falling too
  pub rounds_rise : (P : List ℕ) → IsAtMost P (f P) → (n : ℕ) → IsAtMost (rounds_of f P n) (f (rounds_of f P n))
  unfolding rounds_of
  rounds_rise P h zero = h
  rounds_rise P h (suc n) = paying.rises (rounds_of f P n) (f (rounds_of f P n)) (rounds_rise P h n)

  -- rounds that begin by falling go on so
  pub rounds_fall : (P : List ℕ) → IsAtMost (f P) P → (n : ℕ) → IsAtMost (f (rounds_of f P n)) (rounds_of f P n)
  unfolding rounds_of
  rounds_fall P h zero = h
  rounds_fall P h (suc n) = paying.rises (f (rounds_of f P n)) (rounds_of f P n) (rounds_fall P h n)

  -- they never pass payments on which no more, or no less, would be paid
  pub rounds_below : (P Q : List ℕ) → IsAtMost P Q → IsAtMost (f Q) Q → (n : ℕ) → IsAtMost (rounds_of f P n) Q
  unfolding rounds_of
  rounds_below P Q h c zero = h
  rounds_below P Q h c (suc n) = λ x. omega (arith, paying.rises (rounds_of f P n) Q (rounds_below P Q h c n) x, c x)

  -- they stay above payments that would not fall
  pub rounds_above : (P Q : List ℕ) → IsAtMost Q P → IsAtMost Q (f Q) → (n : ℕ) → IsAtMost Q (rounds_of f P n)
  unfolding rounds_of
  rounds_above P Q h c zero = h
  rounds_above P Q h c (suc n) = λ x. omega (arith, paying.rises Q (rounds_of f P n) (rounds_above P Q h c n) x, c x)

  -- payments that would not change in sum do not change
  stays_rising : (R : List ℕ) → length R ≡ debts → IsAtMost R (f R) → sum (f R) ≤ sum R → f R ≡ R
  stays_rising R l h s = sym (same_from_sum R (f R) (l ∙ sym (paying.as_many R)) h s)

  -- falling payments whose sum stays are the same
  stays_falling : (R : List ℕ) → length R ≡ debts → IsAtMost (f R) R → sum R ≤ sum (f R) → f R ≡ R
  stays_falling R l h s = same_from_sum (f R) R (paying.as_many R ∙ sym l) h s

  -- n rounds that rise pay n units more, or have settled
  rises_or_stays : (P : List ℕ) → length P ≡ debts → IsAtMost P (f P) → (n : ℕ)
      → (sum P + n ≤ sum (rounds_of f P n)) ⊎ (f (rounds_of f P n) ≡ rounds_of f P n)
  unfolding rounds_of
  rises_or_stays P l h zero = inl (omega arith)
  rises_or_stays P l h (suc n) = ⊎_elim
      (λ (a : sum P + n ≤ sum (rounds_of f P n)). ⊎_elim
      (λ (m : sum (rounds_of f P n) < sum (f (rounds_of f P n))). inl (omega arith))
      (λ (g : sum (f (rounds_of f P n)) ≤ sum (rounds_of f P n)). inr
      (ap f (stays_rising (rounds_of f P n) (length-rounds_of P l n) (rounds_rise P h n) g)))
      (cases_lt (sum (rounds_of f P n)) (sum (f (rounds_of f P n)))))
      (λ (c : f (rounds_of f P n) ≡ rounds_of f P n). inr (ap f c))
      (rises_or_stays P l h n)

  -- each round takes a unit off, or nothing changes any more
  falls_or_stays : (P : List ℕ) → length P ≡ debts → IsAtMost (f P) P → (n : ℕ)
      → (sum (rounds_of f P n) + n ≤ sum P) ⊎ (f (rounds_of f P n) ≡ rounds_of f P n)
  unfolding rounds_of
  falls_or_stays P l h zero = inl (omega arith)
  falls_or_stays P l h (suc n) = ⊎_elim
      (λ (a : sum (rounds_of f P n) + n ≤ sum P). ⊎_elim
      (λ (m : sum (f (rounds_of f P n)) < sum (rounds_of f P n)). inl (omega arith))
      (λ (g : sum (rounds_of f P n) ≤ sum (f (rounds_of f P n))). inr
      (ap f (stays_falling (rounds_of f P n) (length-rounds_of P l n) (rounds_fall P h n) g)))
      (cases_lt (sum (f (rounds_of f P n))) (sum (rounds_of f P n))))
      (λ (c : f (rounds_of f P n) ≡ rounds_of f P n). inr (ap f c))
      (falls_or_stays P l h n)

  -- so rounds that rise settle once they could have paid all, and rounds that fall once nothing could be left
  pub rising_settles : (P : List ℕ) → length P ≡ debts → IsAtMost P (f P) → (n : ℕ) → most ≤ sum P + n
      → f (rounds_of f P n) ≡ rounds_of f P n
  rising_settles P l h n enough = ⊎_elim
      (λ (a : sum P + n ≤ sum (rounds_of f P n)). stays_rising (rounds_of f P n) (length-rounds_of P l n) (rounds_rise P h n)
      (omega (arith, paying.within (rounds_of f P n))))
      (λ (c : f (rounds_of f P n) ≡ rounds_of f P n). c)
      (rises_or_stays P l h n)

  -- so falling rounds settle after as many as there are units
  pub falling_settles : (P : List ℕ) → length P ≡ debts → IsAtMost (f P) P → (n : ℕ) → sum P ≤ n
      → f (rounds_of f P n) ≡ rounds_of f P n
  falling_settles P l h n enough = ⊎_elim
      (λ (a : sum (rounds_of f P n) + n ≤ sum P). stays_falling (rounds_of f P n) (length-rounds_of P l n) (rounds_fall P h n)
      (omega arith))
      (λ (c : f (rounds_of f P n) ≡ rounds_of f P n). c)
      (falls_or_stays P l h n)

  -- settled payments stay
  pub settled_stays : (P : List ℕ) (n m : ℕ) → f (rounds_of f P n) ≡ rounds_of f P n → rounds_of f P (m + n) ≡ rounds_of f P n
  unfolding rounds_of
  settled_stays P n zero c = ap (rounds_of f P) (omega arith)
  settled_stays P n (suc m) c =
      let more : suc m + n ≡ suc (m + n) = omega arith in
      ap (rounds_of f P) more ∙ ap f (settled_stays P n m c) ∙ c

  -- payments at or below the least that settle, which begin by rising, reach the least
  pub rising_reaches : (P L : List ℕ) → length P ≡ debts → IsAtMost P (f P) → f L ≡ L → IsAtMost P L
      → ((Q : List ℕ) → f Q ≡ Q → IsAtMost L Q) → (n : ℕ) → most ≤ sum P + n → rounds_of f P n ≡ L
  rising_reaches P L l h c below least n enough =
      IsAtMost_antisym (rounds_of f P n) L (length-rounds_of P l n ∙ sym (paying.as_many L) ∙ ap length c)
      (rounds_below P L below (subst (λ R. IsAtMost R L) (sym c) (λ x. omega arith)) n)
      (least (rounds_of f P n) (rising_settles P l h n enough))

-- what all banks of a network pay at once is such a way of paying
pub pay_by_is_paying : (net : Net) (f : ℕ → ℕ → ℕ) → NeverFalls f
    → IsPaying (pay_by net f) (length net.debts) (units_owed net)
pay_by_is_paying net f never = record {
  as_many = length-pay_by net f;
  rises = λ P Q. pay_by_mono net f f P Q never;
  within = sum-pay_by_le net f;
}

-- it rises with what was paid, and is within what is owed
pub pay_is_paying : (net : Net) → IsPaying (pay net) (length net.debts) (units_owed net)
unfolding pay
pay_is_paying net = pay_by_is_paying net (spend net) (spend_mono net)
