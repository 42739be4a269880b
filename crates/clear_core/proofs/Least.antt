-- Rounds from nothing paid end at the least payments that clear, by whatever banks divide, where it
-- never falls.
use Rattle.std.proofs.Common.{◌≡◌, ℕ, ◌<◌, ◌≤◌, List, length, get_or, sym, ap, ◌∙◌, subst, arith}
use Rattle.std.proofs.lemmas.List.{length-replicate}
use Rattle.clr_net.specs.Amounts.{IsAtMost}
use Rattle.clr_net.specs.Net.{Net, debtor_of, units_owed}
use Rattle.clr_net.proofs.Lists.{IsAtMost_antisym, zeros_at}
use Rattle.clear_core.specs.Clearing.{receipts, part, spend, RisesTo, NeverFalls, pay_by, IsLeastBy, least_by, IsOnWayBy, pay, Clears, IsLeast, zeros, rounds, least}
use Rattle.clear_core.proofs.Pay.{length-pay_by, pay_by_mono, spend_mono, pay_at, pay_mono}
use Rattle.clear_core.proofs.Settling.{pay_by_is_paying, rounds_below, rising_settles}

-- nothing paid is at most any payments
pub zeros_le : (net : Net) (P : List ℕ) → IsAtMost (zeros net) P
zeros_le net P x = omega (arith, zeros_at (length net.debts) x)

module _ (net : Net) (f : ℕ → ℕ → ℕ) (never : NeverFalls f) where
  -- rounds never pass payments on which no more would be paid
  least_by_below : (Q : List ℕ) → IsAtMost (pay_by net f Q) Q → IsAtMost (least_by net f) Q
  least_by_below Q covers =
      rounds_below (pay_by net f) (length net.debts) (units_owed net) (pay_by_is_paying net f never)
      (zeros net) Q (zeros_le net Q) covers (units_owed net)

  -- the rounds from nothing paid end at the least payments that clear
  pub least_by_is : IsLeastBy net f (least_by net f)
  least_by_is = record {
    clears = rising_settles (pay_by net f) (length net.debts) (units_owed net)
        (pay_by_is_paying net f never) (zeros net) (length-replicate (length net.debts) 0)
        (zeros_le net (pay_by net f (zeros net))) (units_owed net) (omega arith);
    least = λ Q c. least_by_below Q (subst (λ R. IsAtMost R Q) (sym c) (λ x. omega arith));
  }

  -- they pay on all debts
  length-least_by : length (least_by net f) ≡ length net.debts
  length-least_by = sym (ap length least_by_is.clears) ∙ length-pay_by net f (least_by net f)

  -- payments on all debts, at or below the least, that no bank would pay more on are the least
  pub nothing_left_to_raise_by : (P : List ℕ) → length P ≡ length net.debts
      → IsAtMost P (least_by net f) → IsAtMost (pay_by net f P) P → P ≡ least_by net f
  nothing_left_to_raise_by P l below covered =
      IsAtMost_antisym P (least_by net f) (l ∙ sym length-least_by) below (least_by_below P covered)

  -- what clears at or below them are they
  pub clears_only_at_least_by : (P : List ℕ) → IsAtMost P (least_by net f) → pay_by net f P ≡ P
      → P ≡ least_by net f
  clears_only_at_least_by P h c =
      nothing_left_to_raise_by P (sym (ap length c) ∙ length-pay_by net f P) h
      (λ x. omega (arith, ap (λ (Q : List ℕ). get_or Q x 0) c))

  -- so there is one least
  pub least_by_only : (P : List ℕ) → IsLeastBy net f P → P ≡ least_by net f
  least_by_only P p = clears_only_at_least_by P (p.least (least_by net f) least_by_is.clears) p.clears

-- where less is divided the least are nowhere greater
pub least_by_mono : (net : Net) (f g : ℕ → ℕ → ℕ) → NeverFalls f → NeverFalls g → RisesTo f g
    → IsAtMost (least_by net f) (least_by net g)
least_by_mono net f g n m rise =
    let most = least_by net g in
    least_by_below net f n most
    (subst (λ R. IsAtMost (pay_by net f most) R) (least_by_is net g m).clears
    (pay_by_mono net f g most most rise (λ x. omega arith)))

-- nothing paid is on the way
pub begins_by : (net : Net) (f : ℕ → ℕ → ℕ) (P : List ℕ) → P ≡ zeros net → IsOnWayBy net f P
begins_by net f P e = subst (IsOnWayBy net f) (sym e) record {
  as_many = length-replicate (length net.debts) 0;
  rises = zeros_le net (pay_by net f (zeros net));
  below = zeros_le net (least_by net f);
}

-- so it is where banks divide all that they have, less what they owe outside
pub least_rounds : (net : Net) → IsLeast net (least net)
unfolding pay rounds
least_rounds net = least_by_is net (spend net) (spend_mono net)

-- the least payments clear
pub least_clears : (net : Net) → Clears net (least net)
least_clears net = (least_rounds net).clears

-- what is paid on payments at or below the least is at or below the least, and so is each part
pub pay_le_least : (net : Net) (P : List ℕ) → IsAtMost P (least net) → IsAtMost (pay net P) (least net)
pay_le_least net P h = subst (λ Q. IsAtMost (pay net P) Q) (least_clears net) (pay_mono net P (least net) h)

-- a part at payments below the least is at most the least
pub part_le_least : (net : Net) (P : List ℕ) (x : ℕ) → x < length net.debts → IsAtMost P (least net)
    → part net x (receipts net P (debtor_of net x)) ≤ get_or (least net) x 0
part_le_least net P x lt h = omega (arith, pay_at net P x lt, pay_le_least net P h x)

-- payments below the least that clear are the least
pub clears_only_at_least : (net : Net) (P : List ℕ) → IsAtMost P (least net) → Clears net P → P ≡ least net
unfolding pay rounds
clears_only_at_least net = clears_only_at_least_by net (spend net) (spend_mono net)

-- there is only one least list
pub least_only : (net : Net) (P : List ℕ) → IsLeast net P → P ≡ least net
unfolding pay rounds
least_only net = least_by_only net (spend net) (spend_mono net)

-- payments below the least that would not rise are the least
pub nothing_left_to_raise : (net : Net) (P : List ℕ) → length P ≡ length net.debts → IsAtMost P (least net)
    → IsAtMost (pay net P) P → P ≡ least net
unfolding pay rounds
nothing_left_to_raise net = nothing_left_to_raise_by net (spend net) (spend_mono net)
