-- Falls of receipts, noted payment by payment.
use Rattle.std.proofs.Common.{◌≡◌, ℕ, ◌+◌, ◌-◌, ◌<◌, ◌≤◌, List, length, get_or, set, ap, ◌∙◌, arith}
use Rattle.std.proofs.lemmas.List.{length-set}
use Rattle.std.proofs.lemmas.Grind.{common_steps}
use Rattle.std.proofs.lemmas.List.Sums.{sum_by-set}
use Rattle.clr_net.specs.Amounts.{IsAtMost}
use Rattle.clr_net.specs.Net.{Net, creditor_of}
use Rattle.upper.specs.Descent.{AreNoted}

-- falls after falls
pub noted_then : (net : Net) (P Q R f g h : List ℕ) → AreNoted net P Q f g → AreNoted net Q R g h
    → AreNoted net P R f h
noted_then net P Q R f g h first second = record {
  payments = second.payments ∙ first.payments;
  banks = second.banks ∙ first.banks;
  kept = λ i. omega (arith, first.kept i, second.kept i);
  told = λ x e. second.told x e ∙ first.told x (omega (arith, second.kept (creditor_of net x)));
  units = λ i. omega (arith, first.units i, second.units i);
}

-- one payment falls to v, and its creditor's receipts with it
pub noted_one : (net : Net) (P f g : List ℕ) (x v c : ℕ)
    → g ≡ set f c (get_or f c 0 + (get_or P x 0 - v))
    → creditor_of net x ≡ c → x < length P → c < length f → v ≤ get_or P x 0 → AreNoted net P (set P x v) f g
noted_one net P f g x v c fell owed in_debts in_banks lower = record {
  payments = length-set P x v;
  banks = ap length fell ∙ length-set f c (get_or f c 0 + (get_or P x 0 - v));
  kept = λ i. grind (arith, common_steps, fell);
  told = λ y e. grind (arith, common_steps, fell, owed, e);
  units = λ i. grind (arith, common_steps, fell, sum_by-set (λ n. n) P x v 0 in_debts);
}

-- and what is to come stays lower
pub lower_set : (N P : List ℕ) (x : ℕ) → IsAtMost N P → IsAtMost N (set P x (get_or N x 0))
lower_set N P x lower y = grind (arith, common_steps, lower y)
