-- What is known between two rounds on the way down to the greatest payments.
use Rattle.std.specs.Prelude.{◌≡◌, ◌≢◌, ℕ, ◌+◌, ◌<◌, ◌≤◌, List, length, slice_index, sum}
use Rattle.clr_net.specs.Net.{Net, creditor_of, debtor_of}
use Rattle.clear_core.specs.Clearing.{estate}
use Rattle.clear_least.specs.Paying.{pay_by}
use Rattle.cascade.specs.Standings.{due}
use Rattle.upper.specs.Waves.{FallsShortIn, HoldsBeforeIn}

-- where R n are the payments after n rounds, w is the first of the first n rounds that the bank i
-- enters with less than all that it owes, and 0 where there is none among them
pub record IsWaveTo (net : Net) (R : ℕ → List ℕ) (n i w : ℕ) : Type 0 where
  pub falls : (m : ℕ) → w ≡ m + 1 → (m < n) × FallsShortIn net R i m × HoldsBeforeIn net R i m
  pub never : w ≡ 0 → HoldsBeforeIn net R i n

-- so it is with the waves of all banks
pub record AreWavesTo (net : Net) (R : ℕ → List ℕ) (n : ℕ) (waves : List ℕ) : Type 0 where
  pub as_many : length waves ≡ length net.banks
  pub each : (i : ℕ) → i < length net.banks → IsWaveTo net R n i (slice_index waves i)

-- a bank whose receipts did not fall in the last round pays on its debts, by the list Q, what all
-- banks would pay at once by f after the payments P: it need not divide anew
abbrev pub AreCurrent : Net → (ℕ → ℕ → ℕ) → List ℕ → List ℕ → List ℕ → Type 0
AreCurrent net f falls P Q = (x : ℕ) → x < length net.debts
    → slice_index falls (debtor_of net x) ≡ 0
    → slice_index Q x ≡ slice_index (pay_by net f P) x

-- and, if it has no wave, it has all that it owes
abbrev pub HaveEnough : Net → List ℕ → List ℕ → List ℕ → Type 0
HaveEnough net falls P waves = (i : ℕ) → i < length net.banks → slice_index falls i ≡ 0
    → slice_index waves i ≡ 0 → due net i ≤ estate net P i

-- each bank that had no wave and has less than all that it owes under the payments P got this one;
-- all other waves stay
pub record AreMarked (net : Net) (P : List ℕ) (round : ℕ) (before after : List ℕ) : Type 0 where
  pub as_many : length after ≡ length before
  pub short : (i : ℕ) → i < length net.banks → slice_index before i ≡ 0
      → estate net P i < due net i → slice_index after i ≡ round
  pub enough : (i : ℕ) → due net i ≤ estate net P i → slice_index after i ≡ slice_index before i
  pub had : (i : ℕ) → slice_index before i ≢ 0 → slice_index after i ≡ slice_index before i

-- as payments fall from P to Q, the falls of receipts grow from f to g: where a bank's did not fall
-- no debt to it did, and they grow by no more than all payments fall
pub record AreNoted (net : Net) (P Q f g : List ℕ) : Type 0 where
  pub payments : length Q ≡ length P
  pub banks : length g ≡ length f
  pub kept : (i : ℕ) → slice_index f i ≤ slice_index g i
  pub told : (x : ℕ) → slice_index g (creditor_of net x) ≡ 0 → slice_index Q x ≡ slice_index P x
  pub units : (i : ℕ) → slice_index g i + sum Q ≤ slice_index f i + sum P
