-- Sweeps over the banks, in which only those pay anew whose receipts have risen since they last
-- did: they are marked.
use Rattle.std.specs.Prelude.{◌≡◌, ℕ, ◌<◌, Bool, false, List, length, slice_index}
use Rattle.clr_net.specs.Net.{Net, debtor_of}
use Rattle.clear_core.specs.Clearing.{NeverFalls, pay_by, IsOnWayBy}
use Rattle.clear_core.specs.Raised.{is_marked}

-- the bank i would pay on its debts just what it has paid
abbrev pub IsQuietBy : Net → (ℕ → ℕ → ℕ) → List ℕ → ℕ → Type 0
IsQuietBy net f P i = (x : ℕ) → x < length net.debts → debtor_of net x ≡ i
    → slice_index P x ≡ slice_index (pay_by net f P) x

-- payments on the way to the least by what never falls, on which no bank that is not marked would
-- pay more
pub record IsSwept (net : Net) (f : ℕ → ℕ → ℕ) (P : List ℕ) (marks : List Bool) : Type 0 where
  pub never : NeverFalls f
  pub way : IsOnWayBy net f P
  pub for_each_bank : length marks ≡ length net.banks
  pub unmarked : (i : ℕ) → i < length net.banks → is_marked marks i ≡ false → IsQuietBy net f P i
