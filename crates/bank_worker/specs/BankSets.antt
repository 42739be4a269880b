-- Which banks are in a set.
use Rattle.std.specs.Prelude.{◌≡◌, ℕ, ◌<◌, ◌≤◌, ◌==◌, ◌/◌, ◌%◌, All, Bool, true, false, List}
use Rattle.std.specs.Prelude.{length}
use Rattle.std.specs.Prelude.{slice_index}
use Rattle.std.specs.Int.{bit_at}
use Rattle.clr_net.specs.declared.TheConstants.{MAX_BANKS}
use Rattle.bank_worker.specs.Rising.{Rises}

-- whether the bank b is one of the set of these words
abbrev pub is_in : List ℕ → ℕ → Bool
is_in words b = bit_at (slice_index words (b / 64)) (b % 64) == 1

-- no bank from one on to another is in both sets
abbrev pub HaveNoneInBoth : List ℕ → List ℕ → ℕ → ℕ → Type 0
HaveNoneInBoth xs ys from to = (b : ℕ) → from ≤ b → b < to → is_in xs b ≡ true → is_in ys b ≡ false

-- the set is that of these banks, and the place of each is its number divided by that of workers
pub record AreSetOut (set : List ℕ) (workers : ℕ) (banks : List ℕ) : Type 0 where
  pub some : 1 ≤ workers
  pub placed : (k : ℕ) → k < length banks
      → (is_in set (slice_index banks k) ≡ true) × (slice_index banks k / workers ≡ k)
  pub only : (b : ℕ) → is_in set b ≡ true → (k : ℕ) × (k < length banks) × (slice_index banks k ≡ b)

-- the banks of a worker among so many: they rise, there may be each, and there is a set of them
pub record AreInPlace (banks set : List ℕ) (workers : ℕ) : Type 0 where
  pub rise : Rises banks
  pub known : All (λ b. b < MAX_BANKS) banks
  pub out : AreSetOut set workers banks
