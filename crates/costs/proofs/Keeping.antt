-- What is kept of an estate: no more than it, no less of more, and all of it where all is kept.
use Rattle.std.proofs.Common.{◌≡◌, ℕ, ◌≤◌, arith}
use Rattle.std.proofs.lemmas.Bool.Decides.{nat_tests}
use Rattle.std.proofs.lemmas.Nat.{mul-le}
use Rattle.clr_net.specs.Net.{Net}
use Rattle.costs.specs.Costs.{kept}

-- a bank keeps no more than it has
pub kept_le : (net : Net) (k i e : ℕ) → k ≤ 1000 → kept net k i e ≤ e
kept_le net k i e l = grind (arith, nat_tests, mul-le e k e 1000 (omega arith) l)

-- and no less of more, or where a greater part is kept
pub kept_mono : (net : Net) (j k i d e : ℕ) → j ≤ k → k ≤ 1000 → d ≤ e
    → kept net j i d ≤ kept net k i e
kept_mono net j k i d e m l h =
    grind (arith, nat_tests, mul-le d j e k h m, kept_le net j i d (omega arith))

-- where all thousandths are kept nothing is lost
pub kept_all : (net : Net) (i e : ℕ) → kept net 1000 i e ≡ e
kept_all net i e = grind (arith, nat_tests)
