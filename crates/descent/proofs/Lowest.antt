-- The least of some values, one after another.
use Rattle.std.proofs.Common.{◌≡◌, ℕ, zero, suc, ◌<◌, ◌≤◌, nat_lt, true, false, List, min, refl, ap, ⊎_elim, arith}
use Rattle.std.proofs.lemmas.Bool.{cases_eq, cases_lt}
use Rattle.std.proofs.lemmas.Bool.Decides.{nat_tests}
use Rattle.std.proofs.Math.Nat.{le-min, min-le_left, min-le_right}
use Rattle.descent.specs.Cashes.{AreFloors, cash_in_row, lowest}

-- of one value more, where there are some, it is the lesser of the two
pub lowest_more : (f : ℕ → ℕ) (low high : ℕ) → low < high
    → lowest f low (suc high) ≡ min (lowest f low high) (f high)
lowest_more f low high some =
    let is : nat_lt low high ≡ true = grind (arith, nat_tests) in rw is refl

-- and of none after the first it is the first
pub lowest_one : (f : ℕ → ℕ) (low high : ℕ) → high ≤ low → lowest f low (suc high) ≡ f low
lowest_one f low high none =
    let is : nat_lt low high ≡ false = grind (arith, nat_tests) in rw is refl

-- no value is less
pub lowest_at_most : (f : ℕ → ℕ) (low high k : ℕ) → low ≤ k → k < high → lowest f low high ≤ f k
lowest_at_most f low zero k l h = absurd (omega arith)
lowest_at_most f low (suc high) k l h = ⊎_elim
    (λ (some : low < high). ⊎_elim
    (λ (last : k ≡ high). omega (arith, lowest_more f low high some, min-le_right (lowest f low high) (f high), ap f last))
    (λ (other : k ≡ high → ⊥). omega (arith, lowest_more f low high some, min-le_left (lowest f low high) (f high), lowest_at_most f low high k l (omega (arith, other))))
    (cases_eq k high))
    (λ (none : high ≤ low).
    let first : k ≡ low = omega arith in
    omega (arith, lowest_one f low high none, ap f first))
    (cases_lt low high)

-- and what is no more than each is no more than it
pub lowest_above : (f : ℕ → ℕ) (low high m : ℕ) → low < high
    → ((k : ℕ) → low ≤ k → k < high → m ≤ f k) → m ≤ lowest f low high
lowest_above f low zero m some below = absurd (omega arith)
lowest_above f low (suc high) m some below = ⊎_elim
    (λ (more : low < high).
    let rest = lowest_above f low high m more (λ k l h. below k l (omega arith)) in
    let both : m ≤ min (lowest f low high) (f high) = le-min rest (below high (omega arith) (omega arith)) in
    omega (arith, lowest_more f low high more, both))
    (λ (none : high ≤ low). omega (arith, lowest_one f low high none, below low (omega arith) (omega arith)))
    (cases_lt low high)

-- so a part of a share of rows has no less
pub rows_have_floors : (rows : List (List ℕ))
    → AreFloors (λ low high i. lowest (cash_in_row rows i) low high)
rows_have_floors rows low high a b i l some h =
    let f = cash_in_row rows i in
    lowest_above f a b (lowest f low high) some
    (λ k from below. lowest_at_most f low high k (omega arith) (omega arith))
