-- How many digits a number has.
use Rattle.std.proofs.Common.{◌≡◌, ℕ, ◌+◌, ◌*◌, ◌/◌, ◌%◌, ◌^◌, ◌<◌, ◌≤◌, List, [], ◌∷◌, ◌++◌, length, decimal, ⊎_elim, arith, length-append}
use Rattle.std.proofs.Math.Nat.{pow-le-pow_right}
use Rattle.std.proofs.lemmas.Bool.{cases_lt}
use Rattle.std.proofs.lemmas.Fmt.{decimal_by_steps, length-decimal-le}
use Rattle.std.proofs.lemmas.Grind.{pow_more}

-- a number is below the power of ten of its digits
below_power : (n : ℕ) → n < 2 ^ 64 → n < 10 ^ length (decimal n)
below_power = decimal_by_steps (λ m ds. m < 10 ^ length ds) (λ m l. omega arith) more
  where
    more : (m : ℕ) (ds : List ℕ) → 10 ≤ m → m / 10 < 10 ^ length ds
        → m < 10 ^ length (ds ++ (48 + m % 10) ∷ [])
    more m ds l h = rw (length-append ds ((48 + m % 10) ∷ []), pow_more 10 (length ds)) (omega arith)

-- from a power of ten on, and below the next
pub digits_are : (n k : ℕ) → n < 2 ^ 64 → 10 ^ k ≤ n → n < 10 * 10 ^ k → k + 1 ≡ length (decimal n)
digits_are n k small least most = ⊎_elim
    (λ (l : k < length (decimal n)).
    let few = length-decimal-le (k + 1) n (omega arith) (omega (arith, pow_more 10 k)) small in omega arith)
    (λ (g : length (decimal n) ≤ k).
    let power : 10 ^ length (decimal n) ≤ 10 ^ k = pow-le-pow_right (omega arith) g in
    absurd (omega (arith, below_power n small)))
    (cases_lt k (length (decimal n)))
