-- Lists of amounts: their sums, and when two of them are the same.
use Rattle.std.proofs.Common.{◌≡◌, ℕ, zero, suc, ◌+◌, ◌<◌, ◌≤◌, List, [], ◌∷◌, length, get_or, set, replicate, sum, refl, arith, zero-le}
use Rattle.std.proofs.lemmas.List.Sums.{sum_by-cons, sum_by-set}
use Rattle.rule_unit.specs.Awards.{IsAtMost}

-- a sum is its first amount and the sum of the others
pub sum-cons : (x : ℕ) (xs : List ℕ) → sum (x ∷ xs) ≡ x + sum xs
sum-cons x xs = sum_by-cons (λ n. n) x xs

-- place by place at most, so at most in sum
pub sum-le : (xs ys : List ℕ) → IsAtMost xs ys → sum xs ≤ sum ys
sum-le [] ys h = zero-le
sum-le (x ∷ xs) [] h = omega (arith, sum-cons x xs, h 0, sum-le xs [] (λ k. h (suc k)))
sum-le (x ∷ xs) (y ∷ ys) h = omega (arith, sum-cons x xs, sum-cons y ys, h 0, sum-le xs ys (λ k. h (suc k)))

-- one unit more in a place is one unit more in all
pub sum_raised : (xs : List ℕ) (j : ℕ) → j < length xs → sum (set xs j (get_or xs j 0 + 1)) ≡ sum xs + 1
sum_raised xs j l = omega (arith, sum_by-set (λ n. n) xs j (get_or xs j 0 + 1) 0 l)

-- a list of zeros holds 0 in each place, and past its end
pub zeros_at : (n k : ℕ) → get_or {A = ℕ} (replicate n 0) k 0 ≡ 0
zeros_at zero k = refl
zeros_at (suc n) zero = refl
zeros_at (suc n) (suc k) = zeros_at n k
