-- What a bank and all others keep less, together.
use Rattle.std.proofs.Common.{◌≡◌, ℕ, ◌+◌, ◌<◌, ◌==◌, not, Bool, cond, List, [], ◌∷◌, length, filter, sum_by, refl, arith, eq-eqb, ne_eqb}
use Rattle.std.specs.List.{range_with_len}
use Rattle.std.proofs.lemmas.List.Filters.{sum_by-filter_both}
use Rattle.std.proofs.lemmas.List.Sums.{sum_by-cons}
use Rattle.clr_net.specs.Limits.{IsNetwork}
use Rattle.clr_net.specs.Net.{Net, cash_of}
use Rattle.cascade.specs.Ruin.{kept_less}
use Rattle.cascade.proofs.Ruin.{costs_its_cash}
use Rattle.cascade.proofs.Sums.{one_term, with_first}
use Rattle.impact.specs.Impact.{lost_by_others}

-- a sum over those that pass is one over all, in which the others count nothing
sum_filtered : (p : ℕ → Bool) (f : ℕ → ℕ) (xs : List ℕ)
    → sum_by f (filter p xs) ≡ sum_by (λ i. cond (p i) (f i) 0) xs
sum_filtered p f [] = refl
sum_filtered p f (x ∷ xs) =
    let first = sum_by-cons (λ i. cond (p i) (f i) 0) x xs in
    omega (arith, with_first (p x) f x (filter p xs), sum_filtered p f xs)

-- so the term of a number and those of all others are all terms
own_and_others : (f : ℕ → ℕ) (j n : ℕ) → j < n
    → f j + sum_by f (filter (λ i. not (i == j)) (range_with_len 0 n))
    ≡ sum_by f (range_with_len 0 n)
own_and_others f j n l =
    let all = range_with_len 0 n in
    let both = sum_by-filter_both (λ i. i == j) (λ i. not (i == j)) (λ i. refl) f all in
    let own = one_term (λ i. i == j) f 0 n j (eq-eqb j j refl) (λ i. ne_eqb i j) (omega arith)
    (omega arith) in
    omega (arith, sum_filtered (λ i. i == j) f all)

-- what the ruined bank keeps less, and what all others do, is the cash that was lost
pub own_and_others_are_cash : (net : Net) (j : ℕ) → IsNetwork net → j < length net.banks
    → kept_less net j j + lost_by_others net j ≡ cash_of net j
own_and_others_are_cash net j network l =
    let all = own_and_others (kept_less net j) j (length net.banks) l in
    omega (arith, (costs_its_cash net j network l).all)
