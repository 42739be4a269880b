-- Sums over the banks, and over the debts bank by bank.
use Rattle.std.proofs.Common.{◌≡◌, ℕ, zero, suc, ◌+◌, ◌<◌, ◌≤◌, ◌==◌, Bool, true, false, cond, List, [], ◌∷◌, length, get_or, filter, sum_by, refl, sym, ap, ◌∙◌, ⊎_elim, arith, eq-eqb, ne_eqb}
use Rattle.std.specs.List.{range_with_len}
use Rattle.std.proofs.lemmas.Bool.{cases_eq}
use Rattle.std.proofs.lemmas.List.Sums.{sum_by-cons, sum_by-le, sum_by-le-sum_by}

-- two terms for each are two sums
pub sum_by-add : {X : Type 0} (f g : X → ℕ) (xs : List X)
    → sum_by (λ x. f x + g x) xs ≡ sum_by f xs + sum_by g xs
sum_by-add f g [] = refl
sum_by-add f g (x ∷ xs) =
    let both = sum_by-cons (λ x. f x + g x) x xs in
    omega (arith, sum_by-cons f x xs, sum_by-cons g x xs, sum_by-add f g xs)

-- the same terms, the same sum
pub sum_by_same : {X : Type 0} (f g : X → ℕ) (xs : List X) → ((x : X) → f x ≡ g x) → sum_by f xs ≡ sum_by g xs
sum_by_same f g xs h = λ at. sum_by (λ x. h x at) xs

-- a sum over those that pass, one element at the front
pub with_first : (b : Bool) (f : ℕ → ℕ) (x : ℕ) (rest : List ℕ)
    → sum_by f (cond b (x ∷ rest) rest) ≡ cond b (f x) 0 + sum_by f rest
with_first true f x rest = sum_by-cons f x rest
with_first false f x rest = omega arith

-- terms that count for one number alone, summed over a range that begins past it
no_term : (test : ℕ → Bool) (f : ℕ → ℕ) (a n : ℕ) → ((i : ℕ) → a ≤ i → test i ≡ false)
    → sum_by (λ i. cond (test i) (f i) 0) (range_with_len a n) ≡ 0
no_term test f a zero fails = refl
no_term test f a (suc n) fails =
    let first = sum_by-cons (λ i. cond (test i) (f i) 0) a (range_with_len (a + 1) n) in
    let here = ap (λ b. cond b (f a) 0) (fails a (omega arith)) in
    omega (arith, no_term test f (a + 1) n (λ i g. fails i (omega arith)))

-- and over a range that has it
pub one_term : (test : ℕ → Bool) (f : ℕ → ℕ) (a n k : ℕ) → test k ≡ true
    → ((i : ℕ) → (i ≡ k → ⊥) → test i ≡ false) → a ≤ k → k < a + n
    → sum_by (λ i. cond (test i) (f i) 0) (range_with_len a n) ≡ f k
one_term test f a zero k passes fails g l = absurd (omega arith)
one_term test f a (suc n) k passes fails g l =
    let first = sum_by-cons (λ i. cond (test i) (f i) 0) a (range_with_len (a + 1) n) in
    ⊎_elim
    (λ (e : a ≡ k).
    let here = ap (λ b. cond b (f a) 0) (ap test e ∙ passes) in
    let rest = no_term test f (a + 1) n (λ i m. fails i (λ s. omega arith)) in
    omega (arith, ap f e))
    (λ (ne : a ≡ k → ⊥).
    let here = ap (λ b. cond b (f a) 0) (fails a ne) in
    omega (arith, one_term test f (a + 1) n k passes fails (omega arith) (omega arith)))
    (cases_eq a k)

-- the sums over those of each key below n, added up, are the sum over all
pub sum_by_groups : (key f : ℕ → ℕ) (n : ℕ) (xs : List ℕ) → ((k : ℕ) → k < length xs → key (get_or xs k 0) < n)
    → sum_by (λ i. sum_by f (filter (λ x. key x == i) xs)) (range_with_len 0 n) ≡ sum_by f xs
sum_by_groups key f n [] h =
    omega (arith, sum_by-le {X = ℕ} (λ i. 0) 0 (range_with_len 0 n) (λ k d l. omega arith))
sum_by_groups key f n (x ∷ xs) h =
    let own = λ (i : ℕ). sum_by f (filter (λ x. key x == i) xs) in
    omega (
      arith,
      sum_by_same (λ i. sum_by f (filter (λ x. key x == i) (x ∷ xs)))
          (λ i. cond (key x == i) (f x) 0 + own i) (range_with_len 0 n)
          (λ i. with_first (key x == i) f x (filter (λ x. key x == i) xs)),
      sum_by-add (λ i. cond (key x == i) (f x) 0) own (range_with_len 0 n),
      one_term (λ i. key x == i) (λ i. f x) 0 n (key x) (eq-eqb (key x) (key x) refl)
          (λ i ne. ne_eqb (key x) i (λ e. ne (sym e))) (omega arith) (omega (arith, h 0)),
      sum_by_groups key f n xs (λ k l. h (suc k) (omega arith)),
      sum_by-cons f x xs,
    )

-- where one function is at most another and their sums are the same, they agree in each place
pub same_terms : (f g : ℕ → ℕ) (xs : List ℕ) → ((x : ℕ) → f x ≤ g x) → sum_by g xs ≤ sum_by f xs
    → (m : ℕ) → m < length xs → f (get_or xs m 0) ≡ g (get_or xs m 0)
same_terms f g [] h s m l = absurd (omega arith)
same_terms f g (x ∷ xs) h s zero l =
    omega (arith, sum_by-cons f x xs, sum_by-cons g x xs, sum_by-le-sum_by f g xs h, h x)
same_terms f g (x ∷ xs) h s (suc m) l =
    let rest : sum_by g xs ≤ sum_by f xs =
    omega (arith, sum_by-cons f x xs, sum_by-cons g x xs, h x) in
    same_terms f g xs h rest m (omega arith)
