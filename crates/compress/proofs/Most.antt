-- The greatest of the numbers that a function gives over those of a list that pass a test.
use Rattle.std.proofs.lemmas.List.Elements.{filter-append}
use Rattle.std.proofs.Common.{◌≡◌, ℕ, zero, suc, ◌+◌, ◌<◌, ◌≤◌, max, Bool, true, false, cond, List, [], ◌∷◌, ◌++◌, length, get_or, map, take, filter, refl, sym, arith, zero-le}
use Rattle.std.proofs.lemmas.Bool.{true≢false}
use Rattle.std.proofs.lemmas.List.{take_more, map-append}
use Rattle.compress.specs.Compression.{most}

-- each that passes is at most the greatest
pub most_ge : (f : ℕ → ℕ) (p : ℕ → Bool) (xs : List ℕ) (k : ℕ) → k < length xs
    → p (get_or xs k 0) ≡ true → f (get_or xs k 0) ≤ most (map f (filter p xs))
most_ge f p [] k l h = absurd (omega arith)
most_ge f p (x ∷ xs) zero l h = rw h (omega arith)
most_ge f p (x ∷ xs) (suc k) l h = by_test (p x) (most_ge f p xs k (omega arith) h)
  where
    by_test : (b : Bool) → f (get_or xs k 0) ≤ most (map f (filter p xs))
        → f (get_or xs k 0) ≤ most (map f (cond b (x ∷ filter p xs) (filter p xs)))
    by_test true h = omega (arith, h)
    by_test false h = h

-- two lists of numbers that pass, of which the same pass and give the same
pub most_same : (f g : ℕ → ℕ) (p q : ℕ → Bool) (xs : List ℕ)
    → ((k : ℕ) → k < length xs → p (get_or xs k 0) ≡ q (get_or xs k 0))
    → ((k : ℕ) → k < length xs → p (get_or xs k 0) ≡ true → f (get_or xs k 0) ≡ g (get_or xs k 0))
    → most (map f (filter p xs)) ≡ most (map g (filter q xs))
most_same f g p q [] h e = refl
most_same f g p q (x ∷ xs) h e =
    by_test (p x) (q x) (h 0 (omega arith)) (e 0 (omega arith))
    (most_same f g p q xs (λ k l. h (suc k) (omega arith)) (λ k l. e (suc k) (omega arith)))
  where
    by_test : (b d : Bool) → b ≡ d → (b ≡ true → f x ≡ g x)
        → most (map f (filter p xs)) ≡ most (map g (filter q xs))
        → most (map f (cond b (x ∷ filter p xs) (filter p xs)))
        ≡ most (map g (cond d (x ∷ filter q xs) (filter q xs)))
    by_test true true s h r = omega (arith, h refl, r)
    by_test true false s h r = absurd (true≢false s)
    by_test false true s h r = absurd (true≢false (sym s))
    by_test false false s h r = r

-- a bound on a function at each number of a list bounds its greatest value over those that pass
pub most_le : (f : ℕ → ℕ) (p : ℕ → Bool) (n : ℕ) (xs : List ℕ)
    → ((k : ℕ) → k < length xs → f (get_or xs k 0) ≤ n) → most (map f (filter p xs)) ≤ n
most_le f p n [] h = zero-le
most_le f p n (x ∷ xs) h = by_test (p x) (most_le f p n xs (λ k l. h (suc k) (omega arith)))
  where
    by_test : (b : Bool) → most (map f (filter p xs)) ≤ n
        → most (map f (cond b (x ∷ filter p xs) (filter p xs))) ≤ n
    by_test true r = omega (arith, h 0, r)
    by_test false r = r

-- the greatest of numbers and others
most-append : (ns ms : List ℕ) → most (ns ++ ms) ≡ max (most ns) (most ms)
most-append [] ms = omega arith
most-append (n ∷ ns) ms = omega (arith, most-append ns ms)

-- the greatest, with one number more, which passes or does not
pub most_more : (f : ℕ → ℕ) (p : ℕ → Bool) (xs : List ℕ) (k x : ℕ) (b : Bool) → k < length xs
    → get_or xs k 0 ≡ x → p x ≡ b
    → most (map f (filter p (take (k + 1) xs)))
    ≡ max (most (map f (filter p (take k xs)))) (cond b (f x) 0)
most_more f p xs k x b l at passes =
    rw (take_more xs k 0 l) (simp (filter-append, map-append, most-append, at, passes) (one b))
  where
    one : (b : Bool) → max (most (map f (filter p (take k xs)))) (most (map f (cond b (x ∷ []) [])))
        ≡ max (most (map f (filter p (take k xs)))) (cond b (f x) 0)
    one true = omega arith
    one false = refl
