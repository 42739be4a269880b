-- The numbers that pass a test, of a list and of a range, as the range grows by one number.
use Rattle.std.proofs.Common.{◌≡◌, ℕ, suc, ◌+◌, ◌<◌, Bool, cond, List, [], ◌∷◌, ◌++◌, All, map, filter, refl, sym, ap, ◌∙◌, arith, add-one}
use Rattle.std.specs.List.{range_with_len}
use Rattle.std.proofs.lemmas.List.{map-id}
use Rattle.std.proofs.lemmas.List.Elements.{filter-append}
use Rattle.std.proofs.lemmas.List.FromFn.{length-range_with_len, get_or-range_with_len, map-range_with_len_more}

-- a range that is one number longer
pub range_push : (a n x : ℕ) → a + n ≡ x → range_with_len a (n + 1) ≡ range_with_len a n ++ x ∷ []
range_push a n x e = simp map-id at (map-range_with_len_more (λ x. x) a n x e)

-- what holds of each number from a on holds of each of a range
pub range_each : (P : ℕ → Type 0) (a n : ℕ) → ((m : ℕ) → m < n → P (a + m))
    → All P (range_with_len a n)
range_each P a n each k d l =
    let within : k < n = omega (arith, length-range_with_len a n) in
    rw (get_or-range_with_len a n k d within) (each k within)

-- two tests that agree on a list
pub filter_on : (p q : ℕ → Bool) (xs : List ℕ) → All (λ x. q x ≡ p x) xs → filter q xs ≡ filter p xs
filter_on p q [] same = refl
filter_on p q (x ∷ xs) same =
    rw (same 0 x (omega arith), filter_on p q xs (λ k d l. same (suc k) d (omega arith))) refl

-- two functions that agree on a list
pub map_on : (f g : ℕ → ℕ) (xs : List ℕ) → All (λ x. f x ≡ g x) xs → map f xs ≡ map g xs
map_on f g [] same = refl
map_on f g (x ∷ xs) same =
    rw (same 0 x (omega arith), map_on f g xs (λ k d l. same (suc k) d (omega arith))) refl

-- one number more, which passes by q; of those before it, the same pass by p and by q
pub filter_range_more : (p q : ℕ → Bool) (a n : ℕ) → ((m : ℕ) → m < n → q (a + m) ≡ p (a + m))
    → filter q (range_with_len a (suc n))
    ≡ filter p (range_with_len a n) ++ cond (q (a + n)) ((a + n) ∷ []) []
filter_range_more p q a n same = ap (λ k. filter q (range_with_len a k)) (sym (add-one n)) ∙ rw (
  range_push a n (a + n) refl,
  filter-append q (range_with_len a n) ((a + n) ∷ []),
  filter_on p q (range_with_len a n) (range_each (λ x. q x ≡ p x) a n same),
) refl
