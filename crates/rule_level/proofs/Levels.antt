-- The awards at a level are given in turn.
use Rattle.std.proofs.Common.{◌≡◌, ℕ, zero, suc, ◌+◌, ◌-◌, ◌*◌, ◌/◌, ◌<◌, ◌≤◌, true, List, [], ◌∷◌, get_or, map, min, sym, refl, ap, arith, mul-le-mul_left, ⊎_elim}
use Rattle.std.proofs.Math.Nat.{lt_of_mul-lt-mul_left, mul-lt-mul_of_pos_left, lt-mul-div-succ, le-mul_of_pos_right}
use Rattle.std.proofs.lemmas.Bool.{cases_lt, lt-ltb}
use Rattle.std.proofs.lemmas.List.{length-map}
use Rattle.rule_level.specs.declared.TheConstants.{MAX_LEVEL}
use Rattle.rule_unit.specs.declared.TheConstants.{MAX_CLAIM}
use Rattle.clr_net.specs.declared.rule.RuleKind.{RuleKind}
use Rattle.clr_net.specs.declared.rule.RuleKind.TheVariants as kind
use Rattle.clr_net.specs.Division.{goes_before}
use Rattle.rule_unit.specs.Awards.{IsWithin}
use Rattle.rule_level.specs.Levels.{at_level, level_awards}

-- ratios on the two sides of a level t / n: c / u is at least the level and d / v below it, or c / u above it and d / v at most the level
cross_below : (t n c u d v : ℕ) → 0 < u → n * u ≤ t * c → t * d < n * v → d * u < c * v
cross_below t n c u d v p a b =
    let low : u * (t * d) < u * (n * v) = mul-lt-mul_of_pos_left b p in
    let high : v * (n * u) ≤ v * (t * c) = mul-le-mul_left v a in
    lt_of_mul-lt-mul_left t (omega (arith, low, high))

-- then the first ratio is above the second
cross_above : (t n c u d v : ℕ) → 0 < v → n * u < t * c → t * d ≤ n * v → d * u < c * v
cross_above t n c u d v p a b =
    let low : u * (t * d) ≤ u * (n * v) = mul-le-mul_left u b in
    let high : v * (n * u) < v * (t * c) = mul-lt-mul_of_pos_left a p in
    lt_of_mul-lt-mul_left t (omega (arith, low, high))

-- quotients and their products
pub within_quotient : (k x n : ℕ) → 0 < n → k ≤ x / n → n * k ≤ x
within_quotient k x n p l = omega (arith, mul-le-mul_left n l)

-- a number is below the next multiple of what it is divided by
pub past_quotient : (x n m : ℕ) → 0 < n → x / n ≤ m → x < n * (m + 1)
past_quotient x n m p l = omega (arith, lt-mul-div-succ x p, mul-le-mul_left n l)

module _ (t c k d m : ℕ) where
  -- of quotients rounded down: jefferson's ratios
  rounded_down : (n : ℕ) → 0 < n → k + 1 ≤ t * c / n → t * d / n ≤ m → d * (k + 1) < c * (m + 1)
  rounded_down n p g l =
      cross_below t n c (k + 1) d (m + 1) (omega arith) (within_quotient (k + 1) (t * c) n p g) (past_quotient (t * d) n m p l)

  -- rounded to the nearest: webster's
  rounded_to_nearest : (n : ℕ) → 0 < n → k + 1 ≤ (2 * t * c + n) / (2 * n) → (2 * t * d + n) / (2 * n) ≤ m → d * (2 * k + 1) < c * (2 * m + 1)
  rounded_to_nearest n p g l =
      cross_below (2 * t) n c (2 * k + 1) d (2 * m + 1) (omega arith)
      (omega (arith, within_quotient (k + 1) (2 * t * c + n) (2 * n) (omega arith) g))
      (omega (arith, past_quotient (2 * t * d + n) (2 * n) m (omega arith) l))

  -- rounded up: adams's
  rounded_up : (n : ℕ) → 0 < n → 0 < d → k + 1 ≤ (t * c + (n - 1)) / n → (t * d + (n - 1)) / n ≤ m → d * k < c * m
  rounded_up n p q g l =
      let high : n * k < t * c = omega (arith, within_quotient (k + 1) (t * c + (n - 1)) n p g) in
      let low : t * d ≤ n * m = omega (arith, past_quotient (t * d + (n - 1)) n m p l) in
      cross_above t n c k d m (⊎_elim (λ (h : 0 < m). h) (λ (z : m ≤ 0). absurd (none n low high q (omega arith))) (cases_lt 0 m)) high low
    where
      none : (n : ℕ) → t * d ≤ n * m → n * k < t * c → 0 < d → m ≡ 0 → ⊥
      none n low high q e =
          let nothing : t ≡ 0 = omega (arith, ap (λ x. n * x) e, le-mul_of_pos_right t q, low) in
          omega (arith, ap (λ x. x * c) nothing, high)

-- at a level, the last unit that the one debt has got goes before the next unit of the other
pub last_before_next : (kind : RuleKind) (t c d : ℕ) → 0 < at_level kind t c → at_level kind t d < d
    → goes_before kind c (at_level kind t c - 1) d (at_level kind t d) ≡ true
last_before_next kind.Order t c d s l = absurd (omega arith)
last_before_next kind.Equal t c d s l = lt-ltb (min c t - 1) (min d t) (omega arith)
last_before_next kind.Losses t c d s l =
    lt-ltb (d - (d - (MAX_CLAIM - t))) (c - (c - (MAX_CLAIM - t) - 1)) (omega arith)
last_before_next kind.Jefferson t c d s l =
    let a = min c (t * c / MAX_LEVEL) in
    let b = min d (t * d / MAX_LEVEL) in
    lt-ltb (d * (a - 1 + 1)) (c * (b + 1)) (rounded_down t c (a - 1) d b MAX_LEVEL (omega arith) (omega arith) (omega arith))
last_before_next kind.Webster t c d s l =
    let a = min c ((2 * t * c + MAX_LEVEL) / (2 * MAX_LEVEL)) in
    let b = min d ((2 * t * d + MAX_LEVEL) / (2 * MAX_LEVEL)) in
    lt-ltb (d * (2 * (a - 1) + 1)) (c * (2 * b + 1)) (rounded_to_nearest t c (a - 1) d b MAX_LEVEL (omega arith) (omega arith) (omega arith))
last_before_next kind.Adams t c d s l =
    let a = min c ((t * c + (MAX_LEVEL - 1)) / MAX_LEVEL) in
    let b = min d ((t * d + (MAX_LEVEL - 1)) / MAX_LEVEL) in
    lt-ltb (d * (a - 1)) (c * b) (rounded_up t c (a - 1) d b MAX_LEVEL (omega arith) (omega arith) (omega arith) (omega arith))

-- a claim gets no more than it is at a level, no less at the next, and, in the limit, at most one unit more
pub record IsLevel (kind : RuleKind) (t c : ℕ) : Type 0 where
  pub within : at_level kind t c ≤ c
  pub rises : at_level kind t c ≤ at_level kind (t + 1) c
  pub more : c ≤ MAX_CLAIM → at_level kind (t + 1) c ≤ at_level kind t c + 1

-- the awards at a level by each rule are such
pub is_level : (kind : RuleKind) (t c : ℕ) → IsLevel kind t c
is_level kind.Order t c = record { within = omega arith; rises = omega arith; more = λ l. omega arith }
is_level kind.Equal t c = record { within = omega arith; rises = omega arith; more = λ l. omega arith }
is_level kind.Losses t c = record { within = omega arith; rises = omega arith; more = λ l. omega arith }
is_level kind.Jefferson t c = record { within = omega arith; rises = omega arith; more = λ l. omega arith }
is_level kind.Webster t c = record { within = omega arith; rises = omega arith; more = λ l. omega arith }
is_level kind.Adams t c = record { within = omega arith; rises = omega arith; more = λ l. omega arith }

-- a claim of 0 gets nothing
pub at_level_of_none : (kind : RuleKind) (t : ℕ) → at_level kind t 0 ≡ 0
at_level_of_none kind t = omega (arith, (is_level kind t 0).within)

-- what f makes of the items of a list, read at a place or past the end
pub get_or-map_zero : (f : ℕ → ℕ) → f 0 ≡ 0 → (xs : List ℕ) (k : ℕ) → get_or (map f xs) k 0 ≡ f (get_or xs k 0)
get_or-map_zero f none [] k = sym none
get_or-map_zero f none (x ∷ xs) zero = refl
get_or-map_zero f none (x ∷ xs) (suc k) = get_or-map_zero f none xs k

-- in each place stands what its claim gets
pub level_awards_at : (kind : RuleKind) (t : ℕ) (claims : List ℕ) (k : ℕ)
    → get_or (level_awards kind t claims) k 0 ≡ at_level kind t (get_or claims k 0)
level_awards_at kind t = get_or-map_zero (at_level kind t) (at_level_of_none kind t)

-- and no more than the claim
pub level_awards_within : (kind : RuleKind) (t : ℕ) (claims : List ℕ) → IsWithin claims (level_awards kind t claims)
level_awards_within kind t claims = record {
  as_many = length-map claims (at_level kind t);
  within = λ k. omega (arith, level_awards_at kind t claims k, (is_level kind t (get_or claims k 0)).within);
}
