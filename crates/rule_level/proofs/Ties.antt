-- Of the units that two claims get at one level, and not yet at the level below, neither goes before the other.
use Rattle.std.proofs.Common.{◌≡◌, ℕ, ◌+◌, ◌-◌, ◌*◌, ◌/◌, ◌<◌, ◌≤◌, false, min, refl, arith, mul-le-mul_left, le-ltb, ⊎_elim}
use Rattle.std.proofs.lemmas.Bool.{cases_lt}
use Rattle.rule_level.specs.declared.TheConstants.{MAX_LEVEL}
use Rattle.rule_unit.specs.declared.TheConstants.{MAX_CLAIM}
use Rattle.clr_net.specs.declared.rule.RuleKind.{RuleKind}
use Rattle.clr_net.specs.declared.rule.RuleKind.TheVariants as kind
use Rattle.clr_net.specs.Division.{goes_before}
use Rattle.rule_level.specs.Levels.{at_level}
use Rattle.rule_level.proofs.Levels.{within_quotient, past_quotient}

-- ratios u / c above s / n and v / d at most (s + g) / n: no multiple of 1 / (c d) lies between, so v / d is at most u / c
apart_below : (n s g c u d v : ℕ) → 0 < d → g * (c * d) ≤ n → s * c < n * u → n * v ≤ (s + g) * d → c * v ≤ d * u
apart_below n s g c u d v p small past given = ⊎_elim
    (λ (l : d * u < c * v).
    let a : n * (d * u + 1) ≤ n * (c * v) = mul-le-mul_left n (omega arith) in
    let b : c * (n * v) ≤ c * ((s + g) * d) = mul-le-mul_left c given in
    let e : d * (s * c + 1) ≤ d * (n * u) = mul-le-mul_left d (omega arith) in
    absurd (omega (arith, a, b, e, small, p)))
    (λ (h : c * v ≤ d * u). h)
    (cases_lt (d * u) (c * v))

-- so too where u / c is at least s / n and v / d below (s + g) / n
apart_above : (n s g c u d v : ℕ) → 0 < c → g * (c * d) ≤ n → s * c ≤ n * u → n * v < (s + g) * d → c * v ≤ d * u
apart_above n s g c u d v p small past given = ⊎_elim
    (λ (l : d * u < c * v).
    let a : n * (d * u + 1) ≤ n * (c * v) = mul-le-mul_left n (omega arith) in
    let b : c * (n * v + 1) ≤ c * ((s + g) * d) = mul-le-mul_left c (omega arith) in
    let e : d * (s * c) ≤ d * (n * u) = mul-le-mul_left d past in
    absurd (omega (arith, a, b, e, small, p)))
    (λ (h : c * v ≤ d * u). h)
    (cases_lt (d * u) (c * v))

module _ (t c k d m n : ℕ) (p : 0 < n) where
  -- by quotients rounded down
  tied_down : 0 < d → c * d ≤ n → t * c / n ≤ k → m + 1 ≤ (t + 1) * d / n → c * (m + 1) ≤ d * (k + 1)
  tied_down q small l g =
      apart_below n t 1 c (k + 1) d (m + 1) q (omega (arith, small)) (past_quotient (t * c) n k p l)
      (within_quotient (m + 1) ((t + 1) * d) n p g)

  -- by quotients rounded to the nearest
  tied_to_nearest : 0 < d → 2 * (c * d) ≤ n → (2 * t * c + n) / (2 * n) ≤ k → m + 1 ≤ (2 * (t + 1) * d + n) / (2 * n)
      → c * (2 * m + 1) ≤ d * (2 * k + 1)
  tied_to_nearest q small l g =
      apart_below n (2 * t) 2 c (2 * k + 1) d (2 * m + 1) q small
      (omega (arith, past_quotient (2 * t * c + n) (2 * n) k (omega arith) l))
      (omega (arith, within_quotient (m + 1) (2 * (t + 1) * d + n) (2 * n) (omega arith) g))

  -- by quotients rounded up
  tied_up : 0 < c → c * d ≤ n → (t * c + (n - 1)) / n ≤ k → m + 1 ≤ ((t + 1) * d + (n - 1)) / n → c * m ≤ d * k
  tied_up q small l g =
      apart_above n t 1 c k d m q (omega (arith, small))
      (omega (arith, past_quotient (t * c + (n - 1)) n k p l))
      (omega (arith, within_quotient (m + 1) ((t + 1) * d + (n - 1)) n p g))

-- products of two claims are small beside the levels
small_product : (c d : ℕ) → c ≤ MAX_CLAIM → d ≤ MAX_CLAIM → 2 * (c * d) ≤ MAX_LEVEL
small_product c d l m =
    let product : c * d ≤ c * MAX_CLAIM = mul-le-mul_left c m in
    omega (arith, product, l)

-- two claims that get a unit at the next level tie there
pub next_level_tied : (rule : RuleKind) (t c d : ℕ) → c ≤ MAX_CLAIM → d ≤ MAX_CLAIM
    → at_level rule t c < at_level rule (t + 1) c → at_level rule t d < at_level rule (t + 1) d
    → goes_before rule c (at_level rule t c) d (at_level rule t d) ≡ false
next_level_tied kind.Order t c d cl dl a b = refl
next_level_tied kind.Equal t c d cl dl a b = le-ltb (min c t) (min d t) (omega arith)
next_level_tied kind.Losses t c d cl dl a b =
    le-ltb (d - (d - (MAX_CLAIM - t))) (c - (c - (MAX_CLAIM - t))) (omega arith)
next_level_tied kind.Jefferson t c d cl dl a b =
    let k = min c (t * c / MAX_LEVEL) in
    let m = min d (t * d / MAX_LEVEL) in
    le-ltb (d * (k + 1)) (c * (m + 1)) (tied_down t c k d m MAX_LEVEL (omega arith) (omega arith)
    (omega (arith, small_product c d cl dl)) (omega arith) (omega arith))
next_level_tied kind.Webster t c d cl dl a b =
    let k = min c ((2 * t * c + MAX_LEVEL) / (2 * MAX_LEVEL)) in
    let m = min d ((2 * t * d + MAX_LEVEL) / (2 * MAX_LEVEL)) in
    le-ltb (d * (2 * k + 1)) (c * (2 * m + 1)) (tied_to_nearest t c k d m MAX_LEVEL (omega arith) (omega arith)
    (small_product c d cl dl) (omega arith) (omega arith))
next_level_tied kind.Adams t c d cl dl a b =
    let k = min c ((t * c + (MAX_LEVEL - 1)) / MAX_LEVEL) in
    let m = min d ((t * d + (MAX_LEVEL - 1)) / MAX_LEVEL) in
    le-ltb (d * k) (c * m) (tied_up t c k d m MAX_LEVEL (omega arith) (omega arith)
    (omega (arith, small_product c d cl dl)) (omega arith) (omega arith))
