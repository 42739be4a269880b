-- Every ninth look halves what is left between two levels, so that few looks are left.
use Rattle.std.proofs.Common.{◌≡◌, ℕ, ◌+◌, ◌*◌, ◌/◌, ◌%◌, ◌^◌, ◌<◌, ◌≤◌, ◌-◌, ◌⊎◌, inl, inr, List, sum, ap, subst, arith, ⊎_elim}
use mathlib.Core.Logic.{dite}
use native.Mathlib.Decide.{ℕ_discrete}
use Rattle.std.proofs.lemmas.Bool.{cases_lt}
use Rattle.std.proofs.lemmas.Grind.{pow_more}
use Rattle.std.proofs.Math.Nat.{mul-le-mul_right, mul_assoc, mul_comm}
use Rattle.clr_net.specs.declared.rule.RuleKind.{RuleKind}
use Rattle.rule_level.specs.Levels.{level_awards}
use Rattle.rule_level.specs.declared.TheConstants.{MAX_LEVEL}
use Rattle.rule_level.proofs.Steps.{sum_next_level}

-- m levels are left after so many looks
abbrev pub IsNarrow : ℕ → ℕ → Type 0
IsNarrow look m = m * 2 ^ (look / 9) ≤ MAX_LEVEL

-- at first all levels are left
pub narrow_start : (m : ℕ) → m ≤ MAX_LEVEL → IsNarrow 0 m
narrow_start m le = omega (arith, le)

-- one look more
pub narrow_more : (look m n : ℕ) → n ≤ m → (look % 9 ≡ 8 → n + n ≤ m) → IsNarrow look m → IsNarrow (look + 1) n
narrow_more look m n less halves h =
    let p = 2 ^ (look / 9) in
    dite (ℕ_discrete (look % 9) 8)
    (λ e.
    let next : (look + 1) / 9 ≡ look / 9 + 1 = omega (arith, e) in
    let twice : n * (p * 2) ≡ (n + n) * p = omega (arith, mul_assoc n p 2, mul_comm n p) in
    rw next (omega (arith, ap (λ (q : ℕ). n * q) (pow_more 2 (look / 9)), twice, mul-le-mul_right p (halves e), h)))
    (λ ne.
    let same : (look + 1) / 9 ≡ look / 9 = omega (arith, ne) in
    rw same (omega (arith, mul-le-mul_right p less, h)))

-- a look at a level in between moves one end there, and at most so far the other
pub narrow_next : (look low high middle l h : ℕ) → low < middle → middle < high → low ≤ l → h ≤ high → (l ≡ middle) ⊎ (h ≡ middle)
    → (look % 9 ≡ 8 → middle ≡ low + (high - low) / 2) → IsNarrow look (high - low - 1) → IsNarrow (look + 1) (h - l - 1)
narrow_next look low high middle l h above below up down moved half is = narrow_more look (high - low - 1) (h - l - 1)
    (omega (arith, up, down))
    (λ e. elim moved [
      | inl m ↦ omega (arith, m, up, down, above, below, half e)
      | inr m ↦ omega (arith, m, up, down, above, below, half e)
    ])
    is

-- after all looks nothing is left
pub narrow_end : (look m : ℕ) → look ≡ 369 → IsNarrow look m → m ≡ 0
narrow_end look m all h =
    let last : m * 2 ^ 41 ≤ MAX_LEVEL = subst (λ (k : ℕ). m * 2 ^ (k / 9) ≤ MAX_LEVEL) all h in
    omega (arith, last)

-- where no level is left between two, the units end at the lower
pub ends_between : (rule : RuleKind) (claims : List ℕ) (units low high : ℕ) → low ≤ high → high ≤ low + 1
    → units ≤ sum (level_awards rule high claims) → units ≤ sum (level_awards rule (low + 1) claims)
ends_between rule claims units low high in_order close enough = ⊎_elim
    (λ (l : low < high). let next : high ≡ low + 1 = omega (arith, l, close) in
    subst (λ t. units ≤ sum (level_awards rule t claims)) next enough)
    (λ (g : high ≤ low). let same : high ≡ low = omega (arith, g, in_order) in
    let here : units ≤ sum (level_awards rule low claims) = subst (λ t. units ≤ sum (level_awards rule t claims)) same enough in
    omega (arith, here, sum_next_level rule low claims))
    (cases_lt low high)
