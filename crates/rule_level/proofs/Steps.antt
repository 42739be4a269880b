-- From one level to the next each claim gets at most one unit more and none less; where each claim is met, all is given.
use Rattle.std.proofs.Common.{◌≡◌, ℕ, ◌+◌, ◌≤◌, map, List, [], ◌∷◌, get_or, sum, arith}
use Rattle.clr_net.specs.declared.rule.RuleKind.{RuleKind}
use Rattle.clr_net.proofs.Lists.{sum-cons, sum-le}
use Rattle.rule_level.specs.Levels.{at_level, level_awards, step_at}
use Rattle.rule_level.proofs.Levels.{at_level_of_none, get_or-map_zero, is_level, level_awards_at}

-- no claim gets less at the next level
pub level_rises : (rule : RuleKind) (t c : ℕ) → at_level rule t c ≤ at_level rule (t + 1) c
level_rises rule t c = (is_level rule t c).rises

-- a claim of 0 gets nothing there
pub step_of_none : (rule : RuleKind) (t : ℕ) → step_at rule t 0 ≡ 0
step_of_none rule t = omega (arith, at_level_of_none rule t, at_level_of_none rule (t + 1))

-- in each place stands the step of its claim
pub steps_at : (rule : RuleKind) (t : ℕ) (claims : List ℕ) (k : ℕ)
    → get_or (map (step_at rule t) claims) k 0 ≡ step_at rule t (get_or claims k 0)
steps_at rule t = get_or-map_zero (step_at rule t) (step_of_none rule t)

-- what all claims get at the next level
pub sum_next_level : (rule : RuleKind) (t : ℕ) (claims : List ℕ)
    → sum (level_awards rule (t + 1) claims) ≡ sum (level_awards rule t claims) + sum (map (step_at rule t) claims)
sum_next_level rule t [] = omega arith
sum_next_level rule t (x ∷ claims) = omega (
  arith,
  sum-cons (at_level rule (t + 1) x) (level_awards rule (t + 1) claims),
  sum-cons (at_level rule t x) (level_awards rule t claims),
  sum-cons (step_at rule t x) (map (step_at rule t) claims),
  level_rises rule t x,
  sum_next_level rule t claims,
)

module _ (rule : RuleKind) (t greatest : ℕ) (claims : List ℕ) (h : (k : ℕ) → get_or claims k 0 ≤ greatest) where
  -- at a level at which each claim up to the greatest is met: all that is claimed
  pub sum_met : ((c : ℕ) → c ≤ greatest → c ≤ at_level rule t c) → sum claims ≤ sum (level_awards rule t claims)
  sum_met met = sum-le claims (level_awards rule t claims)
      (λ k. omega (arith, level_awards_at rule t claims k, met (get_or claims k 0) (h k)))

  -- at a level at which none of these claims gets a unit: nothing
  pub sum_none : ((c : ℕ) → c ≤ greatest → at_level rule t c ≡ 0) → sum (level_awards rule t claims) ≡ 0
  sum_none none =
      let least : sum (level_awards rule t claims) ≤ sum [] = sum-le (level_awards rule t claims) []
      (λ k. omega (arith, level_awards_at rule t claims k, none (get_or claims k 0) (h k))) in
      omega arith
