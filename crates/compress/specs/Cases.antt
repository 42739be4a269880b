-- Worked cases.
use Rattle.std.specs.Prelude.{◌≡◌, ℕ, ◌+◌, List, [], ◌∷◌, codes, map, sum, replicate, refl}
use Rattle.std.specs.List.{range_with_len}
use Rattle.clr_net.specs.Net.{Net, units_owed}
use Rattle.clr_net.specs.Samples.{bank, debt}
use Rattle.clr_net.specs.Claims.{with_claims}
use Rattle.compress.specs.Compression.{IsBalanceKept, class_due, class_owed, rank_of, rank_above}

-- A owes B 5, B owes C 3 and C owes A 4, or other claims
abbrev cycle : ℕ → ℕ → ℕ → Net
cycle a b c = record {
  banks = bank (codes "A") 0 ∷ bank (codes "B") 0 ∷ bank (codes "C") 0 ∷ [];
  debts = debt 0 1 a ∷ debt 1 2 b ∷ debt 2 0 c ∷ [];
}

-- all three debts are lowered by 3: A still owes B, and C owes A
abbrev left : List ℕ
left = 2 ∷ 0 ∷ 1 ∷ []

-- C is owed nothing, A is owed by C, and B by A; the other eight classes have no debts
abbrev numbers : List ℕ
numbers = 1 ∷ 2 ∷ 0 ∷ replicate 24 0

pub cycle_numbers : map (rank_above (cycle 5 3 4) left (rank_of (cycle 5 3 4) numbers 1) 1)
    (range_with_len 0 3) ≡ 1 ∷ 2 ∷ 0 ∷ []
cycle_numbers = refl

-- with the old claims a number would have to be greater than itself: these are not kept
pub cycle_numbers_fail : map (rank_above (cycle 5 3 4) (5 ∷ 3 ∷ 4 ∷ [])
    (rank_of (cycle 5 3 4) numbers 1) 1) (range_with_len 0 3) ≡ 1 ∷ 2 ∷ 3 ∷ []
cycle_numbers_fail = refl

-- A owes 1 more than it is owed, B is owed 2 more than it owes, and C owes 1 more
pub cycle_balance_of_a : IsBalanceKept (cycle 5 3 4) left 1 0
cycle_balance_of_a = refl

pub cycle_balance_of_b : class_due (cycle 5 3 4) left 1 1 ≡ class_owed (cycle 5 3 4) left 1 1 + 2
cycle_balance_of_b = refl

pub cycle_cancelled : 9 + sum left ≡ units_owed (cycle 5 3 4)
cycle_cancelled = refl

pub cycle_with_left : with_claims (cycle 5 3 4) left ≡ cycle 2 0 1
cycle_with_left = refl
