-- Lists that a test tells to be at most one another.
use Rattle.std.proofs.Common.{◌≡◌, ℕ, zero, suc, true, List, [], ◌∷◌, arith}
use Rattle.std.proofs.lemmas.Grind.{common_steps}
use Rattle.clr_net.specs.Amounts.{IsAtMost}
use Rattle.law_tests.specs.Nets.{all_le}

-- lists that pass the test are at most one another, place by place
pub at_most : (xs ys : List ℕ) → all_le xs ys ≡ true → IsAtMost xs ys
at_most [] ys h k = omega arith
at_most (x ∷ xs) [] h k = cc
at_most (x ∷ xs) (y ∷ ys) h zero = grind (arith, common_steps)
at_most (x ∷ xs) (y ∷ ys) h (suc k) = at_most xs ys (grind (arith, common_steps)) k
