-- The claims of one class together, debt by debt.
use Rattle.std.proofs.Common.{◌≡◌, ℕ, zero, suc, ◌+◌, ◌<◌, ◌≤◌, ◌==◌, cond, List, [], ◌∷◌, length, get_or, sum, ap, sym, ◌∙◌, arith, add-one}
use Rattle.std.proofs.Math.ListN.{drop, drop_of_length-le}
use Rattle.clr_net.specs.Division.{class_claims}
use Rattle.clr_net.proofs.Lists.{sum-cons, sum-le}
use Rattle.clr_net.proofs.Classes.{class_claims_le}

-- what the debts from the place i on claim in the class c
abbrev pub rest_of_class : ℕ → List ℕ → List ℕ → ℕ → ℕ
rest_of_class c claims classes i = sum (class_claims c (drop i claims) (drop i classes))

-- it is the claim of the place i, if that is of the class, and what those after it claim
rest_of_class_next : (c : ℕ) (claims classes : List ℕ) (i : ℕ) → length claims ≡ length classes → i < length claims
    → rest_of_class c claims classes i ≡ cond (get_or classes i 0 == c) (get_or claims i 0) 0 + rest_of_class c claims classes (suc i)
rest_of_class_next c [] classes i e l = absurd (omega arith)
rest_of_class_next c (x ∷ claims) [] i e l = absurd (omega arith)
rest_of_class_next c (x ∷ claims) (m ∷ classes) zero e l = sum-cons (cond (m == c) x 0) (class_claims c claims classes)
rest_of_class_next c (x ∷ claims) (m ∷ classes) (suc i) e l = rest_of_class_next c claims classes i (omega arith) (omega arith)

-- the claim in the place i, if it is of the class, and those after it
pub rest_of_class_after : (c : ℕ) (claims classes : List ℕ) (i : ℕ) → length claims ≡ length classes → i < length claims
    → rest_of_class c claims classes i ≡ cond (get_or classes i 0 == c) (get_or claims i 0) 0 + rest_of_class c claims classes (i + 1)
rest_of_class_after c claims classes i e l =
    rest_of_class_next c claims classes i e l
    ∙ ap (λ j. cond (get_or classes i 0 == c) (get_or claims i 0) 0 + rest_of_class c claims classes j) (sym (add-one i))

-- past the last place nothing is claimed
pub rest_of_class_past : (c : ℕ) (claims classes : List ℕ) (i : ℕ) → length claims ≤ i → rest_of_class c claims classes i ≡ 0
rest_of_class_past c claims classes i l = ap (λ xs. sum (class_claims c xs (drop i classes))) (drop_of_length-le claims l)

-- one class claims at most what all do
pub class_total_le : (c : ℕ) (claims classes : List ℕ) → sum (class_claims c claims classes) ≤ sum claims
class_total_le c claims classes = sum-le (class_claims c claims classes) claims (class_claims_le c claims classes)
