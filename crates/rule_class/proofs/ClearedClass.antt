-- The turn of one class, in one list of awards: its places are set to 0 and given its units one by one,
-- each to the place that is next in the whole list, while the places of other classes are met.
use Rattle.std.proofs.Common.{◌≡◌, ◌≢◌, ℕ, zero, suc, ◌<◌, cond, List, [], ◌∷◌, length, get_or, refl, ap, arith, eq-eqb, ne_eqb}
use Rattle.rule_class.specs.Sharing.{cleared_class}

-- as many places stay
pub length-cleared_class : (c : ℕ) (awards classes : List ℕ) → length (cleared_class c awards classes) ≡ length awards
length-cleared_class c [] classes = refl
length-cleared_class c (x ∷ awards) [] = ap suc (length-cleared_class c awards [])
length-cleared_class c (x ∷ awards) (m ∷ classes) = ap suc (length-cleared_class c awards classes)

-- a place of the class has 0
pub cleared_class_here : (c : ℕ) (awards classes : List ℕ) (k : ℕ) → 0 < c → get_or classes k 0 ≡ c
    → get_or (cleared_class c awards classes) k 0 ≡ 0
cleared_class_here c [] classes k p e = refl
cleared_class_here c (x ∷ awards) [] k p e = absurd (omega arith)
cleared_class_here c (x ∷ awards) (m ∷ classes) zero p e = ap (λ b. cond b 0 x) (eq-eqb m c e)
cleared_class_here c (x ∷ awards) (m ∷ classes) (suc k) p e = cleared_class_here c awards classes k p e

-- a place of another class has what it had
pub cleared_class_other : (c : ℕ) (awards classes : List ℕ) (k : ℕ) → get_or classes k 0 ≢ c
    → get_or (cleared_class c awards classes) k 0 ≡ get_or awards k 0
cleared_class_other c [] classes k ne = refl
cleared_class_other c (x ∷ awards) [] zero ne = refl
cleared_class_other c (x ∷ awards) [] (suc k) ne = cleared_class_other c awards [] k ne
cleared_class_other c (x ∷ awards) (m ∷ classes) zero ne = ap (λ b. cond b 0 x) (ne_eqb m c ne)
cleared_class_other c (x ∷ awards) (m ∷ classes) (suc k) ne = cleared_class_other c awards classes k ne
