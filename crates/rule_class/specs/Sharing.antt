-- The places of one class set to 0.
use Rattle.std.specs.Prelude.{ℕ, ◌==◌, List, [], ◌∷◌, if◌then◌else◌}

-- the awards with 0 in each place of the class c
abbrev pub cleared_class : ℕ → List ℕ → List ℕ → List ℕ
cleared_class c [] classes = []
cleared_class c (x ∷ awards) [] = x ∷ cleared_class c awards []
cleared_class c (x ∷ awards) (k ∷ classes) =
    (if k == c then 0 else x) ∷ cleared_class c awards classes
