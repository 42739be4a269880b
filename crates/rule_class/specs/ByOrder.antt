-- The order rule: the debts of a class are filled up one after another.
use Rattle.std.specs.Prelude.{ℕ, ◌-◌, ◌≤◌, List, [], ◌∷◌, min, slice_index}

-- each debt gets its claim, as long as there are units left
abbrev pub fill : List ℕ → ℕ → List ℕ
fill [] e = []
fill (c ∷ claims) e = min c e ∷ fill claims (e - c)

-- each class is at most c
abbrev pub AreUpTo : ℕ → List ℕ → Type 0
AreUpTo c classes = (k : ℕ) → slice_index classes k ≤ c
