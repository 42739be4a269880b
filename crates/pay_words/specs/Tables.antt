-- Lists with a place for each bank or for each debt: given by a function, or chosen out of two.
use Rattle.std.specs.Prelude.{ℕ, if◌then◌else◌, map, Bool, List, slice_index_or}
use Rattle.std.specs.List.{range_with_len}

-- the list of what f gives for each number below n
abbrev pub tabled : {A : Type 0} → ℕ → (ℕ → A) → List A
tabled n f = map f (range_with_len 0 n)

-- what of two lists counts: the second where the test passes
abbrev pub chosen : {A : Type 0} → A → ℕ → (ℕ → Bool) → List A → List A → List A
chosen none n test xs ys = tabled n
    (λ k. if test k then slice_index_or ys k none else slice_index_or xs k none)
