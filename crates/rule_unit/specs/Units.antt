-- Units given out one by one, each to the debt that a choice gives for the claims and the awards so
-- far.
use Rattle.std.specs.Prelude.{ℕ, zero, suc, ◌+◌, ◌-◌, List, length, slice_index, slice_set, replicate, sum, Option, Some, None}

-- the awards with one unit more for a debt, or for none
abbrev pub one_more : Option ℕ → List ℕ → List ℕ
one_more None awards = awards
one_more (Some debt) awards = slice_set awards debt (slice_index awards debt + 1)

-- the awards with d units more
unfoldable pub awards_after : (List ℕ → List ℕ → Option ℕ) → List ℕ → List ℕ → ℕ → List ℕ
awards_after choice claims awards zero = awards
awards_after choice claims awards (suc d) =
    one_more (choice claims (awards_after choice claims awards d))
    (awards_after choice claims awards d)

-- what each debt gets of e units, where none has got any
abbrev pub award : (List ℕ → List ℕ → Option ℕ) → List ℕ → ℕ → List ℕ
award choice claims e = awards_after choice claims (replicate (length claims) 0) e

-- how many of d units are left when all debts are paid in full: those beyond what is still owed
abbrev pub units_left : List ℕ → List ℕ → ℕ → ℕ
units_left claims awards d = d - (sum claims - sum awards)
