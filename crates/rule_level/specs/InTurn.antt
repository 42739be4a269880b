-- Awards that are given in turn: no unit that they leave out goes before one that they give, ties
-- to the earliest debt. Of each debt the last unit that it has got stands for all that it has, and
-- its next unit for all that it lacks.
use Rattle.std.specs.Prelude.{◌≡◌, ℕ, ◌-◌, ◌<◌, Bool, true, false, List, slice_index}
use Rattle.clr_net.specs.declared.rule.RuleKind.{RuleKind}
use Rattle.clr_net.specs.Division.{goes_before}

-- the last unit that the debt i has got goes before the next unit of the debt j
abbrev pub last_before_next : RuleKind → List ℕ → List ℕ → ℕ → ℕ → Bool
last_before_next kind claims awards i j =
    goes_before kind (slice_index claims i) (slice_index awards i - 1)
    (slice_index claims j) (slice_index awards j)

-- the next unit of the debt j goes before the last unit that the debt i has got
abbrev pub next_before_last : RuleKind → List ℕ → List ℕ → ℕ → ℕ → Bool
next_before_last kind claims awards j i =
    goes_before kind (slice_index claims j) (slice_index awards j)
    (slice_index claims i) (slice_index awards i - 1)

-- of two debts i and j, of which i has got a unit and j lacks one
pub record IsInTurn (kind : RuleKind) (claims awards : List ℕ) : Type 0 where
  pub none_before : (i j : ℕ) → 0 < slice_index awards i
      → slice_index awards j < slice_index claims j
      → next_before_last kind claims awards j i ≡ false
  -- nor is there a tie, where j is the earlier
  pub earlier_at_tie : (i j : ℕ) → j < i → 0 < slice_index awards i
      → slice_index awards j < slice_index claims j
      → last_before_next kind claims awards i j ≡ true
