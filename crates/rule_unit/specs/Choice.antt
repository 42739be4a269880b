-- The laws that the choice of the next debt meets, whichever rule makes it. A choice goes from
-- claims and awards to a debt.
use Rattle.std.specs.Prelude.{◌≡◌, ◌↔◌, ℕ, ◌+◌, ◌<◌, nat_lt, List, length, slice_index, remove, Option, Some, None, if◌then◌else◌}
use Rattle.std.specs.Option.{option_map}
use Rattle.rule_unit.specs.Awards.{IsWithin}

-- the place in the whole lists of the place j of the lists without the place i
abbrev pub place_without : ℕ → ℕ → ℕ
place_without i j = if nat_lt j i then j else j + 1

pub record IsUnitChoice (choice : List ℕ → List ℕ → Option ℕ) : Type 0 where
  -- none is chosen exactly where every award equals its claim
  pub none_where_met : (claims awards : List ℕ) → IsWithin claims awards
      → (choice claims awards ≡ None) ↔ (awards ≡ claims)
  -- the debt that is chosen is not yet paid in full
  pub unmet : (claims awards : List ℕ) (debt : ℕ) → IsWithin claims awards
      → choice claims awards ≡ Some debt
      → (debt < length claims) × (slice_index awards debt < slice_index claims debt)
  -- a debt whose award equals its claim can be left out of both lists: of the other debts the same
  -- one is chosen
  pub leaves_out_met : (claims awards : List ℕ) (i : ℕ) → IsWithin claims awards → i < length claims
      → slice_index awards i ≡ slice_index claims i
      → choice claims awards
      ≡ option_map (place_without i) (choice (remove claims i) (remove awards i))

-- two pairs of lists, of claims and of awards, that agree in each place that is not paid in full in
-- either
pub record AgreeWhereUnmet (claims awards other_claims other_awards : List ℕ) : Type 0 where
  pub as_many : length claims ≡ length other_claims
  pub where_unmet : (k : ℕ) → slice_index awards k < slice_index claims k
      → (slice_index claims k ≡ slice_index other_claims k)
      × (slice_index awards k ≡ slice_index other_awards k)
  pub where_other_unmet : (k : ℕ) → slice_index other_awards k < slice_index other_claims k
      → (slice_index claims k ≡ slice_index other_claims k)
      × (slice_index awards k ≡ slice_index other_awards k)
