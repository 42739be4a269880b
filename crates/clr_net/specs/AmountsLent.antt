-- What `as_mut_slice` of a list of amounts lends.
use Rattle.std.specs.Prelude.{ℕ, ◌++◌, List, length, take, drop}
use Rattle.std.specs.Borrow.{Lends, MutBor, Fml, Array, u64}
use Rattle.clr_net.specs.contracts.amounts.Amounts.{the_row}

-- the amounts ws in place of old ones. Where they are more or fewer, they are cut, or filled up
-- from the old, so that the length stays
abbrev pub in_place_of : List ℕ → List ℕ → List ℕ
in_place_of old ws = take (length old) (ws ++ drop (length ws) old)

-- the list ends as the amounts that stand behind the result at last
abbrev pub LendsAmounts : MutBor (List ℕ) → MutBor (List ℕ) → Fml
LendsAmounts a r = Lends the_row (Array u64 0) a r (in_place_of a.now)
