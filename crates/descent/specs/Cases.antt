-- Worked cases of shares of networks that differ in cash.
use Rattle.std.specs.Prelude.{◌≡◌, ◌*◌, ◌<◌, ℕ, List, [], ◌∷◌, codes, refl}
use Rattle.std.proofs.Common.{lit<, lit≤}
use Rattle.clr_net.specs.Net.{Net, all_cash}
use Rattle.clr_net.specs.Samples.{bank, ring}
use Rattle.descent.specs.Cashes.{cash_in_row, lowest, network_at, with_cashes}
use Rattle.descent.specs.Halves.{HasEnough, twice_as_wide}

-- the ring in three networks: A and B have 9 and 3, then 5 and 4, and then 4 and 2
abbrev rows : List (List ℕ)
rows = (9 ∷ 3 ∷ []) ∷ (5 ∷ 4 ∷ []) ∷ (4 ∷ 2 ∷ []) ∷ []

abbrev floor : ℕ → ℕ → ℕ → ℕ
floor low high i = lowest (cash_in_row rows i) low high

-- the ring with such cash
abbrev ring_with : ℕ → ℕ → Net
ring_with a b = record ring { banks = bank (codes "A") a ∷ bank (codes "B") b ∷ [] }

pub lowest_of_all : lowest (cash_in_row rows 0) 0 3 ≡ 4
lowest_of_all = refl

pub network_of_number_1 : network_at ring floor 1 ≡ ring_with 5 4
network_of_number_1 = refl

-- the first two have 5 and 3 at least, each from another of them
pub first_two : with_cashes ring (floor 0 2) ≡ ring_with 5 3
first_two = refl

-- which come to two thirds of the 12 that the first network has, and so are enough
pub first_two_have_enough : HasEnough ring floor 0 2
first_two_have_enough = lit≤ tt

-- the 6 of all three are not
pub all_have_not_enough :
    3 * all_cash (with_cashes ring (floor 0 3)) < 2 * all_cash (network_at ring floor 0)
all_have_not_enough = lit< tt

-- a share of one is made one of two, and a share of two one of all three, since there is no fourth
pub one_twice_as_wide : twice_as_wide 0 1 3 ≡ 2
one_twice_as_wide = refl

pub two_twice_as_wide : twice_as_wide 0 2 3 ≡ 3
two_twice_as_wide = refl
