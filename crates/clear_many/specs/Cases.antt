-- Worked cases of the blocks of cuts.
use Rattle.std.specs.Prelude.{◌≡◌, [], ◌∷◌, map, refl}
use Rattle.std.specs.List.{range_with_len}
use Rattle.clear_many.specs.Blocks.{across, edge}

-- the cuts at which the blocks 0 to 15 begin, and the one past the last cut. Blocks 3, 7 and 11
-- have no cuts, the twelfth that has some has what is left of its 84, and the last has three
pub edges_of_all_blocks :
    map edge (range_with_len 0 17)
    ≡ 0 ∷ 84 ∷ 168 ∷ 252 ∷ 252 ∷ 336 ∷ 420 ∷ 504 ∷ 504 ∷ 588 ∷ 672 ∷ 756 ∷ 756 ∷ 840 ∷ 924 ∷ 998
    ∷ 1001 ∷ []
edges_of_all_blocks = refl

-- the blocks in the places 0 to 15: each thread has every fourth
pub blocks_of_all_places :
    map across (range_with_len 0 16)
    ≡ 0 ∷ 4 ∷ 8 ∷ 12 ∷ 1 ∷ 5 ∷ 9 ∷ 13 ∷ 2 ∷ 6 ∷ 10 ∷ 14 ∷ 3 ∷ 7 ∷ 11 ∷ 15 ∷ []
blocks_of_all_places = refl
