-- A worked case of pieces in order.
use Rattle.std.specs.Prelude.{◌≡◌, ◌*◌, [], ◌∷◌, refl}
use Rattle.shares.specs.Made.{AreInOrder}

-- the pieces of the places 5, 6 and 7, each of which is twice its place
pub three_in_order : AreInOrder (λ place piece. piece ≡ place * 2) 5 (10 ∷ 12 ∷ 14 ∷ [])
three_in_order = (refl, (refl, (refl, tt)))
