-- Whether an element passes a test, by the first place that does.
use Rattle.std.proofs.Common.{◌≡◌, ℕ, suc, ◌+◌, ◌||◌, not, nat_lt, Bool, cond, List, [], ◌∷◌, length, Option, is_some, position, refl, arith}
use Rattle.std.specs.List.{list_any, position_or_len}
use Rattle.std.specs.Option.{option_map}
use Rattle.std.proofs.lemmas.Bool.Decides.{nat_tests}

-- one element more in front: it passes itself, or the first place that does is one further on
step : (b r : Bool) (a n : ℕ) → r ≡ nat_lt a n → (b || r) ≡ nat_lt (cond (not b) (1 + a) 0) (suc n)
step b r a n e = grind (arith, nat_tests)

-- an element passes if and only if the first place that does stands before the end
list_any-position_or_len : {X : Type 0} (p : X → Bool) (xs : List X) → list_any p xs ≡ nat_lt (position_or_len p xs) (length xs)
list_any-position_or_len p [] = refl
list_any-position_or_len p (x ∷ xs) =
    step (p x) (list_any p xs) (position_or_len p xs) (length xs) (list_any-position_or_len p xs)

-- a first place, counted in any way, is there just where an element passes
pub is_some-position : {X Y : Type 0} (number : Y → ℕ) (p : X → Bool) (xs : List X) (r : Option Y) → option_map number r ≡ position p xs
    → is_some r ≡ list_any p xs
is_some-position number p xs r e = let first = list_any-position_or_len p xs in grind arith
