-- What is read of a file.
use Rattle.std.specs.Prelude.{◌≡◌, ℕ, ◌+◌, List, take, Option, IfSome}

-- where the bytes that a reader has left are told, these are the first of them, up to one past the
-- limit
abbrev pub IsFront : Option (List ℕ) → ℕ → List ℕ → Type 0
IsFront left limit bytes = IfSome left (λ all. bytes ≡ take (limit + 1) all)
