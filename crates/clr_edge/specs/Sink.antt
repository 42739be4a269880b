-- What puts leave written.
use Rattle.std.specs.Prelude.{◌≡◌, ℕ, ◌<◌, List, ◌++◌, length, take, Option, option_map}

-- what was written and then these bytes, where it is told
abbrev pub with_bytes : Option (List ℕ) → List ℕ → Option (List ℕ)
with_bytes written bytes = option_map (λ w. w ++ bytes) written

-- of these bytes the first so many have been written, which are not all
pub record WritesPart (old new : Option (List ℕ)) (bytes : List ℕ) : Type 0 where
  pub count : ℕ
  pub not_all : count < length bytes
  pub part : new ≡ with_bytes old (take count bytes)
