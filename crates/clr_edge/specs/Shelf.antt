-- What a fetch gives.
use Rattle.std.specs.Prelude.{◌≡◌, ℕ, ◌+◌, List, take, Option, IfSome, IsSomeAnd}

-- Where the files are told, there is one of this name, and the bytes are its first limit + 1: the
-- whole file, if it has at most limit bytes.
abbrev pub IsFetched : Option (List ℕ → Option (List ℕ)) → List ℕ → ℕ → List ℕ → Type 0
IsFetched files name limit bytes =
    IfSome files (λ file_at. IsSomeAnd (file_at name) (λ file. bytes ≡ take (limit + 1) file))
