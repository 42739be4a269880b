-- Lines of the files and texts about a network.
use Rattle.std.specs.Prelude.{ℕ, List, [], ◌∷◌, ◌++◌}
use Rattle.std.specs.List.{join_with_byte}

-- a line: fields with commas (44) between them, and a line feed (10). No field needs quotes, since
-- a name has no comma or quote
abbrev pub line : List (List ℕ) → List ℕ
line fields = join_with_byte 44 fields ++ 10 ∷ []
