-- The words of the command line.
use Rattle.std.specs.Prelude.{List, String, drop, map, string_bytes}
use Rattle.std.specs.Global.{Global}
use Rattle.std.specs.Prelude.{ℕ}

-- the words after the program's name, which is the first argument
abbrev pub words_of : List (String Global) → List (List ℕ)
words_of args = map string_bytes (drop 1 args)
