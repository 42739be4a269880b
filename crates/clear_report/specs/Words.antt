-- Words and lines that several texts have.
use Rattle.std.specs.Prelude.{ℕ, Bool, true, false, List, [], ◌∷◌, ◌++◌, codes, slice_get}
use Rattle.std.specs.List.{flat_map}
use Rattle.std.specs.Option.{option_map_or}
use Rattle.std.specs.Fmt.{decimal}
use Rattle.clr_net.specs.Lines.{line}
use Rattle.cascade.specs.declared.standing.Health.{Health}
use Rattle.cascade.specs.declared.standing.Health.TheVariants as health

-- an empty line
abbrev pub empty_line : List ℕ
empty_line = line []

-- two texts, with an empty line between them
abbrev pub one_above_other : List ℕ → List ℕ → List ℕ
one_above_other upper lower = upper ++ empty_line ++ lower

-- fields, each with a comma (44) after it: the beginning of a line
abbrev pub with_commas : List (List ℕ) → List ℕ
with_commas fields = flat_map (λ field. field ++ 44 ∷ []) fields

-- the line of what stands in a place: no bytes past the end
abbrev pub at_place : {X : Type 0} → (X → List ℕ) → List X → ℕ → List ℕ
at_place line_of xs i = option_map_or line_of (slice_get xs i) []

-- the line of a word and a number
abbrev pub number_line : List ℕ → ℕ → List ℕ
number_line word n = line (word ∷ decimal n ∷ [])

-- the word of a bank's state
abbrev pub state_word : Health → List ℕ
state_word health.Sound = codes "sound"
state_word health.Fundamental = codes "fundamental"
state_word health.Contagion = codes "contagion"

-- the word of a test that passes, and of one that does not
abbrev pub yes_or_no : Bool → List ℕ
yes_or_no true = codes "yes"
yes_or_no false = codes "no"
