-- The text of what it takes to save each bank in default, and whom that saves, as bytes.
use Rattle.std.specs.Prelude.{ℕ, List, [], ◌∷◌, ◌++◌, codes, length}
use Rattle.std.specs.List.{flat_map}
use Rattle.std.specs.Fmt.{decimal}
use Rattle.clr_net.specs.Lines.{line}
use Rattle.clr_net.specs.Net.{Net, name_of}
use Rattle.rescue.specs.Rescue.{rescue, short_of}
use Rattle.rescue.specs.Saved.{banks_in_default, left_in_default, saved_with}
use Rattle.clear_report.specs.Words.{one_above_other}

-- the header of the banks in default
abbrev pub savings_header : List ℕ
savings_header = line (
    codes "bank" ∷ codes "added" ∷ codes "short" ∷ codes "also_saved" ∷ codes "still_short" ∷ [])

-- the line of the bank i: the sum that saves it, what it lacks with one unit less, how many other
-- banks that saves, and how many are then in default
abbrev pub saving_line_of : Net → ℕ → ℕ → ℕ → ℕ → ℕ → List ℕ
saving_line_of net i added short saves left = line (
    name_of net i ∷ decimal added ∷ decimal short ∷ decimal saves ∷ decimal left ∷ [])

-- its line, by the least sum
abbrev pub saving_line : Net → ℕ → List ℕ
saving_line net i = saving_line_of net i
    (rescue net i) (short_of net i (rescue net i))
    (length (saved_with net i)) (left_in_default net i)

-- the header of the banks that are saved besides
abbrev pub saves_header : List ℕ
saves_header = line (codes "bank" ∷ codes "saves" ∷ [])

-- the line of the bank k that is saved with the bank i
abbrev pub saves_line : Net → ℕ → ℕ → List ℕ
saves_line net i k = line (name_of net i ∷ name_of net k ∷ [])

-- the lines of all that are saved with it, in file order
abbrev pub saves_lines : Net → ℕ → List ℕ
saves_lines net i = flat_map (saves_line net i) (saved_with net i)

-- the text: a line for each bank in default, in file order, and below them the lines of those that
-- are saved with each
abbrev pub savings_text : Net → List ℕ
savings_text net = one_above_other
    (savings_header ++ flat_map (saving_line net) (banks_in_default net))
    (saves_header ++ flat_map (saves_lines net) (banks_in_default net))
