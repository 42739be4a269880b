-- The text of what saves a bank, as bytes.
use Rattle.std.specs.Prelude.{ℕ, List, [], ◌∷◌, ◌++◌, codes}
use Rattle.std.specs.Fmt.{decimal}
use Rattle.clr_net.specs.Lines.{line}
use Rattle.clr_net.specs.Net.{Net, name_of}
use Rattle.clear_report.specs.Words.{number_line, one_above_other}
use Rattle.clear_report.specs.Text.{payments_text}

-- the line of the bank i with the cash that saves it, and that of what it is short of with a unit
-- less
abbrev pub rescue_lines : Net → ℕ → ℕ → ℕ → List ℕ
rescue_lines net i added short =
    line (codes "rescue" ∷ name_of net i ∷ decimal added ∷ []) ++ number_line (codes "short") short

-- the payments P below them
abbrev pub rescued_text : Net → ℕ → ℕ → ℕ → List ℕ → List ℕ
rescued_text net i added short P =
    one_above_other (rescue_lines net i added short) (payments_text net P)
