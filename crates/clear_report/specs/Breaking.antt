-- The text of what breaks each bank, as bytes.
use Rattle.std.specs.Prelude.{ℕ, List, [], ◌∷◌, ◌++◌, codes}
use Rattle.std.specs.List.{flat_map}
use Rattle.std.specs.Fmt.{decimal}
use Rattle.clr_net.specs.Lines.{line}
use Rattle.clr_net.specs.Net.{Net, name_of}
use Rattle.cascade.specs.Standings.{bank_numbers}
use Rattle.stress.specs.declared.broken.Broken.{Broken}
use Rattle.clear_report.specs.Words.{at_place, state_word}

-- the header
abbrev pub breaking_header : List ℕ
breaking_header = line (codes "bank" ∷ codes "cut" ∷ codes "state" ∷ [])

-- the line of a bank of this name, and of what breaks it
abbrev pub broken_line : List ℕ → Broken → List ℕ
broken_line name b = line (name ∷ decimal b.cut ∷ state_word b.health ∷ [])

-- the line of the bank i among these
abbrev pub broken_line_of : Net → List Broken → ℕ → List ℕ
broken_line_of net all i = at_place (broken_line (name_of net i)) all i

-- the text of what breaks the banks, in file order, one a bank: the header, and a line for each
abbrev pub breaking_text : Net → List Broken → List ℕ
breaking_text net all = breaking_header ++ flat_map (broken_line_of net all) (bank_numbers net)
