-- The text of claims that were compressed, as bytes.
use Rattle.std.specs.Prelude.{ℕ, ◌+◌, ◌-◌, ◌*◌, ◌==◌, Bool, List, [], ◌∷◌, ◌++◌, codes, length}
use Rattle.std.specs.Prelude.{slice_index, if◌then◌else◌}
use Rattle.std.specs.List.{flat_map, list_any, range_with_len}
use Rattle.std.specs.Fmt.{decimal}
use Rattle.clr_net.specs.Lines.{line}
use Rattle.clr_net.specs.Net.{Net, name_of, debt_numbers}
use Rattle.clr_net.specs.declared.TheConstants.{MAX_CLASS}
use Rattle.net_csv.specs.Reading.{debts_header}
use Rattle.cascade.specs.Standings.{bank_numbers}
use Rattle.clear_report.specs.Words.{number_line, one_above_other}
use Rattle.clear_report.specs.Text.{debt_fields}

-- the line of the debt x in a debts file where the claims are C
abbrev pub claim_line : Net → List ℕ → ℕ → List ℕ
claim_line net C x = line (debt_fields net x ++ decimal (slice_index C x) ∷ [])

-- the debts file of a network with the claims C
abbrev pub claims_text : Net → List ℕ → List ℕ
claims_text net C = line debts_header ++ flat_map (claim_line net C) (debt_numbers net)

-- the header of the ranks
abbrev pub ranks_header : List ℕ
ranks_header = line (codes "class" ∷ codes "bank" ∷ codes "rank" ∷ [])

-- the line of a bank of this name and rank in a class
abbrev pub rank_line : ℕ → List ℕ → ℕ → List ℕ
rank_line class name rank = line (decimal class ∷ name ∷ decimal rank ∷ [])

-- the line of the bank i in a class: the ranks R stand class by class, and in a class in file order
abbrev pub rank_line_of : Net → List ℕ → ℕ → ℕ → List ℕ
rank_line_of net R class i =
    rank_line class (name_of net i) (slice_index R ((class - 1) * length net.banks + i))

-- a class has a debt, of whatever claim
abbrev pub has_debt_of : Net → ℕ → Bool
has_debt_of net class = list_any (λ d. d.class == class) net.debts

-- a line for each bank, in file order, where the class has a debt
abbrev pub class_lines : Net → List ℕ → ℕ → List ℕ
class_lines net R class =
    if has_debt_of net class then flat_map (rank_line_of net R class) (bank_numbers net) else []

-- the ranks, class by class, in rising order
abbrev pub ranks_text : Net → List ℕ → List ℕ
ranks_text net R = ranks_header ++ flat_map (class_lines net R) (range_with_len 1 MAX_CLASS)

-- the debts file with the claims C, and below it the ranks R and how many units were cancelled
abbrev pub compressed_text : Net → List ℕ → List ℕ → ℕ → List ℕ
compressed_text net C R cancelled = one_above_other
    (claims_text net C)
    (ranks_text net R ++ number_line (codes "cancelled") cancelled)
