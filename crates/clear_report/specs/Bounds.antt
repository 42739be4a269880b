-- The text of the least and the greatest payments that clear, as bytes.
use Rattle.std.specs.Prelude.{ℕ, List, [], ◌∷◌, ◌++◌, codes, slice_index}
use Rattle.std.specs.List.{flat_map}
use Rattle.std.specs.Fmt.{decimal}
use Rattle.clr_net.specs.Lines.{line}
use Rattle.clr_net.specs.Net.{Net, name_of, claim_of, debt_numbers}
use Rattle.net_csv.specs.Reading.{debts_header}
use Rattle.cascade.specs.Standings.{bank_numbers, is_gridlocked}
use Rattle.cascade.specs.declared.standing.Standing.{Standing}
use Rattle.clear_report.specs.Words.{at_place, one_above_other, yes_or_no}
use Rattle.clear_report.specs.Text.{debt_fields}

-- the header of the debts
abbrev pub bounds_header : List ℕ
bounds_header = line (debts_header ++ codes "least" ∷ codes "greatest" ∷ [])

-- the line of the debt x, on which at least and at most so much is paid
abbrev pub bounds_line : Net → List ℕ → List ℕ → ℕ → List ℕ
bounds_line net least greatest x = line (
    debt_fields net x ++ decimal (claim_of net x)
    ∷ decimal (slice_index least x) ∷ decimal (slice_index greatest x) ∷ [])

-- the table of the debts: the header, and a line for each debt, in file order
abbrev pub debts_table : Net → List ℕ → List ℕ → List ℕ
debts_table net least greatest =
    bounds_header ++ flat_map (bounds_line net least greatest) (debt_numbers net)

-- the header of the banks
abbrev pub waves_header : List ℕ
waves_header = line (codes "bank" ∷ codes "wave" ∷ codes "gridlock" ∷ codes "equity" ∷ [])

-- the line of a bank of this name, wave and standing
abbrev pub wave_line : List ℕ → ℕ → Standing → List ℕ
wave_line name wave s = line (
    name ∷ decimal wave ∷ yes_or_no (is_gridlocked s.health wave) ∷ decimal s.equity ∷ [])

-- the line of the bank i among these waves and standings
abbrev pub wave_line_of : Net → List ℕ → List Standing → ℕ → List ℕ
wave_line_of net waves all i = at_place (wave_line (name_of net i) (slice_index waves i)) all i

-- the table of the debts, and below it one of the banks: the header, and a line for each bank, in
-- file order
abbrev pub bounds_tables : Net → List ℕ → List ℕ → List ℕ → List Standing → List ℕ
bounds_tables net least greatest waves all = one_above_other
    (debts_table net least greatest)
    (waves_header ++ flat_map (wave_line_of net waves all) (bank_numbers net))
