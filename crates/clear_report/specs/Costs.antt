-- The text of payments where default costs, as bytes.
use Rattle.std.specs.Prelude.{ℕ, List, [], ◌∷◌, ◌++◌, codes, sum_by, count_by}
use Rattle.std.specs.List.{flat_map}
use Rattle.std.specs.Fmt.{decimal}
use Rattle.clr_net.specs.Lines.{line}
use Rattle.clr_net.specs.Net.{Net, name_of, all_cash}
use Rattle.cascade.specs.Standings.{bank_numbers, is_default}
use Rattle.costs.specs.declared.standing.CostStanding.{CostStanding}
use Rattle.clear_report.specs.Words.{at_place, number_line, one_above_other, state_word}
use Rattle.clear_report.specs.Text.{payments_text}

-- the header of the banks
abbrev pub costs_header : List ℕ
costs_header = line (
    codes "bank" ∷ codes "estate" ∷ codes "lost" ∷ codes "outside_paid"
    ∷ codes "paid" ∷ codes "equity" ∷ codes "state" ∷ [])

-- the line of a bank of this name and standing
abbrev pub cost_line : List ℕ → CostStanding → List ℕ
cost_line name s = line (
    name ∷ decimal s.estate ∷ decimal s.lost ∷ decimal s.outside_paid
    ∷ decimal s.paid ∷ decimal s.equity ∷ state_word s.health ∷ [])

-- the line of the bank i among these standings
abbrev pub cost_line_of : Net → List CostStanding → ℕ → List ℕ
cost_line_of net all i = at_place (cost_line (name_of net i)) all i

-- how many banks are in default
abbrev pub cost_defaults_in : List CostStanding → ℕ
cost_defaults_in all = count_by (λ s. is_default s.health) all

-- the line of the sums over all banks, and of how many are in default
abbrev pub cost_total_line : List CostStanding → List ℕ
cost_total_line all = line (
    codes "total" ∷ decimal (sum_by (λ s. s.estate) all) ∷ decimal (sum_by (λ s. s.lost) all)
    ∷ decimal (sum_by (λ s. s.outside_paid) all) ∷ decimal (sum_by (λ s. s.paid) all)
    ∷ decimal (sum_by (λ s. s.equity) all) ∷ decimal (cost_defaults_in all) ∷ [])

-- the banks: the header, a line for each in file order, the sums, and all opening cash
abbrev pub cost_table : Net → List CostStanding → List ℕ
cost_table net all =
    costs_header
    ++ flat_map (cost_line_of net all) (bank_numbers net)
    ++ cost_total_line all
    ++ number_line (codes "cash") (all_cash net)

-- the payments P, and below them the banks under these payments
abbrev pub costs_text : Net → List ℕ → List CostStanding → List ℕ
costs_text net P all = one_above_other (payments_text net P) (cost_table net all)
