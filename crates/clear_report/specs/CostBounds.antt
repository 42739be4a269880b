-- The text of the least and the greatest payments that clear where default costs, as bytes.
use Rattle.std.specs.Prelude.{ℕ, List, [], ◌∷◌, ◌++◌, codes}
use Rattle.std.specs.List.{flat_map}
use Rattle.std.specs.Fmt.{decimal}
use Rattle.clr_net.specs.Lines.{line}
use Rattle.clr_net.specs.Net.{Net, name_of}
use Rattle.cascade.specs.Standings.{bank_numbers}
use Rattle.costs.specs.declared.standing.CostStanding.{CostStanding}
use Rattle.clear_report.specs.Bounds.{debts_table}
use Rattle.clear_report.specs.Words.{at_place, one_above_other, state_word}

-- the header of the banks
abbrev pub ends_header : List ℕ
ends_header = line (
    codes "bank" ∷ codes "lost_at_least" ∷ codes "equity_at_least" ∷ codes "state_at_least"
    ∷ codes "lost_at_greatest" ∷ codes "equity_at_greatest" ∷ codes "state_at_greatest" ∷ [])

-- the line of a bank of this name, which stands so under the least and so under the greatest
abbrev pub ends_line : List ℕ → CostStanding → CostStanding → List ℕ
ends_line name low top = line (
    name ∷ decimal low.lost ∷ decimal low.equity ∷ state_word low.health
    ∷ decimal top.lost ∷ decimal top.equity ∷ state_word top.health ∷ [])

-- the line of the bank i among the standings under both
abbrev pub ends_line_of : Net → List CostStanding → List CostStanding → ℕ → List ℕ
ends_line_of net lows tops i =
    at_place (λ low. at_place (ends_line (name_of net i) low) tops i) lows i

-- the table of the debts, and below it one of the banks: the header, and a line for each bank, in
-- file order
abbrev pub cost_bounds_text : Net → List ℕ → List ℕ → List CostStanding → List CostStanding
    → List ℕ
cost_bounds_text net least greatest lows tops = one_above_other
    (debts_table net least greatest)
    (ends_header ++ flat_map (ends_line_of net lows tops) (bank_numbers net))
