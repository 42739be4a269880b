-- The text of scenarios in sums, as bytes.
use Rattle.std.specs.Prelude.{ℕ, List, [], ◌∷◌, ◌++◌, codes}
use Rattle.std.specs.List.{flat_map}
use Rattle.std.specs.Fmt.{decimal}
use Rattle.clr_net.specs.Lines.{line}
use Rattle.clr_net.specs.Net.{Net, name_of}
use Rattle.cascade.specs.Standings.{bank_numbers}
use Rattle.stress.specs.Outcomes.{outcome, tally}
use Rattle.stress.specs.declared.scenario.Scenario.{Scenario}
use Rattle.stress.specs.declared.sums.Outcome.{Outcome}
use Rattle.stress.specs.declared.tally.Falls.{Falls}
use Rattle.clear_report.specs.Words.{at_place, one_above_other}

-- the header of the scenarios
abbrev pub outcomes_header : List ℕ
outcomes_header = line (
    codes "scenario" ∷ codes "cash" ∷ codes "paid" ∷ codes "outside_paid"
    ∷ codes "equity" ∷ codes "defaults" ∷ codes "fundamental" ∷ [])

-- the line of a scenario of this name, and of what it comes to
abbrev pub outcome_line : List ℕ → Outcome → List ℕ
outcome_line name o = line (
    name ∷ decimal o.cash ∷ decimal o.paid ∷ decimal o.outside_paid
    ∷ decimal o.equity ∷ decimal o.defaults ∷ decimal o.fundamental ∷ [])

-- the header of the banks
abbrev pub falls_header : List ℕ
falls_header = line (codes "bank" ∷ codes "defaults" ∷ codes "fundamental" ∷ [])

-- the line of a bank of this name, and of how often it falls
abbrev pub falls_line : List ℕ → Falls → List ℕ
falls_line name f = line (name ∷ decimal f.defaults ∷ decimal f.fundamental ∷ [])

-- the line of the bank i among these
abbrev pub falls_line_of : Net → List Falls → ℕ → List ℕ
falls_line_of net all i = at_place (falls_line (name_of net i)) all i

-- how often the banks fall, in file order, one a bank: the header, and a line for each
abbrev pub falls_text : Net → List Falls → List ℕ
falls_text net all = falls_header ++ flat_map (falls_line_of net all) (bank_numbers net)

-- the line of a scenario on a network
abbrev pub scenario_sums : Net → Scenario → List ℕ
scenario_sums net s = outcome_line s.name (outcome net s)

-- the text of some scenarios: the header, a line for each in file order, and below them how often
-- each bank falls
abbrev pub outcomes_text : Net → List Scenario → List ℕ
outcomes_text net scenarios = one_above_other
    (outcomes_header ++ flat_map (scenario_sums net) scenarios)
    (falls_text net (tally net scenarios))
