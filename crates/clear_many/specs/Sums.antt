-- What scenarios come to in sums.
use Rattle.std.specs.Prelude.{◌≡◌, List}
use Rattle.std.specs.List.{flat_map}
use Rattle.clr_net.specs.Net.{Net}
use Rattle.clear_report.specs.Outcomes.{scenario_sums}
use Rattle.stress.specs.Outcomes.{tally}
use Rattle.stress.specs.declared.scenario.Scenario.{Scenario}
use Rattle.clear_many.specs.Texts.{text_of}
use Rattle.clear_many.specs.declared.outcomes.Sums.{Sums}

-- the lines of some scenarios in file order, and how often each bank falls in them
pub record AreSumsOf (net : Net) (scenarios : List Scenario) (s : Sums) : Type 0 where
  pub lines : text_of s.lines.items ≡ flat_map (scenario_sums net) scenarios
  pub falls : s.tally ≡ tally net scenarios
