-- What is told of the network that a scenario leaves.
use Rattle.std.specs.Prelude.{ℕ, List}
use Rattle.clr_net.specs.Net.{Net}
use Rattle.clear_core.specs.Clearing.{least}
use Rattle.clear_report.specs.Blocks.{scenario_block}
use Rattle.clear_report.specs.Least.{defaults_report}
use Rattle.clear_report.specs.Text.{payments_text}
use Rattle.stress.specs.Shocks.{shocked}
use Rattle.stress.specs.declared.scenario.Scenario.{Scenario}

-- what one scenario leaves: its name, the least payments and who defaults
abbrev pub block_of : Net → Scenario → List ℕ
block_of net s =
    scenario_block s.name
    (payments_text (shocked net s) (least (shocked net s)))
    (defaults_report (shocked net s))
