-- How banks stand under the least payments of a network, and the text of it.
use Rattle.std.specs.Prelude.{ℕ, List}
use Rattle.clr_net.specs.Net.{Net}
use Rattle.cascade.specs.Standings.{standings}
use Rattle.cascade.specs.declared.standing.Standing.{Standing}
use Rattle.clear_core.specs.Clearing.{least}
use Rattle.clear_report.specs.Defaults.{defaults_text}

-- how the banks stand under the least payments
abbrev pub least_standings : Net → List Standing
least_standings net = standings net (least net)

-- who defaults under the least payments, and with which label
abbrev pub defaults_report : Net → List ℕ
defaults_report net = defaults_text net (least_standings net)
