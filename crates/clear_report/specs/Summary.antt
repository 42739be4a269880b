-- The summary of a network that was cleared, as bytes.
use Rattle.std.specs.Prelude.{ℕ, List, ◌++◌, codes, sum, sum_by}
use Rattle.clr_net.specs.Net.{Net}
use Rattle.cascade.specs.declared.standing.Standing.{Standing}
use Rattle.clear_report.specs.Words.{number_line}
use Rattle.clear_report.specs.Text.{totals_text}
use Rattle.clear_report.specs.Defaults.{defaults_in}

-- the totals of the network, and a line each for all units paid, the banks in default, and what is
-- left to all owners
abbrev pub summary_lines : Net → List ℕ → List Standing → List ℕ
summary_lines net P all =
    totals_text net
    ++ number_line (codes "paid") (sum P)
    ++ number_line (codes "defaults") (defaults_in all)
    ++ number_line (codes "equity") (sum_by (λ s. s.equity) all)
