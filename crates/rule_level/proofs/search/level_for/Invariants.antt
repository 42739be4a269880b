use Rattle.std.proofs.Common.{◌≡◌, ◌-◌, ◌<◌, ◌≤◌, sum}
use Rattle.rule_level.specs.Levels.{level_awards}
use Rattle.rule_level.specs.declared.TheConstants.{MAX_LEVEL}
use Rattle.rule_level.proofs.Narrowing.{IsNarrow}
use Rattle.rule_level.proofs.search.level_for.Given as goal

abbrev pub invariant-loop-look : goal.invariant-loop-look
invariant-loop-look l = record {
  between : l.low ≤ l.high;
  below_top : l.low < MAX_LEVEL;
  top : l.high ≤ MAX_LEVEL;
  low : l.at_low ≡ sum (level_awards l.kind l.low l.claims);
  high : l.units ≤ sum (level_awards l.kind l.high l.claims);
  part : l.at_low ≤ l.units;
  narrow : IsNarrow l.look (l.high - l.low - 1);
}
