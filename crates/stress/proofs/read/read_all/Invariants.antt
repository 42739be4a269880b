use Rattle.std.proofs.Common.{◌≡◌, ◌≤◌, [], drop, length}
use Rattle.toml.specs.View.{items_view}
use Rattle.stress.specs.Reading.{read_all}
use Rattle.stress.specs.declared.TheConstants.{MAX_SCENARIOS}
use Rattle.stress.proofs.read.read_all.Given as goal

abbrev pub invariant-values : goal.invariant-values
invariant-values l = record {
  few : length l.all.items ≤ MAX_SCENARIOS;
  same : read_all l.net [] (items_view l.values)
      ≡ read_all l.net l.all.items (items_view (drop l.value-index l.values));
}
