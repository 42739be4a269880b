use Rattle.std.proofs.Common.{◌≡◌, [], drop}
use Rattle.toml.specs.View.{items_view}
use Rattle.stress.specs.Reading.{read_losses}
use Rattle.stress.proofs.read.read_losses.Given as goal

abbrev pub invariant-values : goal.invariant-values
invariant-values l = record {
  same : read_losses l.net [] (items_view l.values)
      ≡ read_losses l.net l.all (items_view (drop l.value-index l.values));
}
