use Rattle.std.proofs.Common.{◌≡◌, drop}
use Rattle.toml.specs.View.{items_view}
use Rattle.stress.specs.Shape.{are_losses}
use Rattle.stress.proofs.shape.are_losses.Given as goal

abbrev pub invariant-loop-value : goal.invariant-loop-value
invariant-loop-value l = record {
  same : are_losses (items_view l.values)
      ≡ are_losses (items_view (drop l.value-index l.values));
}
