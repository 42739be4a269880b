-- What the code's borrowed parts of a document stand for.
use Rattle.std.specs.Prelude.{ℕ, ℤ, List}
use Rattle.std.specs.Borrow.{Bor}
use Rattle.toml.specs.View.{items_view}
use Rattle.stress.specs.Shape.{Parts}
use Rattle.stress.specs.declared.shape.Parts.{Parts as CodeParts}

-- the name of the bank and the amount of a loss
abbrev pub loss_seen : Bor (List ℕ) × ℤ → List ℕ × ℤ
loss_seen p = (p.0.now, p.1)

-- the parts of a scenario
abbrev pub parts_seen : CodeParts → Parts
parts_seen p = record { name = p.name.now; cut = p.cut; losses = items_view p.losses.now }
