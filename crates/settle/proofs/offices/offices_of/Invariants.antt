use Rattle.settle.specs.Offices.{AreOffices}
use Rattle.settle.proofs.offices.offices_of.Given as goal

abbrev pub invariant-loop-made : goal.invariant-loop-made
invariant-loop-made l = AreOffices l.net l.workers l.made l.offices.items
