use Rattle.std.proofs.Common.{length, ap, ◌∙◌}
use Rattle.std.proofs.lemmas.List.{length-replicate}
use Rattle.stress.proofs.broken.Room.of.Goals as goal

pub returns-clause-marks : goal.returns-clause-marks
returns-clause-marks c =
    ap length (c.in_ok-marks.ensures.items_if_clones_equal (λ y e. e))
    ∙ length-replicate c.banks.result _ ∙ c.banks.ensures.banks
