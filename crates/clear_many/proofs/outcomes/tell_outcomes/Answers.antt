-- The sums of all scenarios, however they were cleared, are the text.
use Rattle.std.proofs.Common.{length, ap, ◌∙◌}
use Rattle.stress.proofs.Outcomes.{as_many_falls}
use Rattle.clear_many.proofs.outcomes.tell_outcomes.Goals as goal

pub summed_up-requires : goal.summed_up-requires
summed_up-requires g c =
    ap length (c.as_slice.ensures ∙ c.in_ok-lines.ensures.falls) ∙ as_many_falls c.args.net.now c.args.scenarios.now

pub returns : goal.returns
returns g c =
    rw (c.in_ok-lines.ensures.lines, c.as_slice.ensures, c.in_ok-lines.ensures.falls) at c.summed_up.ensures
