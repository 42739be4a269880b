-- Where the pieces do not both fit, one passes after the other.
use Rattle.clr_edge.proofs.Passed.{then_pass}
use Rattle.clr_edge.proofs.passing.pass_both.Goals as goal

pub returns-then-first-free : goal.returns-then-first-free
returns-then-first-free g c =
    then_pass c.pass-then-first-free.result c.in_ok-pass.ensures c.pass-then-first-free.ensures
