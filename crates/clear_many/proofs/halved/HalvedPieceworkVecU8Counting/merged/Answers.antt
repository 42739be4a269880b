-- Both shares are counted together.
use Rattle.std.proofs.Common.{◌≤◌, slice_range, sym, arith}
use Rattle.stress.proofs.Outcomes.{tallies_add_up}
use Rattle.clear_many.proofs.Counting.{counted_within}
use Rattle.clear_many.proofs.Ranges.{ranges_join}
use Rattle.clear_many.proofs.halved.HalvedPieceworkVecU8Counting.merged.Goals as goal

pub add-requires-clause-fits : goal.add-requires-clause-fits
add-requires-clause-fits c =
    let of = c.requires.neighbours in
    counted_within c.args.self.now.net.now c.args.self.now.scenarios.now of.0 of.1 c.args.front.tally c.requires.can.1 of.3.2

pub add-requires-clause-others_fit : goal.add-requires-clause-others_fit
add-requires-clause-others_fit c =
    let of = c.requires.neighbours in
    counted_within c.args.self.now.net.now c.args.self.now.scenarios.now of.1 of.2 c.args.back.tally c.requires.can.1 of.4.2

pub returns : goal.returns
returns c = λ low middle high front back.
    let scenarios = c.args.self.now.scenarios.now in
    let within : low ≤ high = omega (arith, front.0, back.0) in (
      within,
      front.1,
      rw (c.add.ensures, front.2, back.2, ranges_join scenarios low middle high front.0 back.0)
          (sym (tallies_add_up c.args.self.now.net.now (slice_range scenarios low middle) (slice_range scenarios middle high))),
    )
