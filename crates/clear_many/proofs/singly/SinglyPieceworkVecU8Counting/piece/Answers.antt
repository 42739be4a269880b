-- One scenario more is told and counted.
use Rattle.std.proofs.Common.{◌+◌, ◌≤◌, get_or, slice_range, sym, ap, ◌∙◌, arith}
use Rattle.std.proofs.lemmas.List.{get_or_default}
use Rattle.std.proofs.lemmas.List.Edits.{between_more}
use Rattle.cascade.proofs.OtherCash.{as_many_alike}
use Rattle.clear_report.specs.Outcomes.{scenario_sums}
use Rattle.stress.proofs.Outcomes.{one_scenario_more}
use Rattle.clear_many.proofs.Counting.{as_many_counted, counted_within}
use Rattle.clear_many.proofs.singly.SinglyPieceworkVecU8Counting.piece.Goals as goal

pub counted-requires-clause-standings : goal.counted-requires-clause-standings
counted-requires-clause-standings c = c.as_slice.ensures.value ∙ c.in_ok-standings.ensures

pub counted-requires-clause-over : goal.counted-requires-clause-over
counted-requires-clause-over c =
    let w = c.args.self.now in
    as_many_counted w.net.now w.scenarios.now c.requires.desk.0 c.args.place c.args.desk.tally c.requires.desk.1.2
    ∙ sym (as_many_alike w.net.now c.shock_again.new.left c.shock_again.ensures.alike)

pub counted-requires-clause-fits : goal.counted-requires-clause-fits
counted-requires-clause-fits c =
    let w = c.args.self.now in
    counted_within w.net.now w.scenarios.now c.requires.desk.0 c.args.place c.args.desk.tally c.requires.can.1 c.requires.desk.1.2

pub returns-clause-piece : goal.returns-clause-piece
returns-clause-piece c = λ d.
    let w = c.args.self.now in
    let line = rw c.shock_again.ensures.left at c.in_ok-text.ensures.text in
    line ∙ ap (scenario_sums w.net.now) (get_or_default w.scenarios.now c.args.place c.index-self-place.result d c.requires.place)

pub returns-clause-desk : goal.returns-clause-desk
returns-clause-desk c = λ low so_far.
    let w = c.args.self.now in
    let first = c.index-self-place.result in
    let grown = between_more w.scenarios.now low c.args.place first so_far.0 c.requires.place in
    let more : low ≤ c.args.place + 1 = omega (arith, so_far.0) in (
      more,
      c.shock_again.ensures.alike,
      rw (c.in_ok-text.ensures.tally, c.shock_again.ensures.left, so_far.2, grown)
          (sym (one_scenario_more w.net.now (slice_range w.scenarios.now low c.args.place)
          (get_or w.scenarios.now c.args.place first))),
    )
