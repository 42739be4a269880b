use Rattle.std.proofs.Common.{◌≡◌, drop, ap, ◌∙◌}
use Rattle.bank_worker.proofs.Calling.{creditors_called, known_creditors}
use Rattle.bank_worker.proofs.worker.Worker.call_creditors.Goals as goal

pub call_all-requires : goal.call_all-requires
call_all-requires c =
    let office = c.self.invariant.office in
    record { banks = known_creditors c.self.inside.seat.shows.net c.creditors.result.now office.network (c.creditors.ensures ∙ office.creditors) }

pub returns : goal.returns
returns c =
    let net = c.self.inside.seat.shows.net in
    let now = c.call_all.new.called in
    let made = c.split_at.result.1.now in
    let is : made ≡ drop c.args.from c.self.inside.journal.raises = c.split_at.ensures.back ∙ ap (drop c.args.from) c.as_slice.ensures in
    record {
      kept = c.call_all.ensures.kept;
      creditors = rw (← c.self.view_is, ← is)
          (creditors_called net c.creditors.result.now now made (c.creditors.ensures ∙ c.self.invariant.office.creditors) c.call_all.ensures.creditors);
    }
