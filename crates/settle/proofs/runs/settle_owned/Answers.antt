use Rattle.std.proofs.Common.{◌∙◌, subst}
use Rattle.settle.specs.Drives.{IsDriven}
use Rattle.settle.proofs.runs.settle_owned.Goals as goal

pub drive_on-requires-clause-begin : goal.drive_on-requires-clause-begin
drive_on-requires-clause-begin g c κs within =
    let opened = c.in_ok-offices.ensures.opened in
    record {
      table_is = opened.table_is;
      opened = opened.shows;
      offices_are = c.in_ok-offices.ensures.offices;
    }

pub close_run-requires-clause-ended : goal.close_run-requires-clause-ended
close_run-requires-clause-ended g c =
    let opened = c.in_ok-offices.ensures.opened in
    record {
      payments_are = opened.payments_are;
      net_is = opened.net_is;
      past_is = opened.past_is;
      workers_are = opened.workers_are;
      table_is = c.drive_on.ensures.table ∙ opened.table_is;
      driven = subst (λ s. IsDriven c.args.net c.args.past.now c.args.engine.now.plan s c.drive_on.new.master.shows c.in_ok-driven.driven) opened.shows c.in_ok-driven.ensures.driven;
    }
