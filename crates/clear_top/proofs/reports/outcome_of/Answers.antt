use Rattle.std.proofs.Common.{Some, sym, ap, ◌∙◌, subst, []}
use Rattle.clear_core.proofs.Lawful.{stands_in_range}
use Rattle.clear_core.specs.Clearing.{least}
use Rattle.clr_net.specs.Limits.{IsNetwork}
use Rattle.clear_top.specs.Meaning.{shown_of}
use Rattle.clear_top.specs.Outcome.{with_journal}
use Rattle.clear_top.specs.declared.status.Status.TheVariants as status
use Rattle.clear_top.proofs.Runs.{run_of}
use Rattle.settle.proofs.Finished.{first_record}
use Rattle.clear_top.proofs.reports.outcome_of.Goals as goal

-- the least list on the network of the record is paid
pub shown-requires : goal.shown-requires
shown-requires g c = c.as_slice.ensures ∙ c.requires.paid ∙ ap least (sym c.net-net.ensures)

-- the raises of the record are of debts of its network
pub with_record-requires : goal.with_record-requires
with_record-requires g c = stands_in_range c.args.settled.sealed.net c.args.settled.sealed.journal c.requires.lawful.0

pub returns : goal.returns
returns g c =
    let s = c.args.settled in
    let net = s.sealed.net in
    let shown = c.in_ok-text.field-0 in
    let job = c.args.job.now in
    record {
      settled = s;
      is_settled = c.requires;
      record_is = first_record net c.args.engine.now.plan s c.requires;
      run = run_of net (subst IsNetwork c.net-net.ensures c.banks.ensures.network) [] _ s c.requires;
      comes = c.with_record.ensures ∙ ap (λ t. record { status = status.Done; sealed = Some s.sealed; text = t })
          (ap (λ n. with_journal n s.sealed.journal shown.text shown.closing) (sym c.net-net.ensures)
          ∙ c.in_ok-text.ensures s.sealed.journal
          ∙ ap (λ n. shown_of job.task job.show n s.sealed.journal s.rounds) c.net-net.ensures);
    }
