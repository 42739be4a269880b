use Rattle.clear_top.specs.declared.status.Status.TheVariants as status
use Rattle.std.proofs.Common.{rules, ◌<◌, ◌≡◌, [], All, Some, length, sym, ap, ap₂, ◌∙◌, subst}
use Rattle.clear_core.proofs.Lawful.{stands_in_range}
use Rattle.pay_words.specs.Traces.{start_of}
use Rattle.rescue.proofs.MoreCash.{belongs_added}
use Rattle.rescue.specs.Rescue.{added}
use Rattle.settle.specs.Runs.{CanGoOn, IsSettled}
use Rattle.clear_top.specs.Runs.{IsRun}
use Rattle.clear_stress.proofs.Places.{least_places}
use Rattle.clear_top.proofs.Runs.{run_of}
use Rattle.clear_top.proofs.saving.save_after.Goals as goal

-- what a run left may be gone on from in the network with cash added
pub settle_owned-requires-clause-past : goal.settle_owned-requires-clause-past
settle_owned-requires-clause-past g c = λ κs lives.
    let net = c.args.net.now in
    rw c.in_ok-saved.ensures
    (belongs_added net c.args.bank.0 c.in_ok-found.found.added (start_of net c.args.past.now) c.args.past.now
    (subst (CanGoOn net) c.requires.run.2 c.requires.run.1.can_go_on))

pub saved_text-requires-clause-over : goal.saved_text-requires-clause-over
saved_text-requires-clause-over g c =
    ap length (c.as_slice.ensures ∙ c.in_ok-paid.ensures.settled.paid) ∙ least_places c.in_ok-saved.saved
    ∙ ap (λ n. length n.debts) c.in_ok-saved.ensures

-- the raises of the record are of debts of its network
pub with_record-requires : goal.with_record-requires
with_record-requires g c =
    let settled = c.in_ok-paid.ensures.settled in
    subst (λ n. All (λ r. r.debt.0 < length n.debts) c.in_ok-paid.field-0.sealed.journal)
    (sym settled.record_is.net_is)
    (stands_in_range c.in_ok-saved.saved c.in_ok-paid.field-0.sealed.journal settled.lawful.0)

-- a run, and one that goes on from its journal once the bank is saved
pub returns : goal.returns
returns g c =
    let net = c.args.net.now in
    let plan = c.args.engine.now.plan in
    let saved = c.in_ok-saved.saved in
    let first = c.requires.run.0 in
    let second = c.in_ok-paid.field-0 in
    let settled = c.in_ok-paid.ensures.settled in
    let found = c.in_ok-found.ensures in
    let same = c.in_ok-saved.ensures ∙ ap (added net c.args.bank.0) found.added in
    let went_on : IsSettled saved first.sealed.journal plan second = rw c.requires.run.2 settled in
    let out : c.with_record.result ≡ record { status = status.Done; sealed = Some c.in_ok-paid.sealed; text = c.in_ok-text.text } =
    search rules in
    record {
      first = first;
      second = second;
      first_settled = c.requires.run.1;
      second_settled = subst (λ n. IsSettled n first.sealed.journal plan second) same went_on;
      before = run_of net c.banks.ensures.network [] plan first c.requires.run.1;
      run = subst (λ n. IsRun n second.sealed.journal second.rounds) same
          (run_of saved c.banks-2.ensures.network first.sealed.journal plan second went_on);
      comes = out ∙ ap₂ (λ s t. record { status = status.Done; sealed = Some s; text = t }) (sym c.in_ok-paid.sealed-is)
          (rw (c.as_slice.ensures, settled.paid, c.in_ok-saved.ensures, found.short, found.added) at c.in_ok-text.ensures);
    }
