-- The network of the record is the network, and its journal was made in the first run.
use Rattle.std.proofs.Common.{◌<◌, ◌≡◌, [], IfOk, length, refl, sym, ◌∙◌, subst}
use Rattle.clear_core.specs.Clearing.{least}
use Rattle.settle.specs.Runs.{IsSettled}
use Rattle.clear_top.specs.Runs.{Rescues}
use Rattle.pay_words.proofs.Pasts.{belongs_at_first}
use Rattle.clear_top.proofs.saving.save.Goals as goal

pub settle_owned-requires-clause-past : goal.settle_owned-requires-clause-past
settle_owned-requires-clause-past g c κs lives = belongs_at_first c.args.net _ refl

pub save_after-requires-clause-bank : goal.save_after-requires-clause-bank
save_after-requires-clause-bank g c = λ κs lives.
    subst (λ n. c.args.bank.0 < length n.banks) (sym (c.net.ensures ∙ c.in_ok-paid.ensures.settled.record_is.net_is)) c.requires

pub save_after-requires-clause-paid : goal.save_after-requires-clause-paid
save_after-requires-clause-paid g c = λ κs lives.
    subst (λ n. c.as_slice.result.now ≡ least n) (sym (c.net.ensures ∙ c.in_ok-paid.ensures.settled.record_is.net_is))
    (c.as_slice.ensures ∙ c.in_ok-paid.ensures.settled.paid)

pub save_after-requires-clause-run : goal.save_after-requires-clause-run
save_after-requires-clause-run g c = λ κs lives. (
  c.in_ok-paid.field-0,
  subst (λ n. IsSettled n [] c.args.engine.now.plan c.in_ok-paid.field-0)
      (sym (c.net.ensures ∙ c.in_ok-paid.ensures.settled.record_is.net_is)) c.in_ok-paid.ensures.settled,
  sym c.journal.ensures,
)

pub returns : goal.returns
returns g c =
    subst (λ n. IfOk c.save_after.result (Rescues n c.args.engine.now.plan c.args.bank.0))
    (c.net.ensures ∙ c.in_ok-paid.ensures.settled.record_is.net_is) c.save_after.ensures
