use Rattle.std.proofs.Common.{subst, sym}
use Rattle.std.specs.Prelude.{IfOk}
use Rattle.clr_net.specs.Net.{Net}
use Rattle.settle.specs.Runs.{CanGoOn, IsSettled}
use Rattle.settle.proofs.plain.settle_from.Goals as goal

-- each clause is of a copy, which is the network
pub settle_owned-requires-clause-past : goal.settle_owned-requires-clause-past
settle_owned-requires-clause-past g c κs within =
    subst (λ (m : Net). CanGoOn m c.args.past.now) (sym c.in_ok-copy.ensures) c.requires.past

pub returns : goal.returns
returns g c = record {
  settled = subst (λ (m : Net). IfOk c.settle_owned.result (IsSettled m c.args.past.now c.args.plan)) c.in_ok-copy.ensures c.settle_owned.ensures.settled;
}
