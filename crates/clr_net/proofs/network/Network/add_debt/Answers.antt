-- Room is made first, which shows nothing; then the debt stands at the end and in the accounts of its two banks.
use Rattle.std.proofs.Common.{◌≡◌, length, Result, Ok, Err, ap, ◌∙◌, arith}
use Rattle.std.specs.Result.{OnErr}
use Rattle.clr_net.specs.Kept.{net_of}
use Rattle.clr_net.specs.Net.{with_debt}
use Rattle.clr_net.proofs.Keeping.{AreKept-alike, AreKept-with_debt, net_of-alike, net_of-entered}
use Rattle.clr_net.proofs.RowsAndColumns.{sum-claims_of_le}
use Rattle.clr_net.proofs.network.Network.add_debt.Goals as goal

on_err : {T E P : Type 0} (r : Result T E) → P → OnErr r P
on_err (Ok x) p = tt
on_err (Err e) p = p

pub invariant_of-self : goal.invariant_of-self
invariant_of-self c = AreKept-alike _ _ _ c.make_room.ensures.shown c.self.invariant

pub returns-in_err-make_room-clause-err : goal.returns-in_err-make_room-clause-err
returns-in_err-make_room-clause-err c =
    on_err c.from_residual.result (net_of-alike _ _ _ c.make_room.ensures.shown ∙ c.self.view_is)

pub invariant_of-self-in_err-push : goal.invariant_of-self-in_err-push
invariant_of-self-in_err-push c =
    rw c.in_err-push.ensures.items (AreKept-alike _ _ _ c.make_room.ensures.shown c.self.invariant)

pub returns-in_err-push-clause-err : goal.returns-in_err-push-clause-err
returns-in_err-push-clause-err c = on_err c.from_residual-in_err-push.result
    (rw c.in_err-push.ensures.items (net_of-alike _ _ _ c.make_room.ensures.shown) ∙ c.self.view_is)

pub enter-requires-clause-fits : goal.enter-requires-clause-fits
enter-requires-clause-fits c x at =
    let kept = AreKept-alike _ _ _ c.make_room.ensures.shown c.self.invariant in
    omega (
      arith,
      (kept.accounts c.args.debt.debtor.0 x at).owed,
      sum-claims_of_le (net_of c.make_room.new.accounts.items c.self.inside.debts.items)
          c.args.debt.debtor.0,
      kept.network.owed_in_limit,
      c.requires.claim_in_limit,
    )

pub invariant_of-self-2 : goal.invariant_of-self-2
invariant_of-self-2 c =
    let at : c.len.result ≡ length c.self.inside.debts.items = omega arith in
    let shows = rw (c.make_room.ensures.shown, at) at c.enter.ensures in
    let new = rw (← c.self.view_is) at c.requires in
    rw c.in_ok-push.ensures.items (AreKept-with_debt _ _ c.self.inside.debts.items c.args.debt new
    shows c.self.invariant)

pub returns-clause-ok : goal.returns-clause-ok
returns-clause-ok c =
    let at : c.len.result ≡ length c.self.inside.debts.items = omega arith in
    let shows = rw (c.make_room.ensures.shown, at) at c.enter.ensures in
    rw c.in_ok-push.ensures.items (net_of-entered _ _ c.self.inside.debts.items c.args.debt shows
    ∙ ap (λ net. with_debt net c.args.debt) c.self.view_is)
