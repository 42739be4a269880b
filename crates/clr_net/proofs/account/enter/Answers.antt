-- Each of the two writes changes what its account shows.
use Rattle.std.proofs.Common.{set, ap, ◌∙◌, arith}
use Rattle.std.proofs.lemmas.List.{length-set}
use Rattle.clr_net.specs.Accounts.{shown, owing, owed_one_more}
use Rattle.clr_net.specs.Net.{changed_at}
use Rattle.clr_net.proofs.ChangedAt.{map-set_changed}
use Rattle.clr_net.proofs.account.enter.Goals as goal

pub returns : goal.returns
returns c =
    let all = c.args.accounts.now.items in
    let then_all = set all c.args.debt.debtor.0 c.owe.new.self in
    map-set_changed shown (owed_one_more c.args.id.0 c.args.debt) then_all c.args.debt.creditor.0
    c.index_mut-2.result.now c.be_owed.new.self
    (omega (arith, length-set all c.args.debt.debtor.0 c.owe.new.self)) c.index_mut-2.ensures.value
    c.be_owed.ensures
    ∙ ap (λ shows. changed_at (owed_one_more c.args.id.0 c.args.debt) shows c.args.debt.creditor.0)
    (map-set_changed shown (owing c.args.id.0 c.args.debt) all c.args.debt.debtor.0
    c.index_mut.result.now c.owe.new.self (omega arith)
    c.index_mut.ensures.value c.owe.ensures)
