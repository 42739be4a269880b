use Rattle.std.proofs.Common.{sym, ap, ◌∙◌, arith}
use Rattle.std.proofs.lemmas.List.{get_or_default}
use Rattle.clr_net.specs.Net.{with_cash}
use Rattle.clr_net.proofs.AccountReads.{account_within}
use Rattle.clr_net.proofs.Networks.{all_cash_le}
use Rattle.clr_net.proofs.CashSet.{AreKept-with_cash, net_of-with_cash, cash_within}
use Rattle.clr_net.proofs.network.Network.set_cash.Goals as goal

pub overflow_sub-self : goal.overflow_sub-self
overflow_sub-self c =
    let within =
    account_within c.self.inside c.args.self.now c.self.view_is c.args.bank.0 c.requires.bank in
    cash_within _ _ c.args.bank.0 c.index.result.now 0 within c.index.ensures c.self.invariant

pub overflow_add-self : goal.overflow_add-self
overflow_add-self c =
    omega (arith, c.self.invariant.cash, all_cash_le _ c.self.invariant.network, c.requires.cash)

-- the account that is written is the one that was read
pub invariant_of-self : goal.invariant_of-self
invariant_of-self c =
    let within =
    account_within c.self.inside c.args.self.now c.self.view_is c.args.bank.0 c.requires.bank in
    let same =
    c.index_mut.ensures.value ∙ get_or_default _ c.args.bank.0 _ _ within ∙ sym c.index.ensures in
    rw same (AreKept-with_cash _ _ c.args.bank.0 c.index.result.now c.args.cash within
    c.index.ensures c.self.invariant c.requires.cash)

pub returns : goal.returns
returns c =
    let within =
    account_within c.self.inside c.args.self.now c.self.view_is c.args.bank.0 c.requires.bank in
    net_of-with_cash _ _ c.args.bank.0 c.index_mut.result.now c.args.cash within
    c.index_mut.ensures.value
    ∙ ap (λ n. with_cash n c.args.bank.0 c.args.cash) c.self.view_is
