use Rattle.clr_net.proofs.AccountReads.{account_at}
use Rattle.clr_net.proofs.network.Network.owed_by.Goals as goal

pub returns : goal.returns
returns c =
    let account = account_at c.self.inside c.args.self.now c.self.view_is c.self.invariant c.args.bank.0 c.index.result.now c.requires c.index.ensures in
    account.owed
