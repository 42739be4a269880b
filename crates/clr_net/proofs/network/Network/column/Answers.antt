use Rattle.std.proofs.Common.{ap, ◌∙◌}
use Rattle.clr_net.specs.Net.{numbers}
use Rattle.clr_net.proofs.AccountReads.{account_at}
use Rattle.clr_net.proofs.network.Network.column.Goals as goal

pub returns : goal.returns
returns c =
    let account = account_at c.self.inside c.args.self.now c.self.view_is c.self.invariant c.args.bank.0 c.index.result.now c.requires c.index.ensures in
    ap numbers c.as_slice.ensures.value ∙ account.column
