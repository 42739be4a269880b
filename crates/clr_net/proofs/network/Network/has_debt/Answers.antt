-- The keys of the shorter list tell, and so whether the kind is new.
use Rattle.std.proofs.Common.{◌==◌, ap₂, ◌∙◌, subst, arith}
use Rattle.std.specs.List.{list_any}
use Rattle.clr_net.specs.Limits.{IsNetwork}
use Rattle.clr_net.proofs.AccountReads.{account_at}
use Rattle.clr_net.proofs.Keys.{row_keys_tell, column_keys_tell}
use Rattle.clr_net.proofs.OfKind.{new_kind}
use Rattle.clr_net.proofs.network.Network.has_debt.Goals as goal

pub returns-then-len-clause-any : goal.returns-then-len-clause-any
returns-then-len-clause-any c =
    let network = subst IsNetwork c.self.view_is c.self.invariant.network in
    let account = account_at c.self.inside c.args.self.now c.self.view_is c.self.invariant c.args.debtor.0 c.index.result.now c.requires.debtor c.index.ensures in
    c.has_key.ensures
    ∙ ap₂ (λ sought ks. list_any (λ k. k == sought) ks) c.key_of.ensures account.row_keys
    ∙ row_keys_tell c.args.self.now network c.args.debtor.0 c.args.creditor.0 c.args.class (omega arith)

pub returns-then-len-clause-none : goal.returns-then-len-clause-none
returns-then-len-clause-none c =
    new_kind c.args.self.now c.args.debtor.0 c.args.creditor.0 c.args.class _ (returns-then-len-clause-any c)

pub returns-else-len-clause-any : goal.returns-else-len-clause-any
returns-else-len-clause-any c =
    let network = subst IsNetwork c.self.view_is c.self.invariant.network in
    let account = account_at c.self.inside c.args.self.now c.self.view_is c.self.invariant c.args.creditor.0 c.index-2.result.now c.requires.creditor c.index-2.ensures in
    c.has_key-else-len.ensures
    ∙ ap₂ (λ sought ks. list_any (λ k. k == sought) ks) c.key_of-else-len.ensures account.column_keys
    ∙ column_keys_tell c.args.self.now network c.args.debtor.0 c.args.creditor.0 c.args.class (omega arith)

pub returns-else-len-clause-none : goal.returns-else-len-clause-none
returns-else-len-clause-none c =
    new_kind c.args.self.now c.args.debtor.0 c.args.creditor.0 c.args.class _ (returns-else-len-clause-any c)
