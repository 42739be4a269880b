use Rattle.std.proofs.Common.{◌≡◌, map, take}
use Rattle.clr_net.specs.Accounts.{shown}
use Rattle.clr_net.proofs.copying.copies.Given as goal

abbrev pub invariant-loop-account : goal.invariant-loop-account
invariant-loop-account l = map shown l.all.items ≡ map shown (take l.account-index l.accounts)
