use Rattle.std.proofs.Common.{length}
use Rattle.clr_net.specs.Net.{units_owed}
use Rattle.clear_core.specs.Clearing.{pay, least}
use Rattle.clear_core.proofs.Least.{least_clears, least_rounds}
use Rattle.clear_core.proofs.Settling.{pay_is_paying, rising_reaches}
use Rattle.clear_core.proofs.laws.rounds_go_on_to_the_least.Goals as goal

pub returns : goal.returns
returns c = λ net P l rises below n enough.
    rising_reaches (pay net) (length net.debts) (units_owed net) (pay_is_paying net) P (least net) l rises
    (least_clears net) below (least_rounds net).least n enough
