-- What a board may be opened with.
use Rattle.std.specs.Prelude.{◌≡◌, ◌≤◌, All, List, map, sum}
use Rattle.clr_net.specs.Net.{Net}
use Rattle.clear_core.specs.History.{IsTraced, Stands, ordered}
use Rattle.clear_core.specs.declared.event.Raise.{Raise}
use Rattle.pay_words.specs.declared.payment.Payment.{Payment}
use Rattle.pay_words.specs.Traces.{start_of}

-- a past of raises in order, each lawful where it stands and by its stamps alone, and what it
-- leaves on each debt: the payment of the debt's last raise, with no stamp above the sum of the
-- values
pub record Belongs (net : Net) (start : List Payment) (past : List Raise) : Type 0 where
  pub in_order : ordered past ≡ past
  pub stands : Stands net past
  pub traced : IsTraced net past
  pub start_is : start ≡ start_of net past
  pub stamps_low : All (λ p. p.stamp ≤ sum (map (λ q. q.value) start)) start
