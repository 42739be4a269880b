-- What a run begins with, and what it leaves.
use Rattle.std.specs.Prelude.{◌≡◌, ℕ, List}
use Rattle.clr_net.specs.Net.{Net}
use Rattle.clear_core.specs.declared.event.Raise.{Raise}
use Rattle.pay_words.specs.Traces.{start_of}
use Rattle.pay_words.specs.Views.{opening}
use Rattle.settle.specs.Drives.{IsDriven}
use Rattle.settle.specs.declared.opening.Opened.{Opened}
use Rattle.settle.specs.declared.plan.Driven.{Driven}
use Rattle.settle.specs.declared.plan.Plan.{Plan}

-- the board is of this network, past and number of workers, its master has just opened it, and the
-- payments are what the past left
pub record IsOpened (net : Net) (workers : ℕ) (past : List Raise) (o : Opened) : Type 0 where
  pub payments_are : o.payments.items ≡ start_of net past
  pub net_is : o.board.net ≡ net
  pub past_is : o.board.past ≡ past
  pub workers_are : o.board.table.workers ≡ workers
  pub table_is : o.master.table ≡ o.board.table
  pub shows : o.master.shows ≡ opening net (start_of net past)

-- the run on that board has ended: its master was driven, and came to so many rounds and visits
pub record HasEnded (net : Net) (past : List Raise) (plan : Plan) (o : Opened) (d : Driven)
    : Type 0 where
  pub payments_are : o.payments.items ≡ start_of net past
  pub net_is : o.board.net ≡ net
  pub past_is : o.board.past ≡ past
  pub workers_are : o.board.table.workers ≡ plan.workers
  pub table_is : o.master.table ≡ o.board.table
  pub driven : IsDriven net past plan (opening net (start_of net past)) o.master.shows d
