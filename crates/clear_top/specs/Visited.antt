-- In which visits the raises of an answered record were made.
use Rattle.std.specs.Prelude.{◌≡◌, List, []}
use Rattle.clr_net.specs.Net.{Net}
use Rattle.clear_core.specs.declared.event.Raise.{Raise}
use Rattle.clear_words.specs.declared.task.Task.{Task}
use Rattle.clear_words.specs.declared.task.Task.TheVariants as task
use Rattle.pay_words.specs.Sealed.{Sealed}
use Rattle.settle.specs.Made.{IsJournalByBells, workers_of_run}
use Rattle.settle.specs.Runs.{IsSettled}
use Rattle.settle.specs.declared.plan.Plan.{Plan}
use Rattle.settle.specs.declared.runs.Settled.{Settled}

-- the record is of a run from this past: beside the past its journal has what the very workers of
-- the rounds raised, each of which did nothing but visits to which bells called it; they are as
-- many as seats were handed out
pub record IsByBells (past : List Raise) (sealed : Sealed) : Type 0 where
  pub net : Net
  pub plan : Plan
  pub settled : Settled
  pub run : IsSettled net past plan settled
  pub sealed_is : sealed ≡ settled.sealed
  pub by_bells : IsJournalByBells past (workers_of_run run.at_rest.rounds_are) sealed.seats
      settled.visits sealed.journal

-- so is the record of each task; that of a rescue, of a run from the journal of such a record
abbrev pub IsAllByBells : Task → Sealed → Type 0
IsAllByBells task.Rescue sealed =
    (first : Sealed) × IsByBells [] first × IsByBells first.journal sealed
IsAllByBells t sealed = IsByBells [] sealed
