-- Where memory is wanting before the run, no file is named and nothing is written.
use Rattle.std.proofs.Common.{◌≡◌, refl, Option, None, Some, inr}
use Rattle.clear_words.specs.declared.job.Job.{Job}
use Rattle.clear_load.specs.Loading.{ShelfCall}
use Rattle.clear_top.specs.Ending.{RunEnds}
use Rattle.clr_edge.specs.Taking.{SinkCall}
use Rattle.clear_top.specs.Message.{message}
use Rattle.clear_top.specs.declared.status.Ended.{Ended}
use Rattle.clear_top.specs.declared.status.Status.TheVariants as status

-- want of memory may end any run in which nothing is written
pub ends_in_mem : (shelf : ShelfCall) (sink : SinkCall) (job : Option Job) (ended : Ended)
    → ended ≡ record { status = status.Mem; sealed = None } → sink.new ≡ sink.old → RunEnds shelf sink job ended
ends_in_mem shelf sink None ended is same = rw is (inr refl, (same, refl))
ends_in_mem shelf sink (Some job) ended is same = rw is (same, refl)

-- its message is the same for any job and for none
pub message_of_mem : (ended : Ended) → ended ≡ record { status = status.Mem; sealed = None }
    → (job : Option Job) → message status.Mem None ≡ message ended.status job
message_of_mem ended is job = rw is refl
