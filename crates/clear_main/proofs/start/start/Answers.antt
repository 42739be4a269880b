-- Where there is no memory for the words, nothing is run: want of memory is told, and no file is
-- named.
use Rattle.std.proofs.Common.{refl}
use Rattle.clear_main.proofs.NoFile.{ends_in_mem, message_of_mem}
use Rattle.clear_main.proofs.start.start.Goals as goal

pub returns-in-Err-clause-ends : goal.returns-in-Err-clause-ends
returns-in-Err-clause-ends g c =
    ends_in_mem _ _ _ c.end.result.ended c.end.ensures.ended refl

pub returns-in-Err-clause-told : goal.returns-in-Err-clause-told
returns-in-Err-clause-told g c =
    rw (← message_of_mem c.end.result.ended c.end.ensures.ended _) c.end.ensures.told
