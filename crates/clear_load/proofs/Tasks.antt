-- The tasks of a source that few tasks have.
use Rattle.std.proofs.Common.{◌≡◌, refl}
use Rattle.clear_words.specs.declared.task.Task.{Task}
use Rattle.clear_words.specs.declared.task.Task.TheVariants as task
use Rattle.clear_load.specs.Sources.{source_of}
use Rattle.clear_load.specs.declared.source.Source.TheVariants as source

-- gen alone works on a network that is made
pub gen_by : (t : Task) → source_of t ≡ source.Generated → t ≡ task.Gen
gen_by task.Gen is = refl
gen_by t is = absurd (cc)

-- replay alone works on a journal
pub replay_by : (t : Task) → source_of t ≡ source.FilesAndJournal → t ≡ task.Replay
replay_by task.Replay is = refl
replay_by t is = absurd (cc)

-- rescue alone works on a bank
pub rescue_by : (t : Task) → source_of t ≡ source.FilesAndBank → t ≡ task.Rescue
rescue_by task.Rescue is = refl
rescue_by t is = absurd (cc)
