-- What a task needs, and the files of a job by their kind.
use Rattle.std.specs.Prelude.{◌≡◌, ℕ, Bool, true, false, List, Option, Some, None}
use Rattle.clear_words.specs.declared.job.Job.{Job}
use Rattle.clear_words.specs.declared.task.Task.{Task}
use Rattle.clear_words.specs.declared.task.Task.TheVariants as task
use Rattle.net_check.specs.declared.fault.FileKind.{FileKind}
use Rattle.net_check.specs.declared.fault.FileKind.TheVariants as file
use Rattle.clear_load.specs.declared.source.Source.{Source}
use Rattle.clear_load.specs.declared.source.Source.TheVariants as source

-- what a task works on, and whether it answers the record of a board
pub record Needs : Type 0 where
  pub source : Source
  pub has_record : Bool

abbrev pub needs : Source → Bool → Needs
needs source has_record = record { source = source; has_record = has_record }

-- the same of each task: a row for each
abbrev pub needs_of : Task → Needs
needs_of task.Check = needs source.Files false
needs_of task.Clear = needs source.Files true
needs_of task.Central = needs source.Files false
needs_of task.Defaults = needs source.Files true
needs_of task.Stress = needs source.FilesAndScenarios false
needs_of task.Replay = needs source.FilesAndJournal false
needs_of task.Gen = needs source.Generated true
needs_of task.Convert = needs source.Files false
needs_of task.Bounds = needs source.Files true
needs_of task.Rescue = needs source.FilesAndBank true
needs_of task.Compress = needs source.Files false
needs_of task.Costs = needs source.Files false
needs_of task.Breaking = needs source.Files false
needs_of task.Impact = needs source.Files false
needs_of task.Rescues = needs source.Files false
needs_of task.Outcomes = needs source.FilesAndScenarios false
needs_of task.CostBounds = needs source.Files false

-- what a task works on
abbrev pub source_of : Task → Source
source_of t = (needs_of t).source

-- whether a task answers the record of a board
abbrev pub has_record : Task → Bool
has_record t = (needs_of t).has_record

-- whether a source has a banks file and a debts file
abbrev pub has_files : Source → Bool
has_files source.Generated = false
has_files s = true

-- the words ask for no job, or for one that has no files
abbrev pub HasNoFiles : Option Job → Type 0
HasNoFiles None = Unit {0}
HasNoFiles (Some job) = has_files (source_of job.task) ≡ false

-- the kind of the third file, where the source has one
abbrev pub third_kind : Source → Option FileKind
third_kind source.FilesAndScenarios = Some file.Scenarios
third_kind source.FilesAndJournal = Some file.Journal
third_kind s = None

-- the name of the file of a kind, where the source has such a file
abbrev pub name_by : Source → Job → FileKind → Option (List ℕ)
name_by source.Generated job k = None
name_by s job file.Banks = Some job.banks
name_by s job file.Debts = Some job.debts
name_by source.FilesAndScenarios job file.Scenarios = Some job.third
name_by source.FilesAndJournal job file.Journal = Some job.third
name_by s job k = None

-- the name of the job's file of a kind: none where the job has no such file
abbrev pub name_in : Job → FileKind → Option (List ℕ)
name_in job k = name_by (source_of job.task) job k
