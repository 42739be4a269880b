-- The table of tasks: the word of each, and the options that it requires or allows. A task is a row
-- of each table here.
use Rattle.std.specs.Prelude.{ℕ, Bool, true, false, not, List, codes, Option, Some, None}
use Rattle.std.specs.Prelude.{if◌then◌else◌}
use Rattle.std.specs.List.{list_all}
use Rattle.std.specs.Str.{bytes_eq}
use Rattle.clear_words.specs.Options.{all_options}
use Rattle.clear_words.specs.declared.option.JobOption.{JobOption}
use Rattle.clear_words.specs.declared.option.JobOption.TheVariants as option
use Rattle.clear_words.specs.declared.task.Task.{Task}
use Rattle.clear_words.specs.declared.task.Task.TheVariants as task
use Rattle.clear_words.specs.declared.task.Use.{Use}
use Rattle.clear_words.specs.declared.task.Use.TheVariants.{Refused, Allowed, Required}
use Rattle.clear_words.specs.declared.task.Uses.{Uses}

-- no option
abbrev pub nothing : Uses
nothing = record {
  banks = Refused;
  debts = Refused;
  scenarios = Refused;
  journal = Refused;
  bank = Refused;
  workers = Refused;
  sweeps = Refused;
  show = Refused;
  seed = Refused;
  size = Refused;
  tries = Refused;
  keep = Refused;
  limits = Refused;
}

-- the files of a network, and no other option but the limits by which they are read
abbrev pub both_files : Uses
both_files = record nothing { banks = Required; debts = Required; limits = Allowed }

-- these options, for a task that a number of workers carries out
abbrev pub on_workers : Uses → Uses
on_workers uses = record uses { workers = Allowed; sweeps = Allowed }

-- the options of a task: those that it requires, those that it allows besides, and no others
abbrev pub uses_of : Task → Uses
uses_of task.Check = both_files
uses_of task.Clear = record (on_workers both_files) { show = Allowed }
uses_of task.Central = both_files
uses_of task.Defaults = on_workers both_files
uses_of task.Stress = record (on_workers both_files) { scenarios = Required }
uses_of task.Replay = record both_files { journal = Required }
uses_of task.Gen =
    record (on_workers nothing) { seed = Required; size = Required; tries = Required }
uses_of task.Convert = both_files
uses_of task.Bounds = on_workers both_files
uses_of task.Rescue = record (on_workers both_files) { bank = Required }
uses_of task.Compress = both_files
uses_of task.Costs = record both_files { keep = Required }
uses_of task.Breaking = both_files
uses_of task.Impact = both_files
uses_of task.Rescues = both_files
uses_of task.Outcomes = record both_files { scenarios = Required }
uses_of task.CostBounds = record both_files { keep = Required }

-- the word of a task
abbrev pub word_of : Task → List ℕ
word_of task.Check = codes "check"
word_of task.Clear = codes "clear"
word_of task.Central = codes "central"
word_of task.Defaults = codes "defaults"
word_of task.Stress = codes "stress"
word_of task.Replay = codes "replay"
word_of task.Gen = codes "gen"
word_of task.Convert = codes "convert"
word_of task.Bounds = codes "bounds"
word_of task.Rescue = codes "rescue"
word_of task.Compress = codes "compress"
word_of task.Costs = codes "costs"
word_of task.Breaking = codes "breaking"
word_of task.Impact = codes "impact"
word_of task.Rescues = codes "rescues"
word_of task.Outcomes = codes "outcomes"
word_of task.CostBounds = codes "cost-bounds"

-- the task that a word names
abbrev pub task_named : List ℕ → Option Task
task_named word =
    if bytes_eq word (word_of task.Check) then Some task.Check
    else if bytes_eq word (word_of task.Clear) then Some task.Clear
    else if bytes_eq word (word_of task.Central) then Some task.Central
    else if bytes_eq word (word_of task.Defaults) then Some task.Defaults
    else if bytes_eq word (word_of task.Stress) then Some task.Stress
    else if bytes_eq word (word_of task.Replay) then Some task.Replay
    else if bytes_eq word (word_of task.Gen) then Some task.Gen
    else if bytes_eq word (word_of task.Convert) then Some task.Convert
    else if bytes_eq word (word_of task.Bounds) then Some task.Bounds
    else if bytes_eq word (word_of task.Rescue) then Some task.Rescue
    else if bytes_eq word (word_of task.Compress) then Some task.Compress
    else if bytes_eq word (word_of task.Costs) then Some task.Costs
    else if bytes_eq word (word_of task.Breaking) then Some task.Breaking
    else if bytes_eq word (word_of task.Impact) then Some task.Impact
    else if bytes_eq word (word_of task.Rescues) then Some task.Rescues
    else if bytes_eq word (word_of task.Outcomes) then Some task.Outcomes
    else if bytes_eq word (word_of task.CostBounds) then Some task.CostBounds
    else None

-- what these uses say of an option
abbrev pub use_in : Uses → JobOption → Use
use_in uses option.Banks = uses.banks
use_in uses option.Debts = uses.debts
use_in uses option.Scenarios = uses.scenarios
use_in uses option.Journal = uses.journal
use_in uses option.Bank = uses.bank
use_in uses option.Workers = uses.workers
use_in uses option.Sweeps = uses.sweeps
use_in uses option.Show = uses.show
use_in uses option.Seed = uses.seed
use_in uses option.Size = uses.size
use_in uses option.Tries = uses.tries
use_in uses option.Keep = uses.keep
use_in uses option.Limits = uses.limits

-- the option has to be there
abbrev pub is_required : Use → Bool
is_required Refused = false
is_required Allowed = false
is_required Required = true

-- the same answer
abbrev pub same : Bool → Bool → Bool
same true b = b
same false b = not b

-- these uses require an option
abbrev pub requires_in : Uses → JobOption → Bool
requires_in uses o = is_required (use_in uses o)

-- a task that requires both files, and no other option
abbrev pub needs_files_alone : Task → Bool
needs_files_alone t =
    list_all (λ o. same (requires_in (uses_of t) o) (requires_in both_files o)) all_options
