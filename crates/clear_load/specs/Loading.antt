-- What loading sees of the shelf, and why a job may have nothing to work on.
use Rattle.std.specs.Prelude.{◌≡◌, ℕ, List, Option, Some, Result, Ok, Err}
use Rattle.clr_edge.specs.Faults.{HasRisen}
use Rattle.clear_words.specs.declared.job.Job.{Job}
use Rattle.net_check.specs.declared.fault.Fault.{Fault}
use Rattle.net_check.specs.declared.fault.FileKind.{FileKind}
use Rattle.net_check.specs.declared.fault.FileKind.TheVariants as file
use Rattle.net_check.specs.declared.limits.Limits.{Limits}
use Rattle.clear_load.specs.Sources.{name_in, source_of}
use Rattle.clear_load.specs.Reading.{Files, Input, reading, whole}
use Rattle.clear_load.specs.declared.fault.LoadFault.{LoadFault}
use Rattle.clear_load.specs.declared.fault.LoadFault.TheVariants as fault
use Rattle.clear_load.specs.declared.source.Source.{Source}
use Rattle.clear_load.specs.declared.source.Source.TheVariants as source

-- a shelf in a call: its files, where it tells them, and its count of faults for each name before
-- and after
pub record ShelfCall : Type 0 where
  pub files : Option Files
  pub before : List ℕ → ℕ
  pub after : List ℕ → ℕ

abbrev pub shelf_call : Option Files → (List ℕ → ℕ) → (List ℕ → ℕ) → ShelfCall
shelf_call files before after = record { files = files; before = before; after = after }

-- a call on a shelf, by what a shelf tells of itself, and the shelf before and after
abbrev pub on_shelf : {F : Type 0} → (F → Option Files) → (F → List ℕ → ℕ) → F → F → ShelfCall
on_shelf files faults old new = shelf_call (files old) (faults old) (faults new)

-- the job has a file of this kind, and the count of faults of its name rose
abbrev pub RoseAt : ShelfCall → Job → FileKind → Type 0
RoseAt shelf job k =
    (name : List ℕ) × (name_in job k ≡ Some name) × HasRisen (shelf.before name) (shelf.after name)

-- the count of faults of no file of the job rose
abbrev pub NoneRose : ShelfCall → Job → Type 0
NoneRose shelf job = (k : FileKind) → ¬ (RoseAt shelf job k)

-- the job's file of this kind is there, and no longer than a file may be
abbrev pub IsThere : Files → Job → FileKind → Type 0
IsThere files job k =
    (name : List ℕ) × (bytes : List ℕ) × (name_in job k ≡ Some name)
    × (whole job.limits files k name ≡ Some (Ok bytes))

-- the banks file and the debts file of the job are
abbrev pub AreBothThere : Files → Job → Type 0
AreBothThere files job = IsThere files job file.Banks × IsThere files job file.Debts

-- each file that is fetched before that of a kind is there, and no longer than a file may be
abbrev pub AreThereBefore : Files → Job → FileKind → Type 0
AreThereBefore files job file.Banks = Unit {0}
AreThereBefore files job file.Debts = IsThere files job file.Banks
AreThereBefore files job file.Scenarios = AreBothThere files job
AreThereBefore files job file.Journal = AreBothThere files job
AreThereBefore files job file.Words = Unit {0}

-- where the shelf tells its files, this holds of them
abbrev pub IfTold : Option Files → (Files → Type 0) → Type 0
IfTold files P = (told : Files) → files ≡ Some told → P told

-- where the shelf tells its files, this is what a file gives by these limits
abbrev pub GivesWhole : Limits → Option Files → FileKind → List ℕ → Result (List ℕ) Fault → Type 0
GivesWhole by files k name read = IfTold files (λ told. whole by told k name ≡ Some read)

-- the files on which a task of this source works: those that the shelf tells; of a source without
-- files, any
abbrev pub AreRead : Source → Option Files → Files → Type 0
AreRead source.Generated files any = Unit {0}
AreRead s files told = files ≡ Some told

-- this holds of the files on which the job works
abbrev pub OnFiles : Option Files → Job → (Files → Type 0) → Type 0
OnFiles files job P = (told : Files) → AreRead (source_of job.task) files told → P told

-- this is what the files of the job give; where the job has none, whatever the shelf tells or not
abbrev pub Gives : Option Files → Job → Result Input Fault → Type 0
Gives files job read = OnFiles files job (λ told. reading told job ≡ Some read)

-- where the shelf tells its files, the banks file and the debts file of the job are these
abbrev pub GivesBoth : Option Files → Job → List ℕ → List ℕ → Type 0
GivesBoth files job banks debts =
    GivesWhole job.limits files file.Banks job.banks (Ok banks)
    × GivesWhole job.limits files file.Debts job.debts (Ok debts)

-- the file of a kind cannot be read: a fault of its name is counted, and the files before it are
-- there
abbrev pub IsUnread : ShelfCall → Job → FileKind → Type 0
IsUnread shelf job k = RoseAt shelf job k × IfTold shelf.files (λ told. AreThereBefore told job k)

-- why a file of a kind is not fetched by these limits, by the fault that loading tells
abbrev pub StopsFetch : Limits → ShelfCall → FileKind → List ℕ → LoadFault → Type 0
StopsFetch by shelf k name (fault.Unread other) =
    (other ≡ k) × HasRisen (shelf.before name) (shelf.after name)
StopsFetch by shelf k name (fault.Refused f) = GivesWhole by shelf.files k name (Err f)
StopsFetch by shelf k name fault.Mem = Unit {0}

-- why there is nothing to work on, by the fault that loading tells
abbrev pub Stops : ShelfCall → Job → LoadFault → Type 0
Stops shelf job (fault.Unread k) = IsUnread shelf job k
Stops shelf job (fault.Refused f) = Gives shelf.files job (Err f)
Stops shelf job fault.Mem = Unit {0}
