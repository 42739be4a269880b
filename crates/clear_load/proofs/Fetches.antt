-- Why the files of a job are not all fetched.
use Rattle.std.proofs.Common.{◌≡◌, ◌∙◌, ℕ, true, List, Option, Some, Err, refl}
use Rattle.clr_edge.proofs.Rises.{risen_since}
use Rattle.clr_edge.specs.Faults.{NoneFalls}
use Rattle.clear_words.specs.declared.job.Job.{Job}
use Rattle.net_check.specs.declared.fault.Fault.{Fault}
use Rattle.net_check.specs.declared.fault.FileKind.{FileKind}
use Rattle.net_check.specs.declared.fault.FileKind.TheVariants as file
use Rattle.clear_load.specs.Loading.{AreBothThere, AreRead, AreThereBefore, IfTold, IsUnread, Stops, StopsFetch}
use Rattle.clear_load.specs.Loading.{shelf_call}
use Rattle.clear_load.specs.Reading.{Files, all_whole, both_whole, reading, reading_by, whole}
use Rattle.clear_load.specs.Sources.{has_files, name_by, name_in, source_of, third_kind}
use Rattle.clear_load.specs.declared.source.Source.{Source}
use Rattle.clear_load.specs.declared.source.Source.TheVariants as source
use Rattle.clear_load.specs.declared.fault.LoadFault.{LoadFault}
use Rattle.clear_load.specs.declared.fault.LoadFault.TheVariants as fault

-- a source with files has one of banks and one of debts
pub files_named : (s : Source) (job : Job) → has_files s ≡ true
    → (name_by s job file.Banks ≡ Some job.banks) × (name_by s job file.Debts ≡ Some job.debts)
files_named source.Generated job has = absurd (cc)
files_named s job has = (refl, refl)

-- a source with files works on those that are told
are_told : (s : Source) (files : Option Files) (told : Files) → has_files s ≡ true → AreRead s files told → files ≡ Some told
are_told source.Generated files told has read = absurd (cc)
are_told s files told has read = read

-- a source with a third file has the two others
pub third_has_files : (s : Source) (k : FileKind) → third_kind s ≡ Some k → has_files s ≡ true
third_has_files source.Generated k is = absurd (cc)
third_has_files s k is = refl

-- a fault of the two files is the first fault of what the job reads
pub fault_of_both : (s : Source) (told : Files) (job : Job) (f : Fault) → has_files s ≡ true
    → both_whole told job ≡ Some (Err f) → reading_by s told job ≡ Some (Err f)
fault_of_both source.Generated told job f has is = absurd (cc)
fault_of_both s told job f has is = rw is refl

-- a third file has its name and comes after the two others, and so is a fault of it the first
pub third_is : (s : Source) (job : Job) (k : FileKind) → third_kind s ≡ Some k
    → (name_by s job k ≡ Some job.third)
    × ((told : Files) → AreBothThere told job → AreThereBefore told job k)
    × ((told : Files) (f : Fault) → all_whole told job k ≡ Some (Err f) → reading_by s told job ≡ Some (Err f))
third_is source.FilesAndScenarios job file.Scenarios is = (refl, λ told there. there, λ told f faulty. rw faulty refl)
third_is source.FilesAndJournal job file.Journal is = (refl, λ told there. there, λ told f faulty. rw faulty refl)
third_is s job k is = absurd (cc)

-- a fetch gives nothing: the file is not there to be read, or is at fault, after those before it were given whole
pub stops_at : (files mid : Option Files) (before middle after : List ℕ → ℕ) (job : Job) (k : FileKind) (name : List ℕ)
    (why : LoadFault) → has_files (source_of job.task) ≡ true → mid ≡ files → NoneFalls before middle
    → name_in job k ≡ Some name → IfTold files (λ told. AreThereBefore told job k)
    → ((told : Files) (f : Fault) → files ≡ Some told → whole job.limits told k name ≡ Some (Err f)
    → reading told job ≡ Some (Err f))
    → StopsFetch job.limits (shelf_call mid middle after) k name why → Stops (shelf_call files before after) job why
stops_at files mid before middle after job k name (fault.Unread other) has same no_fall named there faulty (is, risen) =
    let at : IsUnread (shelf_call files before after) job k =
    ((name, named, risen_since (before name) (middle name) (after name) (no_fall name) risen), there) in
    rw is at
stops_at files mid before middle after job k name (fault.Refused f) has same no_fall named there faulty stops =
    λ told read. let tells = are_told (source_of job.task) files told has read in
    faulty told f tells (stops told (same ∙ tells))
stops_at files mid before middle after job k name fault.Mem has same no_fall named there faulty stops = stops
