-- Worked command lines.
use Rattle.std.specs.Prelude.{◌≡◌, ⊤, ℕ, List, [], ◌∷◌, Option, None, Some, codes, map, replicate}
use Rattle.std.specs.Prelude.{refl, true, false}
use Rattle.std.specs.Char.{encode_utf8}
use Rattle.std.specs.Str.{chars, is_utf8}
use Rattle.clap.specs.Faults.{defaults_fault, flags_fault, walk_fault}
use Rattle.clap.specs.Walk.{bundle_met, walked}
use Rattle.net_check.specs.Field.{number_after}
use Rattle.net_check.specs.declared.limits.Limits.TheVariants as limits
use Rattle.clear_words.specs.Command.{command}
use Rattle.clear_words.specs.Job.{bare, job_of, on_both_files}
use Rattle.clear_words.specs.Options.{fits, kind_of}
use Rattle.clear_words.specs.Tasks.{use_in, uses_of}
use Rattle.clear_words.specs.declared.job.Job.{Job}
use Rattle.clear_words.specs.declared.option.JobOption.TheVariants as option
use Rattle.clear_words.specs.declared.show.Show.TheVariants as show
use Rattle.clear_words.specs.declared.task.Task.{Task}
use Rattle.clear_words.specs.declared.task.Task.TheVariants as task
use Rattle.clear_words.specs.declared.task.Use.TheVariants.{Allowed}

-- what is opened to compute the job of words that are written out
unfoldable on_words : ⊤
unfolding job_of command walked bundle_met chars is_utf8 encode_utf8 walk_fault flags_fault
    defaults_fault number_after
on_words = tt

-- a job on the files b.csv and d.csv
abbrev on_files : Task → Job
on_files t = on_both_files t (codes "b.csv") (codes "d.csv")

-- a word, both files, and more words
abbrev with_files : List ℕ → List (List ℕ) → List (List ℕ)
with_files word more =
    word ∷ codes "--banks" ∷ codes "b.csv" ∷ codes "--debts" ∷ codes "d.csv" ∷ more

-- the jobs that command lines ask for
abbrev asked : List (List (List ℕ)) → List (Option Job)
asked lines = map job_of lines

-- the word of a task and both files
pub tasks_on_files :
    map (λ word. job_of (with_files word []))
    (codes "check" ∷ codes "clear" ∷ codes "central" ∷ codes "defaults" ∷ codes "convert"
    ∷ codes "bounds" ∷ codes "compress" ∷ codes "breaking" ∷ codes "impact" ∷ codes "rescues" ∷ [])
    ≡ map (λ t. Some (on_files t))
    (task.Check ∷ task.Clear ∷ task.Central ∷ task.Defaults ∷ task.Convert ∷ task.Bounds
    ∷ task.Compress ∷ task.Breaking ∷ task.Impact ∷ task.Rescues ∷ [])
unfolding on_words
tasks_on_files = refl

-- and the one option more that a task requires
pub tasks_on_more :
    asked (
    with_files (codes "stress") (codes "--scenarios" ∷ codes "s.toml" ∷ [])
    ∷ with_files (codes "replay") (codes "--journal" ∷ codes "j.csv" ∷ [])
    ∷ with_files (codes "rescue") (codes "--bank" ∷ codes "A" ∷ [])
    ∷ with_files (codes "costs") (codes "--keep" ∷ codes "500" ∷ [])
    ∷ with_files (codes "outcomes") (codes "--scenarios" ∷ codes "s.toml" ∷ [])
    ∷ with_files (codes "cost-bounds") (codes "--keep" ∷ codes "500" ∷ []) ∷ [])
    ≡ Some (record (on_files task.Stress) { third = codes "s.toml" })
    ∷ Some (record (on_files task.Replay) { third = codes "j.csv" })
    ∷ Some (record (on_files task.Rescue) { bank = codes "A" })
    ∷ Some (record (on_files task.Costs) { keep = 500 })
    ∷ Some (record (on_files task.Outcomes) { third = codes "s.toml" })
    ∷ Some (record (on_files task.CostBounds) { keep = 500 }) ∷ []
unfolding on_words
tasks_on_more = refl

-- a task on no files
pub task_on_no_files :
    job_of (codes "gen" ∷ codes "--seed=7" ∷ codes "--size=3" ∷ codes "--tries=5" ∷ [])
    ≡ Some (record (bare task.Gen) { seed = 7; size = 3; tries = 5 })
unfolding on_words
task_on_no_files = refl

-- what a task allows besides
pub clear_with_all :
    job_of (with_files (codes "clear")
    (codes "--workers=64" ∷ codes "--sweeps" ∷ codes "0003" ∷ codes "--show" ∷ codes "both" ∷ []))
    ≡ Some (record (on_files task.Clear) { workers = 64; sweeps = 3; show = show.Both })
unfolding on_words
clear_with_all = refl

pub gen_on_workers :
    job_of (codes "gen" ∷ codes "--seed=7" ∷ codes "--size=3" ∷ codes "--tries=0"
    ∷ codes "--workers=2" ∷ [])
    ≡ Some (record (bare task.Gen) { seed = 7; size = 3; workers = 2 })
unfolding on_words
gen_on_workers = refl

-- what it neither requires nor allows
pub option_not_allowed :
    asked (
    with_files (codes "check") (codes "--workers=2" ∷ [])
    ∷ with_files (codes "central") (codes "--sweeps=2" ∷ [])
    ∷ with_files (codes "defaults") (codes "--show=both" ∷ [])
    ∷ with_files (codes "gen") (codes "--seed=7" ∷ codes "--size=3" ∷ codes "--tries=5" ∷ []) ∷ [])
    ≡ replicate 4 None
unfolding on_words
option_not_allowed = refl

-- what is told of many banks, scenarios or ends at once is computed without workers
pub workers_not_allowed :
    asked (
    with_files (codes "breaking") (codes "--workers=2" ∷ [])
    ∷ with_files (codes "impact") (codes "--bank=A" ∷ [])
    ∷ with_files (codes "rescues") (codes "--bank=A" ∷ [])
    ∷ with_files (codes "outcomes") (codes "--scenarios=s" ∷ codes "--sweeps=2" ∷ [])
    ∷ with_files (codes "cost-bounds") (codes "--keep=5" ∷ codes "--workers=2" ∷ []) ∷ [])
    ≡ replicate 5 None
unfolding on_words
workers_not_allowed = refl

-- what it requires and does not find, and numbers out of their range
pub option_wanting :
    asked (
    with_files (codes "stress") [] ∷ with_files (codes "replay") (codes "--scenarios=s" ∷ [])
    ∷ with_files (codes "outcomes") [] ∷ with_files (codes "cost-bounds") []
    ∷ (codes "clear" ∷ codes "--banks" ∷ codes "b.csv" ∷ [])
    ∷ (codes "gen" ∷ codes "--seed=7" ∷ codes "--size=0" ∷ codes "--tries=5" ∷ [])
    ∷ with_files (codes "clear") (codes "--workers=65" ∷ [])
    ∷ with_files (codes "cost-bounds") (codes "--keep=1001" ∷ []) ∷ [])
    ≡ replicate 8 None
unfolding on_words
option_wanting = refl

-- the limits by which files are read, of a task that reads files
pub limits_told :
    asked (
    with_files (codes "clear") (codes "--limits" ∷ codes "wide" ∷ [])
    ∷ with_files (codes "check") (codes "--limits=standard" ∷ [])
    ∷ with_files (codes "replay") (codes "--limits=wide" ∷ codes "--journal=j.csv" ∷ []) ∷ [])
    ≡ Some (record (on_files task.Clear) { limits = limits.Wide })
    ∷ Some (on_files task.Check)
    ∷ Some (record (on_files task.Replay) { third = codes "j.csv"; limits = limits.Wide }) ∷ []
unfolding on_words
limits_told = refl

-- they are told once, by one of two words, and not where no file is read
pub limits_not_allowed :
    asked (
    (codes "gen" ∷ codes "--seed=7" ∷ codes "--size=3" ∷ codes "--tries=5" ∷ codes "--limits=wide"
    ∷ [])
    ∷ with_files (codes "clear") (codes "--limits=big" ∷ [])
    ∷ with_files (codes "clear") (codes "--limits=Wide" ∷ [])
    ∷ with_files (codes "clear") (codes "--limits" ∷ [])
    ∷ with_files (codes "clear") (codes "--limits=wide" ∷ codes "--limits=wide" ∷ []) ∷ [])
    ≡ replicate 5 None
unfolding on_words
limits_not_allowed = refl

-- each task that reads files allows them
pub limits_allowed :
    map (λ t. use_in (uses_of t) option.Limits)
    (task.Check ∷ task.Clear ∷ task.Central ∷ task.Defaults ∷ task.Stress ∷ task.Replay
    ∷ task.Convert ∷ task.Bounds ∷ task.Rescue ∷ task.Compress ∷ task.Costs ∷ task.Breaking
    ∷ task.Impact ∷ task.Rescues ∷ task.Outcomes ∷ task.CostBounds ∷ [])
    ≡ replicate 16 Allowed
limits_allowed = refl

-- the options may stand in any order, before the task too, and with their values in one word; after
-- two dashes there are no options
pub words_in_any_order :
    asked (
    (codes "--debts" ∷ codes "d.csv" ∷ codes "--banks=b.csv" ∷ codes "clear" ∷ [])
    ∷ (codes "--banks=b.csv" ∷ codes "--debts=d.csv" ∷ codes "--" ∷ codes "clear" ∷ [])
    ∷ (codes "clear" ∷ codes "--banks=b.csv" ∷ codes "--" ∷ codes "--debts=d.csv" ∷ []) ∷ [])
    ≡ Some (on_files task.Clear) ∷ Some (on_files task.Clear) ∷ None ∷ []
unfolding on_words
words_in_any_order = refl

-- each option stands there once, with a value that may name a file
pub option_without_its_value :
    asked (
    (codes "clear" ∷ codes "--banks" ∷ codes "b.csv" ∷ codes "--debts" ∷ [])
    ∷ with_files (codes "clear") (codes "--banks" ∷ codes "b.csv" ∷ [])
    ∷ (codes "clear" ∷ codes "--banks" ∷ [] ∷ codes "--debts" ∷ codes "d.csv" ∷ [])
    ∷ (codes "clear" ∷ codes "--banks=-b.csv" ∷ codes "--debts" ∷ codes "d.csv" ∷ []) ∷ [])
    ≡ replicate 4 None
unfolding on_words
option_without_its_value = refl

-- no other words are a job
pub other_words :
    asked (
    with_files (codes "Clear") [] ∷ with_files (codes "cost_bounds") (codes "--keep=5" ∷ [])
    ∷ with_files (codes "outcome") (codes "--scenarios=s" ∷ [])
    ∷ with_files (codes "clear") (codes "--threads=2" ∷ [])
    ∷ with_files (codes "clear") (codes "again" ∷ []) ∷ [] ∷ (codes "--help" ∷ [])
    ∷ (codes "--version" ∷ []) ∷ [])
    ≡ replicate 8 None
unfolding on_words
other_words = refl

-- numbers, at the ends of a range and past them, and with all the digits that a number may have
pub workers_that_fit :
    map (fits (kind_of option.Workers)) (codes "64" ∷ codes "00000000000000000064" ∷ [])
    ≡ replicate 2 true
unfolding on_words
workers_that_fit = refl

pub workers_that_do_not :
    map (fits (kind_of option.Workers))
    (codes "65" ∷ codes "0" ∷ codes "000000000000000000064" ∷ [])
    ≡ replicate 3 false
unfolding on_words
workers_that_do_not = refl

pub no_digits_fit :
    map (fits (kind_of option.Keep)) (codes "+5" ∷ codes "" ∷ []) ≡ replicate 2 false
unfolding on_words
no_digits_fit = refl

pub greatest_seed :
    map (fits (kind_of option.Seed))
    (codes "18446744073709551615" ∷ codes "18446744073709551616" ∷ [])
    ≡ true ∷ false ∷ []
unfolding on_words
greatest_seed = refl

-- words for what is shown, and names of banks
pub other_show : fits (kind_of option.Show) (codes "Both") ≡ false
unfolding on_words
other_show = refl

pub names_of_banks :
    map (fits (kind_of option.Bank)) (codes "A B" ∷ codes "A,B" ∷ codes "-A" ∷ [])
    ≡ true ∷ false ∷ false ∷ []
unfolding on_words
names_of_banks = refl
