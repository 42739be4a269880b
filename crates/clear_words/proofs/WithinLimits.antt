-- The numbers of a job are within their limits.
use Rattle.std.proofs.Common.{◌≡◌, ◌≤◌, ◌&&◌, Bool, List, None, Option, Some, arith}
use Rattle.std.proofs.Common.{false, min, refl, subst, true, ℕ}
use Rattle.std.proofs.lemmas.Bool.{leb-true}
use Rattle.std.proofs.lemmas.Option.{cond_some, option_and_then_some}
use Rattle.std.proofs.lemmas.List.Elements.{All-get_or}
use Rattle.std.proofs.lemmas.List.Sums.{AllPass-from_list_all}
use Rattle.std.specs.List.{list_all}
use Rattle.std.specs.Option.{unwrap_or}
use Rattle.std.specs.Prelude.{if◌then◌else◌, is_some, nat_le, option_and_then}
use Rattle.clap.specs.Words.{Row, Text, matches_of}
use Rattle.net_check.specs.Field.{number_in}
use Rattle.clear_words.specs.Command.{command, is_taken}
use Rattle.clear_words.specs.Job.{is_welcome, is_well, job_for, job_in, job_of, job_on, number_of}
use Rattle.clear_words.specs.Job.{task_in, value_of}
use Rattle.clear_words.specs.Limits.{IsJob}
use Rattle.clear_words.specs.Options.{all_options, if_between}
use Rattle.clear_words.specs.Tasks.{uses_of}
use Rattle.clear_words.specs.declared.job.Job.{Job}
use Rattle.clear_words.specs.declared.option.JobOption.TheVariants as option
use Rattle.clear_words.specs.declared.option.Kind.TheVariants.{Number}
use Rattle.clear_words.specs.declared.task.Task.{Task}
use Rattle.clear_words.specs.declared.task.Task.TheVariants as task
use Rattle.clear_words.specs.declared.task.Use.TheVariants.{Required}

-- a number where it passes two tests, and otherwise what stands for it
abbrev kept : Bool → Bool → ℕ → ℕ → ℕ
kept above below n otherwise = unwrap_or (if above && below then Some n else None) otherwise

-- a number that is not above the most of a range, and not below its least or what stands for it
abbrev Within : ℕ → ℕ → ℕ → ℕ → Type 0
Within least most otherwise n = (min least otherwise ≤ n) × (n ≤ most)

-- by the answers of the tests, it is in the range
kept_within : (above below : Bool) (least most n otherwise : ℕ) → (above ≡ true → least ≤ n)
    → (below ≡ true → n ≤ most) → otherwise ≤ most
    → Within least most otherwise (kept above below n otherwise)
kept_within true true least most n otherwise over under l = (omega (arith, over refl), under refl)
kept_within true false least most n otherwise over under l = (omega arith, l)
kept_within false below least most n otherwise over under l = (omega arith, l)

-- so is a number that a range lets through, or what stands for it
range_within : (least most otherwise : ℕ) (n : Option ℕ) → otherwise ≤ most
    → Within least most otherwise (unwrap_or (option_and_then (if_between least most) n) otherwise)
range_within least most otherwise None l = (omega arith, l)
range_within least most otherwise (Some n) l =
    kept_within (nat_le least n) (nat_le n most) least most n otherwise (leb-true least n)
    (leb-true n most) l

-- and the number that an option gives
number_within : (least most otherwise : ℕ) (value : Option Text) → otherwise ≤ most
    → Within least most otherwise
    (unwrap_or (option_and_then (number_of (Number least most)) value) otherwise)
number_within least most otherwise None l = (omega arith, l)
number_within least most otherwise (Some text) l =
    range_within least most otherwise (number_in text) l

-- a number that is there is the same, whatever would stand for it
there : (n : Option ℕ) (a b : ℕ) → is_some n ≡ true → unwrap_or n a ≡ unwrap_or n b
there None a b is = absurd (cc)
there (Some n) a b is = refl

-- so of an option that has to be there
required : (least most a b : ℕ) (value : Option Text)
    → is_welcome Required (Number least most) value ≡ true
    → unwrap_or (option_and_then (number_of (Number least most)) value) a
    ≡ unwrap_or (option_and_then (number_of (Number least most)) value) b
required least most a b None well = absurd (cc)
required least most a b (Some text) well = there (number_of (Number least most) text) a b well

-- the size of a network that is to be generated has to be there
size_is_there : (rows : List Row) (t : Task) → t ≡ task.Gen
    → list_all (is_well (uses_of t) rows) all_options ≡ true → 1 ≤ (job_on rows t).size
size_is_there rows task.Gen is all =
    let size = value_of rows option.Size in
    let well = All-get_or (λ o. is_well (uses_of task.Gen) rows o ≡ true) all_options 9 option.Banks (omega arith)
    (AllPass-from_list_all (is_well (uses_of task.Gen) rows) all_options all) in
    let same = required 1 1000 0 1 size well in
    omega (arith, same, number_within 1 1000 1 size (omega arith))
size_is_there rows _ is all = absurd (cc)

-- the job of a task on what the command found
job_on_is_job : (rows : List Row) (t : Task)
    → list_all (is_well (uses_of t) rows) all_options ≡ true → IsJob (job_on rows t)
job_on_is_job rows t all = record {
  least_workers = (number_within 1 64 4 (value_of rows option.Workers) (omega arith)).0;
  most_workers = (number_within 1 64 4 (value_of rows option.Workers) (omega arith)).1;
  least_sweeps = (number_within 1 1000 1 (value_of rows option.Sweeps) (omega arith)).0;
  most_sweeps = (number_within 1 1000 1 (value_of rows option.Sweeps) (omega arith)).1;
  least_size = λ gen. size_is_there rows t gen all;
  most_size = (number_within 1 1000 0 (value_of rows option.Size) (omega arith)).1;
  most_tries = (number_within 0 20000 0 (value_of rows option.Tries) (omega arith)).1;
  most_keep = (number_within 0 1000 0 (value_of rows option.Keep) (omega arith)).1;
}

-- by whether the command takes the words, the task that is found and the test of the options
from_command : (rows : List Row) (taken : Bool) (job : Job)
    → (if taken then job_in rows else None) ≡ Some job → IsJob job
from_command rows false job asks = absurd (cc)
from_command rows true job asks = option_and_then_some (job_for rows) (task_in rows) job asks (λ t found asked.
    let both = cond_some (list_all (is_well (uses_of t) rows) all_options) (job_on rows t) job asked in
    subst IsJob both.1 (job_on_is_job rows t both.0))

-- the job that words ask for
pub asked_is_job : (words : List Text) (job : Job) → job_of words ≡ Some job → IsJob job
unfolding job_of
asked_is_job words job asks =
    from_command (matches_of command words) (is_taken words) job asks
