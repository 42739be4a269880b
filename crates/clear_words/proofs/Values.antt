-- The job of words, by what the command found in them.
use Rattle.std.proofs.Common.{◌≡◌, ◌∙◌, Bool, List, None, Some, ap, false, refl}
use Rattle.std.proofs.Common.{sym, true}
use Rattle.std.specs.List.{list_all}
use Rattle.std.specs.Prelude.{option_and_then, if◌then◌else◌}
use Rattle.clap.specs.Words.{Row, Text, matches_of}
use Rattle.clear_words.specs.Command.{command, is_taken}
use Rattle.clear_words.specs.Job.{is_well, job_for, job_in, job_of, job_on, task_in}
use Rattle.clear_words.specs.Options.{all_options}
use Rattle.clear_words.specs.Tasks.{uses_of}
use Rattle.clear_words.specs.declared.task.Task.{Task}

-- words that the command takes ask for the job in what it finds
pub job_of-taken : (words : List Text) (rows : List Row) → is_taken words ≡ true
    → rows ≡ matches_of command words
    → job_of words ≡ job_in rows
unfolding job_of
job_of-taken words rows taken is = rw (taken, is) refl

-- words that it does not take ask for none
pub job_of-refused : (words : List Text) → is_taken words ≡ false → job_of words ≡ None
unfolding job_of
job_of-refused words refused = rw refused refl

-- by whether each option is as the task wants it, they ask for the job of the task or for none
pub job_in-by_test : (rows : List Row) (t : Task) (is : Bool) → task_in rows ≡ Some t
    → is ≡ list_all (is_well (uses_of t) rows) all_options
    → job_in rows ≡ (if is then Some (job_on rows t) else None)
job_in-by_test rows t is found tells =
    ap (option_and_then (job_for rows)) found
    ∙ ap (λ b. if b then Some (job_on rows t) else None) (sym tells)
