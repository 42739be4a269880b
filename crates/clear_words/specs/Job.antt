-- What a command line asks for.
use Rattle.std.specs.Prelude.{ℕ, Bool, true, false, List, [], map}
use Rattle.std.specs.Prelude.{Option, Some, None, option_and_then, if◌then◌else◌, codes}
use Rattle.std.specs.Borrow.{Bor}
use Rattle.std.specs.List.{list_all}
use Rattle.std.specs.Option.{unwrap_or}
use Rattle.clap.specs.Words.{Row, Text, first_of, matches_of}
use Rattle.net_check.specs.Within.{limits_named}
use Rattle.net_check.specs.declared.limits.Limits.{Limits}
use Rattle.net_check.specs.declared.limits.Limits.TheVariants as limits
use Rattle.clear_words.specs.declared.job.Job.{Job}
use Rattle.clear_words.specs.declared.option.JobOption.{JobOption}
use Rattle.clear_words.specs.declared.option.JobOption.TheVariants as option
use Rattle.clear_words.specs.declared.option.Kind.{Kind}
use Rattle.clear_words.specs.declared.option.Kind.TheVariants as kind
use Rattle.clear_words.specs.declared.show.Show.{Show}
use Rattle.clear_words.specs.declared.show.Show.TheVariants as show
use Rattle.clear_words.specs.declared.task.Task.{Task}
use Rattle.clear_words.specs.declared.task.Use.{Use}
use Rattle.clear_words.specs.declared.task.Use.TheVariants.{Refused, Allowed, Required}
use Rattle.clear_words.specs.declared.task.Uses.{Uses}
use Rattle.clear_words.specs.Command.{command, is_taken}
use Rattle.clear_words.specs.Options.{all_options, fits, kind_of, name_of, number_between}
use Rattle.clear_words.specs.Options.{show_named}
use Rattle.clear_words.specs.Tasks.{task_named, use_in, uses_of}

-- the words of a call, each seen as its bytes
abbrev pub the_words : List (Bor Text) → List Text
the_words = map (λ word. word.now)

-- the value of an option, in what the command found
abbrev pub value_of : List Row → JobOption → Option Text
value_of rows o = first_of (name_of o) rows

-- a value is as a task wants it: there where it is required, not there where it is refused, and of
-- its kind
abbrev pub is_welcome : Use → Kind → Option Text → Bool
is_welcome Required k (Some value) = fits k value
is_welcome Required k None = false
is_welcome Allowed k (Some value) = fits k value
is_welcome Allowed k None = true
is_welcome Refused k (Some value) = false
is_welcome Refused k None = true

-- an option is as the task wants it
abbrev pub is_well : Uses → List Row → JobOption → Bool
is_well uses rows o = is_welcome (use_in uses o) (kind_of o) (value_of rows o)

-- the text that an option gives, empty without it
abbrev pub text_in : List Row → JobOption → Text
text_in rows o = unwrap_or (value_of rows o) []

-- the name of the third file: the scenarios or the journal
abbrev pub third_in : List Row → Text
third_in rows = unwrap_or (value_of rows option.Scenarios) (text_in rows option.Journal)

-- the number in a value of this kind
abbrev pub number_of : Kind → Text → Option ℕ
number_of (kind.Number least most) text = number_between least most text
number_of kind.File text = None
number_of kind.Show text = None
number_of kind.Bank text = None
number_of kind.Limits text = None

-- the number that an option gives, or the one that stands for it without it
abbrev pub number_or : ℕ → List Row → JobOption → ℕ
number_or otherwise rows o =
    unwrap_or (option_and_then (number_of (kind_of o)) (value_of rows o)) otherwise

-- what is shown, the payments without the option
abbrev pub show_in : List Row → Show
show_in rows = unwrap_or (option_and_then show_named (value_of rows option.Show)) show.Payments

-- the limits by which the files are read, the standard ones without the option
abbrev pub limits_in : List Row → Limits
limits_in rows =
    unwrap_or (option_and_then limits_named (value_of rows option.Limits)) limits.Standard

-- the job of a task on what the command found
abbrev pub job_on : List Row → Task → Job
job_on rows t = record {
  task = t;
  banks = text_in rows option.Banks;
  debts = text_in rows option.Debts;
  third = third_in rows;
  bank = text_in rows option.Bank;
  workers = number_or 4 rows option.Workers;
  sweeps = number_or 1 rows option.Sweeps;
  show = show_in rows;
  seed = number_or 0 rows option.Seed;
  size = number_or 0 rows option.Size;
  tries = number_or 0 rows option.Tries;
  keep = number_or 0 rows option.Keep;
  limits = limits_in rows;
}

-- the job of a task, where each option is as the task wants it
abbrev pub job_for : List Row → Task → Option Job
job_for rows t =
    if list_all (is_well (uses_of t) rows) all_options then Some (job_on rows t) else None

-- the task, in what the command found
abbrev pub task_in : List Row → Option Task
task_in rows = option_and_then task_named (first_of (codes "task") rows)

-- the job that what the command found asks for
abbrev pub job_in : List Row → Option Job
job_in rows = option_and_then (job_for rows) (task_in rows)

-- the job that the words after the program's name ask for: the command takes them, the task is one
-- of the table, each option that the task requires is there, none is there that it refuses, and the
-- value of each is of its kind
unfoldable pub job_of : List Text → Option Job
job_of words = if is_taken words then job_in (matches_of command words) else None

-- the job of a task on whose command line no option stands
abbrev pub bare : Task → Job
bare t = record {
  task = t;
  banks = [];
  debts = [];
  third = [];
  bank = [];
  workers = 4;
  sweeps = 1;
  show = show.Payments;
  seed = 0;
  size = 0;
  tries = 0;
  keep = 0;
  limits = limits.Standard;
}

-- the job of a task with both files, and with no other option
abbrev pub on_both_files : Task → Text → Text → Job
on_both_files t banks debts = record (bare t) { banks = banks; debts = debts }
