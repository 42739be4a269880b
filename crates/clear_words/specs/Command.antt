-- The command as `clap` knows it, and the words that it takes.
use Rattle.std.specs.Prelude.{◌==◌, Bool, true, List, codes, fold, length, Some}
use Rattle.clap.specs.Words.{App, Rule, Text, fault_of, new_app, new_rule, with_rule}
use Rattle.clap.specs.Simple.{on_top}
use Rattle.clap.specs.declared.builder.action.ArgAction.TheVariants.{Set}
use Rattle.clear_words.specs.Options.{all_options, name_of}
use Rattle.clear_words.specs.declared.option.JobOption.{JobOption}

-- the task: a required positional
abbrev pub task_argument : Text → Rule
task_argument name = record (new_rule name) { required = true; action = Some Set }

-- an option with one value: by `Set` a second use is a fault
abbrev pub option_argument : Text → Rule
option_argument name = record (new_rule name) { long = Some name; action = Some Set }

-- the first word is no program's name, and there is no flag that asks for help
abbrev pub plain : App
plain =
    on_top (λ s. record s { no_binary_name = true; disable_help_flag = true })
    (new_app (codes "clearing"))

-- the command with the task alone
abbrev pub of_task : App
of_task = with_rule plain (task_argument (codes "task"))

-- a command with one more option
abbrev pub with_option : App → JobOption → App
with_option app o = with_rule app (option_argument (name_of o))

-- the task and the options
unfoldable pub command : App
command = fold with_option of_task all_options

-- the command takes the words: it finds no fault in them
abbrev pub is_taken : List Text → Bool
is_taken words = length (fault_of command words) == 0
