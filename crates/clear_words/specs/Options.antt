-- The table of options: the name of each, and what its value must be. An option is a row of each
-- table here.
use Rattle.std.specs.Prelude.{ℕ, nat_le, ◌==◌, ◌&&◌, not, Bool, List, [], ◌∷◌, length, slice_index}
use Rattle.std.specs.Prelude.{codes}
use Rattle.std.specs.Prelude.{Option, Some, None, option_and_then, is_some, if◌then◌else◌}
use Rattle.std.specs.Str.{bytes_eq}
use Rattle.clr_net.specs.Name.{is_name}
use Rattle.net_check.specs.Field.{number_in}
use Rattle.net_check.specs.Within.{limits_named}
use Rattle.clear_words.specs.declared.option.JobOption.{JobOption}
use Rattle.clear_words.specs.declared.option.JobOption.TheVariants as option
use Rattle.clear_words.specs.declared.option.Kind.{Kind}
use Rattle.clear_words.specs.declared.option.Kind.TheVariants.{File, Number, Show, Bank, Limits}
use Rattle.clear_words.specs.declared.show.Show.{Show as Shown}
use Rattle.clear_words.specs.declared.show.Show.TheVariants as show

-- every option, in the order in which the command has them
abbrev pub all_options : List JobOption
all_options =
    option.Banks ∷ option.Debts ∷ option.Scenarios ∷ option.Journal ∷ option.Bank ∷ option.Workers
    ∷ option.Sweeps ∷ option.Show ∷ option.Seed ∷ option.Size ∷ option.Tries ∷ option.Keep
    ∷ option.Limits ∷ []

-- the name of an option, without its dashes
abbrev pub name_of : JobOption → List ℕ
name_of option.Banks = codes "banks"
name_of option.Debts = codes "debts"
name_of option.Scenarios = codes "scenarios"
name_of option.Journal = codes "journal"
name_of option.Bank = codes "bank"
name_of option.Workers = codes "workers"
name_of option.Sweeps = codes "sweeps"
name_of option.Show = codes "show"
name_of option.Seed = codes "seed"
name_of option.Size = codes "size"
name_of option.Tries = codes "tries"
name_of option.Keep = codes "keep"
name_of option.Limits = codes "limits"

-- what its value must be: the name of a file, the name of a bank, a number from the first to the
-- second, a word for what is shown, or a word for limits
abbrev pub kind_of : JobOption → Kind
kind_of option.Banks = File
kind_of option.Debts = File
kind_of option.Scenarios = File
kind_of option.Journal = File
kind_of option.Bank = Bank
kind_of option.Workers = Number 1 64
kind_of option.Sweeps = Number 1 1000
kind_of option.Show = Show
kind_of option.Seed = Number 0 18446744073709551615
kind_of option.Size = Number 1 1000
kind_of option.Tries = Number 0 20000
kind_of option.Keep = Number 0 1000
kind_of option.Limits = Limits

-- a text that may name a file: it is not empty and does not begin with a dash (45)
abbrev pub may_name_a_file : List ℕ → Bool
may_name_a_file text = not (length text == 0) && not (slice_index text 0 == 45)

-- a number, where it is in the range
abbrev pub if_between : ℕ → ℕ → ℕ → Option ℕ
if_between least most n = if nat_le least n && nat_le n most then Some n else None

-- the number that 1 to 20 digits spell, where it is in the range
abbrev pub number_between : ℕ → ℕ → List ℕ → Option ℕ
number_between least most text = option_and_then (if_between least most) (number_in text)

-- what a word asks to be shown
abbrev pub show_named : List ℕ → Option Shown
show_named word =
    if bytes_eq word (codes "payments") then Some show.Payments
    else if bytes_eq word (codes "journal") then Some show.Journal
    else if bytes_eq word (codes "both") then Some show.Both
    else None

-- the text is a value of this kind; the name of a bank does not begin with a dash either
abbrev pub fits : Kind → List ℕ → Bool
fits File text = may_name_a_file text
fits (Number least most) text = is_some (number_between least most text)
fits Show text = is_some (show_named text)
fits Bank text = is_name text && may_name_a_file text
fits Limits text = is_some (limits_named text)

-- the greatest number of this kind
abbrev pub greatest : Kind → ℕ
greatest (Number least most) = most
greatest File = 0
greatest Show = 0
greatest Bank = 0
greatest Limits = 0
