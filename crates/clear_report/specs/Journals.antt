-- The texts with a journal, and of the verdict on one, as bytes.
use Rattle.std.specs.Prelude.{ℕ, ◌<◌, List, ◌++◌, length}
use Rattle.clr_net.specs.Net.{Net}
use Rattle.clear_core.specs.declared.event.Raise.{Raise}
use Rattle.raise_journal.specs.Texts.{journal_text, rounds_line, verdict_line}
use Rattle.raise_journal.specs.declared.verdict.Verdict.{Verdict}
use Rattle.raise_journal.specs.declared.verdict.Verdict.TheVariants as verdict
use Rattle.clear_report.specs.Words.{one_above_other}
use Rattle.clear_report.specs.Text.{payments_text}

-- a journal, closed by the line of how many rounds there were
abbrev pub journal_and_rounds : Net → List Raise → ℕ → List ℕ
journal_and_rounds net rs rounds = journal_text net rs ++ rounds_line rounds

-- the verdict on a lawful journal of so many raises, and below it the payments P
abbrev pub lawful_and_payments : Net → ℕ → List ℕ → List ℕ
lawful_and_payments net raises P =
    one_above_other (verdict_line net raises verdict.Lawful) (payments_text net P)

-- the bank that a verdict names, where it names one, is a bank of the network
abbrev pub NamesBankOf : Net → Verdict → Type 0
NamesBankOf net verdict.Lawful = Unit {0}
NamesBankOf net (verdict.Unlawful entry had allowed) = Unit {0}
NamesBankOf net (verdict.Falls entry last stamp) = Unit {0}
NamesBankOf net (verdict.Unfinished bank) = bank.0 < length net.banks
