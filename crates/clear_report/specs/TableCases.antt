-- Worked cases of the texts of two tables.
use Rattle.std.specs.Prelude.{◌≡◌, [], ◌∷◌, ◌++◌, codes, refl}
use Rattle.std.specs.Fmt.{digits}
use Rattle.clr_net.specs.Net.{Net}
use Rattle.clr_net.specs.Samples.{bank}
use Rattle.clear_core.specs.Clearing.{pay, rounds}
use Rattle.clear_report.specs.Impact.{impact_text}
use Rattle.clear_report.specs.Savings.{savings_text}

-- a bank that has 5 and owes nothing
abbrev alone : Net
alone = record { banks = bank (codes "A") 5 ∷ []; debts = [] }

-- it loses its own cash, and does not fall
pub bank_alone_impact : impact_text alone
    ≡ codes "bank,cash,own,others,falls\nA,5,5,0,0\n\n"
    ++ codes "bank,of,lost,falls\nA,A,5,no\n"
unfolding digits pay rounds
bank_alone_impact = refl

-- where no bank is in default, the headers stand with an empty line between them
pub nobody_to_save : savings_text alone
    ≡ codes "bank,added,short,also_saved,still_short\n\nbank,saves\n"
unfolding digits pay rounds
nobody_to_save = refl
