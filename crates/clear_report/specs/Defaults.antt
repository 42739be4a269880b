-- The text of who defaults, as bytes.
use Rattle.std.specs.Prelude.{ℕ, ◌==◌, not, Bool, List, [], ◌∷◌, ◌++◌, codes, sum_by, count_by}
use Rattle.std.specs.Prelude.{if◌then◌else◌}
use Rattle.std.specs.List.{flat_map, list_all}
use Rattle.std.specs.Fmt.{decimal}
use Rattle.clr_net.specs.Lines.{line}
use Rattle.clr_net.specs.Net.{Net, name_of, all_cash}
use Rattle.cascade.specs.Standings.{bank_numbers, is_default}
use Rattle.cascade.specs.declared.standing.Standing.{Standing}
use Rattle.clear_report.specs.Words.{at_place, number_line, state_word}

-- whether some bank owes something outside the network. Where none does, the text has no column of
-- what is paid outside
abbrev pub owes_outside : Net → Bool
owes_outside net = not (list_all (λ b. b.outside == 0) net.banks)

-- a field of that column, where there is one
abbrev pub if_shown : Bool → List ℕ → List (List ℕ)
if_shown shown field = if shown then field ∷ [] else []

-- the header
abbrev pub defaults_header : Bool → List ℕ
defaults_header outside = line (
    codes "bank" ∷ codes "estate" ∷ if_shown outside (codes "outside_paid")
    ++ codes "paid" ∷ codes "owed" ∷ codes "equity" ∷ codes "state" ∷ [])

-- the line of a bank of this name and standing
abbrev pub standing_line : Bool → List ℕ → Standing → List ℕ
standing_line outside name s = line (
    name ∷ decimal s.estate ∷ if_shown outside (decimal s.outside_paid)
    ++ decimal s.paid ∷ decimal s.owed ∷ decimal s.equity ∷ state_word s.health ∷ [])

-- the line of the bank i among these standings
abbrev pub bank_line : Net → Bool → List Standing → ℕ → List ℕ
bank_line net outside all i = at_place (standing_line outside (name_of net i)) all i

-- how many banks are in default
abbrev pub defaults_in : List Standing → ℕ
defaults_in all = count_by (λ s. is_default s.health) all

-- the line of the sums over all banks, and of how many are in default
abbrev pub total_line : Bool → List Standing → List ℕ
total_line outside all = line (
    codes "total" ∷ decimal (sum_by (λ s. s.estate) all)
    ∷ if_shown outside (decimal (sum_by (λ s. s.outside_paid) all))
    ++ decimal (sum_by (λ s. s.paid) all) ∷ decimal (sum_by (λ s. s.owed) all)
    ∷ decimal (sum_by (λ s. s.equity) all) ∷ decimal (defaults_in all) ∷ [])

-- the text: the header, a line for each bank in file order, the sums, and all opening cash. Its
-- column of what is paid outside the network is there or not
abbrev pub defaults_in_form : Bool → Net → List Standing → List ℕ
defaults_in_form outside net all =
    defaults_header outside
    ++ flat_map (bank_line net outside all) (bank_numbers net)
    ++ total_line outside all
    ++ number_line (codes "cash") (all_cash net)

-- the text of the standings of the banks, in file order, one a bank
abbrev pub defaults_text : Net → List Standing → List ℕ
defaults_text net all = defaults_in_form (owes_outside net) net all
