-- The cash that scenarios leave, as a table.
use Rattle.std.proofs.Common.{◌≡◌, ℕ, zero, suc, ◌+◌, ◌<◌, ◌≤◌, List, [], ◌∷◌, length, get_or, sym, add-one, ap, ◌∙◌, ⊎_elim, arith}
use Rattle.std.proofs.lemmas.Bool.{cases_lt}
use Rattle.std.proofs.lemmas.List.{get_or-map, length-map}
use Rattle.std.specs.Option.{option_map_or}
use Rattle.std.proofs.lemmas.Option.{slice_get_past}
use Rattle.clr_net.specs.Limits.{IsNetwork}
use Rattle.clr_net.specs.declared.bank.Bank.{Bank}
use Rattle.clr_net.specs.Net.{Net, cash_of}
use Rattle.clr_net.specs.declared.TheConstants.{MAX_CASH}
use Rattle.cascade.proofs.PayingOut.{banks_at}
use Rattle.descent.specs.Cashes.{IsTableOf, cash_in_row, lowest, with_cashes}
use Rattle.descent.proofs.Cashes.{is_with_cashes}
use Rattle.descent.proofs.Lowest.{lowest_one}
use Rattle.stress.specs.Shocks.{shocked}
use Rattle.stress.specs.declared.TheConstants.{MAX_SCENARIOS}
use Rattle.stress.specs.declared.scenario.Scenario.{Scenario}
use Rattle.stress.proofs.Kept.{alike_after, leaves_cash, length-shocked_from}
use Rattle.clear_many.specs.Shocked.{cash_row, cash_rows}

-- a bank that is none has nothing
past : (net : Net) (i : ℕ) → length net.banks ≤ i → cash_of net i ≡ 0
past net i l = ap (λ o. option_map_or (λ (b : Bank). b.cash) o 0) (slice_get_past net.banks i l)

-- no bank has more than the limit
cash_within : (net : Net) → IsNetwork net → (i : ℕ) → cash_of net i ≤ MAX_CASH
cash_within net is i = ⊎_elim
    (λ (l : i < length net.banks). (is.each_bank i l).cash_in_limit)
    (λ (l : length net.banks ≤ i). omega (arith, past net i l))
    (cases_lt i (length net.banks))

-- what is read in a row of the cash of a bank
pub row_at : (net : Net) (i : ℕ) → get_or (cash_row net) i 0 ≡ cash_of net i
row_at net i = banks_at (λ b. b.cash) net.banks i 0

-- and in a row of the table
pub cash_at_row : (net : Net) (scenarios : List Scenario) (d : Scenario) (i k : ℕ) → k < length scenarios
    → cash_in_row (cash_rows net scenarios) i k ≡ cash_of (shocked net (get_or scenarios k d)) i
cash_at_row net scenarios d i k l =
    ap (λ (row : List ℕ). get_or row i 0)
    (get_or-map (λ s. cash_row (shocked net s)) scenarios k d [] l)
    ∙ row_at (shocked net (get_or scenarios k d)) i

-- within the limit
rows_within : (net : Net) → IsNetwork net → (scenarios : List Scenario) (i k : ℕ)
    → cash_in_row (cash_rows net scenarios) i k ≤ MAX_CASH
rows_within net is [] i k = omega arith
rows_within net is (s ∷ scenarios) i zero =
    omega (arith, row_at (shocked net s) i, leaves_cash net s i, cash_within net is i)
rows_within net is (s ∷ scenarios) i (suc k) = rows_within net is scenarios i k

-- each has a place for each bank
rows_for_banks : (net : Net) (scenarios : List Scenario) (k : ℕ) → k < length (cash_rows net scenarios)
    → length (get_or (cash_rows net scenarios) k []) ≡ length net.banks
rows_for_banks net [] k l = absurd (omega arith)
rows_for_banks net (s ∷ scenarios) zero l =
    length-map (shocked net s).banks (λ b. b.cash) ∙ length-shocked_from s.cut 0 s.losses net.banks
rows_for_banks net (s ∷ scenarios) (suc k) l = rows_for_banks net scenarios k (omega arith)

-- so it is a table of the network
pub is_table : (net : Net) → IsNetwork net → (scenarios : List Scenario)
    → length scenarios ≤ MAX_SCENARIOS → IsTableOf net (cash_rows net scenarios)
is_table net is scenarios few = record {
  few = omega (arith, few, length-map scenarios (λ s. cash_row (shocked net s)));
  for_each_bank = rows_for_banks net scenarios;
  in_limit = rows_within net is scenarios;
}

-- and a row alone is the network that its scenario leaves
pub scenario_of_row : (net : Net) (scenarios : List Scenario) (d : Scenario) (k : ℕ) → k < length scenarios
    → with_cashes net (λ i. lowest (cash_in_row (cash_rows net scenarios) i) k (k + 1))
    ≡ shocked net (get_or scenarios k d)
scenario_of_row net scenarios d k l =
    let s = get_or scenarios k d in
    let rows = cash_rows net scenarios in
    sym (is_with_cashes net (shocked net s) (λ i. lowest (cash_in_row rows i) k (k + 1))
    (alike_after net s.cut s.losses)
    (λ i m. sym (ap (lowest (cash_in_row rows i) k) (add-one k)
    ∙ lowest_one (cash_in_row rows i) k k (omega arith)
    ∙ cash_at_row net scenarios d i k l)))
