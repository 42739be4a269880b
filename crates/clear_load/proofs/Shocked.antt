-- The network that a scenario leaves is a network, and is read back as it is printed.
use Rattle.std.proofs.Common.{◌≡◌, ℕ, ◌<◌, List, length, Ok, ◌∙◌, sym, subst, arith}
use Rattle.std.specs.Bool.{IsTrue}
use Rattle.clr_net.specs.Limits.{IsBankOf, IsNetwork}
use Rattle.clr_net.specs.Name.{is_name}
use Rattle.clr_net.specs.Net.{Net}
use Rattle.net_check.specs.Field.{trimmed_field}
use Rattle.net_check.specs.Within.{IsWithin}
use Rattle.net_check.specs.declared.limits.Limits.{Limits}
use Rattle.net_csv.proofs.KeptNames.{network_of_names}
use Rattle.net_csv.proofs.Networks.{network_is_within, network_of_ok}
use Rattle.net_csv.proofs.ReadBack.{printed_is_read_back}
use Rattle.net_csv.specs.Printing.{KeepsNames}
use Rattle.net_csv.specs.Reading.{network_within}
use Rattle.stress.proofs.Kept.{keeps_all_but_cash, leaves_cash}
use Rattle.stress.specs.Shocks.{KeepsAllButCash, shocked}
use Rattle.stress.specs.declared.scenario.Scenario.{Scenario}
use Rattle.clear_load.specs.Reading.{IsReadBack}

module _ (net : Net) (s : Scenario) where
  -- its banks, by name and number, are those before
  abbrev kept : KeepsAllButCash net (shocked net s)
  kept = keeps_all_but_cash net s

  -- each of its banks is one: its cash only falls
  bank_left : IsNetwork net → (i : ℕ) → i < length (shocked net s).banks
      → IsBankOf (shocked net s) i
  bank_left network i l =
      let old = network.each_bank i (omega (arith, kept.banks)) in
      record {
        named = subst (λ name. IsTrue (is_name name)) (sym (kept.names i)) old.named;
        cash_in_limit = omega (arith, leaves_cash net s i, old.cash_in_limit);
        outside_in_limit = omega (arith, kept.outside i, old.outside_in_limit);
        only_of_its_name = λ j m same.
            old.only_of_its_name j m (sym (kept.names j) ∙ same ∙ kept.names i);
      }

  -- so it is a network
  pub shocked_is_network : IsNetwork net → IsNetwork (shocked net s)
  shocked_is_network network = record {
    banks_in_limit = omega (arith, kept.banks, network.banks_in_limit);
    debts_in_limit = network.debts_in_limit;
    owed_in_limit = network.owed_in_limit;
    each_bank = bank_left network;
    each_debt = λ x l. let old = network.each_debt x l in record {
      debtor_known = omega (arith, kept.banks, old.debtor_known);
      creditor_known = omega (arith, kept.banks, old.creditor_known);
      between_two_banks = old.between_two_banks;
      class_at_least_1 = old.class_at_least_1;
      class_in_limit = old.class_in_limit;
      claim_in_limit = old.claim_in_limit;
      only_of_its_kind = old.only_of_its_kind;
    };
  }

  -- and within the same limits
  shocked_is_within : (by : Limits) → IsWithin by net → IsWithin by (shocked net s)
  shocked_is_within by within = record {
    banks = omega (arith, kept.banks, within.banks);
    debts = within.debts;
    owed = within.owed;
  }

  -- with the same names
  pub shocked_keeps_names : KeepsNames net → KeepsNames (shocked net s)
  shocked_keeps_names names i l =
      subst (λ name. trimmed_field name ≡ name) (sym (kept.names i))
      (names i (omega (arith, kept.banks)))

  -- and what is printed of it is read back
  shocked_is_read_back : (by : Limits) → IsNetwork net → IsWithin by net → KeepsNames net
      → IsReadBack by (shocked net s)
  shocked_is_read_back by network within names =
      printed_is_read_back by (shocked net s) (shocked_is_network network)
      (shocked_is_within by within) (shocked_keeps_names names)

-- what is printed of the network that a scenario leaves is read back
pub shocked_back : (by : Limits) (net : Net) (s : Scenario) → IsNetwork net → IsWithin by net
    → KeepsNames net → IsReadBack by (shocked net s)
shocked_back by net s = shocked_is_read_back net s by

-- also of what was read
pub shocked_after_reading : (by : Limits) (banks debts : List ℕ) (net : Net) (s : Scenario)
    → network_within by banks debts ≡ Ok net → IsReadBack by (shocked net s)
shocked_after_reading by banks debts net s read =
    shocked_is_read_back net s by (network_of_ok by banks debts net read)
    (network_is_within by banks debts net read) (network_of_names by banks debts net read)
