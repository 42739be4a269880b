-- What is made is a network, whatever the seed.
use Rattle.std.proofs.Common.{◌≡◌, ℕ, zero, suc, ◌+◌, ◌*◌, ◌<◌, ◌≤◌, ◌==◌, Bool, true, false, List}
use Rattle.std.proofs.Common.{[], refl, sym, ap, ◌∙◌, subst}
use Rattle.std.proofs.Common.{if◌then◌else◌, arith}
use Rattle.std.specs.List.{list_any}
use Rattle.std.proofs.lemmas.Bool.{eqb-false, or_parts}
use Rattle.std.proofs.lemmas.List.FromFn.{length-map-range_with_len}
use Rattle.std.proofs.lemmas.List.FromFn.{map-range_with_len_more}
use Rattle.std.proofs.lemmas.Nat.{mod_below}
use Rattle.clr_net.proofs.Networks.{IsNetwork-empty_net, IsNetwork-with_bank, IsNetwork-with_debt}
use Rattle.clr_net.proofs.OfKind.{new_kind}
use Rattle.clr_net.specs.Limits.{IsNetwork, IsNewBank, IsNewDebt}
use Rattle.clr_net.specs.Net.{Net, is_debt_of, with_debt}
use Rattle.clr_net.specs.declared.bank.Bank.{Bank}
use Rattle.clr_net.specs.declared.debt.Debt.{Debt}
use Rattle.net_gen.proofs.Names.{named, new_name_at}
use Rattle.net_gen.proofs.Tries.{claim_small, small_after}
use Rattle.net_gen.specs.declared.TheConstants.{MOST_BANKS, MOST_TRIES}
use Rattle.net_gen.specs.Generated.{after_tries, bank_at, banks_made, debt_at}
use Rattle.net_gen.specs.Generated.{is_dropped, word}

-- a network of the first n banks alone
abbrev banks_alone : ℕ → ℕ → Net
banks_alone seed n = record { banks = banks_made seed n; debts = [] }

-- the next bank is a new one
next_is_new : (seed n : ℕ) → n < MOST_BANKS → IsNewBank (banks_alone seed n) (bank_at seed n)
next_is_new seed n l =
    let many = length-map-range_with_len (bank_at seed) 0 n in
    record {
      banks_in_limit = omega (arith, many);
      named = named n l;
      cash_in_limit = omega (arith, mod_below (word seed (2 * n)) 2000 (omega arith));
      outside_in_limit = omega arith;
      only_of_its_name = λ j m.
          new_name_at seed n j (banks_alone seed n) refl l (omega (arith, many, m));
    }

-- so they are a network
banks_network : (seed n : ℕ) → n ≤ MOST_BANKS → IsNetwork (banks_alone seed n)
banks_network seed zero l = IsNetwork-empty_net
banks_network seed (suc n) l =
    let next : n + 1 ≡ suc n = omega arith in
    let more = ap (λ m. banks_made seed m) (sym next)
    ∙ map-range_with_len_more (bank_at seed) 0 n n (omega arith) in
    subst (λ (banks : List Bank). IsNetwork (record { banks = banks; debts = [] })) (sym more)
    (IsNetwork-with_bank (banks_alone seed n) (bank_at seed n) (banks_network seed n (omega arith))
    (next_is_new seed n (omega arith)))

-- the debt of a try that is not dropped is a new one
debt_is_new : (seed size t : ℕ) → 1 ≤ size → t < MOST_TRIES
    → is_dropped (after_tries seed size t) (debt_at seed size t) ≡ false
    → IsNewDebt (after_tries seed size t) (debt_at seed size t)
debt_is_new seed size t some few kept =
    let net = after_tries seed size t in
    let d = debt_at seed size t in
    let n = 2 * size + 4 * t in
    let small = small_after seed size t in
    let tests = or_parts (d.debtor.0 == d.creditor.0)
    (list_any (is_debt_of d.debtor.0 d.creditor.0 d.class) net.debts) kept in
    record {
      debts_in_limit = omega (arith, small.debts);
      owed_in_limit = omega (arith, small.owed, claim_small (word seed (n + 3)));
      debtor_known = omega (arith, small.banks, mod_below (word seed n) size some);
      creditor_known = omega (arith, small.banks, mod_below (word seed (n + 1)) size some);
      between_two_banks = eqb-false d.debtor.0 d.creditor.0 tests.0;
      class_at_least_1 = omega arith;
      class_in_limit = omega (arith, mod_below (word seed (n + 2)) 3 (omega arith));
      claim_in_limit = omega (arith, claim_small (word seed (n + 3)));
      only_of_its_kind =
          new_kind net d.debtor.0 d.creditor.0 d.class false (sym tests.1);
    }

-- a try leaves a network
tried_network : (net : Net) (d : Debt) (b : Bool) → is_dropped net d ≡ b → IsNetwork net
    → (is_dropped net d ≡ false → IsNewDebt net d) → IsNetwork (if b then net else with_debt net d)
tried_network net d true e network new = network
tried_network net d false e network new = IsNetwork-with_debt net d network (new e)

-- so do all
pub tries_network : (seed size t : ℕ) → 1 ≤ size → size ≤ MOST_BANKS → t ≤ MOST_TRIES
    → IsNetwork (after_tries seed size t)
unfolding after_tries
tries_network seed size zero some few l = banks_network seed size few
tries_network seed size (suc t) some few l =
    let net = after_tries seed size t in
    let d = debt_at seed size t in
    tried_network net d (is_dropped net d) refl
    (tries_network seed size t some few (omega arith))
    (debt_is_new seed size t some (omega arith))
