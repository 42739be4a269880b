-- The accounts stay those of the network as the cash of a bank is changed.
use Rattle.std.proofs.Common.{◌≡◌, ℕ, ◌+◌, ◌-◌, ◌<◌, ◌≤◌, ◌==◌, Bool, List, [], length, map, get_or, set, sum, slice_get, Option, Some, refl, sym, ap, ◌∙◌, arith}
use Rattle.std.specs.Option.{option_map, option_map_or}
use Rattle.std.proofs.lemmas.List.{length-map}
use Rattle.std.proofs.lemmas.List.Sums.{sum-map, sum_by-set}
use Rattle.std.proofs.lemmas.Option.{slice_get-map, slice_get_read, slice_get_within, get_or_from_slice_get}
use Rattle.clr_net.specs.declared.TheConstants.{MAX_CASH}
use Rattle.clr_net.specs.declared.account.Account.{Account}
use Rattle.clr_net.specs.declared.bank.Bank.{Bank}
use Rattle.clr_net.specs.declared.debt.Debt.{Debt}
use Rattle.clr_net.specs.Accounts.{shown}
use Rattle.clr_net.specs.Kept.{net_of, AreKept}
use Rattle.clr_net.specs.Limits.{IsNetwork}
use Rattle.clr_net.specs.Net.{Net, of_cash, with_cash, all_cash}
use Rattle.clr_net.proofs.ChangedAt.{changed_at-set, map-set_changed, map-changed_at, slice_get-changed_at}
use Rattle.clr_net.proofs.Keeping.{account, changed_if, shown_from, kept_from}
use Rattle.clr_net.proofs.Lists.{get_or-map_read}

-- the account with this cash
abbrev pub of_account_cash : ℕ → Account → Account
of_account_cash cash c = record c { bank = of_cash cash c.bank }

module _ (net : Net) (i cash : ℕ) where
  -- what is read of banks, but for their cash, stays
  all_kept : {X : Type 0} (f : Bank → X) → ((b : Bank) → f (of_cash cash b) ≡ f b)
      → map f (with_cash net i cash).banks ≡ map f net.banks
  all_kept f same = map-changed_at f (of_cash cash) same net.banks i

  -- what does not read the cash of a bank reads the same of each bank
  kept : {X : Type 0} (f : Bank → X) → ((b : Bank) → f (of_cash cash b) ≡ f b) → (j : ℕ) (d : X)
      → option_map_or f (slice_get (with_cash net i cash).banks j) d
      ≡ option_map_or f (slice_get net.banks j) d
  kept f same j d =
      sym (get_or-map_read f _ j d) ∙ ap (λ xs. get_or xs j d) (all_kept f same)
      ∙ get_or-map_read f _ j d

  -- all cash, but for that of the bank, stays
  sum-with_cash : (b : Bank) → slice_get net.banks i ≡ Some b
      → all_cash (with_cash net i cash) + b.cash ≡ all_cash net + cash
  sum-with_cash b at = rw (changed_at-set (of_cash cash) net.banks i b at)
      (rw (get_or_from_slice_get net.banks i b b at) at (sum_by-set (λ b. b.cash) net.banks i
      (of_cash cash b) b (slice_get_within net.banks i b at)))

  -- with other cash within the limit it is still a network
  IsNetwork-with_cash : cash ≤ MAX_CASH → IsNetwork net → IsNetwork (with_cash net i cash)
  IsNetwork-with_cash c network =
      let len : length (with_cash net i cash).banks ≡ length net.banks =
      sym (length-map _ _) ∙ ap length (all_kept (λ b. b.name) (λ b. refl)) ∙ length-map _ _ in
      record {
        banks_in_limit = omega (arith, network.banks_in_limit);
        debts_in_limit = network.debts_in_limit;
        owed_in_limit = network.owed_in_limit;
        each_bank = λ j l.
            let old = network.each_bank j (omega arith) in
            let named = λ (k : ℕ). kept (λ b. b.name) (λ b. refl) k [] in
            let outside = kept (λ b. b.outside) (λ b. refl) j 0 in
            search (arith, slice_get-changed_at, named, outside, old.only_of_its_name);
        each_debt = λ x l. let old = network.each_debt x l in search arith;
      }

  -- the accounts of the banks
  account_kept : (j : ℕ) (o : Option Bank) (t : Bool)
      → option_map (changed_if t (λ s. record s { bank = of_cash cash s.bank }))
      (option_map (account net j) o)
      ≡ option_map (account (with_cash net i cash) j) (option_map (changed_if t (of_cash cash)) o)
  account_kept j o t = grind arith

module _ (all : List Account) (ds : List Debt) (i : ℕ) (u : Account) (cash : ℕ)
    (within : i < length all) (read : u ≡ get_or all i u) where
  -- the account in this place is that of the bank
  bank_at : slice_get (net_of all ds).banks i ≡ Some u.bank
  bank_at =
      slice_get-map (λ c. c.bank) all i ∙ ap (option_map (λ c. c.bank))
      (slice_get_read all (length all) i u refl within read)

  -- the accounts with new cash at one of them are those of the network with that cash
  pub net_of-with_cash : net_of (set all i (of_account_cash cash u)) ds
      ≡ with_cash (net_of all ds) i cash
  net_of-with_cash =
      rw (map-set_changed (λ (c : Account). c.bank) (of_cash cash) all i u (of_account_cash cash u)
      within read refl) refl

  module _ {index : List (List ℕ)} {total money senior : ℕ}
      (before : AreKept all ds index total money senior) where
    -- the cash of one bank is at most all cash
    pub cash_within : u.bank.cash ≤ money
    cash_within = omega (arith, before.cash, sum-with_cash (net_of all ds) i 0 u.bank bank_at)

    -- the accounts and sums are kept with new cash at one of them
    pub AreKept-with_cash : cash ≤ MAX_CASH
        → AreKept (set all i (of_account_cash cash u)) ds index total (money - u.bank.cash + cash)
        senior
    AreKept-with_cash c =
        let net = net_of all ds in
        let k = shown_from all ds before in
        kept_from (with_cash net i cash) _ ds net_of-with_cash (record {
          network = IsNetwork-with_cash net i cash c k.network;
          names = k.names ∙ sym (all_kept net i cash (λ b. b.name) (λ b. refl));
          accounts = λ j. rw (
            map-set_changed shown (λ s. record s { bank = of_cash cash s.bank }) all i u
                (of_account_cash cash u) within read refl,
            slice_get-changed_at,
            slice_get-changed_at (of_cash cash) net.banks i j,
            k.accounts j,
          ) (account_kept net i cash j (slice_get net.banks j) (i == j));
          owed = k.owed;
          cash = omega (arith, k.cash, sum-with_cash net i cash u.bank bank_at, cash_within);
          outside =
              k.outside ∙ sym (sum-map (λ b. b.outside) net.banks)
              ∙ ap sum (sym (all_kept net i cash (λ b. b.outside) (λ b. refl)))
              ∙ sum-map (λ b. b.outside) (with_cash net i cash).banks;
        })
