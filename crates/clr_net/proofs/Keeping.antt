-- The accounts stay those of the network as a bank or a debt is added, or the cash of a bank is changed.
use Rattle.std.proofs.Common.{◌≡◌, ℕ, zero, suc, ◌+◌, ◌<◌, ◌≤◌, ◌==◌, Bool, cond, List, [], ◌∷◌, ◌++◌, All, length, map, sum, slice_get, Option, Some, refl, sym, ap, ◌∙◌, arith}
use Rattle.std.specs.Option.{option_map, option_map_or}
use Rattle.std.proofs.lemmas.List.{length_push, length-map, map_push, append-nil}
use Rattle.std.proofs.lemmas.List.Elements.{All-filter, filter-append}
use Rattle.std.proofs.lemmas.List.Sums.{sum_by_push}
use Rattle.std.proofs.lemmas.Option.{slice_get-map, same_Some}
use mathlib.Core.List.{map-map}
use Rattle.clr_net.specs.declared.bank.Bank.{Bank}
use Rattle.clr_net.specs.declared.debt.Debt.{Debt}
use Rattle.clr_net.specs.declared.debt_list.DebtList.{DebtList}
use Rattle.clr_net.specs.declared.account.Account.{Account}
use Rattle.clr_net.specs.Accounts.{Shown, shown, owing, owed_one_more, entered}
use Rattle.clr_net.specs.Kept.{net_of, AreKept}
use Rattle.clr_net.specs.Keys.{row_key, column_key, row_keys, column_keys}
use Rattle.clr_net.specs.Limits.{IsNetwork, IsNewBank, IsNewDebt}
use Rattle.clr_net.specs.Net.{Net, with_bank, with_debt, debt_numbers, row, column, claims_of, units_owed, all_cash, all_outside}
use Rattle.clr_net.proofs.ChangedAt.{slice_get-changed_at, map-changed_at}
use Rattle.clr_net.proofs.Networks.{slice_get_push_before, slice_get_push_at, IsNetwork-with_bank, IsNetwork-with_debt}
use Rattle.clr_net.proofs.RangeFilters.{range_push, range_each, filter_on, map_on}
use Rattle.clr_net.proofs.RowsAndColumns.{read, debts_of, row_place, column_place}

-- the item, changed if the test holds
abbrev pub changed_if : {X : Type 0} → Bool → (X → X) → X → X
changed_if b f x = cond b (f x) x

-- the account of a bank of a network, as it shows
abbrev pub account : Net → ℕ → Bank → Shown
account net i b = record {
  bank = b;
  row = row net i;
  row_keys = row_keys net i;
  column = column net i;
  column_keys = column_keys net i;
  owed = sum (claims_of net i);
}

-- the list with x at the end, if the test holds
abbrev with_if : Bool → List ℕ → ℕ → List ℕ
with_if b xs x = cond b (xs ++ x ∷ []) xs

module _ (net : Net) (d : Debt) where
  -- what is read of each earlier debt is the same with one debt more
  same_before : {X : Type 0} (h : Option Debt → X)
      → All (λ x. h (slice_get (net.debts ++ d ∷ []) x) ≡ h (slice_get net.debts x))
      (debt_numbers net)
  same_before h =
      range_each (λ x. h (slice_get (net.debts ++ d ∷ []) x) ≡ h (slice_get net.debts x)) 0
      (length net.debts)
      (λ m l. ap h (slice_get_push_before net.debts d (0 + m) (omega arith)))

  -- the debts of the bank i, by one of their numbers, with one debt more
  of_bank : (g : Debt → ℕ) (i : ℕ)
      → debts_of g (with_debt net d) i ≡ with_if (g d == i) (debts_of g net i) (length net.debts)
  of_bank g i =
      let p : ℕ → Bool = λ x. read g net x == i in
      let q : ℕ → Bool = λ x. read g (with_debt net d) x == i in
      rw (
        length_push net.debts d,
        range_push 0 (length net.debts) (length net.debts) (omega arith),
        filter-append q (debt_numbers net) (length net.debts ∷ []),
        slice_get_push_at net.debts d,
        filter_on p q (debt_numbers net) (same_before (λ o. option_map_or g o 0 == i)),
      ) (grind (arith, append-nil (debts_of g net i)))

  -- and what is read of them
  read_of_bank : (f g : Debt → ℕ) (i : ℕ)
      → map (read f (with_debt net d)) (debts_of g (with_debt net d) i)
      ≡ with_if (g d == i) (map (read f net) (debts_of g net i)) (f d)
  read_of_bank f g i =
      let stays = map_on (read f (with_debt net d)) (read f net) (debts_of g net i)
      (All-filter _ (λ x. read f (with_debt net d) x ≡ read f net x) (debt_numbers net)
      (same_before (λ o. option_map_or f o 0))) in
      let at = slice_get_push_at net.debts d in
      rw (of_bank g i) (grind (
        arith,
        map_push (read f (with_debt net d)) (debts_of g net i)
            (length net.debts),
      ))

  -- the account of a bank, with the debt entered where it owes it and where it is owed it
  account_with_debt : (i : ℕ) (o : Option Bank)
      → option_map (changed_if (d.creditor.0 == i) (owed_one_more (length net.debts) d))
      (option_map (changed_if (d.debtor.0 == i) (owing (length net.debts) d))
      (option_map (account net i) o))
      ≡ option_map (account (with_debt net d) i) o
  account_with_debt i o =
      let owes = of_bank (λ d. d.debtor.0) i in
      let owes_keys = read_of_bank row_key (λ d. d.debtor.0) i in
      let claims = ap sum (read_of_bank (λ d. d.claim) (λ d. d.debtor.0) i) in
      let owed = of_bank (λ d. d.creditor.0) i in
      let owed_keys = read_of_bank column_key (λ d. d.creditor.0) i in
      let sums = sum_by_push (λ n. n) (claims_of net i) d.claim in
      grind arith

-- accounts as they show, with one bank more
shown_push : (f : ℕ → Bank → Shown) (shows : List Shown) (banks : List Bank) (s : Shown) (b : Bank)
    → ((i : ℕ) → slice_get shows i ≡ option_map (f i) (slice_get banks i)) → s ≡ f (length banks) b
    → (i : ℕ) → slice_get (shows ++ s ∷ []) i ≡ option_map (f i) (slice_get (banks ++ b ∷ []) i)
shown_push f [] [] s b each e zero = ap Some e
shown_push f [] [] s b each e (suc i) = refl
shown_push f (s' ∷ shows) (b' ∷ banks) s b each e zero = each 0
shown_push f (s' ∷ shows) (b' ∷ banks) s b each e (suc i) =
    shown_push (λ i. f (suc i)) shows banks s b (λ i. each (suc i)) e i
shown_push f shows banks s b each e i = absurd (cc (each 0))

-- accounts that show the same make the same network
pub net_of-alike : (all then_all : List Account) (ds : List Debt) → map shown then_all ≡ map shown all → net_of then_all ds ≡ net_of all ds
net_of-alike all then_all ds alike =
    rw (← map-map (λ s. s.bank) shown then_all, alike, map-map (λ s. s.bank) shown all) refl

-- accounts in which a debt is entered make the network with that debt
pub net_of-entered : (all then_all : List Account) (ds : List Debt) (d : Debt)
    → map shown then_all ≡ entered (map shown all) (length ds) d
    → net_of then_all (ds ++ d ∷ []) ≡ with_debt (net_of all ds) d
net_of-entered all then_all ds d shows = rw (
  ← map-map (λ s. s.bank) shown then_all,
  shows,
  map-changed_at (λ (s : Shown). s.bank) (owed_one_more (length ds) d) (λ s. refl),
  map-changed_at (λ (s : Shown). s.bank) (owing (length ds) d) (λ s. refl),
  map-map (λ s. s.bank) shown all,
) refl

-- no debt is owed by, or to, a bank that is not there yet
nothing_yet : (net : Net) (i : ℕ) → IsNetwork net → length net.banks ≤ i → (row net i ≡ []) × (column net i ≡ [])
nothing_yet net i network past = (
  none (row net i) (λ l. let r = row_place net i 0 l in absurd
      (omega (arith, (network.each_debt _ r.in_range).debtor_known, r.owed))),
  none (column net i) (λ l. let r = column_place net i 0 l in absurd
      (omega (arith, (network.each_debt _ r.0).creditor_known, r.1))),
)
  where
    none : (xs : List ℕ) → (0 < length xs → ⊥) → xs ≡ []
    none [] h = refl
    none (x ∷ xs) h = absurd (h (omega arith))

-- no debt is in the list
pub record IsEmpty (l : DebtList) : Type 0 where
  pub ids : l.ids.items ≡ []
  pub keys : l.keys.items ≡ []

-- what is kept of a network, of the accounts as they show
pub record IsShown (net : Net) (shows : List Shown) (index : List (List ℕ))
    (total money senior : ℕ) : Type 0 where
  pub network : IsNetwork net
  pub names : index ≡ map (λ b. b.name) net.banks
  pub accounts : (i : ℕ) → slice_get shows i ≡ option_map (account net i) (slice_get net.banks i)
  pub owed : total ≡ units_owed net
  pub cash : money ≡ all_cash net
  pub outside : senior ≡ all_outside net

module _ {index : List (List ℕ)} {total money senior : ℕ} where
  -- accounts that are kept show their network
  pub shown_from : (all : List Account) (ds : List Debt) → AreKept all ds index total money senior
      → IsShown (net_of all ds) (map shown all) index total money senior
  shown_from all ds kept = search accounts
    where
      accounts : (i : ℕ)
          → slice_get (map shown all) i
          ≡ option_map (account (net_of all ds) i) (slice_get (net_of all ds).banks i)
      accounts i =
          grind (
            arith,
            slice_get-map shown all i,
            slice_get-map (λ c. c.bank) all i,
            kept.accounts
                i,
          )

  -- what shows a network is kept for it
  pub kept_from : (net : Net) (all : List Account) (ds : List Debt) → net_of all ds ≡ net
      → IsShown net (map shown all) index total money senior
      → AreKept all ds index total money senior
  kept_from net all ds same shows = let k = rw (← same) at shows in record {
    network = k.network;
    names = k.names;
    accounts = λ i c at.
        let is = same_Some (shown c) (account (net_of all ds) i c.bank)
        (simp (slice_get-map, at) at (k.accounts i)) in
        record {
          row = ap (λ s. s.row) is;
          row_keys = ap (λ s. s.row_keys) is;
          column = ap (λ s. s.column) is;
          column_keys = ap (λ s. s.column_keys) is;
          owed = ap (λ s. s.owed) is;
        };
    owed = k.owed;
    cash = k.cash;
    outside = k.outside;
  }

module _ {index : List (List ℕ)} {total money senior : ℕ} where
  -- accounts that show the same are of the same network
  pub AreKept-alike : (all then_all : List Account) (ds : List Debt)
      → map shown then_all ≡ map shown all
      → AreKept all ds index total money senior → AreKept then_all ds index total money senior
  AreKept-alike all then_all ds alike kept =
      kept_from (net_of all ds) then_all ds (net_of-alike all then_all ds alike)
      (rw (← alike) at (shown_from all ds kept))

  -- accounts in which a new debt is entered are of the network with that debt
  pub AreKept-with_debt : (all then_all : List Account) (ds : List Debt) (d : Debt)
      → IsNewDebt (net_of all ds) d
      → map shown then_all ≡ entered (map shown all) (length ds) d
      → AreKept all ds index total money senior
      → AreKept then_all (ds ++ d ∷ []) index (total + d.claim) money senior
  AreKept-with_debt all then_all ds d new shows kept =
      let net = net_of all ds in
      let k = shown_from all ds kept in
      kept_from (with_debt net d) then_all (ds ++ d ∷ []) (net_of-entered all then_all ds d shows)
      (record {
        network = IsNetwork-with_debt net d k.network new;
        names = k.names;
        accounts = λ i. rw (shows, slice_get-changed_at, slice_get-changed_at, k.accounts i)
            (account_with_debt net d i (slice_get net.banks i));
        owed = ap (λ n. n + d.claim) k.owed ∙ sym (sum_by_push (λ d. d.claim) ds d);
        cash = k.cash;
        outside = k.outside;
      })

  -- an account without debts is that of a new bank
  pub AreKept-with_bank : (all : List Account) (ds : List Debt) (c : Account)
      → IsNewBank (net_of all ds) c.bank
      → IsEmpty c.row → IsEmpty c.column → c.owed ≡ 0 → AreKept all ds index total money senior
      → AreKept (all ++ c ∷ []) ds (index ++ c.bank.name ∷ []) total (money + c.bank.cash)
      (senior + c.bank.outside)
  AreKept-with_bank all ds c new no_row no_column no_owed kept =
      let net = net_of all ds in
      let k = shown_from all ds kept in
      let none =
      nothing_yet net (length all) k.network (omega (arith, length-map all (λ c. c.bank))) in
      kept_from (with_bank net c.bank) (all ++ c ∷ []) ds (rw map_push refl) (record {
        network = IsNetwork-with_bank net c.bank k.network new;
        names = ap (λ ns. ns ++ c.bank.name ∷ []) k.names
            ∙ sym (map_push (λ b. b.name) net.banks c.bank);
        accounts =
            rw map_push (shown_push (account (with_bank net c.bank)) (map shown all) net.banks
            (shown c) c.bank k.accounts
            (rw (
              length-map all,
              no_row.ids,
              no_row.keys,
              no_column.ids,
              no_column.keys,
              no_owed,
              none.0,
              none.1,
            ) refl));
        owed = k.owed;
        cash = ap (λ n. n + c.bank.cash) k.cash ∙ sym (sum_by_push (λ b. b.cash) net.banks c.bank);
        outside = ap (λ n. n + c.bank.outside) k.outside
            ∙ sym (sum_by_push (λ b. b.outside) net.banks c.bank);
      })
