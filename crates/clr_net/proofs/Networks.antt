-- A network stays one as a new bank or a new debt is added at the end.
use Rattle.std.proofs.Common.{◌≡◌, ℕ, zero, suc, ◌<◌, ◌≤◌, ◌*◌, List, [], ◌∷◌, ◌++◌, length, slice_get, Some, refl, ⊎_elim, arith, mul-le-mul_right}
use Rattle.std.proofs.lemmas.Bool.{cases_eq}
use Rattle.std.proofs.lemmas.List.{length_push}
use Rattle.std.proofs.lemmas.List.Sums.{sum_by_push, sum_by-le}
use Rattle.std.proofs.lemmas.Option.{slice_get-get_or}
use Rattle.clr_net.specs.declared.TheConstants.{MAX_BANKS, MAX_CASH, MAX_OUTSIDE}
use Rattle.clr_net.specs.declared.bank.Bank.{Bank}
use Rattle.clr_net.specs.declared.debt.Debt.{Debt}
use Rattle.clr_net.specs.Net.{Net, empty_net, with_bank, with_debt, all_cash, all_outside}
use Rattle.clr_net.specs.Limits.{IsNetwork, IsNewBank, IsNewDebt}

-- with one element more each earlier place reads as before
pub slice_get_push_before : {X : Type 0} (xs : List X) (y : X) (k : ℕ) → k < length xs
    → slice_get (xs ++ y ∷ []) k ≡ slice_get xs k
slice_get_push_before [] y k l = absurd (omega arith)
slice_get_push_before (x ∷ xs) y zero l = refl
slice_get_push_before (x ∷ xs) y (suc k) l = slice_get_push_before xs y k (omega arith)

-- and the last place reads the new one
pub slice_get_push_at : {X : Type 0} (xs : List X) (y : X) → slice_get (xs ++ y ∷ []) (length xs) ≡ Some y
slice_get_push_at [] y = refl
slice_get_push_at (x ∷ xs) y = slice_get_push_at xs y

-- without banks and debts it is a network
pub IsNetwork-empty_net : IsNetwork empty_net
IsNetwork-empty_net = record {
  banks_in_limit = omega arith;
  debts_in_limit = omega arith;
  owed_in_limit = omega arith;
  each_bank = λ i l. absurd (omega arith);
  each_debt = λ x l. absurd (omega arith);
}

-- a new bank leaves a network
pub IsNetwork-with_bank : (net : Net) (b : Bank) → IsNetwork net → IsNewBank net b → IsNetwork (with_bank net b)
IsNetwork-with_bank net b network new =
    let longer = length_push net.banks b in
    let before = slice_get_push_before net.banks b in
    record {
      banks_in_limit = omega (arith, new.banks_in_limit);
      debts_in_limit = network.debts_in_limit;
      owed_in_limit = network.owed_in_limit;
      each_bank = λ i l. ⊎_elim
          (λ (e : i ≡ length net.banks). rw e
          (let at = slice_get_push_at net.banks b in search
          (arith, at, before, new.only_of_its_name)))
          (λ (ne : i ≡ length net.banks → ⊥).
          let m : i < length net.banks = omega arith in
          let same = before i m in
          let old = network.each_bank i m in
          search (arith, same, before, old.only_of_its_name))
          (cases_eq i (length net.banks));
      each_debt = λ x l. let old = network.each_debt x l in search arith;
    }

-- a new debt leaves a network
pub IsNetwork-with_debt : (net : Net) (d : Debt) → IsNetwork net → IsNewDebt net d → IsNetwork (with_debt net d)
IsNetwork-with_debt net d network new =
    let longer = length_push net.debts d in
    let before = slice_get_push_before net.debts d in
    record {
      banks_in_limit = network.banks_in_limit;
      debts_in_limit = omega (arith, new.debts_in_limit);
      owed_in_limit = omega (arith, sum_by_push (λ d. d.claim) net.debts d, new.owed_in_limit);
      each_bank = λ i l. let old = network.each_bank i l in search;
      each_debt = λ x l. ⊎_elim
          (λ (e : x ≡ length net.debts). rw e
          (let at = slice_get_push_at net.debts d in search
          (arith, at, before, new.only_of_its_kind)))
          (λ (ne : x ≡ length net.debts → ⊥).
          let m : x < length net.debts = omega arith in
          let same = before x m in
          let old = network.each_debt x m in
          search (arith, same, before, old.only_of_its_kind))
          (cases_eq x (length net.debts));
    }

-- a network has not more cash than a thousand banks may have
pub all_cash_le : (net : Net) → IsNetwork net → all_cash net ≤ MAX_BANKS * MAX_CASH
all_cash_le net network = omega (
  arith,
  sum_by-le (λ b. b.cash) MAX_CASH net.banks
      (λ i b l. rw (slice_get-get_or net.banks i b l) at (network.each_bank i l).cash_in_limit),
  mul-le-mul_right MAX_CASH network.banks_in_limit,
)

-- nor do its banks owe more outside it than so many may
pub all_outside_le : (net : Net) → IsNetwork net → all_outside net ≤ MAX_BANKS * MAX_OUTSIDE
all_outside_le net network = omega (
  arith,
  sum_by-le (λ b. b.outside) MAX_OUTSIDE net.banks
      (λ i b l. rw (slice_get-get_or net.banks i b l) at (network.each_bank i l).outside_in_limit),
  mul-le-mul_right MAX_OUTSIDE network.banks_in_limit,
)
