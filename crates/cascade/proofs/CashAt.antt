-- What another cash at one bank changes, and what it leaves.
use Rattle.std.proofs.Common.{◌≡◌, ℕ, zero, suc, ◌+◌, ◌<◌, ◌≤◌, List, [], ◌∷◌, length, slice_get, sum_by, Some, refl, ap, arith}
use Rattle.std.specs.Option.{option_map_or}
use Rattle.std.proofs.lemmas.List.Sums.{sum_by-cons}
use Rattle.clr_net.specs.declared.bank.Bank.{Bank}
use Rattle.clr_net.specs.Net.{Net, changed_at, of_cash, with_cash, cash_of, outside_of, all_cash}
use Rattle.cascade.specs.MoreCash.{HasMoreCash, IsOfOtherCash}
use Rattle.cascade.proofs.OtherCash.{alike_set, alike_with_more, as_many_alike, cash_in, kept_at}
use Rattle.cascade.proofs.PayingOut.{with_banks}

-- the banks with another cash at the bank i
abbrev pub cash_at : List Bank → ℕ → ℕ → List Bank
cash_at banks i c = changed_at (of_cash c) banks i

-- the network is of other cash then
alike_with_cash : (net : Net) (i c : ℕ) → IsOfOtherCash net (with_cash net i c)
alike_with_cash net i c = alike_set net net i c (refl, refl)

-- so what is owed outside stays
pub outside_stays : (net : Net) (i c j : ℕ) → outside_of (with_cash net i c) j ≡ outside_of net j
outside_stays net i c j =
    kept_at (λ b. b.outside) 0 (λ b. refl) net (with_cash net i c) j (alike_with_cash net i c)

-- and there are as many banks as before
pub length-with_cash : (net : Net) (i c : ℕ) → length (with_cash net i c).banks ≡ length net.banks
length-with_cash net i c = as_many_alike net (with_cash net i c) (alike_with_cash net i c)

-- a bank that is read has the cash of its number
pub cash_read : (net : Net) (i : ℕ) (b : Bank) → slice_get net.banks i ≡ Some b
    → cash_of net i ≡ b.cash
cash_read net i b at = ap (λ o. option_map_or (λ (b : Bank). b.cash) o 0) at

-- the bank has the new cash
cash_in_place : (banks : List Bank) (i c : ℕ) → i < length banks → cash_in (cash_at banks i c) i ≡ c
cash_in_place [] i c l = absurd (omega arith)
cash_in_place (b ∷ banks) zero c l = refl
cash_in_place (b ∷ banks) (suc i) c l = cash_in_place banks i c (omega arith)

-- and so in the network
pub cash_is_set : (net : Net) (i c : ℕ) → i < length net.banks → cash_of (with_cash net i c) i ≡ c
cash_is_set net i c l = cash_in_place net.banks i c l

-- and every other bank what it had
cash_beside : (banks : List Bank) (i c j : ℕ) → (j ≡ i → ⊥) → cash_in (cash_at banks i c) j ≡ cash_in banks j
cash_beside [] i c j ne = refl
cash_beside (b ∷ banks) zero c zero ne = absurd (ne refl)
cash_beside (b ∷ banks) zero c (suc j) ne = refl
cash_beside (b ∷ banks) (suc i) c zero ne = refl
cash_beside (b ∷ banks) (suc i) c (suc j) ne = cash_beside banks i c j (λ e. ne (ap suc e))

-- so in the network
pub cash_stays : (net : Net) (i c j : ℕ) → (j ≡ i → ⊥)
    → cash_of (with_cash net i c) j ≡ cash_of net j
cash_stays net i c j ne = cash_beside net.banks i c j ne

-- with more, no bank has less
cash_in_mono : (banks : List Bank) (i c d j : ℕ) → c ≤ d
    → cash_in (cash_at banks i c) j ≤ cash_in (cash_at banks i d) j
cash_in_mono [] i c d j l = omega arith
cash_in_mono (b ∷ banks) zero c d zero l = l
cash_in_mono (b ∷ banks) zero c d (suc j) l = omega arith
cash_in_mono (b ∷ banks) (suc i) c d zero l = omega arith
cash_in_mono (b ∷ banks) (suc i) c d (suc j) l = cash_in_mono banks i c d j l

-- so one network has more cash than the other
pub has_more_cash : (net : Net) (i c d : ℕ) → c ≤ d
    → HasMoreCash (with_cash net i c) (with_cash net i d)
has_more_cash net i c d l =
    alike_with_more net (with_cash net i c) (with_cash net i d) (alike_with_cash net i c)
    (alike_with_cash net i d) (λ j. cash_in_mono net.banks i c d j l)

-- the cash that a bank has, given to it, changes nothing
cash_kept : (banks : List Bank) (i c : ℕ) → c ≡ cash_in banks i → cash_at banks i c ≡ banks
cash_kept [] i c e = refl
cash_kept (b ∷ banks) zero c e = ap (λ (c : ℕ). of_cash c b ∷ banks) e
cash_kept (b ∷ banks) (suc i) c e = ap (λ (bs : List Bank). b ∷ bs) (cash_kept banks i c e)

-- and so in the network
pub own_cash : (net : Net) (i c : ℕ) → c ≡ cash_of net i → with_cash net i c ≡ net
own_cash net i c e = ap (with_banks net) (cash_kept net.banks i c e)

-- of two cashes given one after the other, the later counts
cash_twice : (banks : List Bank) (i c d : ℕ) → cash_at (cash_at banks i c) i d ≡ cash_at banks i d
cash_twice [] i c d = refl
cash_twice (b ∷ banks) zero c d = refl
cash_twice (b ∷ banks) (suc i) c d = ap (λ (bs : List Bank). b ∷ bs) (cash_twice banks i c d)

-- and so in the network
pub later_cash_counts : (net : Net) (i c d : ℕ)
    → with_cash (with_cash net i c) i d ≡ with_cash net i d
later_cash_counts net i c d = ap (with_banks net) (cash_twice net.banks i c d)

-- all cash changes by as much as the bank's
sum-cash_at : (banks : List Bank) (i c : ℕ) → i < length banks
    → sum_by (λ b. b.cash) (cash_at banks i c) + cash_in banks i ≡ sum_by (λ b. b.cash) banks + c
sum-cash_at [] i c l = absurd (omega arith)
sum-cash_at (b ∷ banks) zero c l =
    let was = sum_by-cons (λ (b : Bank). b.cash) b banks in
    omega (arith, sum_by-cons (λ (b : Bank). b.cash) (of_cash c b) banks)
sum-cash_at (b ∷ banks) (suc i) c l =
    let was = sum_by-cons (λ (b : Bank). b.cash) b banks in
    let is = sum_by-cons (λ (b : Bank). b.cash) b (cash_at banks i c) in
    omega (arith, sum-cash_at banks i c (omega arith))

-- and so in the network
pub all_cash_changes : (net : Net) (i c : ℕ) → i < length net.banks
    → all_cash (with_cash net i c) + cash_of net i ≡ all_cash net + c
all_cash_changes net i c l = sum-cash_at net.banks i c l
