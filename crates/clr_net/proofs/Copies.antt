-- A network is made again bank by bank, and then debt by debt; and the names of its banks are indexed again.
use Rattle.std.proofs.Common.{◌≡◌, ℕ, zero, suc, ◌+◌, ◌<◌, ◌≤◌, List, [], ◌∷◌, ◌++◌, take, map, length, slice_get, Result, Ok, Err, false, true≢false, Some, Vec, Global, refl, ap, ◌∙◌, arith}
use Rattle.std.specs.Result.{OnOk, is_err}
use Rattle.std.specs.Str.{bytes_eq}
use Rattle.std.proofs.lemmas.List.{take_more, take_all, length-take-le, map_push}
use Rattle.std.proofs.lemmas.List.Sums.{sum_by_more_le}
use Rattle.std.proofs.lemmas.Option.{slice_get_within, get_or_from_slice_get}
use Rattle.indexmap.specs.IndexSet.{insert_key}
use Rattle.clr_net.specs.declared.bank.Bank.{Bank}
use Rattle.clr_net.specs.declared.debt.Debt.{Debt}
use Rattle.clr_net.specs.Kept.{HaveOwnNames}
use Rattle.clr_net.specs.Limits.{IsNetwork, IsNewBank, IsNewDebt, IsNewName}
use Rattle.clr_net.specs.Net.{Net, with_bank, with_debt}
use Rattle.clr_net.proofs.BankNames.{names_grow}

-- a call without an error has kept what it promises for that case
pub ok_told : {T E P : Type 0} (r : Result T E) → is_err r ≡ false → OnOk r P → P
ok_told (Ok x) e p = p
ok_told (Err x) e p = absurd (true≢false e)

-- the first n banks, and no debt
abbrev pub first_banks : Net → ℕ → Net
first_banks net n = record { banks = take n net.banks; debts = [] }

-- all banks, and the first n debts
abbrev pub first_debts : Net → ℕ → Net
first_debts net n = record { banks = net.banks; debts = take n net.debts }

-- a place below n reads the same of the first n
pub slice_get-take : {X : Type 0} (xs : List X) (n j : ℕ) → j < n → n ≤ length xs → slice_get (take n xs) j ≡ slice_get xs j
slice_get-take [] n j l m = absurd (omega arith)
slice_get-take (x ∷ xs) zero j l m = absurd (omega arith)
slice_get-take (x ∷ xs) (suc n) zero l m = refl
slice_get-take (x ∷ xs) (suc n) (suc j) l m = slice_get-take xs n j (omega arith) (omega arith)

-- the first n + 1 are the first n and the next one
take_next : {X : Type 0} (xs : List X) (n : ℕ) (x : X) → slice_get xs n ≡ Some x → take (n + 1) xs ≡ take n xs ++ x ∷ []
take_next xs n x at =
    take_more xs n x (slice_get_within xs n x at) ∙ ap (λ y. take n xs ++ y ∷ []) (get_or_from_slice_get xs n x x at)

-- the name of a bank is none of those before it
next_name_is_new : (net : Net) → HaveOwnNames net → (n : ℕ) (b : Bank)
    → slice_get net.banks n ≡ Some b → IsNewName (first_banks net n) b.name
next_name_is_new net own n b at j m =
    let l = slice_get_within net.banks n b at in
    let len : length (take n net.banks) ≡ n = length-take-le n net.banks (omega arith) in
    rw (slice_get-take net.banks n j (omega arith) (omega arith))
    (rw at at (own n j l (omega arith)))

module _ (net : Net) (network : IsNetwork net) where
  -- the next bank may be added to those before it
  pub next_bank_is_new : (n : ℕ) (b : Bank) → slice_get net.banks n ≡ Some b → IsNewBank (first_banks net n) b
  next_bank_is_new n b at =
      let l = slice_get_within net.banks n b at in
      let len : length (take n net.banks) ≡ n = length-take-le n net.banks (omega arith) in
      let old = network.each_bank n l in
      search (
        arith,
        at,
        next_name_is_new net (λ i j m. (network.each_bank i m).only_of_its_name j)
            n b at,
      )

  -- the next debt may be added to those before it
  pub next_debt_is_new : (n : ℕ) (d : Debt) → slice_get net.debts n ≡ Some d → IsNewDebt (first_debts net n) d
  next_debt_is_new n d at =
      let l = slice_get_within net.debts n d at in
      let len : length (take n net.debts) ≡ n = length-take-le n net.debts (omega arith) in
      let old = network.each_debt n l in
      let sums = rw (get_or_from_slice_get net.debts n d d at) at (sum_by_more_le
      (λ (d : Debt). d.claim) net.debts n d l) in
      search (arith, at, slice_get-take net.debts n, old.only_of_its_kind)

-- with it they are the first n + 1 banks
pub bank_copied : (net : Net) (n : ℕ) (b : Bank) → slice_get net.banks n ≡ Some b → with_bank (first_banks net n) b ≡ first_banks net (n + 1)
bank_copied net n b at = rw (take_next net.banks n b at)

-- with it they are the first n + 1 debts
pub debt_copied : (net : Net) (n : ℕ) (d : Debt) → slice_get net.debts n ≡ Some d → with_debt (first_debts net n) d ≡ first_debts net (n + 1)
debt_copied net n d at = rw (take_next net.debts n d at)

-- with the last of them the copy is the network
pub debts_copied : (net : Net) (n : ℕ) → length net.debts ≤ n → first_debts net n ≡ net
debts_copied net n l = rw (take_all n net.debts l)

-- the index of the first n names, with the next one
pub names_indexed : (net : Net) → HaveOwnNames net → (ks : List (Vec ℕ Global)) (v : Vec ℕ Global) (n : ℕ) (b : Bank) → slice_get net.banks n ≡ Some b → v.items ≡ b.name
    → map (λ k. k.items) ks ≡ map (λ b. b.name) (first_banks net n).banks
    → map (λ k. k.items) (insert_key (λ x y. bytes_eq x.items y.items) ks v) ≡ map (λ b. b.name) (first_banks net (n + 1)).banks
names_indexed net own ks v n b at named so_far =
    rw (take_next net.banks n b at, map_push (λ b. b.name) (take n net.banks) b, ← named, ← so_far)
    (names_grow (first_banks net n) ks v so_far (rw named (next_name_is_new net own n b at)))
