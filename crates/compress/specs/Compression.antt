-- What a compression of a network is: debts of one class that run round a cycle of banks are
-- lowered together, until no cycle is left.
use Rattle.std.specs.Prelude.{◌≡◌, ℕ, ◌+◌, ◌-◌, ◌*◌, ◌<◌, ◌≤◌, ◌==◌, ◌&&◌, nat_lt, max}
use Rattle.std.specs.Prelude.{Bool, true, List, [], ◌∷◌, length, map, filter, sum, sum_by, slice_index, All}
use Rattle.clr_net.specs.declared.TheConstants.{MAX_CLASS}
use Rattle.clr_net.specs.Amounts.{IsAtMost}
use Rattle.clr_net.specs.Claims.{all_claims}
use Rattle.clr_net.specs.Net.{Net, debtor_of, creditor_of, class_of, debt_numbers, column, units_owed}

-- what the bank i owes on debts of the class c, where the claims are C
abbrev pub class_owed : Net → List ℕ → ℕ → ℕ → ℕ
class_owed net C c i = sum_by (slice_index C)
    (filter (λ x. (class_of net x == c) && (debtor_of net x == i)) (debt_numbers net))

-- what the bank i is owed on debts of the class c, where the claims are C
abbrev pub class_due : Net → List ℕ → ℕ → ℕ → ℕ
class_due net C c i = sum_by (slice_index C)
    (filter (λ x. (class_of net x == c) && (creditor_of net x == i)) (debt_numbers net))

-- in the class c, what the bank i is owed less what it owes is the same with the claims C as in
-- the network: what it is owed before and owes after is what it is owed after and owes before
abbrev pub IsBalanceKept : Net → List ℕ → ℕ → ℕ → Type 0
IsBalanceKept net C c i = class_due net C c i + class_owed net (all_claims net) c i
    ≡ class_due net (all_claims net) c i + class_owed net C c i

-- whether the debt x is of the class c and has a claim above 0
abbrev pub is_live : Net → List ℕ → ℕ → ℕ → Bool
is_live net C c x = (class_of net x == c) && nat_lt 0 (slice_index C x)

-- the greatest of some numbers: 0 where there is none
abbrev pub most : List ℕ → ℕ
most [] = 0
most (n ∷ ns) = max n (most ns)

-- the number of the bank i in the class c, in a list with a number for each class and bank
abbrev pub rank_of : Net → List ℕ → ℕ → ℕ → ℕ
rank_of net R c i = slice_index R ((c - 1) * length net.banks + i)

-- one more than the greatest number that a debtor has of a debt of the class c above 0 to the
-- bank i, where banks have the numbers of `rank`: 0 where there is no such debt
abbrev pub rank_above : Net → List ℕ → (ℕ → ℕ) → ℕ → ℕ → ℕ
rank_above net C rank c i =
    most (map (λ x. rank (debtor_of net x) + 1) (filter (is_live net C c) (column net i)))

-- the claims C that are left, the numbers R that show that no cycle is, and the units n that were
-- taken off in all
pub record Compression (net : Net) (C R : List ℕ) (n : ℕ) : Type 0 where
  pub as_many : length C ≡ length net.debts
  pub within : IsAtMost C (all_claims net)
  pub balances : (c i : ℕ) → IsBalanceKept net C c i
  pub places : length R ≡ MAX_CLASS * length net.banks
  pub ranks : (c i : ℕ) → 1 ≤ c → c ≤ MAX_CLASS → i < length net.banks
      → rank_of net R c i ≡ rank_above net C (rank_of net R c) c i
  pub cancelled : n + sum C ≡ units_owed net

-- x is a debt of the network, and passes that test
pub record IsLive (net : Net) (C : List ℕ) (c x : ℕ) : Type 0 where
  pub debt : x < length net.debts
  pub live : is_live net C c x ≡ true

-- debts that lead from the bank i to the bank j: each leaves by `from` the bank that the one
-- before it came to by `to`
abbrev pub Leads : (ℕ → ℕ) → (ℕ → ℕ) → ℕ → List ℕ → ℕ → Type 0
Leads from to i [] j = i ≡ j
Leads from to i (x ∷ xs) j = (from x ≡ i) × Leads from to (to x) xs j

-- no cycle of banks has all its debts of the class c above 0
abbrev pub HasNoCycle : Net → List ℕ → ℕ → Type 0
HasNoCycle net C c = (i x : ℕ) (xs : List ℕ) → All (IsLive net C c) (x ∷ xs)
    → ¬ (Leads (debtor_of net) (creditor_of net) i (x ∷ xs) i)
