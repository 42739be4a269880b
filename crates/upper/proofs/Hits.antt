-- The list of the banks that were hit, kept as falls are added and wiped.
use Rattle.std.proofs.Common.{◌≡◌, ◌≢◌, ℕ, suc, ◌<◌, true, List, [], ◌∷◌, length, ⊎_elim, arith, ne_eqb}
use Rattle.std.proofs.lemmas.Bool.{cases_eq}
use Rattle.clr_net.specs.declared.debt.BankId.{BankId}
use Rattle.upper.specs.Falls.{bank_at, is_listed}

-- a place of a list that has a bank
pub record StandsAt (banks : List BankId) (i k : ℕ) : Type 0 where
  pub within : k < length banks
  pub at : bank_at banks k ≡ i

-- a bank that is listed stands in some place
pub listed_place : (banks : List BankId) (i : ℕ) → is_listed banks i ≡ true
    → (k : ℕ) × StandsAt banks i k
listed_place [] i e = absurd (cc)
listed_place (b ∷ banks) i e = ⊎_elim
    (λ (s : b.0 ≡ i). (0, record { within = omega arith; at = s }))
    (λ (ne : b.0 ≢ i).
    let rest = listed_place banks i (rw (ne_eqb b.0 i ne) at e) in
    (suc rest.0, record { within = omega (arith, rest.1.within); at = rest.1.at }))
    (cases_eq b.0 i)
