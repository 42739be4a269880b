-- What holds of a network after some tries.
use Rattle.std.proofs.Common.{◌≡◌, ℕ, zero, suc, ◌+◌, ◌*◌, ◌%◌, ◌≤◌, Bool, true, false, [], ◌∷◌, length, refl, ap, if◌then◌else◌, length-append, arith}
use Rattle.std.proofs.lemmas.List.FromFn.{length-map-range_with_len}
use Rattle.clr_net.specs.Net.{Net, units_owed, with_debt}
use Rattle.clr_net.specs.declared.debt.Debt.{Debt}
use Rattle.std.proofs.lemmas.List.Sums.{sum_by_push}
use Rattle.net_gen.specs.Generated.{after_tries, bank_at, banks_made, debt_at, is_dropped, tried}

-- the banks alone
pub at_start : (seed size : ℕ)
    → after_tries seed size 0 ≡ record { banks = banks_made seed size; debts = [] }
unfolding after_tries
at_start seed size = refl

-- one try more
pub after_one_try_more : (seed size t : ℕ)
    → after_tries seed size (t + 1) ≡ tried (after_tries seed size t) (debt_at seed size t)
unfolding after_tries
after_one_try_more seed size t = let e : t + 1 ≡ suc t = omega arith in ap (after_tries seed size) e

-- so many banks, and at most a debt of 500 units for each try
pub record IsSmall (net : Net) (size tries : ℕ) : Type 0 where
  pub banks : length net.banks ≡ size
  pub debts : length net.debts ≤ tries
  pub owed : units_owed net ≤ 500 * tries

-- one try more
small_by : (b : Bool) (net : Net) (d : Debt) (size t : ℕ) → d.claim ≤ 500 → IsSmall net size t
    → IsSmall (if b then net else with_debt net d) size (suc t)
small_by true net d size t l small = record {
  banks = small.banks;
  debts = omega (arith, small.debts);
  owed = omega (arith, small.owed);
}
small_by false net d size t l small = record {
  banks = small.banks;
  debts = omega (arith, small.debts, length-append net.debts (d ∷ []));
  owed = omega (arith, small.owed, sum_by_push (λ d. d.claim) net.debts d);
}

-- a claim is at most 500
pub claim_small : (w : ℕ) → 1 + w % 500 ≤ 500
claim_small w = omega (arith)

-- after so many tries
pub small_after : (seed size t : ℕ) → IsSmall (after_tries seed size t) size t
unfolding after_tries
small_after seed size zero = record {
  banks = length-map-range_with_len (bank_at seed) 0 size;
  debts = omega arith;
  owed = omega arith;
}
small_after seed size (suc t) =
    small_by (is_dropped (after_tries seed size t) (debt_at seed size t)) (after_tries seed size t)
    (debt_at seed size t) size t (claim_small _) (small_after seed size t)
