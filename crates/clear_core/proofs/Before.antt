-- What the raises of smaller stamp pay on each debt: as much as the greatest of them.
use Rattle.std.proofs.Common.{◌≡◌, ℕ, zero, suc, ◌<◌, ◌≤◌, ◌==◌, ◌&&◌, nat_lt, cond, List, [], ◌∷◌, length, get_or, refl, ⊎_elim, arith, zero-le, lt-ltb, eq-eqb}
use Rattle.std.specs.List.{All}
use Rattle.std.specs.List.Sorted.{IsPermutation}
use Rattle.std.proofs.lemmas.Bool.{cases_lt}
use Rattle.std.proofs.lemmas.Bool.Decides.{nat_tests}
use Rattle.std.proofs.lemmas.List.{get_or_past}
use Rattle.std.proofs.lemmas.List.FromFn.{get_or-map-range_with_len, length-map-range_with_len}
use Rattle.std.proofs.lemmas.List.Sorted.{All-permutation, IsPermutation-sym}
use Rattle.clr_net.specs.Amounts.{IsAtMost}
use Rattle.clr_net.specs.Net.{Net}
use Rattle.clear_core.specs.declared.event.Raise.{Raise}
use Rattle.clear_core.specs.History.{raised_before, paid_before}

-- no more than each of them is at most
raised_before_le : (n x m : ℕ) (rs : List Raise)
    → All (λ r. r.stamp < n → r.debt.0 ≡ x → r.to ≤ m) rs → raised_before n rs x ≤ m
raised_before_le n x m [] h = zero-le
raised_before_le n x m (r ∷ rs) h =
    let first = h 0 r (omega arith) in
    let here : cond (nat_lt r.stamp n && r.debt.0 == x) r.to 0 ≤ m = grind (arith, nat_tests, first) in
    omega (arith, here, raised_before_le n x m rs (λ k d l. h (suc k) d (omega arith)))

-- and no less than any of them
pub raised_before_has : (n : ℕ) (rs : List Raise)
    → All (λ r. r.stamp < n → r.to ≤ raised_before n rs r.debt.0) rs
raised_before_has n [] k d l less = absurd (omega arith)
raised_before_has n (r ∷ rs) zero d l less =
    rw (lt-ltb r.stamp n less, eq-eqb r.debt.0 r.debt.0 refl) (omega arith)
raised_before_has n (r ∷ rs) (suc k) d l less =
    omega (arith, raised_before_has n rs k d (omega arith) less)

module _ (net : Net) (n : ℕ) (rs : List Raise) where
  -- the payments, debt by debt
  pub paid_before_at : (x : ℕ) → x < length net.debts
      → get_or (paid_before net n rs) x 0 ≡ raised_before n rs x
  paid_before_at x l =
      get_or-map-range_with_len (raised_before n rs) 0 (length net.debts) x x 0 l (omega arith)

  -- a bound on each debt's raises of smaller stamp is one on what they paid
  paid_before_le : (Q : List ℕ)
      → ((x : ℕ) → x < length net.debts → raised_before n rs x ≤ get_or Q x 0)
      → IsAtMost (paid_before net n rs) Q
  paid_before_le Q h x = ⊎_elim
      (λ (l : x < length net.debts). omega (arith, paid_before_at x l, h x l))
      (λ (g : length net.debts ≤ x). omega (
        arith,
        get_or_past (paid_before net n rs) x 0
            (omega (arith, length-map-range_with_len (raised_before n rs) 0 (length net.debts))),
      ))
      (cases_lt x (length net.debts))

  -- they are within payments that each raise of smaller stamp is within
  pub paid_before_within : (Q : List ℕ) → All (λ r. r.stamp < n → r.to ≤ get_or Q r.debt.0 0) rs
      → IsAtMost (paid_before net n rs) Q
  paid_before_within Q h = paid_before_le Q (λ x l. raised_before_le n x (get_or Q x 0) rs
      (λ k d m less e. rw (← e) (h k d m less)))

  -- they do not fall with the stamp, and do not depend on the order of the raises
  pub paid_before_grows : (m : ℕ) (qs : List Raise) → n ≤ m → IsPermutation rs qs
      → IsAtMost (paid_before net n rs) (paid_before net m qs)
  paid_before_grows m qs more moved = paid_before_le (paid_before net m qs) (λ x l.
      let most = raised_before m qs x in
      let each = All-permutation (λ (r : Raise). r.stamp < n → r.debt.0 ≡ x → r.to ≤ most) qs rs
      (IsPermutation-sym rs qs moved)
      (λ k d i less e. rw (← e) (raised_before_has m qs k d i (omega arith))) in
      omega (
        arith,
        raised_before_le n x most rs each,
        get_or-map-range_with_len (raised_before m qs) 0 (length net.debts) x x 0 l (omega arith),
      ))
