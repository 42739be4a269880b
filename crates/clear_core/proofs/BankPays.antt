-- What one bank pays, row by row: its debts get what its rule gives, all together what it has or owes.
use Rattle.std.proofs.Common.{◌≡◌, ℕ, ◌<◌, ◌≤◌, min, List, length, get_or, map, sum, sum_by, refl, sym, ap, ◌∙◌, subst, ⊎_elim, arith}
use Rattle.std.proofs.lemmas.Bool.{cases_lt}
use Rattle.std.proofs.lemmas.List.{ext_get_or, get_or-map, get_or_past, length-map}
use Rattle.std.proofs.lemmas.List.Sums.{sum-map}
use Rattle.clr_net.specs.Limits.{IsNetwork}
use Rattle.clr_net.specs.declared.TheConstants.{MAX_CLAIM}
use Rattle.clr_net.specs.Net.{Net, debtor_of, place_in_row, row, claim_of, claims_of, classes_of, rule_of}
use Rattle.clr_net.proofs.RowsAndColumns.{StandsInRow, row_place, length-claims_of, length-classes_of, classes_of_are}
use Rattle.clr_net.proofs.Share.{length-share, share_within, sum_share}
use Rattle.clear_core.specs.Buffers.{AreInLimit}
use Rattle.clear_core.specs.Clearing.{receipts, spend, division_of, division, pay_by, pay, Clears}
use Rattle.clear_core.proofs.Pay.{pay_by_at}
use Rattle.clear_core.proofs.Rows.{claim_in_limit}

-- a division has an amount for each debt of the row
pub length-division_of : (net : Net) (i units : ℕ) → length (division_of net i units) ≡ length (row net i)
length-division_of net i units =
    length-share (rule_of net i) (claims_of net i) (classes_of net i) units ∙ length-claims_of net i

-- and so has the division of what a bank has
pub length-division : (net : Net) (i r : ℕ) → length (division net i r) ≡ length (row net i)
length-division net i r = length-division_of net i (spend net i r)

-- what a bank's rule gives is within the limit of a claim
pub division_in_limit : (net : Net) (i units : ℕ) → IsNetwork net → AreInLimit (division_of net i units)
division_in_limit net i units network k =
    let claim : get_or (claims_of net i) k 0 ≤ MAX_CLAIM = ⊎_elim
    (λ (l : k < length (row net i)).
    omega (arith, get_or-map (claim_of net) (row net i) k 0 0 l, claim_in_limit net (get_or (row net i) k 0) network))
    (λ (g : length (row net i) ≤ k). omega (arith, get_or_past (claims_of net i) k 0 (omega (arith, length-claims_of net i))))
    (cases_lt k (length (row net i))) in
    omega (arith, share_within (rule_of net i) (claims_of net i) (classes_of net i) units k, claim)

-- and comes to what it divides, up to what the bank owes
pub sum-division_of : (net : Net) (i units : ℕ) → IsNetwork net
    → sum (division_of net i units) ≡ min units (sum (claims_of net i))
sum-division_of net i units network =
    sum_share (rule_of net i) (claims_of net i) (classes_of net i) units
    (length-claims_of net i ∙ sym (length-classes_of net i)) (classes_of_are net i network)

module _ (net : Net) (f : ℕ → ℕ → ℕ) (P : List ℕ) (i : ℕ) where
  -- what the bank divides gives each debt of its row what is paid on it
  pub division_pays : (x units : ℕ) → x < length net.debts → debtor_of net x ≡ i → units ≡ f i (receipts net P i)
      → get_or (division_of net i units) (place_in_row net x) 0 ≡ get_or (pay_by net f P) x 0
  division_pays x units l owed e = rw (e, ← owed) (sym (pay_by_at net f P x l))

  -- so it is with the debt in the place k
  pay_by_at_place : (k x : ℕ) → StandsInRow net i k x
      → get_or (pay_by net f P) x 0 ≡ get_or (division_of net i (f i (receipts net P i))) k 0
  pay_by_at_place k x stands = rw (← stands.in_place) (sym (division_pays x _ stands.in_range stands.owed refl))

  -- the division of a bank, read in a place of its row, is what the debt there is paid
  pub award_by_at : (k x : ℕ) → k < length (row net i) → get_or (row net i) k 0 ≡ x
      → get_or (division_of net i (f i (receipts net P i))) k 0 ≡ get_or (pay_by net f P) x 0
  award_by_at k x l at =
      sym (pay_by_at_place k (get_or (row net i) k 0) (row_place net i k l))
      ∙ ap (λ y. get_or (pay_by net f P) y 0) at

  -- the payments on the debts of a row, in its order, are the bank's division
  pub pay_by_row : map (λ x. get_or (pay_by net f P) x 0) (row net i)
      ≡ division_of net i (f i (receipts net P i))
  pay_by_row =
      let paid = λ (x : ℕ). get_or (pay_by net f P) x 0 in
      let awards = division_of net i (f i (receipts net P i)) in
      ext_get_or 0 (map paid (row net i)) awards
      (length-map (row net i) paid ∙ sym (length-division_of net i (f i (receipts net P i)))) (λ k l.
      let in_row : k < length (row net i) = omega (arith, length-map (row net i) paid) in
      get_or-map paid (row net i) k 0 0 in_row
      ∙ pay_by_at_place k (get_or (row net i) k 0) (row_place net i k in_row))

-- so where a bank divides all that it has, less what it owes outside
pub award_at : (net : Net) (P : List ℕ) (i k x : ℕ) → k < length (row net i) → get_or (row net i) k 0 ≡ x
    → get_or (division net i (receipts net P i)) k 0 ≡ get_or (pay net P) x 0
unfolding pay
award_at net = award_by_at net (spend net)

-- what all banks pay is, on the row of each, its own division
pub pay_row : (net : Net) (P : List ℕ) (i : ℕ)
    → map (λ x. get_or (pay net P) x 0) (row net i) ≡ division net i (receipts net P i)
unfolding pay
pay_row net = pay_by_row net (spend net)

-- a bank pays out what it divides, up to what it owes
pub sum-pay_row : (net : Net) (P : List ℕ) (i : ℕ) → IsNetwork net
    → sum_by (λ x. get_or (pay net P) x 0) (row net i) ≡ min (spend net i (receipts net P i)) (sum (claims_of net i))
sum-pay_row net P i network =
    sym (sum-map (λ x. get_or (pay net P) x 0) (row net i))
    ∙ ap sum (pay_row net P i)
    ∙ sum-division_of net i (spend net i (receipts net P i)) network

-- so in payments that clear
pub clearing_row : (net : Net) (P : List ℕ) → IsNetwork net → Clears net P → (i : ℕ)
    → sum_by (λ x. get_or P x 0) (row net i) ≡ min (spend net i (receipts net P i)) (sum (claims_of net i))
clearing_row net P network c i =
    subst (λ Q. sum_by (λ x. get_or Q x 0) (row net i) ≡ min (spend net i (receipts net P i)) (sum (claims_of net i))) c
    (sum-pay_row net P i network)
