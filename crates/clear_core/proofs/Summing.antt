-- What banks receive and pay, as sums: how they change with one payment.
use Rattle.std.proofs.Common.{◌≡◌, ◌≢◌, ℕ, ◌+◌, ◌*◌, ◌<◌, ◌≤◌, ◌==◌, Bool, true, false, cond, List, [], ◌∷◌, length, length-set, get_or, set, map, filter, replicate, slice_get, sum, sum_by, refl, sym, ap, ◌∙◌, ⊎_elim, arith, eq-eqb, ne_eqb}
use Rattle.std.specs.List.{range_with_len}
use Rattle.std.specs.Option.{option_map_or}
use Rattle.std.proofs.lemmas.Bool.{cases_eq, cases_lt}
use Rattle.std.proofs.lemmas.List.{ext_get_or, get_or-replicate, get_or-set_same, get_or-set_other, get_or_past, length-replicate}
use Rattle.std.proofs.lemmas.List.Elements.{All-from_get_or}
use Rattle.std.proofs.lemmas.List.FromFn.{get_or-map-range_with_len, length-map-range_with_len}
use Rattle.std.proofs.lemmas.List.Sums.{sum_by-cons, sum_by-le, sum_by-set}
use Rattle.clr_net.specs.Limits.{IsNetwork}
use Rattle.clr_net.specs.Net.{Net, debtor_of, creditor_of, row, column}
use Rattle.clr_net.specs.declared.TheConstants.{MAX_CLAIM, MAX_DEBTS}
use Rattle.clr_net.specs.declared.debt.Debt.{Debt}
use Rattle.clr_net.proofs.Lists.{sum-cons, zeros_at}
use Rattle.clear_core.specs.Buffers.{AreInLimit}
use Rattle.clear_core.specs.Clearing.{paid_by, receipts, zeros}
use Rattle.clear_core.specs.Sums.{AreSums, AreSumsBut}
use Rattle.clear_core.specs.declared.payments.Sums.{Sums}
use Rattle.clear_core.proofs.Rows.{length-column_le}

-- what is paid on the debts that pass, and 0 for each other
abbrev passing : (ℕ → Bool) → List ℕ → ℕ → ℕ
passing p P x = cond (p x) (get_or P x 0) 0

-- their sum is that over all, with 0 for the others
sum_by-passing : (p : ℕ → Bool) (P xs : List ℕ)
    → sum_by (λ x. get_or P x 0) (filter p xs) ≡ sum (map (passing p P) xs)
sum_by-passing p P [] = refl
sum_by-passing p P (x ∷ xs) = by_test (p x) (sum_by-passing p P xs)
  where
    by_test : (b : Bool) → sum_by (λ y. get_or P y 0) (filter p xs) ≡ sum (map (passing p P) xs)
        → sum_by (λ y. get_or P y 0) (cond b (x ∷ filter p xs) (filter p xs))
        ≡ sum (cond b (get_or P x 0) 0 ∷ map (passing p P) xs)
    by_test true e = omega
        (arith, sum_by-cons (λ y. get_or P y 0) x (filter p xs), sum-cons (get_or P x 0) (map (passing p P) xs), e)
    by_test false e = omega (arith, sum-cons 0 (map (passing p P) xs), e)

-- a payment on the debt x changes the sum of those that pass by what it changes, where x passes
sum_written : (p : ℕ → Bool) (P : List ℕ) (n x v : ℕ) → length P ≡ n → x < n
    → sum_by (λ y. get_or (set P x v) y 0) (filter p (range_with_len 0 n)) + cond (p x) (get_or P x 0) 0
    ≡ sum_by (λ y. get_or P y 0) (filter p (range_with_len 0 n)) + cond (p x) v 0
sum_written p P n x v as_many l =
    let numbers = range_with_len 0 n in
    let at = λ (E : List ℕ) (k : ℕ) (m : k < n).
    get_or-map-range_with_len (passing p E) 0 n k k 0 m (omega arith) in
    let len = λ (E : List ℕ). length-map-range_with_len (passing p E) 0 n in
    let same : map (passing p (set P x v)) numbers ≡ set (map (passing p P) numbers) x (cond (p x) v 0) =
    ext_get_or 0 _ _ (omega (arith, len P, len (set P x v), length-set {A = ℕ})) (λ k m.
    let inside : k < n = omega (arith, len (set P x v)) in
    ⊎_elim
    (λ (e : k ≡ x). rw e (at (set P x v) x l ∙ ap (λ w. cond (p x) w 0) (get_or-set_same P x v 0 (omega arith))
    ∙ sym (get_or-set_same (map (passing p P) numbers) x (cond (p x) v 0) 0 (omega (arith, len P)))))
    (λ (ne : k ≢ x). at (set P x v) k inside ∙ ap (λ w. cond (p k) w 0) (get_or-set_other P x k v 0 ne)
    ∙ sym (at P k inside) ∙ sym (get_or-set_other (map (passing p P) numbers) x k (cond (p x) v 0) 0 ne))
    (cases_eq k x)) in
    omega (
      arith,
      sum_by-passing p P numbers,
      sum_by-passing p (set P x v) numbers,
      ap sum same,
      sum_by-set (λ n. n) (map (passing p P) numbers) x (cond (p x) v 0) 0 (omega (arith, len P)),
      at P x l,
    )

-- what a bank receives, and what it pays, is within the limit
in_limit_of : (P xs : List ℕ) → AreInLimit P
    → sum_by (λ x. get_or P x 0) xs ≤ length xs * MAX_CLAIM
in_limit_of P xs h = sum_by-le (λ x. get_or P x 0) MAX_CLAIM xs (All-from_get_or (λ x. get_or P x 0 ≤ MAX_CLAIM) xs 0 (λ k l. h (get_or xs k 0)))

-- no bank receives more than all claims may come to
pub receipts_in_limit : (net : Net) (P : List ℕ) (i : ℕ) → IsNetwork net → AreInLimit P
    → receipts net P i ≤ MAX_DEBTS * MAX_CLAIM
receipts_in_limit net P i network h = omega
    (arith, in_limit_of P (column net i) h, length-column_le net i, network.debts_in_limit)

-- the payment v is made on the debt x
module _ (net : Net) (P : List ℕ) (over : length P ≡ length net.debts) (x v : ℕ)
    (l : x < length net.debts) where
  -- receipts change by the new payment for the old one, at the creditor alone
  received_by : (j : ℕ) → receipts net (set P x v) j + cond (creditor_of net x == j) (get_or P x 0) 0
      ≡ receipts net P j + cond (creditor_of net x == j) v 0
  received_by j = sum_written (λ y. creditor_of net y == j) P (length net.debts) x v over l

  -- and what is paid does so at the debtor alone
  paid_by_each : (j : ℕ) → paid_by net (set P x v) j + cond (debtor_of net x == j) (get_or P x 0) 0
      ≡ paid_by net P j + cond (debtor_of net x == j) v 0
  paid_by_each j = sum_written (λ y. debtor_of net y == j) P (length net.debts) x v over l

  -- its creditor receives so much more
  pub received_more : (j : ℕ) → creditor_of net x ≡ j
      → receipts net (set P x v) j + get_or P x 0 ≡ receipts net P j + v
  received_more j e = let b = eq-eqb (creditor_of net x) j e in
      omega (arith, received_by j, ap (λ t. cond {A = ℕ} t (get_or P x 0) 0) b, ap (λ t. cond {A = ℕ} t v 0) b)

  -- and nobody else does
  received_same : (j : ℕ) → creditor_of net x ≢ j → receipts net (set P x v) j ≡ receipts net P j
  received_same j ne = let b = ne_eqb (creditor_of net x) j ne in
      omega (arith, received_by j, ap (λ t. cond {A = ℕ} t (get_or P x 0) 0) b, ap (λ t. cond {A = ℕ} t v 0) b)

  -- nobody but its debtor pays more
  paid_same : (j : ℕ) → debtor_of net x ≢ j → paid_by net (set P x v) j ≡ paid_by net P j
  paid_same j ne = let b = ne_eqb (debtor_of net x) j ne in
      omega (arith, paid_by_each j, ap (λ t. cond {A = ℕ} t (get_or P x 0) 0) b, ap (λ t. cond {A = ℕ} t v 0) b)

  -- the sums go with it, but for what its debtor pays
  pub sums_on : (i c more : ℕ) (none : Sums) (sums : List Sums) → AreSumsBut net i P sums → debtor_of net x ≡ i
      → creditor_of net x ≡ c → c < length net.banks → more + get_or P x 0 ≡ v
      → AreSumsBut net i (set P x v) (set sums c (record (get_or sums c none) { received = (get_or sums c none).received + more }))
  sums_on i c more none sums before owed credited known e =
      let new : Sums = record (get_or sums c none) { received = (get_or sums c none).received + more } in
      let place : c < length sums = omega (arith, before.for_each_bank) in
      record {
        for_each_bank = length-set sums c new ∙ before.for_each_bank;
        received = λ j d m. ⊎_elim
            (λ (s : j ≡ c). rw s (ap (λ (t : Sums). t.received) (get_or-set_same sums c new d place)
            ∙ omega (arith, before.received c none known, received_more c credited)))
            (λ (ne : j ≢ c). ap (λ (t : Sums). t.received) (get_or-set_other sums c j new d ne)
            ∙ before.received j d m ∙ sym (received_same j (λ s. ne (sym s ∙ credited))))
            (cases_eq j c);
        paid = λ j d m other. ⊎_elim
            (λ (s : j ≡ c). rw s (ap (λ (t : Sums). t.paid) (get_or-set_same sums c new d place)
            ∙ before.paid c none known (λ t. other (s ∙ t)) ∙ sym (paid_same c (λ t. other (s ∙ sym t ∙ owed)))))
            (λ (ne : j ≢ c). ap (λ (t : Sums). t.paid) (get_or-set_other sums c j new d ne)
            ∙ before.paid j d m other ∙ sym (paid_same j (λ t. other (sym t ∙ owed))))
            (cases_eq j c);
      }

-- sums are sums but for what one bank pays
pub sums_but : (net : Net) (i : ℕ) (P : List ℕ) (sums : List Sums) → AreSums net P sums → AreSumsBut net i P sums
sums_but net i P sums all = record {
  for_each_bank = all.for_each_bank;
  received = all.received;
  paid = λ j d m ne. all.paid j d m;
}

-- and are all sums once that is told
pub sums_told : (net : Net) (i : ℕ) (P : List ℕ) (sums : List Sums) (old : Sums) (in_all : ℕ) → AreSumsBut net i P sums
    → i < length net.banks → old ≡ get_or sums i old → in_all ≡ paid_by net P i
    → AreSums net P (set sums i (record { received = old.received; paid = in_all }))
sums_told net i P sums old in_all but known at e =
    let new : Sums = record { received = old.received; paid = in_all } in
    let place : i < length sums = omega (arith, but.for_each_bank) in
    record {
      for_each_bank = length-set sums i new ∙ but.for_each_bank;
      received = λ j d m. ⊎_elim
          (λ (s : j ≡ i). rw s (ap (λ (t : Sums). t.received) (get_or-set_same sums i new d place)
          ∙ ap (λ (t : Sums). t.received) at ∙ but.received i old known))
          (λ (ne : j ≢ i). ap (λ (t : Sums). t.received) (get_or-set_other sums i j new d ne) ∙ but.received j d m)
          (cases_eq j i);
      paid = λ j d m. ⊎_elim
          (λ (s : j ≡ i). rw s (ap (λ (t : Sums). t.paid) (get_or-set_same sums i new d place) ∙ e))
          (λ (ne : j ≢ i). ap (λ (t : Sums). t.paid) (get_or-set_other sums i j new d ne) ∙ but.paid j d m ne)
          (cases_eq j i);
    }

-- a payment within the limit leaves all within it
pub set_in_limit : (P : List ℕ) (x v : ℕ) → AreInLimit P → v ≤ MAX_CLAIM → AreInLimit (set P x v)
set_in_limit P x v h l k = ⊎_elim
    (λ (e : k ≡ x). ⊎_elim
    (λ (m : x < length P). rw e (omega (arith, get_or-set_same P x v 0 m)))
    (λ (g : length P ≤ x). omega (arith, get_or_past (set P x v) k 0 (omega (arith, length-set P x v))))
    (cases_lt x (length P)))
    (λ (ne : k ≢ x). omega (arith, get_or-set_other P x k v 0 ne, h k))
    (cases_eq k x)

-- nothing paid adds up to nothing
sum_of_zeros : (n : ℕ) (xs : List ℕ) → sum_by (λ x. get_or (replicate n 0) x 0) xs ≡ 0
sum_of_zeros n [] = refl
sum_of_zeros n (x ∷ xs) = omega (
  arith,
  sum_by-cons (λ x. get_or (replicate n 0) x 0) x xs,
  zeros_at n x,
  sum_of_zeros n xs,
)

-- at first all sums are nothing
pub no_sums : (net : Net) (P : List ℕ) (sums : List Sums) (none : Sums) → P ≡ zeros net
    → none.received ≡ 0 → none.paid ≡ 0 → sums ≡ replicate (length net.banks) none → AreSums net P sums
no_sums net P sums none nothing received paid e = rw (nothing, e) record {
  for_each_bank = length-replicate (length net.banks) none;
  received = λ i d l. ap (λ (t : Sums). t.received) (get_or-replicate (length net.banks) i none d l)
      ∙ omega (arith, received, sum_of_zeros (length net.debts) (column net i));
  paid = λ i d l. ap (λ (t : Sums). t.paid) (get_or-replicate (length net.banks) i none d l)
      ∙ omega (arith, paid, sum_of_zeros (length net.debts) (row net i));
}

-- what the bank i receives and pays under the payments P
abbrev pub sums_of : Net → List ℕ → ℕ → Sums
sums_of net P i = record { received = receipts net P i; paid = paid_by net P i }

-- what each bank in turn receives and pays are the sums
pub all_sums : (net : Net) (P : List ℕ) (n : ℕ) (sums : List Sums) → n ≡ length net.banks
    → sums ≡ map (sums_of net P) (range_with_len 0 n) → AreSums net P sums
all_sums net P n sums e laid = rw laid record {
  for_each_bank = length-map-range_with_len (sums_of net P) 0 n ∙ e;
  received = λ i d l. ap (λ (t : Sums). t.received)
      (get_or-map-range_with_len (sums_of net P) 0 n i i d (omega (arith, e)) (omega arith));
  paid = λ i d l. ap (λ (t : Sums). t.paid)
      (get_or-map-range_with_len (sums_of net P) 0 n i i d (omega (arith, e)) (omega arith));
}

-- what a bank receives and pays hangs on the debts alone: the sums are those of any network with the
-- same debts and as many banks
pub same_sums : (net other : Net) (P : List ℕ) (sums : List Sums) → length other.banks ≡ length net.banks
    → other.debts ≡ net.debts → AreSums net P sums → AreSums other P sums
same_sums net other P sums as_many debts all =
    let paid_on = λ (of : Debt → ℕ) (i : ℕ) (D : List Debt). sum_by (λ x. get_or P x 0)
    (filter (λ x. option_map_or of (slice_get D x) 0 == i) (range_with_len 0 (length D))) in
    record {
      for_each_bank = all.for_each_bank ∙ sym as_many;
      received = λ i none l. all.received i none (omega (arith, as_many))
          ∙ ap (paid_on (λ d. d.creditor.0) i) (sym debts);
      paid = λ i none l. all.paid i none (omega (arith, as_many)) ∙ ap (paid_on (λ d. d.debtor.0) i) (sym debts);
    }
