-- A compression leaves no cycle; and lowering the debts of a cycle keeps all balances.
use Rattle.std.proofs.Common.{◌≡◌, ◌≢◌, ℕ, suc, ◌+◌, ◌-◌, ◌*◌, ◌<◌, ◌≤◌, ◌==◌, ◌&&◌, Bool, true, false, cond, All, List, [], ◌∷◌, length, length-set, get_or, set, map, filter, count_by, sum, sum_by, refl, sym, ap, ◌∙◌, subst, ⊎_elim, arith, eq-eqb}
use Rattle.std.specs.List.{range_with_len}
use Rattle.std.proofs.Math.Dec.{ltb}
use Rattle.std.proofs.Math.Nat.{mul-add}
use Rattle.std.proofs.lemmas.Bool.{cases_eq, and_from, and_parts, eqb-true, lt-ltb, ltb-true}
use Rattle.std.proofs.lemmas.List.{ext_get_or, get_or-set_same, get_or-set_other}
use Rattle.std.proofs.lemmas.List.FromFn.{get_or-map-range_with_len, length-map-range_with_len}
use Rattle.std.proofs.lemmas.List.Sums.{sum_by-cons, sum_by-set}
use Rattle.clr_net.specs.Limits.{IsNetwork}
use Rattle.clr_net.specs.Net.{Net, debtor_of, creditor_of, class_of, column}
use Rattle.clr_net.proofs.Filters.{place_that_holds}
use Rattle.clr_net.proofs.Lists.{sum-cons}
use Rattle.compress.specs.Compression.{IsBalanceKept, is_live, rank_of, rank_above, Compression, Leads, IsLive, HasNoCycle}
use Rattle.compress.specs.Lowering.{lowered, CanLower}
use Rattle.compress.proofs.Most.{most_ge}

-- a debt stands in its creditor's column
pub in_column : (net : Net) (x : ℕ) → x < length net.debts
    → (k : ℕ) × (k < length (column net (creditor_of net x))) ×
    (get_or (column net (creditor_of net x)) k 0 ≡ x)
in_column net x l =
    let i = creditor_of net x in
    let f = place_that_holds (λ y. creditor_of net y == i) 0 (length net.debts) x x
    (omega arith) l (eq-eqb i i refl) in
    (f.0, f.1.within, f.1.at)

-- a live debt is of its class
pub live_class : {net : Net} {C : List ℕ} {c x : ℕ} → IsLive net C c x → class_of net x ≡ c
live_class {net = net} {C = C} {c = c} {x = x} live =
    eqb-true (class_of net x) c
    (and_parts (class_of net x == c) (ltb 0 (get_or C x 0)) live.live).0

-- and has a claim above 0
pub live_claim : {net : Net} {C : List ℕ} {c x : ℕ} → IsLive net C c x → 0 < get_or C x 0
live_claim {net = net} {C = C} {c = c} {x = x} live =
    ltb-true 0 (get_or C x 0)
    (and_parts (class_of net x == c) (ltb 0 (get_or C x 0)) live.live).1

-- a debt of the class with a claim above 0 is live
pub live_with : (net : Net) (C : List ℕ) (c x : ℕ) → x < length net.debts → class_of net x ≡ c
    → 0 < get_or C x 0 → IsLive net C c x
live_with net C c x l e pos = record {
  debt = l;
  live = and_from (class_of net x == c) (ltb 0 (get_or C x 0)) (eq-eqb (class_of net x) c e)
      (lt-ltb 0 (get_or C x 0) pos);
}

-- the numbers rise along each debt above 0
pub rank_rises : (net : Net) (C : List ℕ) (rank : ℕ → ℕ) (c x : ℕ) → IsLive net C c x
    → rank (creditor_of net x) ≡ rank_above net C rank c (creditor_of net x)
    → rank (debtor_of net x) < rank (creditor_of net x)
rank_rises net C rank c x live e =
    let place = in_column net x live.debt in
    let f = λ (y : ℕ). rank (debtor_of net y) + 1 in
    let below : f x ≤ rank_above net C rank c (creditor_of net x) =
    subst (λ y. f y ≤ rank_above net C rank c (creditor_of net x)) place.2
    (most_ge f (is_live net C c) (column net (creditor_of net x)) place.0 place.1
    (ap (is_live net C c) place.2 ∙ live.live)) in
    omega (arith, below, e)

-- along debts above 0 the numbers never fall
ranks_rise : (net : Net) (C : List ℕ) (rank : ℕ → ℕ) (c : ℕ)
    → ((x : ℕ) → IsLive net C c x → rank (creditor_of net x)
    ≡ rank_above net C rank c (creditor_of net x))
    → (i j : ℕ) (xs : List ℕ) → All (IsLive net C c) xs
    → Leads (debtor_of net) (creditor_of net) i xs j → rank i ≤ rank j
ranks_rise net C rank c h i j [] live leads = rw leads (omega arith)
ranks_rise net C rank c h i j (x ∷ xs) live leads =
    omega (
      arith,
      rank_rises net C rank c x (live 0 0 (omega arith)) (h x (live 0 0 (omega arith))),
      ap rank leads.0,
      ranks_rise net C rank c h (creditor_of net x) j xs
          (λ k d l. live (suc k) d (omega arith)) leads.1,
    )

-- in a compression no class has a cycle left
pub no_cycle : (net : Net) (C R : List ℕ) (n : ℕ) → IsNetwork net → Compression net C R n
    → (c : ℕ) → HasNoCycle net C c
no_cycle net C R n network made c i x xs live leads =
    let rank = rank_of net R c in
    let h : (y : ℕ) → IsLive net C c y → rank (creditor_of net y)
    ≡ rank_above net C rank c (creditor_of net y) =
    λ y l. let d = network.each_debt y l.debt in
    made.ranks c (creditor_of net y) (omega (arith, d.class_at_least_1, live_class l))
    (omega (arith, d.class_in_limit, live_class l)) d.creditor_known in
    absurd (omega (
      arith,
      rank_rises net C rank c x (live 0 0 (omega arith)) (h x (live 0 0 (omega arith))),
      ap rank leads.0,
      ranks_rise net C rank c h (creditor_of net x) i xs
          (λ k d l. live (suc k) d (omega arith)) leads.1,
    ))

-- the claims of the numbers that pass, and 0 for each other
abbrev passing : (ℕ → Bool) → List ℕ → ℕ → ℕ
passing p C y = cond (p y) (get_or C y 0) 0

-- a sum over the numbers that pass is the sum over all with 0 for those that do not
sum_by-passing : (p : ℕ → Bool) (C xs : List ℕ) → sum_by (λ y. get_or C y 0) (filter p xs) ≡ sum (map (passing p C) xs)
sum_by-passing p C [] = refl
sum_by-passing p C (x ∷ xs) = by_test (p x) (sum_by-passing p C xs)
  where
    by_test : (b : Bool) → sum_by (λ y. get_or C y 0) (filter p xs) ≡ sum (map (passing p C) xs)
        → sum_by (λ y. get_or C y 0) (cond b (x ∷ filter p xs) (filter p xs))
        ≡ sum (cond b (get_or C x 0) 0 ∷ map (passing p C) xs)
    by_test true e = omega
        (arith, sum_by-cons (λ y. get_or C y 0) x (filter p xs), sum-cons (get_or C x 0) (map (passing p C) xs), e)
    by_test false e = omega (arith, sum-cons 0 (map (passing p C) xs), e)

-- a sum over the numbers that pass, after a write at the number x
sum_written : (p : ℕ → Bool) (C : List ℕ) (n x v : ℕ) → length C ≡ n → x < n
    → sum_by (λ y. get_or (set C x v) y 0) (filter p (range_with_len 0 n)) + cond (p x) (get_or C x 0) 0
    ≡ sum_by (λ y. get_or C y 0) (filter p (range_with_len 0 n)) + cond (p x) v 0
sum_written p C n x v as_many l =
    let numbers = range_with_len 0 n in
    let at = λ (E : List ℕ) (k : ℕ) (m : k < n).
    get_or-map-range_with_len (passing p E) 0 n k k 0 m (omega arith) in
    let len = λ (E : List ℕ). length-map-range_with_len (passing p E) 0 n in
    let same : map (passing p (set C x v)) numbers ≡ set (map (passing p C) numbers) x (cond (p x) v 0) =
    ext_get_or 0 _ _ (omega (arith, len C, len (set C x v), length-set {A = ℕ})) (λ k m.
    let inside : k < n = omega (arith, len (set C x v)) in
    ⊎_elim
    (λ (e : k ≡ x). rw e (at (set C x v) x l ∙ ap (λ w. cond (p x) w 0) (get_or-set_same C x v 0 (omega arith))
    ∙ sym (get_or-set_same (map (passing p C) numbers) x (cond (p x) v 0) 0 (omega (arith, len C)))))
    (λ (ne : k ≢ x). at (set C x v) k inside ∙ ap (λ w. cond (p k) w 0) (get_or-set_other C x k v 0 ne)
    ∙ sym (at C k inside) ∙ sym (get_or-set_other (map (passing p C) numbers) x k (cond (p x) v 0) 0 ne))
    (cases_eq k x)) in
    omega (
      arith,
      sum_by-passing p C numbers,
      sum_by-passing p (set C x v) numbers,
      ap sum same,
      sum_by-set (λ n. n) (map (passing p C) numbers) x (cond (p x) v 0) 0 (omega (arith, len C)),
      at C x l,
    )

-- lowering debts by m each takes m off a sum for each of them that passes
scaled : (b : Bool) (m n w k : ℕ) → m ≤ w → k + cond b w 0 ≡ n + cond b (w - m) 0
    → k + m * cond b 1 0 ≡ n
scaled true m n w k l e = omega (arith, e)
scaled false m n w k l e = omega (arith, e)

-- lowering debts one after another: m off the sum over all that pass, for each of them in the list
pub sum_lowered : (p : ℕ → Bool) (n m : ℕ) (C xs : List ℕ) → length C ≡ n → CanLower C m xs
    → sum_by (λ y. get_or (lowered C m xs) y 0)
    (filter p (range_with_len 0 n)) + m * count_by p xs
    ≡ sum_by (λ y. get_or C y 0) (filter p (range_with_len 0 n))
sum_lowered p n m C [] l h = omega arith
sum_lowered p n m C (x ∷ xs) l h =
    let D = set C x (get_or C x 0 - m) in
    omega (
      arith,
      sum_lowered p n m D xs (omega (arith, length-set {A = ℕ})) h.2,
      scaled (p x) m (sum_by (λ y. get_or C y 0) (filter p (range_with_len 0 n))) (get_or C x 0)
          (sum_by (λ y. get_or D y 0) (filter p (range_with_len 0 n)))
          h.1 (sum_written p C n x (get_or C x 0 - m) l (omega (arith, h.0))),
      ap (λ (t : ℕ). m * t) (sum_by-cons (λ y. cond {A = ℕ} (p y) 1 0) x xs),
      mul-add m (cond (p x) 1 0) (count_by p xs),
    )

-- along debts of one class from i to j, each bank is left as often as it is come to, but for the
-- two ends
turns : (class from to : ℕ → ℕ) (c d b i j : ℕ) (xs : List ℕ)
    → ((k : ℕ) → k < length xs → class (get_or xs k 0) ≡ d) → Leads from to i xs j
    → count_by (λ x. (class x == c) && (from x == b)) xs + cond ((d == c) && (j == b)) 1 0
    ≡ count_by (λ x. (class x == c) && (to x == b)) xs + cond ((d == c) && (i == b)) 1 0
turns class from to c d b i j [] same leads = omega
    (arith, ap (λ e. cond {A = ℕ} ((d == c) && (e == b)) 1 0) leads)
turns class from to c d b i j (x ∷ xs) same leads = omega (
  arith,
  sum_by-cons (λ x. cond {A = ℕ} ((class x == c) && (from x == b)) 1 0) x xs,
  sum_by-cons (λ x. cond {A = ℕ} ((class x == c) && (to x == b)) 1 0) x xs,
  ap (λ e. cond {A = ℕ} ((e == c) && (from x == b)) 1 0) (same 0 (omega arith)),
  ap (λ e. cond {A = ℕ} ((d == c) && (e == b)) 1 0) leads.0,
  ap (λ e. cond {A = ℕ} ((e == c) && (to x == b)) 1 0) (same 0 (omega arith)),
  turns class from to c d b (to x) j xs (λ k l. same (suc k) (omega arith)) leads.1,
)

-- so round a cycle of one class each bank is left as often as it is come to, and lowering its debts
-- by the same keeps every balance
pub cycle_keeps : (net : Net) (C : List ℕ) (m c d b i : ℕ) (xs : List ℕ)
    → length C ≡ length net.debts → CanLower C m xs
    → ((k : ℕ) → k < length xs → class_of net (get_or xs k 0) ≡ d)
    → Leads (debtor_of net) (creditor_of net) i xs i
    → IsBalanceKept net C c b → IsBalanceKept net (lowered C m xs) c b
cycle_keeps net C m c d b i xs l can same leads kept =
    let owes = λ (x : ℕ). (class_of net x == c) && (debtor_of net x == b) in
    let due = λ (x : ℕ). (class_of net x == c) && (creditor_of net x == b) in
    let round : count_by owes xs ≡ count_by due xs =
    omega (arith, turns (class_of net) (debtor_of net) (creditor_of net) c d b i i xs same leads) in
    omega (
      arith,
      kept,
      sum_lowered owes (length net.debts) m C xs l can,
      sum_lowered due (length net.debts) m C xs l can,
      ap (λ (n : ℕ). m * n) round,
    )
