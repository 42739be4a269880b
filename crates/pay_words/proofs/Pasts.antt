-- A past that belongs to a network makes a lawful history, and the first state of a board.
use Rattle.pay_words.specs.Traces.{paid_in}
use Rattle.std.proofs.Common.{◌≡◌, ◌≢◌, ◌⊎◌, ℕ, suc, ◌<◌, ◌≤◌, ◌==◌, max, List, [], ◌∷◌, length, map, set, get_or, sum, true, false, refl, sym, ap, ◌∙◌, ⊎_elim, All, arith, le_trans, le_of_eq, zero-le, length-set, get_or-set_same, get_or-set_other}
use Rattle.std.specs.Prelude.{slice_index, ◌&&◌, nat_lt}
use Rattle.std.proofs.lemmas.Bool.{eqb-true, eqb-false, cases_Bool, cond_both}
use Rattle.std.proofs.lemmas.List.{get_or_past, get_or-map, length-map, length-replicate}
use Rattle.std.proofs.lemmas.List.Sums.{sum_by-le-sum_by}
use mathlib.Core.List.{map-map}
use mathlib.Core.Logic.{dite}
use native.Mathlib.Decide.{dec_lt}
use Rattle.clr_net.specs.Amounts.{IsAtMost}
use Rattle.clr_net.specs.Net.{Net, debtor_of, column, debt_numbers}
use Rattle.clear_core.specs.Clearing.{part, pay, receipts, least, zeros}
use Rattle.clear_core.specs.History.{IsTraced, Stands, StandsFrom, ordered, raised_before, paid_before}
use Rattle.clear_core.specs.declared.event.Raise.{Raise}
use Rattle.clear_core.proofs.Pay.{pay_at, part_mono}
use Rattle.clear_core.proofs.Journals.{traced_le_least}
use Rattle.pay_words.specs.declared.payment.Payment.{Payment}
use Rattle.pay_words.specs.Traces.{Traces, AreLawfulTraces, Rise, ending, raises_of, last_payment, start_of, paid_to, total}
use Rattle.pay_words.specs.Words.{unpaid}
use Rattle.pay_words.specs.Belongs.{Belongs}
use Rattle.pay_words.specs.Ends.{HaveLowStamps, values}
use Rattle.pay_words.proofs.Tables.{tabled_at, length-tabled}
use Rattle.pay_words.proofs.Traces.{in_raises_of, ending_each, under_ending}
use Rattle.std.specs.List.{AllPairs}
use Rattle.std.proofs.lemmas.List.Kept.{AllPairs-cons}
use Rattle.std.proofs.lemmas.List.Elements.{All-cons, All-tail, All-contains, All-filter}
use Rattle.std.proofs.lemmas.Option.{slice_get-get_or}
use Rattle.std.proofs.lemmas.Bool.Decides.{nat_tests}
use Rattle.clear_core.proofs.Lawful.{stands_in_range}

-- two raises differ in stamp or in debt
abbrev pub Differ : Raise → Raise → Type 0
Differ a b = (a.stamp ≢ b.stamp) ⊎ (a.debt ≢ b.debt)

-- raises that are traced differ in stamp or debt
pub traced_differ : (net : Net) (rs : List Raise) → IsTraced net rs → AllPairs Differ rs
traced_differ net rs h i j d lt l = h.differ i j _ _ lt (slice_get-get_or rs i d (omega arith)) (slice_get-get_or rs j d l)

-- of each debt the raises of a standing list rise from what was paid
stands_rise : (net : Net) (stamp : ℕ) (P : List ℕ) (rs : List Raise) → length P ≡ length net.debts → StandsFrom net stamp P rs
    → All (λ r. r.debt.0 < length net.debts) rs → AllPairs Differ rs → (x : ℕ)
    → Rise (raises_of x rs) × All (λ r. (stamp ≤ r.stamp) × (slice_index P x < r.to)) (raises_of x rs)
unfolding StandsFrom
stands_rise net stamp P [] size h known differ x = ((λ i j d lt l. absurd (omega (arith, l))), λ k d lt. absurd (omega (arith, lt)))
stands_rise net stamp P (a ∷ rs) size h known differ x =
    let now = set P a.debt.0 a.to in
    let later = stands_rise net a.stamp now rs (length-set P a.debt.0 a.to ∙ size) h.2
    (All-tail (λ r. r.debt.0 < length net.debts) a rs known)
    (λ i j d lt l. differ (suc i) (suc j) d (omega (arith, lt)) (omega (arith, l))) x in
    ⊎_elim
    (λ (e : (a.debt.0 == x) ≡ true).
    let is : a.debt.0 ≡ x = eqb-true a.debt.0 x e in
    let here : slice_index now x ≡ a.to = ap (slice_index now) (sym is)
    ∙ get_or-set_same P a.debt.0 a.to 0 (omega (arith, known 0 a (omega arith), size)) in
    let up : slice_index P x < a.to = omega (arith, h.1.0, ap (slice_index P) is) in
    let first : All (λ s. (a.stamp < s.stamp) × (a.to < s.to)) (raises_of x rs) = λ k d lt.
    let s = get_or (raises_of x rs) k d in
    let o = in_raises_of x rs k d lt in
    let apart : a.stamp ≢ s.stamp = ⊎_elim (λ ne. ne) (λ ne. absurd (ne (λ i. record { 0 = (is ∙ sym o.1) i })))
    (All-contains (Differ a) rs s (λ m e l. differ 0 (suc m) e (omega arith) (omega (arith, l))) o.0) in
    (omega (arith, (later.1 k d lt).0, apart), omega (arith, (later.1 k d lt).1, here)) in
    rw e (
      AllPairs-cons (λ r s. (r.stamp < s.stamp) × (r.to < s.to)) a (raises_of x rs) first later.0,
      All-cons (λ r. (stamp ≤ r.stamp) × (slice_index P x < r.to)) a (raises_of x rs) (h.0, up)
          (λ k d lt. (omega (arith, h.0, (first k d lt).0), omega (arith, up, (first k d lt).1))),
    ))
    (λ (e : (a.debt.0 == x) ≡ false).
    let same : slice_index now x ≡ slice_index P x = get_or-set_other P a.debt.0 x a.to 0 (λ i. eqb-false a.debt.0 x e (sym i)) in
    rw e (later.0, λ k d lt. (omega (arith, h.0, (later.1 k d lt).0), omega (arith, same, (later.1 k d lt).1))))
    (cases_Bool (a.debt.0 == x))

-- of the raises of a list, those of a debt alone count for it
pub before_of : (stamp x : ℕ) (rs : List Raise) → raised_before stamp (raises_of x rs) x ≡ raised_before stamp rs x
before_of stamp x [] = refl
before_of stamp x (a ∷ rs) = grind (arith, nat_tests, before_of stamp x rs)

-- a bound of all amounts is one of what was raised before a stamp
before_most : (stamp x k : ℕ) (rs : List Raise) → All (λ r. r.to ≤ k) rs → raised_before stamp rs x ≤ k
before_most stamp x k [] h = zero-le
before_most stamp x k (a ∷ rs) h =
    let rest = before_most stamp x k rs (All-tail (λ r. r.to ≤ k) a rs h) in
    let here = h 0 a (omega arith) in
    cond_both (nat_lt a.stamp stamp && (a.debt.0 == x)) a.to 0 (λ n. max n (raised_before stamp rs x) ≤ k) (λ _. omega arith)
    (λ _. omega arith)

-- what was paid on a debt before a stamp is at most what its own raises paid before it
paid_before_at : (net : Net) (stamp : ℕ) (rs : List Raise) (y : ℕ) → slice_index (paid_before net stamp rs) y ≤ raised_before stamp (raises_of y rs) y
paid_before_at net stamp rs y = dite (dec_lt y (length net.debts))
    (λ lt. omega (arith, tabled_at (length net.debts) (raised_before stamp rs) y 0 lt, before_of stamp y rs))
    (λ ge. let far : length (paid_before net stamp rs) ≤ y = omega (arith, length-tabled (length net.debts) (raised_before stamp rs)) in omega (arith, get_or_past (paid_before net stamp rs) y 0 far))

module _ (net : Net) (start : List Payment) (past : List Raise) (h : Belongs net start past) where
  -- the raises of each debt in the past
  abbrev pub traces : Traces
  traces x = raises_of x past

  -- each raise of the past is of a known debt
  pub past_known : All (λ r. r.debt.0 < length net.debts) past
  past_known = stands_in_range net past h.stands

  -- of each debt stamps and amounts rise, from above nothing
  past_rise : (x : ℕ) → Rise (traces x) × All (λ r. (0 ≤ r.stamp) × (slice_index (zeros net) x < r.to)) (traces x)
  past_rise x = stands_rise net 0 (zeros net) past (length-replicate (length net.debts) 0) h.stands past_known
      (traced_differ net past h.traced) x

  -- each payment is that of the last raise of its debt
  pub start_at : (x : ℕ) → x < length net.debts → get_or start x unpaid ≡ ending (traces x)
  start_at x lt = ap (λ (ps : List Payment). get_or ps x unpaid) h.start_is ∙ tabled_at (length net.debts) (λ y. last_payment y past) x unpaid lt

  -- there is a payment for each debt
  pub start_over : length start ≡ length net.debts
  start_over = ap length h.start_is ∙ length-tabled (length net.debts) (λ y. last_payment y past)

  -- and one number of each
  pub at_first : (f : Payment → ℕ) (x : ℕ) → x < length net.debts → slice_index (map f start) x ≡ f (ending (traces x))
  at_first f x lt = get_or-map f start x unpaid 0 (omega (arith, lt, start_over)) ∙ ap f (start_at x lt)

  -- a list made of the payments has a place for each debt
  pub over_first : (f : Payment → ℕ) → length (map f start) ≡ length net.debts
  over_first f = length-map start f ∙ start_over

  -- no last raise is above the least clearing payment
  past_most : (x : ℕ) → x < length net.debts → (ending (traces x)).value ≤ slice_index (least net) x
  past_most x lt = ending_each (λ p. p.value ≤ slice_index (least net) x) unpaid (traces x) zero-le (λ k d l.
      let o = in_raises_of x past k d l in
      let below = All-contains (λ r. r.to ≤ slice_index (least net) r.debt.0) past _
      (λ k d l. traced_le_least net past h.traced k _ (slice_get-get_or past k d l)) o.0 in
      omega (arith, below, ap (slice_index (least net)) o.1))

  -- each raise is within what its debtor's rule gives from raises of smaller stamp
  past_within : (x : ℕ) → x < length net.debts → All (λ r. r.to ≤ part net x (paid_to net traces r.stamp x)) (traces x)
  past_within x lt k d l =
      let r = get_or (traces x) k d in
      let o = in_raises_of x past k d l in
      let most = All-contains (λ q. q.to ≤ slice_index (pay net (paid_before net q.stamp past)) q.debt.0) past r
      (λ j e m. h.traced.within j _ (slice_get-get_or past j e m)) o.0 in
      let less = part_mono net x _ _ (sum_by-le-sum_by (slice_index (paid_before net r.stamp past)) (λ y. raised_before r.stamp (traces y) y) (column net (debtor_of net x)) (paid_before_at net r.stamp past)) in
      let here = ap (slice_index (pay net (paid_before net r.stamp past))) o.1 in
      omega (arith, most, here, pay_at net (paid_before net r.stamp past) x lt, less)

  -- the opening values are what the raises have paid
  pub values_paid : map (λ p. p.value) start ≡ paid_in net traces
  values_paid = ap (map (λ p. p.value)) h.start_is ∙ map-map (λ (p : Payment). p.value) (λ (y : ℕ). last_payment y past) (debt_numbers net)

  -- no last stamp is above what is paid in all
  pub start_low : (x : ℕ) → x < length net.debts → (ending (traces x)).stamp ≤ total net traces
  start_low x lt =
      let low = h.stamps_low x unpaid (omega (arith, lt, start_over)) in
      omega (arith, low, ap sum values_paid, ap (λ (p : Payment). p.stamp) (start_at x lt))

  -- so the traces of a past are lawful
  pub past_lawful : AreLawfulTraces net traces
  past_lawful = record {
    rise = λ x lt. (past_rise x).0;
    each = λ x lt k d l. (omega (arith, ((past_rise x).1 k d l).1), (in_raises_of x past k d l).1);
    within = past_within;
    most = past_most;
    low = start_low;
  }

  -- what stands at first is within what each bank has
  pub start_within : (x : ℕ) → x < length net.debts → (sights : List ℕ) → ((y : ℕ) → y < length net.debts → slice_index sights y ≡ (ending (traces y)).value) → length sights ≡ length net.debts
      → (ending (traces x)).value ≤ part net x (receipts net sights (debtor_of net x))
  start_within x lt sights at size = ending_each (λ p. p.value ≤ part net x (receipts net sights (debtor_of net x)))
      unpaid (traces x) zero-le (λ k d l.
      le_trans (past_within x lt k d l)
      (part_mono net x _ _ (sum_by-le-sum_by (λ y. raised_before (get_or (traces x) k d).stamp (traces y) y)
      (slice_index sights) (column net (debtor_of net x)) (below _))))
    where
      none_past : (y : ℕ) → length net.debts ≤ y → (stamp : ℕ) → raised_before stamp (traces y) y ≤ 0
      none_past y ge stamp = before_most stamp y 0 (traces y) (λ k d l.
          let o = in_raises_of y past k d l in
          absurd (omega (arith, All-contains (λ r. r.debt.0 < length net.debts) past _ past_known o.0, o.1, ge)))

      below : (stamp y : ℕ) → raised_before stamp (traces y) y ≤ slice_index sights y
      below stamp y = dite (dec_lt y (length net.debts))
          (λ l. le_trans (before_most stamp y (ending (traces y)).value (traces y)
          (λ k d lk. (under_ending unpaid (traces y) (past_rise y).0 k d lk).1)) (le_of_eq (sym (at y l))))
          (λ ge. le_trans (none_past y (omega arith) stamp) zero-le)

  -- the values are at most what all banks would pay from them
  pub covered : IsAtMost (values start) (pay net (values start))
  covered x = dite (dec_lt x (length net.debts))
      (λ lt. omega (
        arith,
        at_first (λ p. p.value) x lt,
        start_within x lt (values start) (at_first (λ p. p.value)) (over_first (λ p. p.value)),
        pay_at net (values start) x lt,
      ))
      (λ ge. omega (arith, get_or_past (values start) x 0 (omega (arith, over_first (λ p. p.value)))))

-- a lawful journal in order, with no stamp above the sum of the values, is a past
pub belongs_of : (net : Net) (rs : List Raise) → Stands net rs → IsTraced net rs → ordered rs ≡ rs → HaveLowStamps rs (start_of net rs) → Belongs net (start_of net rs) rs
belongs_of net rs stands traced order low = record {
  in_order = order;
  stands = stands;
  traced = traced;
  start_is = refl;
  stamps_low = λ k d lt.
      let l : k < length net.debts = omega (arith, lt, length-tabled (length net.debts) (λ x. last_payment x rs)) in
      let at : get_or (start_of net rs) k d ≡ last_payment k rs = tabled_at (length net.debts) (λ x. last_payment x rs) k d l in
      let most : ℕ = sum (values (start_of net rs)) in
      le_trans (le_of_eq (ap (λ (p : Payment). p.stamp) at)) (ending_each (λ p. p.stamp ≤ most) unpaid (raises_of k rs) zero-le
      (All-filter (λ r. r.debt.0 == k) (λ r. r.stamp ≤ most) rs low));
}

-- nothing is paid on a board without a past
pub belongs_at_first : (net : Net) (start : List Payment) → start ≡ start_of net [] → Belongs net start []
unfolding StandsFrom
belongs_at_first net start e =
    rw e (belongs_of net [] tt (record { differ = λ i j a b lt f g. absurd (cc); within = λ i r f. absurd (cc) })
    refl (λ k d lt. absurd (omega (arith, lt))))
