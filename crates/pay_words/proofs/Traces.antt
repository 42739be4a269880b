-- The raises of one debt, in order.
use Rattle.std.proofs.lemmas.Bool.Decides.{nat_tests}
use Rattle.std.proofs.lemmas.Grind.{common_steps}
use Rattle.std.proofs.Common.{◌≡◌, ◌≢◌, ℕ, ◌<◌, ◌≤◌, List, [], ◌∷◌, ◌++◌, Bool, true, true≢false, inl, inr, ⊎_elim, refl, sym, ap, ◌∙◌, le_refl, zero-le, arith, All, suc, zero, get_or, length}
use Rattle.std.specs.Prelude.{◌==◌, ◌/◌, ◌%◌, filter, not}
use Rattle.std.proofs.lemmas.Bool.{eqb-true, eq-eqb, not-true}
use Rattle.std.proofs.lemmas.List.Elements.{filter-append, All-filter, All-contains_itself, filter_passes, All-weaker, All-contains, Contains-append_cases, Contains-append_left, All-tail}
use Rattle.clear_core.specs.History.{raised_before}
use Rattle.clear_core.specs.declared.event.Raise.{Raise}
use Rattle.pay_words.specs.declared.payment.TheConstants.{STAMP}
use Rattle.pay_words.specs.declared.payment.Payment.{Payment}
use Rattle.pay_words.specs.Words.{unpaid, word_of, payment_of}
use Rattle.pay_words.specs.Traces.{raises_of, ending_from, ending, Rise, Stood, Traces}
use Rattle.std.specs.List.{Contains}
use Rattle.std.proofs.lemmas.List.Sorted.{Contains-permutation, IsPermutation-filter_both}
use Rattle.pay_words.proofs.Tables.{changed, changed_each}

-- what a raise leaves on its debt
abbrev pub left_by : Raise → Payment
left_by r = record { value = r.to; stamp = r.stamp }

-- a payment whose value fits is read back from its word
pub read_back : (p : Payment) → p.value < STAMP → payment_of (word_of p) ≡ p
read_back p h =
    let value : word_of p % STAMP ≡ p.value = omega arith in
    let stamp : word_of p / STAMP ≡ p.stamp = omega arith in
    λ i. record { value = value i; stamp = stamp i }

-- one more raise is what raises end with
pub ending_push : (p : Payment) (rs : List Raise) (r : Raise) → ending_from p (rs ++ r ∷ []) ≡ left_by r
ending_push p [] r = refl
ending_push p (a ∷ rs) r = ending_push (left_by a) rs r

-- each raise of a debt is one of all raises, and of that debt
pub in_raises_of : (x : ℕ) (rs : List Raise) → All (λ r. Contains rs r × (r.debt.0 ≡ x)) (raises_of x rs)
in_raises_of x rs k d lt = (
  All-filter (λ s. s.debt.0 == x) (Contains rs) rs (All-contains_itself rs) k d lt,
  eqb-true (get_or (raises_of x rs) k d).debt.0 x (filter_passes (λ s. s.debt.0 == x) rs k d lt),
)

-- and each of all raises is one of those of its debt
pub among_raises_of : (rs : List Raise) → All (λ r. Contains (raises_of r.debt.0 rs) r) rs
among_raises_of rs = All-weaker (Contains rs) (λ r. Contains (raises_of r.debt.0 rs) r) (λ r i.
    let p : Raise → Bool = λ s. s.debt.0 == r.debt.0 in
    let q : Raise → Bool = λ s. not (p s) in
    ⊎_elim (λ j. j)
    (λ j. absurd (true≢false
    (sym (eq-eqb r.debt.0 r.debt.0 refl) ∙ not-true (p r) (All-contains (λ s. q s ≡ true) (filter q rs) r (filter_passes q rs) j))))
    (Contains-append_cases (filter p rs) (filter q rs) r
    (Contains-permutation rs (filter p rs ++ filter q rs) r (IsPermutation-filter_both p q (λ s. refl) rs) i)))
    rs (All-contains_itself rs)

-- those after the first rise too
pub rise_rest : (a : Raise) (rs : List Raise) → Rise (a ∷ rs) → Rise rs
rise_rest a rs h i j d lt l = h (suc i) (suc j) d (omega (arith, lt)) (omega (arith, l))

-- no raise is above the last
pub under_ending : (p : Payment) (rs : List Raise) → Rise rs
    → All (λ s. (s.stamp ≤ (ending_from p rs).stamp) × (s.to ≤ (ending_from p rs).value)) rs
under_ending p [] h k d lt = absurd (omega (arith, lt))
under_ending p (a ∷ []) h zero d lt = (le_refl a.stamp, le_refl a.to)
under_ending p (a ∷ []) h (suc k) d lt = absurd (omega (arith, lt))
under_ending p (a ∷ b ∷ rs) h zero d lt =
    let next = under_ending (left_by a) (b ∷ rs) (rise_rest a (b ∷ rs) h) 0 a (omega arith) in
    let first = h 0 1 a (omega arith) (omega arith) in
    (omega (arith, first.0, next.0), omega (arith, first.1, next.1))
under_ending p (a ∷ b ∷ rs) h (suc k) d lt = under_ending (left_by a) (b ∷ rs) (rise_rest a (b ∷ rs) h) k d (omega (arith, lt))

-- a raise is not stamped after the last of its debt
pub under_own_ending : (rs : List Raise) (k : ℕ) (d : Raise) → k < length rs → Rise (raises_of (get_or rs k d).debt.0 rs)
    → (get_or rs k d).stamp ≤ (ending (raises_of (get_or rs k d).debt.0 rs)).stamp
under_own_ending rs k d lt h =
    let own = raises_of (get_or rs k d).debt.0 rs in
    (All-contains (λ s. (s.stamp ≤ (ending own).stamp) × (s.to ≤ (ending own).value)) own _ (under_ending unpaid own h)
    (among_raises_of rs k d lt)).0

-- what holds of the first payment and of what each raise leaves holds of the last
pub ending_each : (P : Payment → Type 0) (p : Payment) (rs : List Raise) → P p → All (λ r. P (left_by r)) rs → P (ending_from p rs)
ending_each P p [] here each = here
ending_each P p (r ∷ rs) here each = ending_each P (left_by r) rs (each 0 r (omega arith)) (All-tail (λ s. P (left_by s)) r rs each)

-- the payment that raises end with stood once
pub ending_stood : (rs : List Raise) → Stood rs (ending rs).value (ending rs).stamp
ending_stood rs = ending_each (λ p. Stood rs p.value p.stamp) unpaid rs (inl (refl, refl))
    (λ k d l. inr (get_or rs k d, All-contains_itself rs k d l, refl, refl))

-- what stood once stands so with a raise more
pub stood_more : (rs : List Raise) (s : Raise) (v m : ℕ) → Stood rs v m → Stood (rs ++ s ∷ []) v m
stood_more rs s v m (inl e) = inl e
stood_more rs s v m (inr t) = inr (t.0, Contains-append_left rs (s ∷ []) t.0 t.1, t.2, t.3)

-- a payment that stood is not above the last
pub stood_under : (rs : List Raise) → Rise rs → (v m : ℕ) → Stood rs v m → v ≤ (ending rs).value
stood_under rs h v m (inl e) = omega (arith, e.0)
stood_under rs h v m (inr t) = omega (arith, t.2, (under_ending unpaid rs h t.1.0 t.0 t.1.1).1, ap (λ (r : Raise). r.to) t.1.2)

-- a raise of smaller stamp is counted
pub before_has : (stamp x : ℕ) (rs : List Raise) → All (λ r. r.stamp < stamp → r.debt.0 ≡ x → r.to ≤ raised_before stamp rs x) rs
before_has stamp x [] k d lt early is = absurd (omega (arith, lt))
before_has stamp x (a ∷ rs) zero d lt early is = grind (arith, nat_tests)
before_has stamp x (a ∷ rs) (suc k) d lt early is = grind (arith, before_has stamp x rs k d)

-- a raise more lowers nothing that was raised before a stamp
pub before_more : (stamp x : ℕ) (rs : List Raise) (r : Raise) → raised_before stamp rs x ≤ raised_before stamp (rs ++ r ∷ []) x
before_more stamp x [] r = zero-le
before_more stamp x (a ∷ rs) r = let rest = before_more stamp x rs r in omega arith

-- what stood with a smaller stamp is counted
pub stood_before : (x : ℕ) (rs : List Raise) → All (λ r. r.debt.0 ≡ x) rs → (stamp v m : ℕ) → Stood rs v m → m < stamp
    → v ≤ raised_before stamp rs x
stood_before x rs each stamp v m (inl e) lt = omega (arith, e.0)
stood_before x rs each stamp v m (inr t) lt =
    let low : t.0.stamp < stamp = omega (arith, t.3) in
    let counted = All-contains (λ r. r.stamp < stamp → r.debt.0 ≡ x → r.to ≤ raised_before stamp rs x) rs t.0 (before_has stamp x rs) t.1 low in
    omega (arith, t.2, counted (All-contains (λ r. r.debt.0 ≡ x) rs t.0 each t.1))

-- the raises of a debt in two lists are those in the first, and then those in the other
pub raises_of-append : (x : ℕ) (xs ys : List Raise) → raises_of x (xs ++ ys) ≡ raises_of x xs ++ raises_of x ys
raises_of-append x xs ys = filter-append (λ (s : Raise). s.debt.0 == x) xs ys

-- with a raise of the debt more, its raises have that more
pub raises_of-push : (x : ℕ) (rs : List Raise) (r : Raise) → r.debt.0 ≡ x → raises_of x (rs ++ r ∷ []) ≡ raises_of x rs ++ r ∷ []
raises_of-push x rs r e = grind (arith, common_steps)

-- with a raise of another debt more, they are the same
pub raises_of-push_else : (x : ℕ) (rs : List Raise) (r : Raise) → r.debt.0 ≢ x → raises_of x (rs ++ r ∷ []) ≡ raises_of x rs
raises_of-push_else x rs r ne = grind (arith, common_steps)

-- where no raise is of the debt, it has none
pub raises_of-none : (x : ℕ) (rs : List Raise) → All (λ r. r.debt.0 ≢ x) rs → raises_of x rs ≡ []
raises_of-none x [] h = refl
raises_of-none x (r ∷ rs) h = grind (arith, nat_tests, h 0 r, raises_of-none x rs (All-tail (λ s. s.debt.0 ≢ x) r rs h))

-- one debt's raises are one more
abbrev pub pushed : Traces → ℕ → Raise → Traces
pushed t x r = changed x (t x ++ r ∷ []) t

module _ (t : Traces) (x : ℕ) (r : Raise) where
  -- a raise pushed to a trace lowers nothing that was raised before a stamp
  pub before_pushed : (stamp y : ℕ) → raised_before stamp (t y) y ≤ raised_before stamp (pushed t x r y) y
  before_pushed stamp = changed_each (λ y rs. raised_before stamp (t y) y ≤ raised_before stamp rs y) x (t x ++ r ∷ []) t
      (before_more stamp x (t x) r) (λ y _. le_refl _)

  -- and what stood once stands so after it
  pub stood_pushed : (y v m : ℕ) → Stood (t y) v m → Stood (pushed t x r y) v m
  stood_pushed y v m = changed_each (λ y rs. Stood (t y) v m → Stood rs v m) x (t x ++ r ∷ []) t (stood_more (t x) r v m) (λ y _ h. h) y
