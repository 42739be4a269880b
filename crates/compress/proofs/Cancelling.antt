-- Taking a walk back debt by debt, while the debts of a cycle are lowered.
use Rattle.std.proofs.Common.{◌≡◌, ◌≢◌, ℕ, zero, suc, ◌+◌, ◌-◌, ◌<◌, ◌≤◌, List, [], ◌∷◌, ◌++◌, length, length-set, get_or, set, take, All, sum, sum_by, refl, sym, ap, ◌∙◌, subst, ⊎_elim, arith}
use Rattle.std.proofs.Math.ListN.{get_or-append}
use Rattle.std.proofs.lemmas.Bool.{cases_lt}
use Rattle.std.proofs.lemmas.List.{get_or_push, get_or-set_same, get_or-set_other, length_push, length-map, length-take, map_more, take_all}
use Rattle.std.proofs.lemmas.List.Sums.{sum_by-set}
use Rattle.clr_net.specs.Amounts.{IsAtMost}
use Rattle.clr_net.specs.Limits.{IsNetwork}
use Rattle.clr_net.specs.Net.{Net, debtor_of, creditor_of, class_of}
use Rattle.compress.specs.Compression.{IsBalanceKept, IsLive, Leads}
use Rattle.compress.specs.Lowering.{lowered, CanLower}
use Rattle.compress.proofs.Cycles.{cycle_keeps, live_class, live_claim, live_with}
use Rattle.compress.specs.declared.mark.Mark.{Mark}
use Rattle.compress.specs.declared.mark.Mark.TheVariants.{New, Walked, Done}
use Rattle.compress.specs.declared.step.Step.{Step}
use Rattle.compress.specs.Walk.{mark_of, numbers, stops, end_of, steps_left, IsStep, IsWalk, AreDone, IsKept}
use Rattle.compress.proofs.Walks.{closing_apart, last_apart, stop_before, stop_last, walk_back, walked_not_done}
use Rattle.compress.proofs.Dones.{done_marked, done_lowered, marks_stay}

-- one debt more, at the end
lowered_push : (C : List ℕ) (m : ℕ) (xs : List ℕ) (y : ℕ)
    → lowered C m (xs ++ y ∷ []) ≡ set (lowered C m xs) y (get_or (lowered C m xs) y 0 - m)
lowered_push C m [] y = refl
lowered_push C m (x ∷ xs) y = lowered_push (set C x (get_or C x 0 - m)) m xs y

-- lowering claims leaves their count
length-lowered : (C : List ℕ) (m : ℕ) (xs : List ℕ) → length (lowered C m xs) ≡ length C
length-lowered C m [] = refl
length-lowered C m (x ∷ xs) = omega (
  arith,
  length-lowered (set C x (get_or C x 0 - m)) m xs,
  length-set {A = ℕ},
)

-- if the debts can be lowered and then one more has m, all of them can be lowered
can_push : (C : List ℕ) (m : ℕ) (xs : List ℕ) (y : ℕ) → CanLower C m xs → y < length C
    → m ≤ get_or (lowered C m xs) y 0 → CanLower C m (xs ++ y ∷ [])
can_push C m [] y can l e = (l, e, tt)
can_push C m (x ∷ xs) y can l e = (
  can.0,
  can.1,
  can_push (set C x (get_or C x 0 - m)) m xs y can.2 (omega (arith, length-set {A = ℕ})) e,
)

-- debts that lead to the bank where one more begins lead on to its end
leads_push : (from to : ℕ → ℕ) (i j : ℕ) (xs : List ℕ) (y : ℕ) → Leads from to i xs j → from y ≡ j
    → Leads from to i (xs ++ y ∷ []) (to y)
leads_push from to i j [] y leads e = (e ∙ sym leads, refl)
leads_push from to i j (x ∷ xs) y leads e = (leads.0, leads_push from to (to x) j xs y leads.1 e)

-- lowering raises no claim
lowered_le : (C : List ℕ) (m : ℕ) (xs : List ℕ) → IsAtMost (lowered C m xs) C
lowered_le C m [] = λ k. omega arith
lowered_le C m (x ∷ xs) = λ k.
    omega (arith, lowered_le (set C x (get_or C x 0 - m)) m xs k, one C x k)
  where
    one : (C : List ℕ) (x k : ℕ) → get_or (set C x (get_or C x 0 - m)) k 0 ≤ get_or C k 0
    one [] x k = omega arith
    one (c ∷ C) zero zero = omega arith
    one (c ∷ C) zero (suc k) = omega arith
    one (c ∷ C) (suc x) zero = omega arith
    one (c ∷ C) (suc x) (suc k) = one C x k

-- a walk along debts whose claims stay is one as others change
walk_stays : {net : Net} {c s : ℕ} {C W : List ℕ} {marks : List Mark} (D : List ℕ) → IsWalk net c s C W marks
    → ((k : ℕ) → k < length W → get_or D (get_or W k 0) 0 ≡ get_or C (get_or W k 0) 0)
    → IsWalk net c s D W marks
walk_stays {net = net} {c = c} {W = W} D w same = record {
  live = λ k l.
      let old = w.live k l in
      live_with net D c (get_or W k 0) old.debt (live_class old)
      (omega (arith, live_claim old, same k l));
  links = w.links;
  marked = w.marked;
  placed = w.placed;
}

-- a cycle is being cancelled: the debts xs of it, from its first bank back to where the walk still
-- reaches, were lowered by m
pub record IsCancelling (net : Net) (c s place m : ℕ) (C : List ℕ) (before : List Mark)
    (D W : List ℕ) (marks : List Mark) : Type 0 where
  pub xs : List ℕ
  pub claims : D ≡ lowered C m xs
  pub can : CanLower C m xs
  pub classes : (k : ℕ) → k < length xs → class_of net (get_or xs k 0) ≡ c
  pub leads : Leads (debtor_of net) (creditor_of net) (get_or (stops net s W) place 0) xs
      (end_of net s W)
  pub within : place < length W + 1
  pub walk : IsWalk net c s D W marks
  pub enough : (k : ℕ) → place ≤ k → k < length W → m ≤ get_or D (get_or W k 0) 0
  pub others : (x : ℕ) → class_of net x ≢ c → get_or D x 0 ≡ get_or C x 0
  pub less : sum D + sum_by steps_left marks < sum C + sum_by steps_left before
  pub banks : length marks ≡ length before
  pub stays : (b : ℕ) → mark_of before b ≡ Done → mark_of marks b ≡ Done
  pub done : (R : List ℕ) → AreDone net c C R before → AreDone net c D R marks

-- it begins with the debt that closes it
pub cancelling_begins : (net : Net) (c s place m : ℕ) (C W : List ℕ) (marks : List Mark) (x : ℕ)
    → length C ≡ length net.debts
    → IsWalk net c s C W marks → IsLive net C c x → creditor_of net x ≡ end_of net s W
    → place < length W + 1 → get_or (stops net s W) place 0 ≡ debtor_of net x → 0 < m
    → m ≤ get_or C x 0
    → ((k : ℕ) → place ≤ k → k < length W → m ≤ get_or C (get_or W k 0) 0)
    → IsCancelling net c s place m C marks (set C x (get_or C x 0 - m)) W marks
cancelling_begins net c s place m C W marks x l w live link in_walk closed pos enough all =
    let other = λ (y : ℕ) (ne : y ≢ x). get_or-set_other C x y (get_or C x 0 - m) 0 ne in
    let same = λ (k : ℕ) (b : k < length W). other (get_or W k 0) (closing_apart x k w b link) in
    let r : x < length C = omega (arith, live.debt) in
    record {
      xs = x ∷ [];
      claims = refl;
      can = (r, enough, tt);
      classes = λ k b. let first : k ≡ 0 = omega arith in rw first (live_class live);
      leads = (sym closed, link);
      within = in_walk;
      walk = walk_stays (set C x (get_or C x 0 - m)) w same;
      enough = λ k g b. omega (arith, all k g b, same k b);
      others = λ y ne. other y (λ e. ne (ap (class_of net) e ∙ live_class live));
      less = omega (arith, sum_by-set (λ n. n) C x (get_or C x 0 - m) 0 r);
      banks = refl;
      stays = λ b e. e;
      done = λ R d. done_lowered (set C x (get_or C x 0 - m)) x d
          other (omega (arith, get_or-set_same C x (get_or C x 0 - m) 0 r))
          (λ e. walked_not_done (length W) (sym (w.marked (length W) (omega arith))
          ∙ ap (mark_of marks) (sym link) ∙ e));
    }

-- the last debt of the walk, on the way
pub record IsLast (net : Net) (c m : ℕ) (D : List ℕ) (y : ℕ) : Type 0 where
  pub live : IsLive net D c y
  pub enough : m ≤ get_or D y 0
  pub in_claims : y < length D

-- while a cycle is taken back, its last debt is of the class, has a claim of m and leads on
pub cancelling_last : {net : Net} {c s place m : ℕ} {C : List ℕ} {before : List Mark}
    {D : List ℕ} {marks : List Mark} (W : List ℕ) (y : ℕ)
    → length C ≡ length net.debts → IsCancelling net c s place m C before D (W ++ y ∷ []) marks
    → place < length W + 1 → IsLast net c m D y
cancelling_last {net = net} {c = c} {m = m} {C = C} {D = D} W y l old in_walk =
    let live = subst (IsLive net D c) (get_or_push W y 0 (length W) refl)
    (old.walk.live (length W) (omega (arith, length_push W y))) in
    record {
      live = live;
      enough = subst (λ x. m ≤ get_or D x 0) (get_or_push W y 0 (length W) refl)
          (old.enough (length W) (omega arith) (omega (arith, length_push W y)));
      in_claims = omega (arith, live.debt, ap length old.claims, length-lowered C m old.xs);
    }

-- and goes on with the last debt of the walk
pub cancelling_goes_on : (net : Net) (c s place m : ℕ) (C : List ℕ) (before : List Mark)
    (D W : List ℕ) (marks : List Mark) (y : ℕ)
    → IsNetwork net → length C ≡ length net.debts → length before ≡ length net.banks
    → IsCancelling net c s place m C before D (W ++ y ∷ []) marks → place < length W + 1 → 0 < m
    → IsCancelling net c s place m C before (set D y (get_or D y 0 - m)) W
    (set marks (debtor_of net y) New)
cancelling_goes_on net c s place m C before D W marks y network l bl old in_walk pos =
    let w = old.walk in
    let n = length_push W y in
    let last = cancelling_last W y l old in_walk in
    let live = last.live in
    let enough = last.enough in
    let link : creditor_of net y ≡ end_of net s W =
    ap (creditor_of net) (sym (get_or_push W y 0 (length W) refl))
    ∙ w.links (length W) (omega (arith, n)) ∙ stop_before net s W y (length W) (omega arith) in
    let r = last.in_claims in
    let b : debtor_of net y < length marks = omega
    (arith, (network.each_debt y live.debt).debtor_known, old.banks) in
    let was : mark_of marks (debtor_of net y) ≡ Walked (length W + 1) =
    ap (mark_of marks) (sym (stop_last net s W y (length W + 1) refl))
    ∙ w.marked (length W + 1) (omega (arith, n)) in
    let same : (x : ℕ) → x ≢ y → get_or (set D y (get_or D y 0 - m)) x 0 ≡ get_or D x 0 =
    λ x ne. get_or-set_other D y x (get_or D y 0 - m) 0 ne in
    record {
      xs = old.xs ++ y ∷ [];
      claims = ap (λ (E : List ℕ). set E y (get_or E y 0 - m)) old.claims
          ∙ sym (lowered_push C m old.xs y);
      can = can_push C m old.xs y old.can (omega arith)
          (omega (arith, enough, ap (λ (E : List ℕ). get_or E y 0) old.claims));
      classes = λ k h. ⊎_elim
          (λ (h : k < length old.xs). ap (class_of net) (get_or-append old.xs (y ∷ []) 0 k h)
          ∙ old.classes k h)
          (λ (g : length old.xs ≤ k). ap (class_of net)
          (get_or_push old.xs y 0 k (omega (arith, h, length_push old.xs y))) ∙ live_class live)
          (cases_lt k (length old.xs));
      leads = subst (λ i. Leads (debtor_of net) (creditor_of net) i (old.xs ++ y ∷ [])
          (end_of net s W)) (stop_before net s W y place in_walk)
          (subst (λ j. Leads (debtor_of net) (creditor_of net)
          (get_or (stops net s (W ++ y ∷ [])) place 0) (old.xs ++ y ∷ []) j) link
          (leads_push (debtor_of net) (creditor_of net)
          (get_or (stops net s (W ++ y ∷ [])) place 0)
          (end_of net s (W ++ y ∷ [])) old.xs y old.leads
          (sym (stop_last net s W y (length (W ++ y ∷ [])) n))));
      within = in_walk;
      walk = walk_back (set D y (get_or D y 0 - m)) W y New w same b
          (λ k e. absurd (cc));
      enough = λ k g h. omega (
        arith,
        same (get_or W k 0) (last_apart W y k w h),
        subst (λ x. m ≤ get_or D x 0) (get_or-append W (y ∷ []) 0 k h)
            (old.enough k g (omega (arith, n))),
      );
      others = λ x other. same x (λ e. other (ap (class_of net) e ∙ live_class live))
          ∙ old.others x other;
      less = omega (
        arith,
        old.less,
        enough,
        sum_by-set (λ n. n) D y (get_or D y 0 - m) 0 r,
        sum_by-set steps_left marks (debtor_of net y) New Done b,
        ap steps_left was,
      );
      banks = omega (arith, old.banks, length-set {A = Mark});
      stays = λ j e. marks_stay marks (debtor_of net y) New (λ f. walked_not_done (length W + 1) (sym was ∙ f))
          j (old.stays j e);
      done = λ R d. done_marked (debtor_of net y) New
          (done_lowered (set D y (get_or D y 0 - m)) y (old.done R d) same
          (omega (arith, get_or-set_same D y (get_or D y 0 - m) 0 r))
          (λ e. walked_not_done (length W) (sym (w.marked (length W) (omega (arith, n)))
          ∙ ap (mark_of marks) (stop_before net s W y (length W) (omega arith) ∙ sym link) ∙ e)))
          b (λ e. walked_not_done (length W + 1) (sym was ∙ e)) (λ e. absurd (cc));
    }

-- once the walk is back at the place, the cycle is closed and every balance is as before
pub cancelling_ends : {net : Net} {c s place m : ℕ} {C : List ℕ} {before : List Mark}
    {D W : List ℕ} {marks : List Mark}
    → length C ≡ length net.debts → IsCancelling net c s place m C before D W marks
    → length W ≤ place → IsKept net c C D before marks
cancelling_ends {net = net} {c = c} {s = s} {place = place} {m = m} {C = C} {W = W} l old back =
    let at : place ≡ length W = omega (arith, old.within) in
    record {
      as_many = ap length old.claims ∙ length-lowered C m old.xs;
      falls = subst (λ E. IsAtMost E C) (sym old.claims) (lowered_le C m old.xs);
      others = old.others;
      balances = λ k b kept. subst (λ E. IsBalanceKept net E k b) (sym old.claims)
          (cycle_keeps net C m k c b (end_of net s W) old.xs l old.can old.classes
          (subst (λ p. Leads (debtor_of net) (creditor_of net) (get_or (stops net s W) p 0) old.xs
          (end_of net s W)) at old.leads) kept);
      banks = old.banks;
      stays = old.stays;
    }

-- a walk is its debts before the last, and the last
pub split_last : (ids before : List Step) (n : ℕ) (d : Step) → before ≡ take (n - 1) ids
    → n ≡ length ids → 0 < n → d ≡ get_or ids (n - 1) d
    → numbers ids ≡ numbers before ++ d.debt.0 ∷ []
split_last ids before n d e l pos at =
    rw (e, at, ← map_more (λ (s : Step). s.debt.0) ids (n - 1) d (omega arith))
    (ap numbers (sym (take_all (n - 1 + 1) ids (omega arith))))

module _ {net : Net} {c s place m : ℕ} {C : List ℕ} {before : List Mark} {D : List ℕ}
    {ks : List Step} {marks : List Mark} {n : ℕ} {d : Step} (ids : List Step)
    (network : IsNetwork net) (l : length C ≡ length net.debts)
    (bl : length before ≡ length net.banks) (e : ks ≡ take (n - 1) ids) (len : n ≡ length ids)
    (at : d ≡ get_or ids (n - 1) d) (more : place < n)
    (old : IsCancelling net c s place m C before D (numbers ids) marks) where
  -- as the walk's debts are given with the last one apart, the cycle is taken back so far
  parted : IsCancelling net c s place m C before D (numbers ks ++ d.debt.0 ∷ []) marks
  parted = subst (λ W. IsCancelling net c s place m C before D W marks)
      (split_last ids ks n d e len (omega arith) at) old

  -- where the cycle begins is not past the last debt
  in_front : place < length (numbers ks) + 1
  in_front = omega (arith, length-map ks (λ s. s.debt.0), ap length e, length-take (n - 1) ids)

  -- the last step is of a debt of the class that has at least m
  pub step_last : IsLast net c m D d.debt.0
  step_last = cancelling_last (numbers ks) d.debt.0 l parted in_front

  -- with that debt lowered and its debtor new, the cycle is taken back one debt further
  pub step_more : IsStep net d → 0 < m
      → IsCancelling net c s place m C before (set D d.debt.0 (get_or D d.debt.0 0 - m)) (numbers ks)
      (set marks d.debtor.0 New)
  step_more told pos =
      subst (λ b. IsCancelling net c s place m C before (set D d.debt.0 (get_or D d.debt.0 0 - m))
      (numbers ks) (set marks b New)) (sym told)
      (cancelling_goes_on net c s place m C before D
      (numbers ks) marks d.debt.0 network l bl parted in_front pos)

  -- the last step of the walk is one
  pub last_is_step : All (IsStep net) ids → IsStep net d
  last_is_step all = subst (IsStep net) (sym at) (all (n - 1) d (omega (arith, more)))
