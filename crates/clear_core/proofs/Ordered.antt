-- Raises in order are the same raises, and a history, put in order, stands and replays to the greatest amount of each debt.
use Rattle.std.proofs.Common.{◌≡◌, ◌≢◌, ◌⊎◌, ℕ, zero, suc, ◌<◌, ◌≤◌, max, Bool, true, false, cond, List, [], ◌∷◌, ◌++◌, All, length, get_or, set, sym, refl, ap, ◌∙◌, subst, inl, inr, ⊎_elim, arith, zero-le}
use Rattle.std.specs.List.{AllPairs, Contains}
use Rattle.std.specs.List.Sorted.{IsPermutation}
use Rattle.std.proofs.lemmas.Grind.{common_steps}
use Rattle.std.proofs.lemmas.Bool.{cases_eq}
use Rattle.std.proofs.lemmas.Bool.Decides.{nat_tests}
use Rattle.std.proofs.lemmas.List.{get_or-set_same, length-replicate, length-set}
use Rattle.std.proofs.lemmas.List.Elements.{All-cons, All-tail, All-contains, Contains-get_or}
use Rattle.std.proofs.lemmas.List.Sorted.{All-permutation, IsPermutation-refl, IsPermutation-cons, IsPermutation-middle, IsPermutation-trans, length_permutation}
use Rattle.std.proofs.lemmas.Option.{slice_get-get_or, slice_get_within, get_or_from_slice_get}
use Rattle.clr_net.specs.Net.{Net}
use Rattle.clr_net.proofs.Lists.{zeros_at}
use Rattle.clear_core.specs.declared.event.Raise.{Raise}
use Rattle.clear_core.specs.Clearing.{pay, zeros}
use Rattle.clear_core.specs.History.{replayed_from, replayed, StandsFrom, Stands, IsLawful, paid_before, IsTraced, may_precede, with_raise, ordered, raised_to, IsHistory}
use Rattle.clear_core.proofs.Before.{paid_before_within, paid_before_grows}
use Rattle.clear_core.proofs.Lawful.{lawful_in_range, raised_by}
use Rattle.clear_core.proofs.Pay.{pay_mono}

-- a raise that may not precede another may follow it
pub follows : (a b : Raise) → may_precede a b ≡ false → may_precede b a ≡ true
follows a b h = grind (arith, common_steps, h)

-- what may precede a second that may precede a third may precede that
pub precedes_trans : (a b c : Raise) → may_precede a b ≡ true → may_precede b c ≡ true → may_precede a c ≡ true
precedes_trans a b c h g = grind (arith, common_steps, h, g)

-- what may precede another has no greater stamp
precedes_stamp : (a b : Raise) → may_precede a b ≡ true → a.stamp ≤ b.stamp
precedes_stamp a b h = grind (arith, common_steps, h)

-- a raise put in its place, and raises put in order, are the same raises
put_moves : (r : Raise) (rs : List Raise) → IsPermutation (r ∷ rs) (with_raise r rs)
put_moves r [] = IsPermutation-refl (r ∷ [])
put_moves r (q ∷ rs) = by_test (may_precede r q) (put_moves r rs)
  where
    by_test : (b : Bool) → IsPermutation (r ∷ rs) (with_raise r rs) → IsPermutation (r ∷ q ∷ rs) (cond b (r ∷ q ∷ rs) (q ∷ with_raise r rs))
    by_test true h = IsPermutation-refl (r ∷ q ∷ rs)
    by_test false h = IsPermutation-trans (r ∷ q ∷ rs) (q ∷ r ∷ rs) (q ∷ with_raise r rs) (IsPermutation-middle (r ∷ []) q rs) (IsPermutation-cons q (r ∷ rs) (with_raise r rs) h)

-- so are all of them in order
pub ordered_moves : (rs : List Raise) → IsPermutation rs (ordered rs)
ordered_moves [] = IsPermutation-refl []
ordered_moves (r ∷ rs) = IsPermutation-trans (r ∷ rs) (r ∷ ordered rs) (with_raise r (ordered rs)) (IsPermutation-cons r rs (ordered rs) (ordered_moves rs)) (put_moves r (ordered rs))

-- and as many
pub length-ordered : (rs : List Raise) → length (ordered rs) ≡ length rs
length-ordered rs = length_permutation rs (ordered rs) (ordered_moves rs)

-- what holds of each two of a list holds of the first and each after it, and of each two of the others
module _ (R : Raise → Raise → Type 0) (r : Raise) (rs : List Raise) where
  -- the first holds with each after it
  pairs_head : AllPairs R (r ∷ rs) → All (R r) rs
  pairs_head h k d l = h 0 (suc k) d (omega arith) (omega arith)

  -- and the others with one another
  pairs_tail : AllPairs R (r ∷ rs) → AllPairs R rs
  pairs_tail h i j d l m = h (suc i) (suc j) d (omega arith) (omega arith)

  -- both together give all pairs
  pairs_cons : All (R r) rs → AllPairs R rs → AllPairs R (r ∷ rs)
  pairs_cons f h i zero d l m = absurd (omega arith)
  pairs_cons f h zero (suc j) d l m = f j d (omega arith)
  pairs_cons f h (suc i) (suc j) d l m = h i j d (omega arith) (omega arith)

-- a raise may precede another, and D holds of the two
abbrev IsAhead : (Raise → Raise → Type 0) → Raise → Raise → Type 0
IsAhead D a b = (may_precede a b ≡ true) × D a b

module _ (D : Raise → Raise → Type 0) (both_ways : (a b : Raise) → D a b → D b a) where
  -- a raise put in its place holds with the others as they do
  put_pairs : (r : Raise) (rs : List Raise) → All (D r) rs → AllPairs (IsAhead D) rs → AllPairs (IsAhead D) (with_raise r rs)
  put_pairs r [] f h = pairs_cons (IsAhead D) r [] (λ k d l. absurd (omega arith)) h
  put_pairs r (q ∷ rs) f h =
      by_test (may_precede r q) refl (put_pairs r rs (All-tail (D r) q rs f) (pairs_tail (IsAhead D) q rs h))
    where
      after_q : All (IsAhead D q) rs
      after_q = pairs_head (IsAhead D) q rs h

      by_test : (b : Bool) → may_precede r q ≡ b → AllPairs (IsAhead D) (with_raise r rs)
          → AllPairs (IsAhead D) (cond b (r ∷ q ∷ rs) (q ∷ with_raise r rs))
      by_test true e later = pairs_cons (IsAhead D) r (q ∷ rs)
          (All-cons (IsAhead D r) q rs (e, f 0 q (omega arith))
          (λ k d l. (precedes_trans r q (get_or rs k d) e (after_q k d l).0, f (suc k) d (omega arith)))) h
      by_test false e later = pairs_cons (IsAhead D) q (with_raise r rs)
          (All-permutation (IsAhead D q) (r ∷ rs) (with_raise r rs) (put_moves r rs)
          (All-cons (IsAhead D q) r rs (follows r q e, both_ways r q (f 0 q (omega arith))) after_q)) later

  -- what holds of each two raises, either way round, holds of each two in order
  ordered_pairs : (rs : List Raise) → AllPairs D rs → AllPairs (IsAhead D) (ordered rs)
  ordered_pairs [] h = λ i j d l m. absurd (omega arith)
  ordered_pairs (r ∷ rs) h = put_pairs r (ordered rs)
      (All-permutation (D r) rs (ordered rs) (ordered_moves rs) (pairs_head D r rs h))
      (ordered_pairs rs (pairs_tail D r rs h))

-- each raise may precede the next one
abbrev pub MayFollow : Raise → List Raise → Type 0
MayFollow q [] = Unit {0}
MayFollow q (r ∷ rs) = may_precede q r ≡ true

-- the first may precede the second, and so on
unfoldable pub InTurn : List Raise → Type 0
InTurn [] = Unit {0}
InTurn (r ∷ rs) = MayFollow r rs × InTurn rs

-- so it is where each may precede all after it, and once the raises are in order
turn_from : (D : Raise → Raise → Type 0) (rs : List Raise) → AllPairs (IsAhead D) rs → InTurn rs
unfolding InTurn
turn_from D [] h = tt
turn_from D (r ∷ []) h = (tt, tt)
turn_from D (r ∷ q ∷ rs) h = ((h 0 1 r (omega arith) (omega arith)).0, turn_from D (q ∷ rs) (pairs_tail (IsAhead D) r (q ∷ rs) h))

-- raises in order are in turn
pub in_turn : (rs : List Raise) → InTurn (ordered rs)
in_turn rs = let D = λ (a b : Raise). Unit {0} in turn_from D (ordered rs) (ordered_pairs D (λ a b u. u) rs (λ i j d l m. tt))

-- raises in turn stay as they are when put in order
turn_kept : (rs : List Raise) → InTurn rs → ordered rs ≡ rs
unfolding InTurn
turn_kept [] h = refl
turn_kept (r ∷ rs) h = ap (with_raise r) (turn_kept rs h.1) ∙ put_first r rs h.0
  where
    put_first : (r : Raise) (rs : List Raise) → MayFollow r rs → with_raise r rs ≡ r ∷ rs
    put_first r [] m = refl
    put_first r (q ∷ rs) m = ap (λ b. cond b (r ∷ q ∷ rs) (q ∷ with_raise r rs)) m

-- so putting them in order twice changes nothing
pub ordered_again : (rs : List Raise) → ordered (ordered rs) ≡ ordered rs
ordered_again rs = turn_kept (ordered rs) (in_turn rs)

-- a raise goes before those of greater stamp
put_before : (r : Raise) (xs ys : List Raise) → All (λ q. r.stamp < q.stamp) ys → with_raise r (xs ++ ys) ≡ with_raise r xs ++ ys
put_before r [] [] h = refl
put_before r [] (q ∷ ys) h =
    let less = h 0 q (omega arith) in
    let first : may_precede r q ≡ true = grind (arith, common_steps, less) in
    ap (λ b. cond b (r ∷ q ∷ ys) (q ∷ with_raise r ys)) first
put_before r (x ∷ xs) ys h = by_test (may_precede r x) (put_before r xs ys h)
  where
    by_test : (b : Bool) → with_raise r (xs ++ ys) ≡ with_raise r xs ++ ys
        → cond b (r ∷ x ∷ xs ++ ys) (x ∷ with_raise r (xs ++ ys)) ≡ cond b (r ∷ x ∷ xs) (x ∷ with_raise r xs) ++ ys
    by_test true e = refl
    by_test false e = ap (λ zs. x ∷ zs) e

-- raises all of whose stamps are above those of others stand after them
pub ordered_after_all : (xs ys : List Raise) → All (λ b. All (λ a. a.stamp < b.stamp) xs) ys
    → ordered (xs ++ ys) ≡ ordered xs ++ ordered ys
ordered_after_all [] ys h = refl
ordered_after_all (x ∷ xs) ys h =
    ap (with_raise x) (ordered_after_all xs ys (λ m e n k d l. h m e n (suc k) d (omega arith)))
    ∙ put_before x (ordered xs) (ordered ys) (All-permutation (λ (b : Raise). x.stamp < b.stamp) ys (ordered ys) (ordered_moves ys) (λ m e n. h m e n 0 x (omega arith)))

-- where it is put makes no difference to the greatest amount of a debt
raised_to_put : (r : Raise) (rs : List Raise) (x : ℕ) → raised_to (with_raise r rs) x ≡ raised_to (r ∷ rs) x
raised_to_put r [] x = refl
raised_to_put r (q ∷ rs) x = by_test (may_precede r q) (raised_to_put r rs x)
  where
    by_test : (b : Bool) → raised_to (with_raise r rs) x ≡ raised_to (r ∷ rs) x
        → raised_to (cond b (r ∷ q ∷ rs) (q ∷ with_raise r rs)) x ≡ raised_to (r ∷ q ∷ rs) x
    by_test true e = refl
    by_test false e = omega (arith, e)

-- the greatest amount of a debt does not depend on the order
raised_to_ordered : (rs : List Raise) (x : ℕ) → raised_to (ordered rs) x ≡ raised_to rs x
raised_to_ordered [] x = refl
raised_to_ordered (r ∷ rs) x = omega (arith, raised_to_put r (ordered rs) x, raised_to_ordered rs x)

-- each raise of a journal that stands pays more on its debt, so that it replays to the greatest amount of each
replayed_from_at : (net : Net) (stamp : ℕ) (P : List ℕ) (rs : List Raise) (y : ℕ) → y < length P → StandsFrom net stamp P rs
    → get_or (replayed_from P rs) y 0 ≡ max (get_or P y 0) (raised_to rs y)
unfolding StandsFrom replayed_from
replayed_from_at net stamp P [] y l s = omega arith
replayed_from_at net stamp P (r ∷ rs) y l s =
    let rest = replayed_from_at net r.stamp (set P r.debt.0 r.to) rs y (omega (arith, length-set P r.debt.0 r.to)) s.2 in
    let more = s.1.0 in
    grind (arith, common_steps, nat_tests, rest, more)

-- a later raise of the same debt has the greater stamp and the greater amount
abbrev IsLater : Raise → Raise → Type 0
IsLater a b = (a.stamp ≤ b.stamp) × (a.debt.0 ≡ b.debt.0 → (a.stamp < b.stamp) × (a.to < b.to))

module _ (net : Net) (whole : List Raise) where
  -- each raise is within what the raises of smaller stamp allow
  abbrev IsWithin : Raise → Type 0
  IsWithin r = r.to ≤ get_or (pay net (paid_before net r.stamp whole)) r.debt.0 0

  -- each raise stands in the rest, or so much is paid on its debt
  abbrev IsCovered : List ℕ → List Raise → Type 0
  IsCovered P rest = All (λ b. Contains rest b ⊎ (b.to ≤ get_or P b.debt.0 0)) whole

  -- raises within what came before, from these payments on, stand
  stands_from : (stamp : ℕ) (P : List ℕ) (rest : List Raise) → All (λ r. stamp ≤ r.stamp) rest → AllPairs IsLater rest
      → All (λ r. get_or P r.debt.0 0 < r.to) rest → All IsWithin rest → length P ≡ length net.debts → IsCovered P rest
      → StandsFrom net stamp P rest
  unfolding StandsFrom
  stands_from stamp P [] s t h w e c = tt
  stands_from stamp P (r ∷ rs) s t h w e c = (
    s 0 r (omega arith),
    lawful,
    stands_from r.stamp (set P r.debt.0 r.to) rs (λ k d l. (later k d l).0) (pairs_tail IsLater r rs t) still_less
        (All-tail IsWithin r rs w) (length-set P r.debt.0 r.to ∙ e) covered,
  )
    where
      later : All (IsLater r) rs
      later = pairs_head IsLater r rs t

      -- what has a smaller stamp is paid
      paid : All (λ b. b.stamp < r.stamp → b.to ≤ get_or P b.debt.0 0) whole
      paid k d l less = ⊎_elim
          (λ (left : Contains (r ∷ rs) (get_or whole k d)). absurd (omega (
            arith,
            less,
            All-contains (λ (b : Raise). r.stamp ≤ b.stamp) (r ∷ rs) (get_or whole k d)
                (All-cons (λ (b : Raise). r.stamp ≤ b.stamp) r rs (omega arith) (λ k d l. (later k d l).0)) left,
          )))
          (λ (done : (get_or whole k d).to ≤ get_or P (get_or whole k d).debt.0 0). done)
          (c k d l)

      lawful : IsLawful net P r
      lawful = (
        h 0 r (omega arith),
        omega (
          arith,
          w 0 r (omega arith),
          pay_mono net (paid_before net r.stamp whole) P (paid_before_within net r.stamp whole P paid) r.debt.0,
        ),
      )

      still_less : All (λ b. get_or (set P r.debt.0 r.to) b.debt.0 0 < b.to) rs
      still_less k d l =
          let b = get_or rs k d in
          let less = h (suc k) d (omega arith) in
          ⊎_elim
          (λ (same : r.debt.0 ≡ b.debt.0). grind (arith, common_steps, ((later k d l).1 same).1, less, same))
          (λ (ne : r.debt.0 ≢ b.debt.0). grind (arith, common_steps, less, ne))
          (cases_eq r.debt.0 b.debt.0)

      left_or_paid : (b : Raise) (k : ℕ) → k < length (r ∷ rs) → get_or (r ∷ rs) k b ≡ b
          → Contains rs b ⊎ (b.to ≤ get_or (set P r.debt.0 r.to) b.debt.0 0)
      left_or_paid b zero l same = inr (subst (λ (b : Raise). b.to ≤ get_or (set P r.debt.0 r.to) b.debt.0 0) same
          (omega (arith, get_or-set_same P r.debt.0 r.to 0 (omega (arith, e, lawful_in_range net P r lawful)))))
      left_or_paid b (suc k) l same = inl (k, omega arith, same)

      covered : IsCovered (set P r.debt.0 r.to) rs
      covered k d l = ⊎_elim
          (λ (left : Contains (r ∷ rs) (get_or whole k d)). left_or_paid (get_or whole k d) left.0 left.1 left.2)
          (λ (done : (get_or whole k d).to ≤ get_or P (get_or whole k d).debt.0 0).
          inr (omega (arith, done, raised_by P r.debt.0 r.to lawful.0 (get_or whole k d).debt.0)))
          (c k d l)

module _ (net : Net) (rs : List Raise) (history : IsHistory net rs) where
  -- two raises of a history, in whatever order they stand
  abbrev AreApart : Raise → Raise → Type 0
  AreApart a b =
      ((a.stamp ≢ b.stamp) ⊎ (a.debt ≢ b.debt))
      × (a.debt ≡ b.debt → a.stamp < b.stamp → a.to < b.to)
      × (b.debt ≡ a.debt → b.stamp < a.stamp → b.to < a.to)

  -- two that are apart are so in either order
  apart_either_way : (a b : Raise) → AreApart a b → AreApart b a
  apart_either_way a b h = (
    ⊎_elim (λ (d : a.stamp ≢ b.stamp). inl (λ e. d (sym e))) (λ (d : a.debt ≢ b.debt). inr (λ e. d (sym e))) h.0,
    h.2,
    h.1,
  )

  -- any two in order are apart
  apart : AllPairs (IsAhead AreApart) (ordered rs)
  apart = ordered_pairs AreApart apart_either_way rs (λ i j d l m.
      let a = slice_get-get_or rs i d (omega arith) in
      let b = slice_get-get_or rs j d m in
      (history.traced.differ i j _ _ l a b, history.rises i j _ _ a b, history.rises j i _ _ b a))

  -- and any two of one debt rise
  later : AllPairs IsLater (ordered rs)
  later i j d l m =
      let p = apart i j d l m in
      is_later (get_or (ordered rs) i d) (get_or (ordered rs) j d) p.1
      (precedes_stamp (get_or (ordered rs) i d) (get_or (ordered rs) j d) p.0)
    where
      same_debt : (a b : Raise) → a.debt.0 ≡ b.debt.0 → a.debt ≡ b.debt
      same_debt a b e = ap (λ (n : ℕ). record { 0 = n }) e

      is_later : (a b : Raise) → AreApart a b → a.stamp ≤ b.stamp → IsLater a b
      is_later a b h l = (
        l,
        λ e.
            let less : a.stamp < b.stamp = ⊎_elim
            (λ (d : a.stamp ≢ b.stamp). omega (arith, d))
            (λ (d : a.debt ≢ b.debt). absurd (d (same_debt a b e)))
            h.0 in
            (less, h.1 (same_debt a b e) less),
      )

  -- each raise in order is above 0
  above_zero : All (λ r. 0 < r.to) (ordered rs)
  above_zero = All-permutation (λ (r : Raise). 0 < r.to) rs (ordered rs) (ordered_moves rs)
      (λ k d l. history.above_zero k _ (slice_get-get_or rs k d l))

  -- and within what came before it
  within : All (IsWithin net (ordered rs)) (ordered rs)
  within = All-permutation (IsWithin net (ordered rs)) rs (ordered rs) (ordered_moves rs) (λ k d l.
      let r = get_or rs k d in
      omega (
        arith,
        history.traced.within k r (slice_get-get_or rs k d l),
        pay_mono net (paid_before net r.stamp rs) (paid_before net r.stamp (ordered rs))
            (paid_before_grows net r.stamp rs r.stamp (ordered rs) (omega arith) (ordered_moves rs)) r.debt.0,
      ))

  -- in order, it is traced as well
  pub ordered_is_traced : IsTraced net (ordered rs)
  ordered_is_traced = record {
    differ = λ i j a b l e f.
        rw (get_or_from_slice_get (ordered rs) i a a e, get_or_from_slice_get (ordered rs) j b a f) at
        (apart i j a l (slice_get_within (ordered rs) j b f)).1.0;
    within = λ i r e. subst (IsWithin net (ordered rs)) (get_or_from_slice_get (ordered rs) i r r e)
        (within i r (slice_get_within (ordered rs) i r e));
  }

  -- it stands
  pub ordered_stands : Stands net (ordered rs)
  ordered_stands =
      stands_from net (ordered rs) 0 (zeros net) (ordered rs) (λ k d l. zero-le) later
      (λ k d l. omega (arith, above_zero k d l, zeros_at (length net.debts) (get_or (ordered rs) k d).debt.0))
      within (length-replicate (length net.debts) 0) (λ k d l. inl (Contains-get_or (ordered rs) k d l))

  -- and it replays to the greatest amount of each debt
  pub ordered_replays : (x : ℕ) → x < length net.debts → get_or (replayed net (ordered rs)) x 0 ≡ raised_to rs x
  ordered_replays x l = omega (
    arith,
    replayed_from_at net 0 (zeros net) (ordered rs) x (omega (arith, l, length-replicate {A = ℕ} (length net.debts) 0)) ordered_stands,
    zeros_at (length net.debts) x,
    raised_to_ordered rs x,
  )
