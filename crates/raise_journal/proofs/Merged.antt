-- Raises that are merged are the same raises, and in order they are the same list.
use Rattle.std.proofs.Common.{◌≡◌, ◌⊎◌, ℕ, zero, suc, ◌+◌, ◌-◌, ◌<◌, ◌≤◌, not, Bool, true, false, List, [], ◌∷◌, ◌++◌, length, length-drop, get_or, set, take, drop, refl, sym, ap, ◌∙◌, subst, ⊎_elim, arith, add-one, append_assoc}
use Rattle.std.proofs.lemmas.List.{append-nil, drop-set, drop_all, drop_at, get_or_default, length-set, take-append-drop, take-set-le, take_all, take_at, take_more}
use Rattle.std.specs.List.Sorted.{IsPermutation}
use Rattle.std.proofs.lemmas.List.Sorted.{IsPermutation-refl, IsPermutation-middle, IsPermutation-append, IsPermutation-append_left, IsPermutation-append_right, IsPermutation-sym, IsPermutation-trans}
use Rattle.std.proofs.lemmas.Bool.{not-false, not-true}
use Rattle.clear_core.specs.declared.event.Raise.{Raise}
use Rattle.clear_core.specs.History.{may_precede, ordered}
use Rattle.clear_core.proofs.Ordered.{InTurn, follows, in_turn, ordered_moves}
use Rattle.clear_core.proofs.OneOrder.{only_order}
use Rattle.raise_journal.specs.Gathered.{AreInOrder, HasGrownBy, HasMerged}

-- raises in turn, by their places
turn_at : (rs : List Raise) → InTurn rs → (k : ℕ) (d : Raise) → suc k < length rs → may_precede (get_or rs k d) (get_or rs (suc k) d) ≡ true
unfolding InTurn
turn_at [] h k d l = absurd (omega arith)
turn_at (r ∷ []) h k d l = absurd (omega arith)
turn_at (r ∷ q ∷ rs) h zero d l = h.0
turn_at (r ∷ q ∷ rs) h (suc k) d l = turn_at (q ∷ rs) h.1 k d (omega arith)

-- the raise in a place may precede the next one
next_at : (rs : List Raise) → InTurn rs → (k : ℕ) (d : Raise) → k + 1 < length rs → may_precede (get_or rs k d) (get_or rs (k + 1) d) ≡ true
next_at rs h k d l = rw add-one (turn_at rs h k d (omega arith))

-- raises in turn up to a place, and from a place on
turn_front : (xs ys : List Raise) → InTurn (xs ++ ys) → InTurn xs
unfolding InTurn
turn_front [] ys h = tt
turn_front (x ∷ []) ys h = (tt, tt)
turn_front (x ∷ q ∷ xs) ys h = (h.0, turn_front (q ∷ xs) ys h.1)

-- what follows a place is in turn too
turn_back : (xs ys : List Raise) → InTurn (xs ++ ys) → InTurn ys
unfolding InTurn
turn_back [] ys h = h
turn_back (x ∷ xs) ys h = turn_back xs ys h.1

-- raises in turn before others in turn, where the last may precede the first
turn_joined : (xs : List Raise) (x y : Raise) (ys : List Raise) → InTurn (xs ++ x ∷ []) → may_precede x y ≡ true → InTurn (y ∷ ys) → InTurn (xs ++ x ∷ y ∷ ys)
unfolding InTurn
turn_joined [] x y ys h e g = (e, g)
turn_joined (a ∷ []) x y ys h e g = (h.0, (e, g))
turn_joined (a ∷ b ∷ xs) x y ys h e g = (h.0, turn_joined (b ∷ xs) x y ys h.1 e g)

-- the same raises have one order
pub ordered_permuted : (rs qs : List Raise) → IsPermutation rs qs → ordered qs ≡ ordered rs
ordered_permuted rs qs moved =
    only_order rs (ordered qs) (IsPermutation-trans rs qs (ordered qs) moved (ordered_moves qs))
    (next_at (ordered qs) (in_turn qs))

-- so it is after others
pub ordered_moved : (xs rs qs : List Raise) → IsPermutation rs qs → ordered (xs ++ qs) ≡ ordered (xs ++ rs)
ordered_moved xs rs qs moved = ordered_permuted (xs ++ rs) (xs ++ qs) (IsPermutation-append_right xs rs qs moved)

-- a list that has grown by raises has in order what it has with them at its end
pub grown_ordered : (old new rs : List Raise) → HasGrownBy old new rs → ordered new ≡ ordered (old ++ rs)
grown_ordered old new rs h = ap ordered h.is ∙ ordered_moved old rs h.added h.moved

-- it grows by none, by raises at its end, and by more and more raises
pub grown_none : (old : List Raise) → HasGrownBy old old []
grown_none old = record { added = []; is = sym (append-nil old); moved = IsPermutation-refl [] }

-- a journal grows by what is added at its end
pub grown_at_end : (old rs : List Raise) → HasGrownBy old (old ++ rs) rs
grown_at_end old rs = record { added = rs; is = refl; moved = IsPermutation-refl rs }

-- and by more and more raises
pub grown_then : (old mid new rs more : List Raise) → HasGrownBy old mid rs → HasGrownBy mid new more → HasGrownBy old new (rs ++ more)
grown_then old mid new rs more h g = record {
  added = h.added ++ g.added;
  is = g.is ∙ ap (λ xs. xs ++ g.added) h.is ∙ append_assoc old h.added g.added;
  moved = IsPermutation-append rs h.added more g.added h.moved g.moved;
}

-- raises merged into what it has grown by so far
pub grown_merged : (old mid new rs more : List Raise) → HasGrownBy old mid rs → HasMerged mid new (length old) more → HasGrownBy old new (rs ++ more)
grown_merged old mid new rs more h g =
    let front : take (length old) mid ≡ old = ap (take (length old)) h.is ∙ take_at old h.added (length old) refl in
    let back : drop (length old) mid ≡ h.added = ap (drop (length old)) h.is ∙ drop_at old h.added (length old) refl in
    record {
      added = g.added;
      is = g.is ∙ ap (λ xs. xs ++ g.added) front;
      moved = IsPermutation-trans (rs ++ more) (h.added ++ more) g.added (IsPermutation-append_left more rs h.added h.moved)
          (subst (λ xs. IsPermutation (xs ++ more) g.added) back g.moved);
    }

-- raises in turn are in order, and the other way
turn_in_order : (rs : List Raise) → InTurn rs → AreInOrder rs
turn_in_order rs h = sym (only_order rs rs (IsPermutation-refl rs) (next_at rs h))

-- raises that are in order are in turn
in_order_turn : (rs : List Raise) → AreInOrder rs → InTurn rs
in_order_turn rs h = subst InTurn h (in_turn rs)

-- a list while it is merged: the old raises that stay, the new ones that are left, and what is
-- merged of both
pub record AreParted (whole olds news kept left merged : List Raise) : Type 0 where
  moved : IsPermutation whole (kept ++ (left ++ merged))
  turn : InTurn olds → InTurn news → InTurn (kept ++ merged) × InTurn (left ++ merged)

module _ {whole olds news : List Raise} where
  -- the last old raise goes before what is merged, where the last new one may precede it
  part_old : (ks ns ms : List Raise) (x y : Raise) → may_precede y x ≡ true → AreParted whole olds news (ks ++ x ∷ []) (ns ++ y ∷ []) ms
      → AreParted whole olds news ks (ns ++ y ∷ []) (x ∷ ms)
  part_old ks ns ms x y e h =
      let left = ns ++ y ∷ [] in
      record {
        moved = IsPermutation-trans whole ((ks ++ x ∷ []) ++ (left ++ ms)) (ks ++ (left ++ x ∷ ms)) h.moved
            (rw (append_assoc ks (x ∷ []) (left ++ ms))
            (IsPermutation-append_right ks (x ∷ (left ++ ms)) (left ++ x ∷ ms) (IsPermutation-sym (left ++ x ∷ ms) (x ∷ (left ++ ms)) (IsPermutation-middle left x ms))));
        turn = λ o n.
            let t = h.turn o n in
            let first : InTurn (ks ++ x ∷ ms) = rw (append_assoc ks (x ∷ []) ms) at t.0 in (
              first,
              rw (append_assoc ns (y ∷ []) (x ∷ ms))
                  (turn_joined ns y x ms (turn_front left ms t.1) e (turn_back ks (x ∷ ms) first)),
            );
      }

  -- the last new raise goes there, where no old one stays, or the last of them may precede it
  part_new : (ks ns ms : List Raise) (y : Raise) → (InTurn ks → InTurn (y ∷ ms) → InTurn (ks ++ y ∷ ms)) → AreParted whole olds news ks (ns ++ y ∷ []) ms
      → AreParted whole olds news ks ns (y ∷ ms)
  part_new ks ns ms y joins h = record {
    moved = rw (append_assoc ns (y ∷ []) ms) at h.moved;
    turn = λ o n.
        let t = h.turn o n in
        let second : InTurn (ns ++ y ∷ ms) = rw (append_assoc ns (y ∷ []) ms) at t.1 in
        (joins (turn_front ks ms t.0) (turn_back ns (y ∷ ms) second), second);
  }

-- the places of a list while it is merged: so many old raises stay, and so many new ones are left
pub record IsMerging (first all rs : List Raise) (kept left : ℕ) : Type 0 where
  pub many : kept + left ≤ length all
  pub few : left ≤ length rs
  pub parted : AreParted first (take (length first - length rs) first) rs (take kept all) (take left rs) (drop (kept + left) all)

-- what a read of a list of raises gives past its end
abbrev pub no_raise : Raise
no_raise = record { stamp = 0; debt = record { 0 = 0 }; to = 0 }

-- the last old raise that stays may precede this one, where one stays
abbrev pub IsPlaced : List Raise → ℕ → Raise → Type 0
IsPlaced all kept y = (k : ℕ) → kept ≡ k + 1 → may_precede (get_or all k no_raise) y ≡ true

-- where none stays, any raise may be placed
pub placed_first : (all : List Raise) (kept : ℕ) (y : Raise) → kept ≤ 0 → IsPlaced all kept y
placed_first all kept y none k e = absurd (omega arith)

-- where the last that stays may precede it, it may
pub placed_after : (all : List Raise) (kept : ℕ) (y : Raise) → may_precede (get_or all (kept - 1) no_raise) y ≡ true → IsPlaced all kept y
placed_after all kept y h k e = let same : kept - 1 ≡ k = omega arith in rw same at h

-- what a look at two raises says
pub stands_before : (x y : Raise) (b : Bool) → b ≡ not (may_precede x y) → b ≡ false → may_precede x y ≡ true
stands_before x y b e f = not-false (may_precede x y) (sym e ∙ f)

-- a raise that may not stand behind another may precede it
pub stands_behind : (x y : Raise) (b : Bool) → b ≡ not (may_precede x y) → b ≡ true → may_precede y x ≡ true
stands_behind x y b e t = follows x y (not-true (may_precede x y) (sym e ∙ t))

-- so the old raises that stay and this one are in turn
placed_joins : (all ms : List Raise) (kept : ℕ) (y : Raise) → kept ≤ length all → IsPlaced all kept y
    → InTurn (take kept all) → InTurn (y ∷ ms) → InTurn (take kept all ++ y ∷ ms)
placed_joins all ms zero y l p h g = g
placed_joins all ms (suc k) y l p h g =
    let x = get_or all k no_raise in
    let is : take (suc k) all ≡ take k all ++ x ∷ [] = ap (λ n. take n all) (sym (add-one k)) ∙ take_more all k no_raise (omega arith) in
    rw (is, append_assoc (take k all) (x ∷ []) (y ∷ ms)) (turn_joined (take k all) x y ms (rw is at h) (p k (omega arith)) g)

-- where merging begins
pub merging_first : (all rs : List Raise) → drop (length all - length rs) all ≡ rs → IsMerging all all rs (length all - length rs) (length rs)
merging_first all rs e =
    let kept = length all - length rs in
    let count : length all - kept ≡ length rs = omega (arith, ap length e, length-drop kept all) in
    let end : drop (kept + length rs) all ≡ [] = drop_all (kept + length rs) all (omega (arith, count)) in
    record {
      many = omega (arith, count);
      few = omega arith;
      parted = rw (take_all (length rs) rs (omega arith), end) (record {
        moved = subst (IsPermutation all) (sym (ap (λ xs. take kept all ++ xs) (append-nil rs ∙ sym e)
            ∙ take-append-drop kept all)) (IsPermutation-refl all);
        turn = λ o n. (rw (append-nil (take kept all)) o, rw (append-nil rs) n);
      });
    }

-- an old raise moves up, and a new one is put in
pub merging_old : (first all rs : List Raise) (kept left k m j : ℕ) → IsMerging first all rs kept left → kept ≡ k + 1 → left ≡ m + 1 → j ≡ k + left
    → may_precede (get_or rs m no_raise) (get_or all k no_raise) ≡ true → IsMerging first (set all j (get_or all k no_raise)) rs k left
merging_old first all rs kept left k m j h e f g t =
    let x = get_or all k no_raise in
    let y = get_or rs m no_raise in
    let last : take (m + 1) rs ≡ take m rs ++ y ∷ [] = take_more rs m no_raise (omega (arith, h.few)) in
    let first_old : take (k + 1) all ≡ take k all ++ x ∷ [] = take_more all k no_raise (omega (arith, h.many)) in
    let ends : kept + left ≡ j + 1 = omega arith in
    let parted : AreParted first (take (length first - length rs) first) rs (take k all ++ x ∷ [])
    (take m rs ++ y ∷ []) (drop (j + 1) all) = rw (ends, e, f, last, first_old) at h.parted in
    record {
      many = omega (arith, h.many, length-set all j x);
      few = h.few;
      parted = rw (take-set-le k all j x (omega arith), ← g, f, last, drop-set all j x (omega (arith, h.many)))
          (part_old (take k all) (take m rs) (drop (j + 1) all) x y t parted);
    }

-- a new raise is written behind the old ones that are left
pub merging_new : (first all rs : List Raise) (kept left m j : ℕ) → IsMerging first all rs kept left → left ≡ m + 1 → j ≡ kept + m
    → IsPlaced all kept (get_or rs m no_raise) → IsMerging first (set all j (get_or rs m no_raise)) rs kept m
merging_new first all rs kept left m j h f g p =
    let y = get_or rs m no_raise in
    let ends : kept + left ≡ j + 1 = omega arith in
    let parted : AreParted first (take (length first - length rs) first) rs (take kept all) (take m rs ++ y ∷ []) (drop (j + 1) all) =
    rw (ends, f, take_more rs m no_raise (omega (arith, h.few))) at h.parted in
    record {
      many = omega (arith, h.many, length-set all j y);
      few = omega (arith, h.few);
      parted = rw (take-set-le kept all j y (omega arith), ← g, drop-set all j y (omega (arith, h.many)))
          (part_new (take kept all) (take m rs) (drop (j + 1) all) y
          (placed_joins all (drop (j + 1) all) kept y (omega (arith, h.many)) p) parted);
    }

-- where no new raise is left
pub merging_last : (first all rs : List Raise) (kept left : ℕ) → IsMerging first all rs kept left → left ≡ 0
    → IsPermutation first all × (AreInOrder (take (length first - length rs) first) → AreInOrder rs → AreInOrder all)
merging_last first all rs kept left h e =
    let ends : kept + left ≡ kept = omega arith in
    let parted : AreParted first (take (length first - length rs) first) rs (take kept all) [] (drop kept all) =
    rw (ends, e) at h.parted in (
      rw take-append-drop at parted.moved,
      λ o n. turn_in_order all (rw take-append-drop at (parted.turn (in_order_turn _ o) (in_order_turn rs n)).0),
    )

-- new raises that may all stand after the old ones are merged where they are
pub placed_whole : (all rs : List Raise) (kept : ℕ) → kept ≡ length all - length rs → drop kept all ≡ rs
    → (length rs ≡ 0) ⊎ IsPlaced all kept (get_or rs 0 no_raise) → AreInOrder (take kept all) → AreInOrder rs → AreInOrder all
placed_whole all rs kept c e p o n =
    let count : length all - kept ≡ length rs = omega (arith, ap length e, length-drop kept all) in
    subst AreInOrder (ap (λ xs. take kept all ++ xs) (sym e) ∙ take-append-drop kept all)
    (turn_in_order (take kept all ++ rs) (by rs refl p (in_order_turn (take kept all) o) (in_order_turn rs n)))
  where
    by : (xs : List Raise) → rs ≡ xs → (length xs ≡ 0) ⊎ IsPlaced all kept (get_or xs 0 no_raise) → InTurn (take kept all) → InTurn xs → InTurn (take kept all ++ xs)
    by [] f q h g = rw (append-nil (take kept all)) h
    by (y ∷ ys) f q h g = ⊎_elim (λ (z : suc (length ys) ≡ 0). absurd (omega arith))
        (λ (q : IsPlaced all kept y). placed_joins all ys kept y (omega arith) q h g) q

-- raises that were looked at in pairs: each before a place may precede the next
abbrev pub AreInTurnTo : List Raise → ℕ → Type 0
AreInTurnTo rs n = (k : ℕ) → k + 1 < n → may_precede (get_or rs k no_raise) (get_or rs (k + 1) no_raise) ≡ true

-- all pairs were looked at
pub in_turn_whole : (rs : List Raise) (n : ℕ) → length rs ≤ n → AreInTurnTo rs n → AreInOrder rs
in_turn_whole rs n all h = sym (only_order rs rs (IsPermutation-refl rs) (λ k d l.
    rw (← (get_or_default rs k no_raise d (omega arith)), ← (get_or_default rs (k + 1) no_raise d (omega arith))) (h k (omega arith))))
