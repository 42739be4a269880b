-- What stays of the banks that are done, as marks change, a claim is lowered, and a bank is done.
use Rattle.std.proofs.Common.{◌≡◌, ◌≢◌, ℕ, ◌+◌, ◌-◌, ◌<◌, ◌≤◌, ◌==◌, ◌&&◌, Bool, true, false, List, length, get_or, set, sum_by, refl, sym, ap, ◌∙◌, subst, ⊎_elim, arith}
use Rattle.std.proofs.Math.Dec.{ltb}
use Rattle.std.proofs.lemmas.Bool.{cases_eq, eqb-true}
use Rattle.std.proofs.lemmas.List.{get_or-set_same, get_or-set_other}
use Rattle.std.proofs.lemmas.List.Sums.{sum_by-set}
use Rattle.clr_net.specs.Net.{Net, debtor_of, creditor_of, class_of, column}
use Rattle.clr_net.proofs.RowsAndColumns.{column_place}
use Rattle.compress.specs.Compression.{is_live, IsLive, rank_above}
use Rattle.compress.proofs.Cycles.{live_class, live_claim, live_with}
use Rattle.compress.proofs.Most.{most_le, most_same}
use Rattle.compress.specs.declared.mark.Mark.{Mark}
use Rattle.compress.specs.declared.mark.Mark.TheVariants.{New, Walked, Done}
use Rattle.compress.specs.Walk.{mark_of, undone, AreDone}

-- two tests that agree wherever a first one holds agree beside it
same_test : (t a b : Bool) → (t ≡ true → a ≡ b) → (t && a) ≡ (t && b)
same_test true a b h = h refl
same_test false a b h = refl

-- the number that a bank should have rests on the debts above 0 to it and on the numbers of their
-- debtors
pub rank_same : (net : Net) (C D : List ℕ) (r t : ℕ → ℕ) (c b : ℕ)
    → ((x : ℕ) → class_of net x ≡ c → creditor_of net x ≡ b → get_or C x 0 ≡ get_or D x 0)
    → ((x : ℕ) → IsLive net C c x → creditor_of net x ≡ b
    → r (debtor_of net x) ≡ t (debtor_of net x))
    → rank_above net C r c b ≡ rank_above net D t c b
rank_same net C D r t c b claims ranks =
    most_same (λ x. r (debtor_of net x) + 1) (λ x. t (debtor_of net x) + 1) (is_live net C c)
    (is_live net D c) (column net b)
    (λ k l.
    let x = get_or (column net b) k 0 in
    same_test (class_of net x == c) (ltb 0 (get_or C x 0)) (ltb 0 (get_or D x 0))
    (λ e. ap (λ (n : ℕ). ltb 0 n) (claims x (eqb-true (class_of net x) c e)
    (column_place net b k l).1)))
    (λ k l e.
    let x = get_or (column net b) k 0 in
    let here = column_place net b k l in
    let same = ranks x (record { debt = here.0; live = e }) here.1 in
    ap (λ (n : ℕ). n + 1) same)

-- a bank that is not done counts as 1
undone_one : (m : Mark) → m ≢ Done → undone m ≡ 1
undone_one New ne = refl
undone_one (Walked p) ne = refl
undone_one Done ne = absurd (ne refl)

-- banks that are done stay so as another gets a mark
pub marks_stay : (marks : List Mark) (b : ℕ) (v : Mark) → mark_of marks b ≢ Done → (j : ℕ)
    → mark_of marks j ≡ Done → mark_of (set marks b v) j ≡ Done
marks_stay marks b v was j e = get_or-set_other marks b j v Done
    (λ s. was (ap (mark_of marks) (sym s) ∙ e)) ∙ e

-- a bank that is not done gets another mark, and is not done
pub done_marked : {net : Net} {c : ℕ} {C R : List ℕ} {marks : List Mark} (b : ℕ) (v : Mark)
    → AreDone net c C R marks → b < length marks
    → mark_of marks b ≢ Done → v ≢ Done → AreDone net c C R (set marks b v)
done_marked {net = net} {marks = marks} b v d l was will = record {
  debtors = λ x live e. marks_stay marks b v was (debtor_of net x) (d.debtors x live (before (creditor_of net x) e));
  ranks = λ j m e. d.ranks j m (before j e);
  low = λ j. omega (
    arith,
    d.low j,
    sum_by-set undone marks b v Done l,
    undone_one (mark_of marks b) was,
    undone_one v will,
  );
}
  where
    before : (j : ℕ) → mark_of (set marks b v) j ≡ Done → mark_of marks j ≡ Done
    before j e = ⊎_elim
        (λ (s : j ≡ b). absurd (will (sym (get_or-set_same marks b v Done l)
        ∙ ap (mark_of (set marks b v)) (sym s) ∙ e)))
        (λ (ne : j ≢ b). sym (get_or-set_other marks b j v Done ne) ∙ e)
        (cases_eq j b)

-- a claim on a debt to a bank that is not done falls
pub done_lowered : {net : Net} {c : ℕ} {C R : List ℕ} {marks : List Mark} (D : List ℕ) (x : ℕ)
    → AreDone net c C R marks
    → ((y : ℕ) → y ≢ x → get_or D y 0 ≡ get_or C y 0) → get_or D x 0 ≤ get_or C x 0
    → mark_of marks (creditor_of net x) ≢ Done
    → AreDone net c D R marks
done_lowered {net = net} {c = c} {C = C} {R = R} {marks = marks} D x d same less shut = record {
  debtors = λ y live e. d.debtors y
      (live_with net C c y live.debt (live_class live) (omega (arith, live_claim live, no_more y))) e;
  ranks = λ b l e.
      d.ranks b l e
      ∙ rank_same net C D (λ j. get_or R j 0) (λ j. get_or R j 0) c b
      (λ y class owed. sym (same y (λ s. shut (ap (λ z. mark_of marks (creditor_of net z)) (sym s)
      ∙ ap (mark_of marks) owed ∙ e))))
      (λ y live owed. refl);
  low = d.low;
}
  where
    no_more : (y : ℕ) → get_or D y 0 ≤ get_or C y 0
    no_more y = ⊎_elim (λ (s : y ≡ x). rw s less) (λ (ne : y ≢ x). omega (arith, same y ne))
        (cases_eq y x)

-- a bank is done, and gets its number, once all banks that owe it a debt above 0 are
pub done_more : {net : Net} {c : ℕ} {C R : List ℕ} {marks : List Mark} (b v : ℕ)
    → AreDone net c C R marks
    → b < length marks → b < length R → mark_of marks b ≢ Done
    → ((x : ℕ) → IsLive net C c x → creditor_of net x ≡ b → mark_of marks (debtor_of net x) ≡ Done)
    → v ≡ rank_above net C (λ j. get_or R j 0) c b → AreDone net c C (set R b v) (set marks b Done)
done_more {net = net} {c = c} {C = C} {R = R} {marks = marks} b v d l r was ready e = record {
  debtors = λ x live f. ⊎_elim
      (λ (s : creditor_of net x ≡ b). marks_stay marks b Done was (debtor_of net x) (ready x live s))
      (λ (ne : creditor_of net x ≢ b).
      marks_stay marks b Done was (debtor_of net x) (d.debtors x live
      (sym (get_or-set_other marks b (creditor_of net x) Done Done ne) ∙ f)))
      (cases_eq (creditor_of net x) b);
  ranks = λ j m f. ⊎_elim
      (λ (s : j ≡ b). subst (λ j. get_or (set R b v) j 0
      ≡ rank_above net C (λ j. get_or (set R b v) j 0) c j) (sym s)
      (get_or-set_same R b v 0 r ∙ e ∙ same_rank b ready))
      (λ (ne : j ≢ b).
      let old : mark_of marks j ≡ Done = sym (get_or-set_other marks b j Done Done ne) ∙ f in
      get_or-set_other R b j v 0 ne ∙ d.ranks j m old
      ∙ same_rank j (λ x live owed. d.debtors x live (ap (mark_of marks) owed ∙ old)))
      (cases_eq j b);
  low = λ j. ⊎_elim
      (λ (s : j ≡ b). omega (
        arith,
        ap (λ j. get_or (set R b v) j 0) s,
        get_or-set_same R b v 0 r,
        e,
        most_le (λ x. get_or R (debtor_of net x) 0 + 1) (is_live net C c)
            (length net.banks + 1 - sum_by undone marks) (column net b)
            (λ k m. omega (arith, d.low (debtor_of net (get_or (column net b) k 0)))),
        fewer,
        d.low 0,
      ))
      (λ (ne : j ≢ b). omega (arith, get_or-set_other R b j v 0 ne, d.low j, fewer))
      (cases_eq j b);
}
  where
    fewer : sum_by undone (set marks b Done) + 1 ≡ sum_by undone marks
    fewer = omega (arith, sum_by-set undone marks b Done Done l, undone_one (mark_of marks b) was)

    -- the new number is that of no debtor that was done before
    same_rank : (j : ℕ) → ((x : ℕ) → IsLive net C c x → creditor_of net x ≡ j
        → mark_of marks (debtor_of net x) ≡ Done)
        → rank_above net C (λ j. get_or R j 0) c j
        ≡ rank_above net C (λ j. get_or (set R b v) j 0) c j
    same_rank j h = rank_same net C C (λ j. get_or R j 0) (λ j. get_or (set R b v) j 0) c j
        (λ x class owed. refl)
        (λ x live owed. sym (get_or-set_other R b (debtor_of net x) v 0
        (λ s. was (ap (mark_of marks) (sym s) ∙ h x live owed))))
