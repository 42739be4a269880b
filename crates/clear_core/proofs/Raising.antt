-- The debts of one bank are raised to its awards, place by place of its row.
use Rattle.std.proofs.Common.{◌≡◌, ◌≢◌, ℕ, ◌+◌, ◌-◌, ◌<◌, ◌≤◌, ◌||◌, Bool, true, false, List, length, get_or, map, set, sum, refl, sym, ap, ◌∙◌, subst, ⊎_elim, arith}
use Rattle.std.proofs.Math.Bool.{or-true, or-false}
use Rattle.std.proofs.Math.Dec.{ltb}
use Rattle.std.proofs.lemmas.Bool.{cases_eq, cases_lt, ltb-false}
use Rattle.std.proofs.lemmas.List.{get_or-map, get_or-set_same, get_or-set_other, get_or_past, length-map, length-set, set-get_or}
use Rattle.std.proofs.lemmas.List.Sums.{sum-map}
use Rattle.clr_net.specs.Amounts.{IsAtMost}
use Rattle.clr_net.specs.Net.{Net, debtor_of, creditor_of, place_in_row, row}
use Rattle.clr_net.proofs.Lists.{same_from_sum, sum_rises}
use Rattle.clr_net.proofs.RowsAndColumns.{StandsInRow, row_place}
use Rattle.clear_core.specs.Clearing.{paid_by}
use Rattle.clear_core.specs.Raised.{is_marked, IsRaised}
use Rattle.clear_core.proofs.QuietBanks.{row_agrees}
use Rattle.clear_core.proofs.Rows.{debt_of_bank}
use Rattle.clear_core.proofs.WrittenRows.{awarded, IsWritten, written_more, row_written}

-- the first j places of the row are paid their awards
pub record IsRaisedTo (net : Net) (i : ℕ) (awards P Q : List ℕ) (marks after : List Bool) (j : ℕ)
    : Type 0 where
  pub as_many : length Q ≡ length P
  pub written : IsWritten net i (awarded net awards) P Q j
  pub within : (x : ℕ) → x < length net.debts → debtor_of net x ≡ i
      → get_or Q x 0 ≤ awarded net awards x
  pub marks_as_many : length after ≡ length marks
  pub marks_stay : (y : ℕ) → is_marked marks y ≡ true → is_marked after y ≡ true
  pub creditors : (x : ℕ) → get_or Q x 0 ≢ get_or P x 0 → is_marked after (creditor_of net x) ≡ true

-- at first nothing is
pub raised_none : (net : Net) (i : ℕ) (awards P : List ℕ) (marks : List Bool)
    → ((m : ℕ) → m < length (row net i) → get_or P (get_or (row net i) m 0) 0 ≤ get_or awards m 0)
    → IsRaisedTo net i awards P P marks marks 0
raised_none net i awards P marks h = record {
  as_many = refl;
  written = record { done = λ x l owed none. absurd (omega arith); others = λ x ne. refl };
  within = λ x l owed.
      let stands = debt_of_bank net i x l owed in
      omega (arith, h _ stands.within, ap (λ y. get_or P y 0) stands.at);
  marks_as_many = refl;
  marks_stay = λ y e. e;
  creditors = λ x ne. absurd (ne refl);
}

module _ (net : Net) (i : ℕ) (awards P Q : List ℕ) (marks after : List Bool) (j : ℕ)
    (raised : IsRaisedTo net i awards P Q marks after j) (over : length P ≡ length net.debts)
    (x : ℕ) (stands : StandsInRow net i j x) where
  -- the debt's place
  in_range : x < length Q
  in_range = omega (arith, stands.in_range, raised.as_many)

  -- what is paid on it is no more than its award
  pub no_more : get_or Q x 0 ≤ get_or awards j 0
  no_more = omega (arith, raised.within x stands.in_range stands.owed, ap (λ k. get_or awards k 0) stands.in_place)

  -- a debt that is paid its award already is left
  raised_skip : get_or awards j 0 ≤ get_or Q x 0 → IsRaisedTo net i awards P Q marks after (j + 1)
  raised_skip g = record {
    as_many = raised.as_many;
    written = subst (λ R. IsWritten net i (awarded net awards) P R (j + 1)) (set-get_or Q x 0)
        (written_more net i (awarded net awards) P Q j x (get_or Q x 0) stands in_range
        (omega (arith, no_more, g, ap (λ k. get_or awards k 0) stands.in_place))
        raised.written);
    within = raised.within;
    marks_as_many = raised.marks_as_many;
    marks_stay = raised.marks_stay;
    creditors = raised.creditors;
  }

  -- one that is paid less is raised, and its creditor marked
  module _ (c : ℕ) (credited : creditor_of net x ≡ c) (known : c < length after) where
    -- no mark is lost
    kept_or_new : (y : ℕ) → is_marked after y ≡ true → is_marked (set after c true) y ≡ true
    kept_or_new y e = ⊎_elim
        (λ (s : y ≡ c). rw s (get_or-set_same after c true false known))
        (λ (ne : y ≢ c). get_or-set_other after c y true false ne ∙ e)
        (cases_eq y c)

    -- the award of the debt
    award : get_or awards j 0 ≡ awarded net awards x
    award = ap (λ k. get_or awards k 0) (sym stands.in_place)

    -- with it the row is raised one place further
    raised_more : IsRaisedTo net i awards P (set Q x (get_or awards j 0)) marks (set after c true) (j + 1)
    raised_more = record {
      as_many = length-set Q x (get_or awards j 0) ∙ raised.as_many;
      written = written_more net i (awarded net awards) P Q j x (get_or awards j 0) stands in_range award
          raised.written;
      within = λ y l owed. ⊎_elim
          (λ (s : y ≡ x). rw s (omega (arith, get_or-set_same Q x (get_or awards j 0) 0 in_range, award)))
          (λ (ne : y ≢ x). omega
          (arith, get_or-set_other Q x y (get_or awards j 0) 0 ne, raised.within y l owed))
          (cases_eq y x);
      marks_as_many = length-set after c true ∙ raised.marks_as_many;
      marks_stay = λ y e. kept_or_new y (raised.marks_stay y e);
      creditors = λ y ne. ⊎_elim
          (λ (s : y ≡ x). rw (s, credited) (get_or-set_same after c true false known))
          (λ (other : y ≢ x). kept_or_new (creditor_of net y)
          (raised.creditors y (λ e. ne (get_or-set_other Q x y (get_or awards j 0) 0 other ∙ e))))
          (cases_eq y x);
    }

    -- whether it is paid less or not, it is paid its award, and its creditor marked in the one case
    pub raised_place : (more : Bool) → more ≡ ltb 0 (get_or awards j 0 - get_or Q x 0)
        → IsRaisedTo net i awards P (set Q x (get_or awards j 0)) marks
        (set after c (is_marked after c || more)) (j + 1)
    raised_place true e = rw (or-true (is_marked after c)) raised_more
    raised_place false e =
        let enough : get_or awards j 0 ≤ get_or Q x 0 =
        omega (arith, ltb-false 0 (get_or awards j 0 - get_or Q x 0) (sym e)) in
        let same : get_or awards j 0 ≡ get_or Q x 0 = omega (arith, enough, no_more) in
        rw (or-false (is_marked after c), same, set-get_or Q x 0, set-get_or after c false)
        (raised_skip enough)

-- the whole row
pub row_raised : (net : Net) (i : ℕ) (awards P Q : List ℕ) (marks after : List Bool) (j : ℕ)
    → length (row net i) ≤ j → IsRaisedTo net i awards P Q marks after j
    → IsRaised net i awards P Q marks after
row_raised net i awards P Q marks after j g raised = record {
  as_many = raised.as_many;
  in_row = row_written net i j (awarded net awards) P Q g raised.written;
  others = raised.written.others;
  marks_as_many = raised.marks_as_many;
  marks_stay = raised.marks_stay;
  creditors = raised.creditors;
}

-- so the payments on the row are the awards
row_paid : (net : Net) (i : ℕ) (awards P Q : List ℕ) (marks after : List Bool)
    → length awards ≡ length (row net i) → IsRaised net i awards P Q marks after
    → map (λ x. get_or Q x 0) (row net i) ≡ awards
row_paid net i awards P Q marks after places raised =
    row_agrees Q (row net i) awards places (λ k l.
    let stands = row_place net i k l in
    raised.in_row (get_or (row net i) k 0) stands.in_range stands.owed
    ∙ ap (λ m. get_or awards m 0) stands.in_place)

-- and all together they are what the bank pays
pub paid_in_all : (net : Net) (i : ℕ) (awards P Q : List ℕ) (marks after : List Bool)
    → length awards ≡ length (row net i) → IsRaised net i awards P Q marks after
    → paid_by net Q i ≡ sum awards
paid_in_all net i awards P Q marks after places raised =
    sym (sum-map (λ x. get_or Q x 0) (row net i)) ∙ ap sum (row_paid net i awards P Q marks after places raised)

-- of a bank that pays no less on any debt of its row
module _ (net : Net) (i : ℕ) (awards P : List ℕ) (places : length awards ≡ length (row net i))
    (rises : (m : ℕ) → m < length (row net i) → get_or P (get_or (row net i) m 0) 0 ≤ get_or awards m 0) where
  -- what it pays is at most its awards
  paid_at_most : IsAtMost (map (λ x. get_or P x 0) (row net i)) awards
  paid_at_most k = ⊎_elim
      (λ (l : k < length (row net i)).
      omega (arith, get_or-map (λ x. get_or P x 0) (row net i) k 0 0 l, rises k l))
      (λ (g : length (row net i) ≤ k).
      omega (arith, get_or_past (map (λ x. get_or P x 0) (row net i)) k 0 (omega (arith, length-map (row net i) (λ x. get_or P x 0)))))
      (cases_lt k (length (row net i)))

  -- where it pays the same in all, it has paid its awards
  pub raised_already : (marks : List Bool) → paid_by net P i ≡ sum awards → IsRaised net i awards P P marks marks
  raised_already marks e =
      let same : map (λ x. get_or P x 0) (row net i) ≡ awards =
      same_from_sum _ awards (length-map (row net i) (λ x. get_or P x 0) ∙ sym places) paid_at_most
      (omega (arith, e, sum-map (λ x. get_or P x 0) (row net i))) in
      record {
        as_many = refl;
        in_row = λ x l owed.
            let stands = debt_of_bank net i x l owed in
            ap (λ y. get_or P y 0) (sym stands.at)
            ∙ sym (get_or-map (λ x. get_or P x 0) (row net i) (place_in_row net x) 0 0 stands.within)
            ∙ ap (λ (A : List ℕ). get_or A (place_in_row net x) 0) same;
        others = λ x ne. refl;
        marks_as_many = refl;
        marks_stay = λ y t. t;
        creditors = λ x ne. absurd (ne refl);
      }

-- payments where one bank pays its awards, and so more in all, rise
pub rises_in_all : (net : Net) (i : ℕ) (awards P Q : List ℕ) (marks after : List Bool)
    → length awards ≡ length (row net i)
    → ((m : ℕ) → m < length (row net i) → get_or P (get_or (row net i) m 0) 0 ≤ get_or awards m 0)
    → length P ≡ length net.debts → IsRaised net i awards P Q marks after
    → paid_by net P i ≢ sum awards → sum P < sum Q
rises_in_all net i awards P Q marks after places rises over raised differ =
    let no_less : IsAtMost P Q = λ x. ⊎_elim
    (λ (e : debtor_of net x ≡ i). ⊎_elim
    (λ (l : x < length net.debts).
    let stands = debt_of_bank net i x l e in
    omega (arith, raised.in_row x l e, rises _ stands.within, ap (λ y. get_or P y 0) stands.at))
    (λ (g : length net.debts ≤ x). omega (arith, get_or_past P x 0 (omega (arith, over))))
    (cases_lt x (length net.debts)))
    (λ (ne : debtor_of net x ≢ i). omega (arith, raised.others x ne))
    (cases_eq (debtor_of net x) i) in
    sum_rises P Q (sym raised.as_many) no_less (λ e.
    differ (ap (λ (R : List ℕ). paid_by net R i) e ∙ paid_in_all net i awards P Q marks after places raised))
