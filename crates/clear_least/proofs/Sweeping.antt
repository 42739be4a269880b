-- What a visit of a bank does on the way to the least payments, and where sweeps end.
use Rattle.std.proofs.Common.{◌≡◌, ◌≢◌, ℕ, suc, ◌<◌, ◌≤◌, Bool, true, false, List, [], ◌∷◌, length, get_or, set, sum, sum_by, refl, sym, ap, ◌∙◌, subst, ⊎_elim, arith}
use Rattle.std.proofs.lemmas.Bool.{cases_eq, cases_lt, cases_Bool, true≢false}
use Rattle.std.proofs.lemmas.List.{get_or-set_other, get_or_past, length-set}
use Rattle.std.proofs.lemmas.List.Sums.{sum_by-cons}
use Rattle.clr_net.specs.Limits.{IsNetwork}
use Rattle.clr_net.specs.Net.{Net, debtor_of, creditor_of, place_in_row, row, column}
use Rattle.clr_net.proofs.RowsAndColumns.{column_place}
use Rattle.clear_core.specs.Clearing.{division_of, receipts, part_by, pay_by, least_by}
use Rattle.clear_core.specs.Raised.{is_marked, IsRaised}
use Rattle.clear_core.proofs.BankPays.{award_by_at}
use Rattle.clear_core.proofs.Least.{clears_only_at_least_by}
use Rattle.clear_core.proofs.Pay.{pay_by_at}
use Rattle.clear_core.proofs.Rows.{debt_of_bank}
use Rattle.clear_least.specs.Sweeps.{IsQuietBy, IsSwept}
use Rattle.clear_least.proofs.Way.{all_paid, way_on}

-- terms that are the same at each element of a list add up to the same
same_sum : (f g : ℕ → ℕ) (xs : List ℕ)
    → ((m : ℕ) → m < length xs → f (get_or xs m 0) ≡ g (get_or xs m 0))
    → sum_by f xs ≡ sum_by g xs
same_sum f g [] h = refl
same_sum f g (x ∷ xs) h = omega (
  arith,
  sum_by-cons f x xs,
  sum_by-cons g x xs,
  h 0 (omega arith),
  same_sum f g xs (λ m l. h (suc m) (omega arith)),
)

-- a bank receives the same where the debts that are owed to it are paid the same
same_receipts : (net : Net) (P Q : List ℕ) (i : ℕ)
    → ((x : ℕ) → x < length net.debts → creditor_of net x ≡ i → get_or Q x 0 ≡ get_or P x 0)
    → receipts net Q i ≡ receipts net P i
same_receipts net P Q i h = same_sum (λ x. get_or Q x 0) (λ x. get_or P x 0) (column net i) (λ m l.
    let stands = column_place net i m l in h (get_or (column net i) m 0) stands.0 stands.1)

-- and then pays the same
same_pay : (net : Net) (f : ℕ → ℕ → ℕ) (P Q : List ℕ) (x : ℕ) → x < length net.debts
    → receipts net Q (debtor_of net x) ≡ receipts net P (debtor_of net x)
    → get_or (pay_by net f Q) x 0 ≡ get_or (pay_by net f P) x 0
same_pay net f P Q x l e =
    pay_by_at net f Q x l ∙ ap (part_by net f x) e ∙ sym (pay_by_at net f P x l)

module _ (net : Net) (f : ℕ → ℕ → ℕ) (P : List ℕ) (marks : List Bool)
    (swept : IsSwept net f P marks) where
  -- a bank's awards are no less than what it has paid
  pub awards_rise : (i : ℕ) (awards : List ℕ) → awards ≡ division_of net i (f i (receipts net P i))
      → (m : ℕ) → m < length (row net i) → get_or P (get_or (row net i) m 0) 0 ≤ get_or awards m 0
  awards_rise i awards e m l = omega (
    arith,
    ap (λ (xs : List ℕ). get_or xs m 0) e,
    award_by_at net f P i m (get_or (row net i) m 0) l refl,
    swept.way.rises (get_or (row net i) m 0),
  )

  -- where all banks are quiet, payments are the least
  pub quiet_at_least : IsNetwork net
      → ((i : ℕ) → i < length net.banks → IsQuietBy net f P i) → P ≡ least_by net f
  quiet_at_least network quiet =
      clears_only_at_least_by net f swept.never P swept.way.below
      (sym (all_paid net f P P network swept.way.as_many quiet))

  -- a bank pays what its rule gives it to pay, and loses its mark
  module _ (i : ℕ) (awards Q : List ℕ) (after : List Bool)
      (given : awards ≡ division_of net i (f i (receipts net P i)))
      (raised : IsRaised net i awards P Q (set marks i false) after) where
    -- on its debts just as in a round of all banks
    pays : (x : ℕ) → x < length net.debts → debtor_of net x ≡ i
        → get_or Q x 0 ≡ get_or (pay_by net f P) x 0
    pays x l owed =
        let stands = debt_of_bank net i x l owed in
        raised.in_row x l owed
        ∙ ap (λ (xs : List ℕ). get_or xs (place_in_row net x) 0) given
        ∙ award_by_at net f P i (place_in_row net x) x stands.within stands.at

    -- no debt is paid less than before, or more than all banks would pay at once
    between : (x : ℕ) → (get_or P x 0 ≤ get_or Q x 0) × (get_or Q x 0 ≤ get_or (pay_by net f P) x 0)
    between x = ⊎_elim
        (λ (l : x < length net.debts). ⊎_elim
        (λ (e : debtor_of net x ≡ i).
        (omega (arith, pays x l e, swept.way.rises x), omega (arith, pays x l e)))
        (λ (ne : debtor_of net x ≢ i).
        let same = raised.others x ne in
        (omega (arith, same), omega (arith, same, swept.way.rises x)))
        (cases_eq (debtor_of net x) i))
        (λ (g : length net.debts ≤ x).
        let before = get_or_past P x 0 (omega (arith, swept.way.as_many)) in
        let now = get_or_past Q x 0 (omega (arith, swept.way.as_many, raised.as_many)) in
        (omega (arith, before), omega (arith, now)))
        (cases_lt x (length net.debts))

    -- a bank without a mark is paid what it was
    same_received : (j : ℕ) → is_marked after j ≡ false → receipts net Q j ≡ receipts net P j
    same_received j e = same_receipts net P Q j (λ x l owed. ⊎_elim
        (λ (s : get_or Q x 0 ≡ get_or P x 0). s)
        (λ (ne : get_or Q x 0 ≢ get_or P x 0).
        absurd (true≢false (sym (raised.creditors x ne) ∙ ap (is_marked after) owed ∙ e)))
        (cases_eq (get_or Q x 0) (get_or P x 0)))

    -- and had none before, unless it is the one that pays
    had_none : (j : ℕ) → j ≢ i → is_marked after j ≡ false → is_marked marks j ≡ false
    had_none j ne e = ⊎_elim
        (λ (t : is_marked marks j ≡ true).
        let stays = raised.marks_stay j (get_or-set_other marks i j false false ne ∙ t) in
        absurd (true≢false (sym stays ∙ e)))
        (λ (none : is_marked marks j ≡ false). none)
        (cases_Bool (is_marked marks j))

    -- so it would still pay just what it has paid
    still_quiet : (j : ℕ) → j < length net.banks → is_marked after j ≡ false
        → IsQuietBy net f Q j
    still_quiet j l e x r owed =
        let received =
        subst (λ j. receipts net Q j ≡ receipts net P j) (sym owed) (same_received j e) in
        let same = same_pay net f P Q x r received in
        ⊎_elim
        (λ (s : debtor_of net x ≡ i). pays x r s ∙ sym same)
        (λ (ne : debtor_of net x ≢ i).
        let unmarked = had_none j (λ s. ne (owed ∙ s)) e in
        raised.others x ne ∙ swept.unmarked j l unmarked x r owed ∙ sym same)
        (cases_eq (debtor_of net x) i)

    -- the way goes on
    pub sweep_on : IsSwept net f Q after
    sweep_on = record {
      never = swept.never;
      way = way_on net f P swept.way Q swept.never raised.as_many (λ x. (between x).0) (λ x. (between x).1);
      for_each_bank = raised.marks_as_many ∙ length-set marks i false ∙ swept.for_each_bank;
      unmarked = still_quiet;
    }

    -- one that pays no more is quiet
    pub quiet_where_same : Q ≡ P → IsQuietBy net f P i
    quiet_where_same e x l owed = ap (λ (R : List ℕ). get_or R x 0) (sym e) ∙ pays x l owed

-- the sweep has come to the bank n: it is told whether payments rose, and where none did all banks
-- before are quiet
pub record IsSweeping (net : Net) (f : ℕ → ℕ → ℕ) (start P : List ℕ) (n : ℕ) (any : Bool) : Type 0 where
  pub more : any ≡ true → sum start < sum P
  pub same : any ≡ false → P ≡ start
  pub quiet : any ≡ false → (i : ℕ) → i < n → IsQuietBy net f P i
