-- Whether there is a debt of a debtor, a creditor and a class: the debtor's row tells, and so does the creditor's column.
use Rattle.std.proofs.Common.{◌≡◌, ℕ, suc, ◌+◌, ◌<◌, ◌==◌, ◌||◌, Bool, true, false, List, [], ◌∷◌, All, length, get_or, take, slice_get, Some, refl, sym, ap, ap₂, ◌∙◌, true≢false, eq-eqb, arith, add-zero}
use Rattle.std.specs.Bool.{OnFalse}
use Rattle.std.specs.List.{list_any, range_with_len}
use Rattle.std.specs.Option.{option_map_or}
use Rattle.std.proofs.lemmas.Bool.{and_from}
use Rattle.std.proofs.lemmas.List.{get_or-map, length-map}
use Rattle.std.proofs.lemmas.List.Folds.{list_any_at, list_any_more}
use Rattle.std.proofs.lemmas.Map.Views.{any-filter_same}
use Rattle.std.proofs.lemmas.Option.{slice_get-get_or}
use Rattle.clr_net.specs.declared.debt.Debt.{Debt}
use Rattle.clr_net.specs.declared.debt.DebtId.{DebtId}
use Rattle.clr_net.specs.Samples.{classed}
use Rattle.clr_net.specs.Limits.{IsNewKind, IsOfKind}
use Rattle.clr_net.specs.Net.{Net, numbers, row, column, debtor_of, creditor_of, debt_numbers, is_debt_of, is_of_kind}

-- a test of the items of a list is one of their numbers, from a on
any_from : (f : ℕ → Bool) (p : Debt → Bool) (ds : List Debt) (a : ℕ)
    → ((k : ℕ) → f (a + k) ≡ option_map_or p (slice_get ds k) false) → list_any f (range_with_len a (length ds)) ≡ list_any p ds
any_from f p [] a same = refl
any_from f p (d ∷ ds) a same =
    ap₂ (λ b c. b || c) (ap f (sym (add-zero a)) ∙ same 0)
    (any_from f p ds (a + 1) (λ k. let e : a + 1 + k ≡ a + suc k = omega arith in ap f e ∙ same (suc k)))

-- the number in a place of a list of numbers
pub number_at : (ids : List DebtId) (xs : List ℕ) (k : ℕ) (d : DebtId) → numbers ids ≡ xs → k < length ids
    → (k < length xs) × ((get_or ids k d).0 ≡ get_or xs k 0)
number_at ids xs k d e l =
    let lengths : length (numbers ids) ≡ length xs = ap length e in
    (omega (arith, length-map ids (λ id. id.0)), sym (get_or-map (λ id. id.0) ids k d 0 l) ∙ ap (λ ns. get_or ns k 0) e)

-- one of some numbers, all of which are below n
pub number_below : (ids : List DebtId) (n k : ℕ) (d : DebtId) → All (λ x. x < n) (numbers ids) → k < length ids
    → (get_or ids k d).0 < n
number_below ids n k d all l =
    rw (get_or-map (λ id. id.0) ids k d 0 l) at (all k 0
    (omega (arith, length-map ids (λ id. id.0))))

module _ (net : Net) (debtor creditor class : ℕ) where
  -- the numbers of all debts tell
  any_of_all : list_any (is_of_kind net debtor creditor class) (debt_numbers net)
      ≡ list_any (is_debt_of debtor creditor class) net.debts
  any_of_all = any_from (is_of_kind net debtor creditor class) (is_debt_of debtor creditor class) net.debts 0
      (λ k. let e : 0 + k ≡ k = omega arith in ap (is_of_kind net debtor creditor class) e)

  -- the debtor's row tells
  pub row_tells : list_any (is_of_kind net debtor creditor class) (row net debtor)
      ≡ list_any (is_debt_of debtor creditor class) net.debts
  row_tells = any-filter_same (is_of_kind net debtor creditor class) (λ x. debtor_of net x == debtor) true
      (λ x e. grind arith) (debt_numbers net) ∙ any_of_all

  -- the creditor's column tells
  pub column_tells : list_any (is_of_kind net debtor creditor class) (column net creditor)
      ≡ list_any (is_debt_of debtor creditor class) net.debts
  column_tells = any-filter_same (is_of_kind net debtor creditor class) (λ x. creditor_of net x == creditor) true
      (λ x e. grind arith) (debt_numbers net) ∙ any_of_all

  -- a debt of this kind passes the test
  passes : (y : ℕ) → y < length net.debts → IsOfKind net y debtor creditor class
      → list_any (is_debt_of debtor creditor class) net.debts ≡ true
  passes y l kind =
      let k = rw (slice_get-get_or net.debts y (classed 0 0 0 0) l) at kind in
      list_any_at (is_debt_of debtor creditor class) net.debts y (classed 0 0 0 0) l
      (and_from _ _ (and_from _ _ (eq-eqb _ _ k.0) (eq-eqb _ _ k.1)) (eq-eqb _ _ k.2))

  -- where no debt passes the test, none is of this kind
  pub new_kind : (found : Bool) → found ≡ list_any (is_debt_of debtor creditor class) net.debts
      → OnFalse found (IsNewKind net debtor creditor class)
  new_kind true e = tt
  new_kind false e = λ y l kind. true≢false (sym (passes y l kind) ∙ sym e)

  -- what the test says of the debt in a place of a list
  pub test_at : (ids : List DebtId) (k : ℕ) (i : DebtId) (d : Debt) (b : Bool) → k < length ids
      → slice_get net.debts (get_or ids k i).0 ≡ Some d → b ≡ is_debt_of debtor creditor class d
      → is_of_kind net debtor creditor class (get_or (numbers ids) k 0) ≡ b
  test_at ids k i d b l at e = rw (get_or-map (λ id. id.0) ids k i 0 l, at) (sym e)

  -- one more that does not pass
  pub none_yet : (ids : List DebtId) (k : ℕ) → k < length ids
      → is_of_kind net debtor creditor class (get_or (numbers ids) k 0) ≡ false
      → list_any (is_of_kind net debtor creditor class) (take k (numbers ids)) ≡ false
      → list_any (is_of_kind net debtor creditor class) (take (k + 1) (numbers ids)) ≡ false
  none_yet ids k l e before =
      rw (
        list_any_more (is_of_kind net debtor creditor class) (numbers ids) k 0
            (omega (arith, length-map ids (λ id. id.0))),
        before,
        e,
      ) refl
