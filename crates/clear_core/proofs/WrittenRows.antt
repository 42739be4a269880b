-- What one bank pays is written into a list of payments, place by place of its row.
use Rattle.std.proofs.Common.{◌≡◌, ◌≢◌, ℕ, ◌+◌, ◌<◌, ◌≤◌, ◌++◌, List, length, get_or, set, take, sym, ap, ◌∙◌, ⊎_elim, arith}
use Rattle.std.proofs.lemmas.Bool.{cases_eq}
use Rattle.std.proofs.lemmas.List.{get_or-set_same, get_or-set_other, take-append-le, take_all}
use Rattle.clr_net.specs.Net.{Net, debtor_of, place_in_row, row}
use Rattle.clr_net.proofs.RowsAndColumns.{StandsInRow}
use Rattle.clear_core.proofs.Rows.{debt_of_bank}

-- what the awards of its debtor's row give a debt
abbrev pub awarded : Net → List ℕ → ℕ → ℕ
awarded net awards x = get_or awards (place_in_row net x) 0

-- the first j debts of a row are paid so in a list, and no other bank's debt is changed from what it
-- was at the start
pub record IsWritten (net : Net) (i : ℕ) (wanted : ℕ → ℕ) (start next : List ℕ) (j : ℕ) : Type 0
  where
    pub done : (x : ℕ) → x < length net.debts → debtor_of net x ≡ i → place_in_row net x < j
        → get_or next x 0 ≡ wanted x
    pub others : (x : ℕ) → debtor_of net x ≢ i → get_or next x 0 ≡ get_or start x 0

-- one debt of the row more
pub written_more : (net : Net) (i : ℕ) (wanted : ℕ → ℕ) (start next : List ℕ) (j x v : ℕ)
    → StandsInRow net i j x → x < length next → v ≡ wanted x → IsWritten net i wanted start next j
    → IsWritten net i wanted start (set next x v) (j + 1)
written_more net i wanted start next j x v stands l value before = record {
  done = λ y m owed placed. ⊎_elim
      (λ (s : y ≡ x). rw s (get_or-set_same next x v 0 l ∙ value))
      (λ (ne : y ≢ x).
      let elsewhere : place_in_row net y ≢ j = λ e. ne (sym (debt_of_bank net i y m owed).at
      ∙ ap (λ k. get_or (row net i) k 0) e ∙ stands.at) in
      get_or-set_other next x y v 0 ne ∙ before.done y m owed (omega arith))
      (cases_eq y x);
  others = λ y other.
      get_or-set_other next x y v 0 (λ s. other (ap (debtor_of net) s ∙ stands.owed))
      ∙ before.others y other;
}

-- the whole row
pub row_written : (net : Net) (i j : ℕ) (wanted : ℕ → ℕ) (start next : List ℕ)
    → length (row net i) ≤ j → IsWritten net i wanted start next j
    → (x : ℕ) → x < length net.debts → debtor_of net x ≡ i → get_or next x 0 ≡ wanted x
row_written net i j wanted start next g written x l owed =
    written.done x l owed (omega (arith, (debt_of_bank net i x l owed).within))

-- a list of the same length, written back in place of another
pub written_back : {X : Type 0} (n : ℕ) (xs ys : List X) → length xs ≡ n → take n (xs ++ ys) ≡ xs
written_back n xs ys e = take-append-le n xs ys (omega arith) ∙ take_all n xs (omega arith)
