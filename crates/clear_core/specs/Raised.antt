-- One bank pays more on its debts, and marks whom it pays more.
use Rattle.std.specs.Prelude.{◌≡◌, ◌≢◌, ℕ, ◌<◌, Bool, true, false, List, length, slice_index}
use Rattle.std.specs.Prelude.{slice_index_or}
use Rattle.clr_net.specs.Net.{Net, debtor_of, creditor_of, place_in_row}

-- the list has true in the place i. A place past its end is not marked
abbrev pub is_marked : List Bool → ℕ → Bool
is_marked marks i = slice_index_or marks i false

-- the payments Q are P, but that the debts of the bank i are paid its awards; the creditors of
-- those that are paid more are marked afterwards, beside all that were
pub record IsRaised (net : Net) (i : ℕ) (awards P Q : List ℕ) (marks after : List Bool) : Type 0
  where
    pub as_many : length Q ≡ length P
    pub in_row : (x : ℕ) → x < length net.debts → debtor_of net x ≡ i
        → slice_index Q x ≡ slice_index awards (place_in_row net x)
    pub others : (x : ℕ) → debtor_of net x ≢ i → slice_index Q x ≡ slice_index P x
    pub marks_as_many : length after ≡ length marks
    pub marks_stay : (j : ℕ) → is_marked marks j ≡ true → is_marked after j ≡ true
    pub creditors : (x : ℕ) → slice_index Q x ≢ slice_index P x
        → is_marked after (creditor_of net x) ≡ true
