-- Marks of banks, and lists of which one part is chosen from another.
use Rattle.std.proofs.Common.{◌≡◌, ℕ, ◌<◌, ◌≤◌, List, length, get_or, sum_by, Bool, true, false, ◌∙◌, arith}
use Rattle.std.specs.Prelude.{slice_index, if◌then◌else◌, ◌&&◌, ◌||◌, not, slice_index_or}
use Rattle.std.proofs.lemmas.Bool.{cond_both, cond-true, cond-false}
use Rattle.std.proofs.lemmas.List.{get_or_past}
use Rattle.clr_net.proofs.Lists.{sums_agree}
use Rattle.clr_net.specs.Net.{Net, column, creditor_of}
use Rattle.clr_net.proofs.RowsAndColumns.{column_place}
use Rattle.clear_core.specs.Clearing.{receipts}
use Rattle.clear_core.specs.Raised.{is_marked}
use Rattle.pay_words.specs.Tables.{tabled, chosen}
use Rattle.pay_words.proofs.Tables.{tabled_at, length-tabled}

module _ (n : ℕ) (f : ℕ → Bool) (b : ℕ) where
  -- what a tabled test marks is below n and passes the test
  pub marked_if : is_marked (tabled n f) b ≡ true → (b < n) × (f b ≡ true)
  marked_if e = grind (arith, tabled_at n f b false, get_or_past (tabled n f) b false, length-tabled n f, e)

  -- each number below n that passes is marked
  pub marked : b < n → f b ≡ true → is_marked (tabled n f) b ≡ true
  marked l e = tabled_at n f b false l ∙ e

-- where one of two holds and not the other, the first holds and the other does not
pub both_marked : (s t : Bool) → (s && not t) ≡ true → (s ≡ true) × (t ≡ false)
both_marked s t e = grind (arith, e)

-- and the other way round
pub marked_without : (s t : Bool) → s ≡ true → t ≡ false → (s && not t) ≡ true
marked_without s t e f = grind (arith, e, f)

-- a bank of either list that is not the second's is the first's
pub either_marked : (n : ℕ) (xs ys : List Bool) (b : ℕ)
    → is_marked (tabled n (λ c. is_marked xs c || is_marked ys c)) b ≡ true → is_marked ys b ≡ false → is_marked xs b ≡ true
either_marked n xs ys b e out = grind (arith, (marked_if n (λ c. is_marked xs c || is_marked ys c) b e).1, out)

module _ {A : Type 0} (none : A) (n : ℕ) (p : ℕ → Bool) (xs ys : List A) where
  -- what is chosen for a place
  abbrev pick : ℕ → A
  pick k = if p k then slice_index_or ys k none else slice_index_or xs k none

  -- each place of a choice has what the test chose for it
  pub chosen_at : (x : ℕ) → x < n → get_or (chosen none n p xs ys) x none ≡ (if p x then slice_index_or ys x none else slice_index_or xs x none)
  chosen_at x lt = tabled_at n pick x none lt

  -- the second list, where the test passes
  pub chosen_second : (x : ℕ) → x < n → p x ≡ true → get_or (chosen none n p xs ys) x none ≡ get_or ys x none
  chosen_second x lt e = tabled_at n pick x none lt ∙ cond-true (p x) (get_or ys x none) (get_or xs x none) e

  -- and else the first
  pub chosen_first : (x : ℕ) → x < n → p x ≡ false → get_or (chosen none n p xs ys) x none ≡ get_or xs x none
  chosen_first x lt e = tabled_at n pick x none lt ∙ cond-false (p x) (get_or ys x none) (get_or xs x none) e

  -- a fact of each place of both lists is one of each place of the choice
  pub chosen_each : (F : ℕ → A → Type 0) → ((x : ℕ) → x < n → p x ≡ false → F x (get_or xs x none)) → ((x : ℕ) → x < n → p x ≡ true → F x (get_or ys x none))
      → (x : ℕ) → x < n → F x (get_or (chosen none n p xs ys) x none)
  chosen_each F f g x lt = rw (chosen_at x lt) (cond_both (p x) (get_or ys x none) (get_or xs x none) (F x) (g x lt) (f x lt))

-- a choice of two lists is within each bound that both are within
pub chosen_most : (n : ℕ) (p : ℕ → Bool) (xs ys : List ℕ) (Q : ℕ → ℕ) → ((x : ℕ) → get_or xs x 0 ≤ Q x) → ((x : ℕ) → get_or ys x 0 ≤ Q x) → (x : ℕ) → get_or (chosen 0 n p xs ys) x 0 ≤ Q x
chosen_most n p xs ys Q f g x = grind (arith, chosen_at 0 n p xs ys x, f x, g x, get_or_past (chosen 0 n p xs ys) x 0, length-tabled n (pick 0 n p xs ys))

-- receipts are those of two lists that agree at each debt that is owed to the bank
pub receipts_agree : (net : Net) (P Q : List ℕ) (b : ℕ) → ((x : ℕ) → x < length net.debts → creditor_of net x ≡ b → slice_index P x ≡ slice_index Q x) → receipts net P b ≡ receipts net Q b
receipts_agree net P Q b h = sums_agree 0 (slice_index P) (slice_index Q) (column net b) (λ k l. let c = column_place net b k l in h (get_or (column net b) k 0) c.0 c.1)

-- two functions that agree on all debts have the same sum over a column
pub column_agree : (net : Net) (f g : ℕ → ℕ) (b : ℕ) → ((x : ℕ) → x < length net.debts → f x ≡ g x) → sum_by f (column net b) ≡ sum_by g (column net b)
column_agree net f g b h = sums_agree 0 f g (column net b) (λ k l. h (get_or (column net b) k 0) (column_place net b k l).0)
