-- What the rings for some raises change of what a seat shows, and the marks of the creditors that
-- were rung.
use Rattle.std.specs.List.{list_any}
use Rattle.std.specs.Prelude.{◌≡◌, ℕ, ◌<◌, ◌≤◌, ◌==◌, ◌++◌, if◌then◌else◌, Bool, true, false, List}
use Rattle.std.specs.Prelude.{[], ◌∷◌, length, map, slice_index}
use Rattle.clr_net.specs.Net.{Net, creditor_of, debtor_of, debt_numbers}
use Rattle.clear_core.specs.declared.event.Raise.{Raise}
use Rattle.pay_words.specs.declared.view.Shown.{Shown}
use Rattle.pay_words.specs.Views.{holds, is_marked, ring_of}
use Rattle.bank_worker.specs.Raises.{debts_of}

-- the creditor of each debt, in file order
abbrev pub creditors_of : Net → List ℕ
creditors_of net = map (creditor_of net) (debt_numbers net)

-- no mark is of this visit yet
abbrev pub AreMarksBelow : ℕ → List ℕ → Type 0
AreMarksBelow visit marks = (k : ℕ) → slice_index marks k < visit

-- no mark is of a later visit
abbrev pub AreMarksUpTo : ℕ → List ℕ → Type 0
AreMarksUpTo visit marks = (k : ℕ) → slice_index marks k ≤ visit

-- the raises are of debts of the seat's banks, and each of these debts owes a ring
pub record OweRings (s : Shown) (rs : List Raise) : Type 0 where
  pub known : (j : ℕ) → j < length rs → slice_index (debts_of rs) j < length s.net.debts
  pub held : (j : ℕ) → j < length rs
      → holds s (debtor_of s.net (slice_index (debts_of rs) j)) ≡ true
  pub owe : (j : ℕ) → j < length rs → is_marked s.owes_ring (slice_index (debts_of rs) j) ≡ true

-- whether a number is one of the list
abbrev pub is_among : List ℕ → ℕ → Bool
is_among xs c = list_any (λ x. c == x) xs

-- a list with one number more, unless it has that
abbrev pub with_new : List ℕ → ℕ → List ℕ
with_new xs c = if is_among xs c then xs else xs ++ c ∷ []

-- each number of the list once, in the order in which they first stand, after those of another
abbrev pub each_once_after : List ℕ → List ℕ → List ℕ
each_once_after ys [] = ys
each_once_after ys (x ∷ xs) = each_once_after (with_new ys x) xs

-- each number of the list once, in the order in which they first stand there
abbrev pub each_once : List ℕ → List ℕ
each_once xs = each_once_after [] xs

-- the creditors of the raised debts, each once, in the order of the raises
abbrev pub called_by : Net → List Raise → List ℕ
called_by net rs = each_once (map (creditor_of net) (debts_of rs))

-- the creditors were rung in the order of the raises, each once; no debt of the raises owes a ring
-- any more, and no further debt does
pub record IsRungAll (s t : Shown) (rs : List Raise) : Type 0 where
  pub only : t ≡ record s { owes_ring = t.owes_ring; acts = t.acts }
  pub in_order : t.acts ≡ s.acts ++ map ring_of (called_by s.net rs)
  pub done : (j : ℕ) → j < length rs → is_marked t.owes_ring (slice_index (debts_of rs) j) ≡ false
  pub no_more : (x : ℕ) → x < length s.net.debts → is_marked t.owes_ring x ≡ true
      → is_marked s.owes_ring x ≡ true
