-- What looks at some debts change of what a seat shows.
use Rattle.std.specs.Prelude.{◌≡◌, ◌≢◌, ℕ, ◌+◌, ◌<◌, ◌≤◌, ◌++◌, true, false, List, length, map}
use Rattle.std.specs.Prelude.{slice_index, sum_by, take}
use Rattle.clr_net.specs.Net.{Net, creditor_of}
use Rattle.pay_words.specs.Positions.{position_of}
use Rattle.pay_words.specs.declared.payment.Payment.{Payment}
use Rattle.pay_words.specs.declared.view.Act.{Act}
use Rattle.pay_words.specs.declared.view.Act.TheVariants as act
use Rattle.pay_words.specs.declared.view.Shown.{Shown}
use Rattle.pay_words.specs.Views.{IsOver, holds, is_marked, look_at}
use Rattle.bank_worker.specs.Rising.{Rises}

-- the debts xs are owed to banks of the seat, and stand in file order
pub record AreOwedTo (s : Shown) (xs : List ℕ) : Type 0 where
  pub known : (k : ℕ) → k < length xs → slice_index xs k < length s.net.debts
  pub held : (k : ℕ) → k < length xs → holds s (creditor_of s.net (slice_index xs k)) ≡ true
  pub rise : Rises xs

-- the words of the debts xs stand side by side on a board of the network, from a position on
abbrev pub StandFrom : Net → ℕ → List ℕ → Type 0
StandFrom net first xs = (k : ℕ) → k < length xs
    → position_of net (slice_index xs k) ≡ first + k

-- the debt x was looked at once: it is seen at no less than the floor, and calls for a look no more
pub record IsSeenAt (s t : Shown) (x : ℕ) : Type 0 where
  pub once : slice_index t.looks x ≡ slice_index s.looks x + 1
  pub calm : is_marked t.pending x ≡ false
  pub over_floor : slice_index s.floor x ≤ slice_index t.sights x

-- the debt x was not looked at
pub record HasSameSight (s t : Shown) (x : ℕ) : Type 0 where
  pub sight : slice_index t.sights x ≡ slice_index s.sights x
  pub stamp : slice_index t.sight_stamps x ≡ slice_index s.sight_stamps x
  pub looks : slice_index t.looks x ≡ slice_index s.looks x
  pub pending : is_marked t.pending x ≡ is_marked s.pending x

-- the payment that the seat last saw on the debt x
abbrev pub last_seen : Shown → ℕ → Payment
last_seen s x = record { value = slice_index s.sights x; stamp = slice_index s.sight_stamps x }

-- looks at these debts, in order, each of which found a payment
abbrev pub looks_at : (ℕ → Payment) → List ℕ → List Act
looks_at found xs = map (λ x. look_at x (found x)) xs

-- what an act loaded, in units: what a look found, and otherwise nothing
abbrev pub loaded : Act → ℕ
loaded (act.Look x p) = p.value
loaded (act.Raise x) = 0
loaded (act.Ring b) = 0
loaded (act.Take b) = 0

-- what the looks among some acts loaded, in units
abbrev pub loaded_in : List Act → ℕ
loaded_in acts = sum_by loaded acts

-- the first n of the debts xs were looked at once each, in order, and no other; what each look
-- found was last seen
pub record IsLooked (s t : Shown) (xs : List ℕ) (n : ℕ) : Type 0 where
  pub over : IsOver t
  pub only : t ≡ record s {
    sights = t.sights;
    sight_stamps = t.sight_stamps;
    looks = t.looks;
    clock = t.clock;
    pending = t.pending;
    acts = t.acts;
  }
  pub in_order : t.acts ≡ s.acts ++ looks_at (last_seen t) (take n xs)
  pub each : (k : ℕ) → k < n → IsSeenAt s t (slice_index xs k)
  pub others : (x : ℕ) → ((k : ℕ) → k < n → slice_index xs k ≢ x) → HasSameSight s t x
