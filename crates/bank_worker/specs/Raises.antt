-- What raises of some debts change of what a seat shows.
use Rattle.std.specs.Prelude.{◌≡◌, ◌≢◌, ◌⊎◌, ℕ, ◌<◌, ◌≤◌, ◌++◌, true, List, length, map}
use Rattle.std.specs.Prelude.{slice_index}
use Rattle.clr_net.specs.Net.{debtor_of}
use Rattle.clear_core.specs.Clearing.{part, receipts}
use Rattle.clear_core.specs.declared.event.Raise.{Raise}
use Rattle.pay_words.specs.declared.view.Shown.{Shown}
use Rattle.pay_words.specs.Views.{IsOver, holds, is_marked, raise_of}
use Rattle.bank_worker.specs.Rising.{Rises}
use Rattle.std.specs.List.{Contains}
use Rattle.std.proofs.Common.{All}

-- the debts xs are owed by banks of the seat, and stand in file order
pub record AreOwedBy (s : Shown) (xs : List ℕ) : Type 0 where
  pub known : (k : ℕ) → k < length xs → slice_index xs k < length s.net.debts
  pub held : (k : ℕ) → k < length xs → holds s (debtor_of s.net (slice_index xs k)) ≡ true
  pub rise : Rises xs

-- on no debt is the target below what is paid
abbrev pub IsNotBelow : Shown → List ℕ → List ℕ → Type 0
IsNotBelow s xs ts = (k : ℕ) → k < length xs
    → slice_index s.paid (slice_index xs k) ≤ slice_index ts k

-- each target is within what the debtor's rule gives from its cash and from what the seat last
-- saw, less what it owes outside
abbrev pub IsWithin : Shown → List ℕ → List ℕ → Type 0
IsWithin s xs ts = (k : ℕ) → k < length xs
    → slice_index ts k ≤ part s.net (slice_index xs k)
    (receipts s.net s.sights (debtor_of s.net (slice_index xs k)))

-- the target of each of the debts xs is no less than is paid on it, and may be paid
pub record AreTargets (s : Shown) (xs ts : List ℕ) : Type 0 where
  pub rise : IsNotBelow s xs ts
  pub within : IsWithin s xs ts

-- the debts of some raises, in the order in which the raises stand
abbrev pub debts_of : List Raise → List ℕ
debts_of rs = map (λ r. r.debt.0) rs

-- one of the raises is of the debt x
abbrev pub IsRaisedIn : List Raise → ℕ → Type 0
IsRaisedIn rs x = Contains (debts_of rs) x

-- each debt that some raises are of is one that more raises are of
abbrev pub AreRaisedStill : List Raise → List Raise → Type 0
AreRaisedStill rs more = (x : ℕ) → IsRaisedIn rs x → IsRaisedIn more x

-- the debt x was not raised
pub record HasSamePay (s t : Shown) (x : ℕ) : Type 0 where
  pub paid : slice_index t.paid x ≡ slice_index s.paid x
  pub stamp : slice_index t.paid_stamps x ≡ slice_index s.paid_stamps x

-- in one of the first n places the debts have that of the raise, and the targets its amount
abbrev pub IsAmong : List ℕ → List ℕ → ℕ → Raise → Type 0
IsAmong xs ts n r = (k : ℕ) × (k < n) × (slice_index xs k ≡ r.debt.0) × (slice_index ts k ≡ r.to)

-- the first n of the debts xs were raised to their targets where they were below, and no other;
-- each raised debt owes a ring
pub record IsRaised (s t : Shown) (xs ts : List ℕ) (n : ℕ) : Type 0 where
  pub made : List Raise
  pub over : IsOver t
  pub only : t ≡ record s {
    paid = t.paid;
    paid_stamps = t.paid_stamps;
    clock = t.clock;
    raises = s.raises ++ made;
    owes_ring = t.owes_ring;
    acts = t.acts;
  }
  pub one_by_one : t.acts ≡ s.acts ++ map raise_of (debts_of made)
  pub each : (k : ℕ) → k < n → slice_index t.paid (slice_index xs k) ≡ slice_index ts k
  pub others : (x : ℕ) → ((k : ℕ) → k < n → slice_index xs k ≢ x) → HasSamePay s t x
  pub told : (x : ℕ) → IsRaisedIn made x ⊎ HasSamePay s t x
  pub theirs : All (λ x. (k : ℕ) × (k < n) × (slice_index xs k ≡ x)) (debts_of made)
  pub targets : All (IsAmong xs ts n) made
  pub in_order : Rises (debts_of made)
  pub owe : All (λ x. is_marked t.owes_ring x ≡ true) (debts_of made)
  pub only_they_owe : (x : ℕ) → is_marked t.owes_ring x ≡ true
      → (is_marked s.owes_ring x ≡ true) ⊎ IsRaisedIn made x
  pub still_owe : (x : ℕ) → is_marked s.owes_ring x ≡ true → is_marked t.owes_ring x ≡ true
