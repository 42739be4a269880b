-- A ring and a take of a bell: what they ask for and tell, and what a seat shows after each.
use Rattle.std.specs.Prelude.{◌≡◌, ℕ, ◌+◌, ◌<◌, ◌≤◌, ◌==◌, ◌&&◌, ◌||◌, not, ◌++◌, Bool, true, false}
use Rattle.std.specs.Prelude.{[], ◌∷◌, length, slice_index, slice_set}
use Rattle.clr_net.specs.Net.{debtor_of, creditor_of}
use Rattle.clear_core.specs.Raised.{is_marked}
use Rattle.pay_words.specs.declared.view.Act.{Act}
use Rattle.pay_words.specs.declared.view.Act.TheVariants as act
use Rattle.pay_words.specs.declared.view.Shown.{Shown}
use Rattle.pay_words.specs.Tables.{tabled}
use Rattle.pay_words.specs.Holding.{holds}

-- the act of ringing the bell of the bank b
abbrev pub ring_of : ℕ → Act
ring_of b = act.Ring (record { 0 = b })

-- a debt to the bank b owes a ring
abbrev pub owes_ring_to : Shown → ℕ → ℕ → Bool
owes_ring_to s b x = is_marked s.owes_ring x && (creditor_of s.net x == b)

-- some debt of the seat's banks owes the bank b a ring
abbrev pub OwesRing : Shown → ℕ → Type 0
OwesRing s b = (x : ℕ) × (x < length s.net.debts) × (holds s (debtor_of s.net x) ≡ true)
    × (owes_ring_to s b x ≡ true)

-- no debt of the seat's banks owes a ring
abbrev pub OwesNoRing : Shown → Type 0
OwesNoRing s = (x : ℕ) → x < length s.net.debts → holds s (debtor_of s.net x) ≡ true
    → is_marked s.owes_ring x ≡ false

-- what the seat shows after it rang the bell of the bank b: no debt owes the bank a ring any more
abbrev pub rung : Shown → ℕ → Shown
rung s b = record s {
  owes_ring = tabled (length s.net.debts)
      (λ x. is_marked s.owes_ring x && not (creditor_of s.net x == b));
  acts = s.acts ++ ring_of b ∷ [];
}

-- the act of taking the bell of the bank b, which was up
abbrev pub take_of : ℕ → Act
take_of b = act.Take (record { 0 = b })

-- no debt to the bank b is pending
abbrev pub IsCalm : Shown → ℕ → Type 0
IsCalm s b = (x : ℕ) → x < length s.net.debts → creditor_of s.net x ≡ b
    → is_marked s.pending x ≡ false

-- what was last seen of each debt to the bank b is at least the floor
abbrev pub HasSeenFloor : Shown → ℕ → Type 0
HasSeenFloor s b = (x : ℕ) → x < length s.net.debts → creditor_of s.net x ≡ b
    → slice_index s.floor x ≤ slice_index s.sights x

-- what was last seen of each debt to the bank b is what is paid on it
abbrev pub HasSeenAll : Shown → ℕ → Type 0
HasSeenAll s b = (x : ℕ) → x < length s.net.debts → creditor_of s.net x ≡ b
    → slice_index s.sights x ≡ slice_index s.paid x

-- what the seat shows after it took the bell of the bank b: each debt to the bank calls for a look
abbrev pub took : Shown → ℕ → Shown
took s b = record s {
  pending = tabled (length s.net.debts) (λ x. is_marked s.pending x || (creditor_of s.net x == b));
  fresh = slice_set s.fresh b false;
  taken = s.taken + 1;
  acts = s.acts ++ take_of b ∷ [];
}
