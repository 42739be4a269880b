-- What each atomic step on a board changes of a seat's view, and what it tells. What a step tells is
-- said of the step, whose `word` is the place of the word, of the seat before it, of the number that
-- was found or stored, and of the seat after it. A seat of a table is its view and its slots, of
-- which a board has none.
use Rattle.std.specs.Prelude.{◌≡◌, ℕ, ◌+◌, ◌<◌, ◌≤◌, ◌==◌, if◌then◌else◌, true, [], false, length}
use Rattle.std.specs.Prelude.{slice_index}
use Rattle.atomic_table.specs.Table.{Me, Step}
use Rattle.clr_net.specs.Net.{empty_net, debtor_of}
use Rattle.clear_core.specs.Clearing.{least}
use Rattle.pay_words.specs.declared.payment.Payment.{Payment}
use Rattle.pay_words.specs.declared.view.Shown.{Shown}
use Rattle.pay_words.specs.declared.view.View.{View}
use Rattle.pay_words.specs.Words.{payment_of}
use Rattle.pay_words.specs.Positions.{position_of}
use Rattle.clear_core.specs.Raised.{is_marked}
use Rattle.pay_words.specs.Holding.{HoldsAll, holds}
use Rattle.pay_words.specs.Sound.{IsSound}
use Rattle.pay_words.specs.Seating.{handed, without, rejoined}
use Rattle.pay_words.specs.Paying.{looked, raised}
use Rattle.pay_words.specs.Ringing.{IsCalm, HasSeenFloor, HasSeenAll, OwesNoRing, rung, took}

-- a view that shows something else
abbrev pub showing : View → Shown → View
showing v s = record v { shown = s }

-- A look finds no less than was seen before, and no less than the floor, but no more than the least
-- clearing payment. Of a debt that a bank of the seat owes, it finds what the seat pays.
pub record LookTells (s : Shown) (x : ℕ) (p : Payment) : Type 0 where
  pub sound : IsSound (looked s x p)
  pub at_least_seen : slice_index s.sights x ≤ p.value
  pub at_least_floor : slice_index s.floor x ≤ p.value
  pub below : p.value ≤ slice_index (least s.net) x
  pub own : holds s (debtor_of s.net x) ≡ true
      → p ≡ record { value = slice_index s.paid x; stamp = slice_index s.paid_stamps x }

module _ {S : Type 0} where
  -- a load of a payment word: the view has looked at its debt, and what the word says is told
  abbrev pub Looks : Step S → Me S View → ℕ → Me S View → Type 0
  Looks s v n w = (x : ℕ) → x < length v.0.shown.net.debts
      → s.word ≡ position_of v.0.shown.net x + 1
      → (w ≡ (showing v.0 (looked v.0.shown x (payment_of n)), v.1))
      × LookTells v.0.shown x (payment_of n)

  -- a store of a payment word: the view has raised its debt, and is sound still
  abbrev pub Raises : Step S → Me S View → ℕ → Me S View → Type 0
  Raises s v n w = (x : ℕ) → x < length v.0.shown.net.debts
      → s.word ≡ position_of v.0.shown.net x + 1
      → (w ≡ (showing v.0 (raised v.0.shown x (payment_of n).value), v.1))
      × IsSound (raised v.0.shown x (payment_of n).value)

  -- a store of the roll word, by the master: its view has the number that it left there
  abbrev pub Rolls : Step S → Me S View → ℕ → Me S View → Type 0
  Rolls s v n w = w ≡ (record v.0 { rolled = n }, v.1)

-- What a take tells, or a load, where it found n at the bell of the bank b: n is 1 or 0, and 1
-- where the bell was never taken. Where it found 0 and none of the debts to the bank is pending,
-- the bank has seen at least the floor of each; and all that is paid, where besides the seat holds
-- all banks and owes no ring.
pub record TakeTells (s : Shown) (b n : ℕ) : Type 0 where
  pub up_or_down : n ≤ 1
  pub up_if_fresh : is_marked s.fresh b ≡ true → n ≡ 1
  pub seen_floor : n ≡ 0 → IsCalm s b → HasSeenFloor s b
  pub seen_all : n ≡ 0 → IsCalm s b → HoldsAll s → OwesNoRing s → HasSeenAll s b

-- what a seat shows after it found n at the bell of the bank b
abbrev pub after_take : Shown → ℕ → ℕ → Shown
after_take s b n = if n == 0 then s else took s b

module _ {S : Type 0} where
  -- a store of a bell: the view has rung its bank
  abbrev pub Rings : Step S → Me S View → ℕ → Me S View → Type 0
  Rings s v n w = (b : ℕ) → s.word ≡ length v.0.shown.net.debts + 1 + b
      → w ≡ (showing v.0 (rung v.0.shown b), v.1)

  -- a load of a bell leaves the view as it is, and tells what a take does
  abbrev pub Glances : Step S → Me S View → ℕ → Me S View → Type 0
  Glances s v n w = (w ≡ v) × ((b : ℕ) → s.word ≡ length v.0.shown.net.debts + 1 + b
      → TakeTells v.0.shown b n)

  -- a swap of a bell: where it was up the view has taken it
  abbrev pub Takes : Step S → Me S View → ℕ → Me S View → Type 0
  Takes s v n w = (b : ℕ) → s.word ≡ length v.0.shown.net.debts + 1 + b
      → (w ≡ (showing v.0 (after_take v.0.shown b n), v.1)) × TakeTells v.0.shown b n

-- the master, after it handed out the seat of the worker i
abbrev pub rest_of : ℕ → ℕ → View → View
rest_of workers i v = showing v (without workers i v.shown)

-- the new seat of the worker i, as the master's view v gives it
abbrev pub part_of : ℕ → ℕ → View → View
part_of workers i v = showing v (handed workers i v.shown)

-- the master with what a seat gives back
abbrev pub both_of : View → View → View
both_of v w = showing v (rejoined v.shown w.shown)

-- the view of a seat that was taken back
abbrev pub nobody : View
nobody = record {
  live = false;
  rolled = 0;
  shown = record {
    net = empty_net;
    master = false;
    banks = [];
    sights = [];
    sight_stamps = [];
    looks = [];
    paid = [];
    paid_stamps = [];
    floor = [];
    clock = 0;
    raises = [];
    seats = 0;
    pending = [];
    owes_ring = [];
    fresh = [];
    taken = 0;
    acts = [];
  };
}
