-- Worked cases of words, and of what each call changes of what a seat shows.
use Rattle.std.specs.Prelude.{◌≡◌, ℕ, true, false, [], ◌∷◌, refl}
use Rattle.clr_net.specs.Samples.{ring}
use Rattle.pay_words.specs.declared.payment.Payment.{Payment}
use Rattle.pay_words.specs.declared.view.Shown.{Shown}
use Rattle.pay_words.specs.Words.{unpaid, word_of, payment_of}
use Rattle.pay_words.specs.Seating.{opening, handed, without, rejoined}
use Rattle.pay_words.specs.Paying.{looked, raised, look_at, raise_of, a_raise}
use Rattle.pay_words.specs.Ringing.{rung, took, ring_of, take_of}

-- so many units, with this stamp
abbrev paid : ℕ → ℕ → Payment
paid value stamp = record { value = value; stamp = stamp }

pub word_of_5 : word_of (paid 5 3) ≡ 12884901893
word_of_5 = refl

pub payment_of_word : payment_of 12884901893 ≡ paid 5 3
payment_of_word = refl

-- on the ring A owes the debt 0 to B, and B the debt 1 to A. Nothing is paid yet
abbrev master : Shown
master = opening ring (unpaid ∷ unpaid ∷ [])

-- there are two workers: the first gets A, and the second B
abbrev seat_of_a : Shown
seat_of_a = handed 2 0 master

abbrev seat_of_b : Shown
seat_of_b = handed 2 1 master

pub seat_of_a_holds_a : seat_of_a
    ≡ record master { master = false; banks = true ∷ false ∷ [] }
seat_of_a_holds_a = refl

pub master_without_a : without 2 0 master
    ≡ record master { banks = false ∷ true ∷ []; seats = 1 }
master_without_a = refl

-- A pays its unit. The raise has the stamp 1, and owes B a ring
abbrev a_paid : Shown
a_paid = raised seat_of_a 0 1

pub a_paid_is : a_paid ≡ record seat_of_a {
  paid = 1 ∷ 0 ∷ [];
  paid_stamps = 1 ∷ 0 ∷ [];
  clock = 1;
  raises = a_raise 1 0 1 ∷ [];
  owes_ring = true ∷ false ∷ [];
  acts = raise_of 0 ∷ [];
}
a_paid_is = refl

-- once B's bell was rung, no ring is owed
abbrev a_rang : Shown
a_rang = rung a_paid 1

pub a_rang_is : a_rang
    ≡ record a_paid { owes_ring = false ∷ false ∷ []; acts = raise_of 0 ∷ ring_of 1 ∷ [] }
a_rang_is = refl

-- B takes its bell, which calls for a look at the debt 0
abbrev b_took : Shown
b_took = took seat_of_b 1

pub b_took_is : b_took ≡ record seat_of_b {
  pending = true ∷ false ∷ [];
  fresh = true ∷ false ∷ [];
  taken = 1;
  acts = take_of 1 ∷ [];
}
b_took_is = refl

-- it looks, and its clock is then that of the raise that it found
abbrev b_looked : Shown
b_looked = looked b_took 0 (paid 1 1)

pub b_looked_is : b_looked ≡ record b_took {
  sights = 1 ∷ 0 ∷ [];
  sight_stamps = 1 ∷ 0 ∷ [];
  looks = 1 ∷ 0 ∷ [];
  clock = 1;
  pending = false ∷ false ∷ [];
  acts = take_of 1 ∷ look_at 0 (paid 1 1) ∷ [];
}
b_looked_is = refl

-- both seats come back: the master has what A paid, as the floor too, what B saw, and all raises
pub both_came_back : rejoined (rejoined (without 2 1 (without 2 0 master)) a_rang) b_looked
    ≡ record master {
      sights = 1 ∷ 0 ∷ [];
      sight_stamps = 1 ∷ 0 ∷ [];
      looks = 1 ∷ 0 ∷ [];
      paid = 1 ∷ 0 ∷ [];
      paid_stamps = 1 ∷ 0 ∷ [];
      floor = 1 ∷ 0 ∷ [];
      clock = 1;
      raises = a_raise 1 0 1 ∷ [];
      seats = 2;
      fresh = true ∷ false ∷ [];
      taken = 1;
    }
both_came_back = refl
