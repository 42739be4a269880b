-- Worked cases of sets of banks, and of what is done in a visit.
use Rattle.std.specs.Prelude.{◌≡◌, ℕ, true, false, List, [], ◌∷◌, flat_map, refl}
use Rattle.clr_net.specs.Samples.{chain}
use Rattle.clear_core.specs.declared.event.Raise.{Raise}
use Rattle.bank_desk.specs.Desks.{BankView, desk_of}
use Rattle.pay_words.specs.declared.payment.Payment.{Payment}
use Rattle.pay_words.specs.declared.view.Act.{Act}
use Rattle.pay_words.specs.Views.{a_raise, look_at, raise_of, ring_of}
use Rattle.bank_worker.specs.BankSets.{is_in}
use Rattle.bank_worker.specs.Looks.{loaded_in}
use Rattle.bank_worker.specs.Rings.{called_by, each_once}
use Rattle.bank_worker.specs.Sweeps.{banks_taken}
use Rattle.bank_worker.specs.Told.{acts_with_take, takes_in}
use Rattle.bank_worker.specs.Visits.{acts_of}

-- a word of a set has the bits of 64 banks: these words are those of the banks 1, 3 and 65
abbrev some_banks : List ℕ
some_banks = 10 ∷ 2 ∷ []

pub bank_3_is_in : is_in some_banks 3 ≡ true
bank_3_is_in = refl

pub bank_2_is_not_in : is_in some_banks 2 ≡ false
bank_2_is_not_in = refl

pub bank_65_is_in : is_in some_banks 65 ≡ true
bank_65_is_in = refl

-- no bank past the last word is in the set
pub bank_129_is_not_in : is_in some_banks 129 ≡ false
bank_129_is_not_in = refl

pub each_once_as_first_met : each_once (3 ∷ 1 ∷ 3 ∷ 2 ∷ 1 ∷ []) ≡ 3 ∷ 1 ∷ 2 ∷ []
each_once_as_first_met = refl

-- on the chain A owes the debt 0 to B, and B the debt 1 to C: two raises of one debt call its
-- creditor once
pub called_by_three_raises : called_by chain (a_raise 1 1 4 ∷ a_raise 2 0 5 ∷ a_raise 3 1 6 ∷ [])
    ≡ 2 ∷ 1 ∷ []
called_by_three_raises = refl

abbrev desk_of_b : BankView
desk_of_b = desk_of chain 1

-- A paid its 7 by a raise of stamp 1. B, which has 1, sees them at its visit and pays C 8
abbrev seen : ℕ → Payment
seen x = record { value = 7; stamp = 1 }

abbrev made : List Raise
made = a_raise 2 1 8 ∷ []

-- so it looks at the debt 0, raises the debt 1 and rings C
pub acts_of_visit : acts_of chain desk_of_b seen made
    ≡ look_at 0 (seen 0) ∷ raise_of 1 ∷ ring_of 2 ∷ []
acts_of_visit = refl

-- of which the look alone loads anything
pub loaded_in_visit : loaded_in (acts_of chain desk_of_b seen made) ≡ 7
loaded_in_visit = refl

-- a visit that finds all as it was only looks
pub acts_of_idle_visit : acts_of chain desk_of_b seen [] ≡ look_at 0 (seen 0) ∷ []
acts_of_idle_visit = refl

-- both visits in turn, each after a take of B's bell
abbrev acts_of_both : List Act
acts_of_both = flat_map (acts_with_take chain (desk_of_b ∷ []))
    (record { place = 0; found = seen; made = made }
    ∷ record { place = 0; found = seen; made = [] } ∷ [])

pub takes_in_both : takes_in acts_of_both ≡ 2
takes_in_both = refl

pub banks_taken_in_both : banks_taken acts_of_both ≡ 1 ∷ 1 ∷ []
banks_taken_in_both = refl
