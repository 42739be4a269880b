-- What the acts of a seat tell of the visits of its worker.
use Rattle.std.specs.Prelude.{◌≡◌, ℕ, ◌+◌, ◌<◌, ◌++◌, All, Bool, true, false, List, ◌∷◌, count_by}
use Rattle.std.specs.Prelude.{flat_map, length}
use Rattle.clr_net.specs.Net.{Net}
use Rattle.clear_core.specs.declared.event.Raise.{Raise}
use Rattle.bank_desk.specs.Desks.{BankView}
use Rattle.pay_words.specs.declared.payment.Payment.{Payment}
use Rattle.pay_words.specs.declared.view.Act.{Act}
use Rattle.pay_words.specs.declared.view.Act.TheVariants as act
use Rattle.pay_words.specs.Views.{take_of}
use Rattle.bank_worker.specs.Views.{WorkerView, desk_at}
use Rattle.bank_worker.specs.Looks.{loaded_in}
use Rattle.bank_worker.specs.Visits.{AreRaisedBy, acts_of}

-- a visit: the place of its desk, the payment that its look at a debt found, and the raises that it
-- made
pub record VisitMade : Type 0 where
  pub place : ℕ
  pub found : ℕ → Payment
  pub made : List Raise

-- a take that found the bell of the desk's bank up, and then what the visit did
abbrev pub acts_with_take : Net → List BankView → VisitMade → List Act
acts_with_take net desks v =
    take_of (desk_at desks v.place).bank ∷ acts_of net (desk_at desks v.place) v.found v.made

-- the visit raised to what the desk's rule gives from what its very looks loaded
abbrev pub RaisesWhatItLoaded : Net → List BankView → VisitMade → Type 0
RaisesWhatItLoaded net desks v = AreRaisedBy (desk_at desks v.place)
    (loaded_in (acts_of net (desk_at desks v.place) v.found v.made)) v.made

-- from old to new there were as many visits as were counted, each at one of the desks; all that was
-- done with the seat was done in them, and all raises were made in them, each to what the visit's
-- looks gave
pub record AreTold (old new : WorkerView) : Type 0 where
  pub visits : List VisitMade
  pub as_many : new.visits ≡ old.visits + length visits
  pub known : All (λ v. v.place < length old.desks) visits
  pub divide : All (RaisesWhatItLoaded old.seat.shows.net old.desks) visits
  pub acts : new.seat.shows.acts
      ≡ old.seat.shows.acts ++ flat_map (acts_with_take old.seat.shows.net old.desks) visits
  pub raises : new.seat.shows.raises
      ≡ old.seat.shows.raises ++ flat_map (λ v. v.made) visits
  pub journal : new.journal ≡ old.journal ++ flat_map (λ v. v.made) visits

-- whether it is a take that found a bell up
abbrev pub is_take : Act → Bool
is_take (act.Look x p) = false
is_take (act.Raise x) = false
is_take (act.Ring b) = false
is_take (act.Take b) = true

-- how many bells were found up
abbrev pub takes_in : List Act → ℕ
takes_in acts = count_by is_take acts
