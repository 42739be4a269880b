-- Worked cases of the process: events on the chain, where A has 7 and owes B 10, and B has 1 and
-- owes C 9.
use Rattle.std.specs.Prelude.{◌≡◌, ℕ, List, [], ◌∷◌, refl}
use Rattle.std.proofs.Common.{lit<, lit≤}
use Rattle.clr_net.specs.Samples.{chain}
use Rattle.clr_net.specs.Division.{share_by_from}
use Rattle.rule_unit.specs.Units.{awards_after}
use Rattle.clear_core.specs.History.{journal_from}
use Rattle.clear_core.specs.Process.{AreLegal, after, opening}
use Rattle.clear_core.specs.declared.event.Event.{Event}
use Rattle.clear_core.specs.declared.event.Event.TheVariants as event
use Rattle.clear_core.specs.declared.event.Raise.{Raise}

-- A pays 7, B sees it, and B pays 8
abbrev events : List Event
events =
    event.Raise (record { 0 = 0 }) 7
    ∷ event.Load (record { 0 = 0 })
    ∷ event.Raise (record { 0 = 1 }) 8 ∷ []

-- each is legal where it stands
pub events_are_legal : AreLegal chain (opening chain) events
unfolding AreLegal awards_after share_by_from
events_are_legal = ((lit< tt, lit< tt, lit≤ tt), (lit< tt, ((lit< tt, lit< tt, lit≤ tt), tt)))

-- B has seen what A paid, and C has seen nothing
pub events_lead_there :
    after (opening chain) events ≡ record { paid = 7 ∷ 8 ∷ []; seen = 7 ∷ 0 ∷ [] }
unfolding after
events_lead_there = refl

abbrev raise : ℕ → ℕ → ℕ → Raise
raise stamp debt to = record { stamp = stamp; debt = record { 0 = debt }; to = to }

-- the raises are stamped with the places of their events
pub raises_of_events : journal_from 0 events ≡ raise 0 0 7 ∷ raise 2 1 8 ∷ []
raises_of_events = refl
