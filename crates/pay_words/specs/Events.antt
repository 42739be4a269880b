-- Histories as lists of events of the process: single loads and raises in any order.
use Rattle.std.specs.Prelude.{◌≡◌, ℕ, List, map}
use Rattle.clr_net.specs.Net.{Net}
use Rattle.clear_core.specs.History.{IsTraced, Stands, journal_from, replayed}
use Rattle.clear_core.specs.Process.{AreLegal, after, opening}
use Rattle.clear_core.specs.declared.event.Event.{Event}
use Rattle.clear_core.specs.declared.event.Raise.{Raise}

-- a raise without its stamp
abbrev pub unstamped : Raise → Raise
unstamped r = record r { stamp = 0 }

-- the raises of a journal are those of a list of events, each of which is legal where it stands;
-- and these pay what the journal replays to
pub record IsOfEvents (net : Net) (journal : List Raise) : Type 0 where
  pub events : List Event
  pub legal : AreLegal net (opening net) events
  pub raises : map unstamped (journal_from 0 events) ≡ map unstamped journal
  pub paid : (after (opening net) events).paid ≡ replayed net journal

-- some payments are the state of the process after a list of legal events, and what the journal of
-- their raises, which stands and is traced, replays to
pub record AreOfEvents (net : Net) (paid : List ℕ) : Type 0 where
  pub journal : List Raise
  pub stands : Stands net journal
  pub traced : IsTraced net journal
  pub of_events : IsOfEvents net journal
  pub paid_is : (after (opening net) of_events.events).paid ≡ paid
