-- The process: single loads and raises, in any order.
use Rattle.std.specs.Prelude.{◌≡◌, ℕ, ◌<◌, ◌≤◌, List, [], ◌∷◌, length, slice_index, slice_set}
use Rattle.clr_net.specs.Amounts.{IsAtMost}
use Rattle.clr_net.specs.Net.{Net, debtor_of}
use Rattle.clear_core.specs.Clearing.{receipts, part, zeros, Clears, least}
use Rattle.clear_core.specs.declared.event.Event.{Event}
use Rattle.clear_core.specs.declared.event.Event.TheVariants.{Load, Raise}

-- what is paid on each debt, and what its creditor last saw paid on it
pub record Progress : Type 0 where
  pub paid : List ℕ
  pub seen : List ℕ

-- at first nothing is paid or seen
abbrev pub opening : Net → Progress
opening net = record { paid = zeros net; seen = zeros net }

-- the progress has as many places as the network has debts
pub record IsOver (net : Net) (s : Progress) : Type 0 where
  pub paid : length s.paid ≡ length net.debts
  pub seen : length s.seen ≡ length net.debts

-- the debt that an event is of
abbrev pub debt_of : Event → ℕ
debt_of (Load x) = x.0
debt_of (Raise x to) = x.0

-- the most that the debtor of the debt x may pay on it, by what it has seen paid to itself
abbrev pub allowed : Net → Progress → ℕ → ℕ
allowed net s x = part net x (receipts net s.seen (debtor_of net x))

-- a load is legal of every debt; a raise is if it lifts what is paid, to no more than is allowed
abbrev pub IsLegal : Net → Progress → Event → Type 0
IsLegal net s (Load x) = x.0 < length net.debts
IsLegal net s (Raise x to) =
    (x.0 < length net.debts) × (slice_index s.paid x.0 < to) × (to ≤ allowed net s x.0)

-- a load shows a debt's creditor what is paid on it; a raise pays more on it
abbrev pub step : Progress → Event → Progress
step s (Load x) = record { paid = s.paid; seen = slice_set s.seen x.0 (slice_index s.paid x.0) }
step s (Raise x to) = record { paid = slice_set s.paid x.0 to; seen = s.seen }

-- the progress after a list of events
unfoldable pub after : Progress → List Event → Progress
after s [] = s
after s (e ∷ es) = after (step s e) es

-- each event is legal where it stands
unfoldable pub AreLegal : Net → Progress → List Event → Type 0
AreLegal net s [] = Unit {0}
AreLegal net s (e ∷ es) = IsLegal net s e × AreLegal net (step s e) es

-- nothing seen is above what is paid, and nothing paid is above the least clearing payments
pub record IsBelowLeast (net : Net) (s : Progress) : Type 0 where
  pub seen : IsAtMost s.seen s.paid
  pub paid : IsAtMost s.paid (least net)

-- every list of legal events stays at or below the least clearing payments, and clears only there
abbrev pub NeverPassesLeast : Net → Type 0
NeverPassesLeast net = (es : List Event) → AreLegal net (opening net) es
    → IsBelowLeast net (after (opening net) es)
    × (Clears net (after (opening net) es).paid → (after (opening net) es).paid ≡ least net)
