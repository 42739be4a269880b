-- Single loads and raises never pass the least clearing payments.
use Rattle.std.proofs.Common.{ℕ, ◌<◌, ◌≤◌, List, [], ◌∷◌, length, get_or, set, arith}
use Rattle.std.proofs.lemmas.Grind.{common_steps}
use Rattle.clr_net.specs.Amounts.{IsAtMost}
use Rattle.clr_net.specs.Net.{Net}
use Rattle.clear_core.specs.declared.event.Event.{Event}
use Rattle.clear_core.specs.declared.event.Event.TheVariants.{Load, Raise}
use Rattle.clear_core.specs.Clearing.{least}
use Rattle.clear_core.specs.Process.{Progress, opening, allowed, IsLegal, step, after, AreLegal, IsBelowLeast, NeverPassesLeast}
use Rattle.clear_core.proofs.Least.{zeros_le, part_le_least, clears_only_at_least}

-- what may be paid on a debt, by payments seen below the least, is at most what the least pay on it
allowed_le_least : (net : Net) (s : Progress) (x : ℕ) → IsBelowLeast net s → x < length net.debts
    → allowed net s x ≤ get_or (least net) x 0
allowed_le_least net s x b l =
    part_le_least net s.seen x l (λ y. omega (arith, b.seen y, b.paid y))

-- a raise keeps what was seen below what is paid
raised_above : (seen paid : List ℕ) (x v : ℕ) → IsAtMost seen paid → get_or paid x 0 < v → IsAtMost seen (set paid x v)
raised_above seen paid x v h l k = grind (arith, common_steps, h k)

-- and what is paid below the most
pub raised_within : (paid most : List ℕ) (x v : ℕ) → IsAtMost paid most → v ≤ get_or most x 0 → IsAtMost (set paid x v) most
raised_within paid most x v h l k = grind (arith, common_steps, h k)

-- one legal event
pub below_step : (net : Net) (s : Progress) (e : Event) → IsBelowLeast net s → IsLegal net s e → IsBelowLeast net (step s e)
below_step net s (Load x) b l = record { seen = raised_within s.seen s.paid x.0 (get_or s.paid x.0 0) b.seen (omega arith); paid = b.paid }
below_step net s (Raise x to) b l = record {
  seen = raised_above s.seen s.paid x.0 to b.seen l.1;
  paid = raised_within s.paid (least net) x.0 to b.paid (omega (arith, l.2, allowed_le_least net s x.0 b l.0));
}

-- all of them
pub below_after : (net : Net) (s : Progress) (es : List Event) → IsBelowLeast net s → AreLegal net s es
    → IsBelowLeast net (after s es)
unfolding after AreLegal
below_after net s [] b l = b
below_after net s (e ∷ es) b l = below_after net (step s e) es (below_step net s e b l.0) l.1

-- with nothing paid it is so
pub below_opening : (net : Net) → IsBelowLeast net (opening net)
below_opening net = record { seen = λ x. omega arith; paid = zeros_le net (least net) }

-- no legal event passes the least
pub never_passes_least : (net : Net) → NeverPassesLeast net
never_passes_least net es l =
    let b : IsBelowLeast net (after (opening net) es) = below_after net (opening net) es (below_opening net) l in
    (b, λ c. clears_only_at_least net (after (opening net) es).paid b.paid c)
