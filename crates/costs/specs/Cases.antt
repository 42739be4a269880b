-- Worked cases of clearing with costs of default.
use Rattle.std.specs.Prelude.{◌≡◌, ℕ, [], ◌∷◌, codes, refl}
use Rattle.clr_net.specs.declared.rule.RuleKind.TheVariants as kind
use Rattle.clr_net.specs.Net.{Net}
use Rattle.clr_net.specs.Samples.{bank, debt, chain, ring, ruled}
use Rattle.rule_unit.specs.Units.{awards_after}
use Rattle.clr_net.specs.Division.{share_by_from}
use Rattle.clear_core.specs.Rounds.{rounds_of}
use Rattle.cascade.specs.declared.standing.Health.{Health}
use Rattle.cascade.specs.declared.standing.Health.TheVariants.{Sound, Fundamental, Contagion}
use Rattle.costs.specs.declared.standing.CostStanding.{CostStanding}
use Rattle.clear_least.specs.Paying.{pay_by}
use Rattle.costs.specs.Costs.{CostClears, cost_greatest, cost_least}
use Rattle.costs.specs.CostStandings.{cost_standings}

abbrev stand : ℕ → ℕ → ℕ → ℕ → ℕ → Health → CostStanding
stand estate lost outside_paid paid equity health = record {
  estate = estate;
  lost = lost;
  outside_paid = outside_paid;
  paid = paid;
  equity = equity;
  health = health;
}

-- half is lost: of A's 7 it keeps 3, and of the 4 that B then has it keeps 2
pub chain_halved : cost_least chain 500 ≡ 3 ∷ 2 ∷ []
unfolding awards_after share_by_from pay_by rounds_of
chain_halved = refl

pub chain_halved_clears : CostClears chain 500 (3 ∷ 2 ∷ [])
unfolding awards_after share_by_from pay_by
chain_halved_clears = refl

pub chain_halved_standings : cost_standings chain 500 (3 ∷ 2 ∷ [])
    ≡ stand 7 4 0 3 0 Fundamental
    ∷ stand 4 2 0 2 0 Contagion
    ∷ stand 2 0 0 0 2 Sound ∷ []
chain_halved_standings = refl

-- in the chain nothing goes round, and the greatest are the least
pub chain_halved_greatest : cost_greatest chain 500 ≡ 3 ∷ 2 ∷ []
unfolding awards_after share_by_from pay_by rounds_of
chain_halved_greatest = refl

-- nothing is lost where all is kept
pub chain_whole : cost_least chain 1000 ≡ 7 ∷ 8 ∷ []
unfolding awards_after share_by_from pay_by rounds_of
chain_whole = refl

-- and where nothing is kept, banks in default pay nothing
pub chain_kept_none : cost_least chain 0 ≡ 0 ∷ 0 ∷ []
unfolding awards_after share_by_from pay_by rounds_of
chain_kept_none = refl

-- A has a unit that would go round until both debts are paid, and loses half of it
pub ring_halved : cost_least ring 500 ≡ 0 ∷ 0 ∷ []
unfolding awards_after share_by_from pay_by rounds_of
ring_halved = refl

pub ring_halved_clears : CostClears ring 500 (0 ∷ 0 ∷ [])
unfolding awards_after share_by_from pay_by
ring_halved_clears = refl

-- though paying in full would clear as well
pub ring_clears_in_full : CostClears ring 500 (5 ∷ 5 ∷ [])
unfolding awards_after share_by_from pay_by
ring_clears_in_full = refl

-- that is the greatest
pub ring_greatest : cost_greatest ring 500 ≡ 5 ∷ 5 ∷ []
unfolding awards_after share_by_from pay_by rounds_of
ring_greatest = refl

pub ring_halved_standings : cost_standings ring 500 (0 ∷ 0 ∷ [])
    ≡ stand 1 1 0 0 0 Contagion ∷ stand 0 0 0 0 0 Contagion ∷ []
ring_halved_standings = refl

-- A has just the 7 that it owes, to B and outside; B lacks one unit of the 7 that it owes; C owes
-- 1 outside alone
abbrev pub edge : Net
edge = record {
  banks =
      ruled (codes "A") 7 kind.Order 3
      ∷ ruled (codes "B") 2 kind.Order 2
      ∷ ruled (codes "C") 0 kind.Order 1 ∷ [];
  debts = debt 0 1 4 ∷ debt 1 2 5 ∷ [];
}

-- so A loses nothing. B loses all but 3 of its 6, pays 2 outside, and 1 to C, which pays it on
pub edge_halved : cost_least edge 500 ≡ 4 ∷ 1 ∷ []
unfolding awards_after share_by_from pay_by rounds_of
edge_halved = refl

pub edge_halved_clears : CostClears edge 500 (4 ∷ 1 ∷ [])
unfolding awards_after share_by_from pay_by
edge_halved_clears = refl

pub edge_halved_standings : cost_standings edge 500 (4 ∷ 1 ∷ [])
    ≡ stand 7 0 3 4 0 Sound
    ∷ stand 6 3 2 1 0 Fundamental
    ∷ stand 1 0 1 0 0 Sound ∷ []
edge_halved_standings = refl

-- at one thousandth less than all, units are rounded down
pub chain_rounded : cost_least chain 999 ≡ 6 ∷ 6 ∷ []
unfolding awards_after share_by_from pay_by rounds_of
chain_rounded = refl

-- A and B with 30 each owe each other 100
abbrev pub pair : Net
pair = record {
  banks = bank (codes "A") 30 ∷ bank (codes "B") 30 ∷ [];
  debts = debt 0 1 100 ∷ debt 1 0 100 ∷ [];
}

-- from below each pays half of what it then has, rounded down, and comes to 29
pub pair_least : cost_least pair 500 ≡ 29 ∷ 29 ∷ []
unfolding awards_after share_by_from pay_by rounds_of
pair_least = refl

pub pair_least_clears : CostClears pair 500 (29 ∷ 29 ∷ [])
unfolding awards_after share_by_from pay_by
pair_least_clears = refl

pub pair_least_standings : cost_standings pair 500 (29 ∷ 29 ∷ [])
    ≡ stand 59 30 0 29 0 Contagion ∷ stand 59 30 0 29 0 Contagion ∷ []
pair_least_standings = refl

-- from above both are sound
pub pair_greatest_clears : CostClears pair 500 (100 ∷ 100 ∷ [])
unfolding awards_after share_by_from pay_by
pair_greatest_clears = refl

pub pair_greatest_standings : cost_standings pair 500 (100 ∷ 100 ∷ [])
    ≡ stand 130 0 0 100 30 Sound ∷ stand 130 0 0 100 30 Sound ∷ []
pair_greatest_standings = refl

pub pair_greatest : cost_greatest pair 500 ≡ 100 ∷ 100 ∷ []
unfolding awards_after share_by_from pay_by rounds_of
pair_greatest = refl

-- five banks in a ring owe 4 each, and A alone has a unit
abbrev pub five : Net
five = record {
  banks = bank (codes "A") 1 ∷ bank (codes "B") 0 ∷ bank (codes "C") 0 ∷ bank (codes "D") 0
      ∷ bank (codes "E") 0 ∷ [];
  debts = debt 0 1 4 ∷ debt 1 2 4 ∷ debt 2 3 4 ∷ debt 3 4 4 ∷ debt 4 0 4 ∷ [];
}

-- half of a unit is none, and nothing goes round
pub five_least : cost_least five 500 ≡ 0 ∷ 0 ∷ 0 ∷ 0 ∷ 0 ∷ []
unfolding awards_after share_by_from pay_by rounds_of
five_least = refl

-- where each pays all, each can
pub five_greatest : cost_greatest five 500 ≡ 4 ∷ 4 ∷ 4 ∷ 4 ∷ 4 ∷ []
unfolding awards_after share_by_from pay_by rounds_of
five_greatest = refl

pub five_least_standings : cost_standings five 500 (0 ∷ 0 ∷ 0 ∷ 0 ∷ 0 ∷ [])
    ≡ stand 1 1 0 0 0 Contagion ∷ stand 0 0 0 0 0 Contagion ∷ stand 0 0 0 0 0 Contagion
    ∷ stand 0 0 0 0 0 Contagion ∷ stand 0 0 0 0 0 Contagion ∷ []
five_least_standings = refl

pub five_greatest_standings : cost_standings five 500 (4 ∷ 4 ∷ 4 ∷ 4 ∷ 4 ∷ [])
    ≡ stand 5 0 0 4 1 Sound ∷ stand 4 0 0 4 0 Sound ∷ stand 4 0 0 4 0 Sound
    ∷ stand 4 0 0 4 0 Sound ∷ stand 4 0 0 4 0 Sound ∷ []
five_greatest_standings = refl
