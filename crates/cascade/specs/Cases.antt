-- Worked cases of standings.
use Rattle.std.specs.Prelude.{◌≡◌, ℕ, List, [], ◌∷◌, codes, map, refl}
use Rattle.clr_net.specs.declared.bank.Bank.{Bank}
use Rattle.clr_net.specs.declared.rule.RuleKind.TheVariants as kind
use Rattle.clr_net.specs.Net.{Net}
use Rattle.clr_net.specs.Samples.{bank, debt, chain}
use Rattle.rule_unit.specs.Units.{awards_after}
use Rattle.clr_net.specs.Division.{share_by_from}
use Rattle.clear_core.specs.Clearing.{pay, rounds, least, Clears}
use Rattle.cascade.specs.declared.standing.Health.{Health}
use Rattle.cascade.specs.declared.standing.Health.TheVariants.{Sound, Fundamental, Contagion}
use Rattle.cascade.specs.declared.standing.Standing.{Standing}
use Rattle.cascade.specs.Ruin.{kept_less}
use Rattle.cascade.specs.Standings.{bank_numbers, standings}

abbrev stand : ℕ → ℕ → ℕ → ℕ → ℕ → ℕ → Health → Standing
stand estate outside outside_paid paid owed equity health = record {
  estate = estate;
  outside = outside;
  outside_paid = outside_paid;
  paid = paid;
  owed = owed;
  equity = equity;
  health = health;
}

-- A could not pay B in any case; B could pay C if A paid
pub chain_clears : Clears chain (7 ∷ 8 ∷ [])
unfolding awards_after share_by_from pay
chain_clears = refl

pub chain_standings : standings chain (7 ∷ 8 ∷ [])
    ≡ stand 7 0 0 7 10 0 Fundamental
    ∷ stand 8 0 0 8 9 0 Contagion
    ∷ stand 8 0 0 0 0 8 Sound ∷ []
chain_standings = refl

-- a bank by the order rule, with an outside claim
abbrev owing : List ℕ → ℕ → ℕ → Bank
owing name cash outside = record { name = name; cash = cash; rule = kind.Order; outside = outside }

-- the chain, where A owes a units outside and C owes 2
abbrev outside_chain : ℕ → Net
outside_chain a = record {
  banks = owing (codes "A") 7 a ∷ owing (codes "B") 1 0 ∷ owing (codes "C") 0 2 ∷ [];
  debts = debt 0 1 10 ∷ debt 1 2 9 ∷ [];
}

-- A's outside claim is paid before its debt to B
pub outside_before_debts : standings (outside_chain 3) (least (outside_chain 3))
    ≡ stand 7 3 3 4 10 0 Fundamental
    ∷ stand 5 0 0 5 9 0 Contagion
    ∷ stand 5 2 2 0 0 3 Sound ∷ []
unfolding awards_after share_by_from pay rounds
outside_before_debts = refl

-- and takes all its cash where it is more. C, which has no debts, cannot pay what it owes outside
pub outside_above_cash : standings (outside_chain 8) (least (outside_chain 8))
    ≡ stand 7 8 7 0 10 0 Fundamental
    ∷ stand 1 0 0 1 9 0 Contagion
    ∷ stand 1 2 1 0 0 0 Contagion ∷ []
unfolding awards_after share_by_from pay rounds
outside_above_cash = refl

-- A and B owe each other 10 and have nothing: each could pay if the other did
abbrev dry_ring : Net
dry_ring = record {
  banks = bank (codes "A") 0 ∷ bank (codes "B") 0 ∷ [];
  debts = debt 0 1 10 ∷ debt 1 0 10 ∷ [];
}

pub dry_ring_standings : standings dry_ring (least dry_ring)
    ≡ stand 0 0 0 0 10 0 Contagion ∷ stand 0 0 0 0 10 0 Contagion ∷ []
unfolding awards_after share_by_from pay rounds
dry_ring_standings = refl

-- A of the chain loses 7 and pays B nothing: C, at the end, bears it all
pub last_bank_bears_it : map (kept_less chain 0) (bank_numbers chain) ≡ 0 ∷ 0 ∷ 7 ∷ []
unfolding awards_after share_by_from pay rounds
last_bank_bears_it = refl

-- what A owes outside is lost first to those to whom it is owed, and the rest to C
pub outside_bears_its_part :
    map (kept_less (outside_chain 3) 0) (bank_numbers (outside_chain 3)) ≡ 3 ∷ 0 ∷ 4 ∷ []
unfolding awards_after share_by_from pay rounds
outside_bears_its_part = refl
