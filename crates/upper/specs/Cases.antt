-- Worked cases of the greatest payments and of waves.
use Rattle.std.specs.Prelude.{◌≡◌, ℕ, true, false, [], ◌∷◌, codes, refl}
use Rattle.clr_net.specs.declared.rule.RuleKind.TheVariants as kind
use Rattle.clr_net.specs.Net.{Net}
use Rattle.clr_net.specs.Samples.{bank, debt, chain, ruled}
use Rattle.rule_unit.specs.Units.{awards_after}
use Rattle.clr_net.specs.Division.{share_by_from}
use Rattle.clear_core.specs.Clearing.{pay, rounds, least}
use Rattle.clear_core.specs.Rounds.{rounds_of}
use Rattle.upper.specs.Bounds.{greatest, gridlocked, waves}

-- A falls at once, and B after it
pub chain_greatest : greatest chain ≡ 7 ∷ 8 ∷ []
unfolding awards_after share_by_from pay rounds_of
chain_greatest = refl

pub chain_waves : waves chain ≡ 1 ∷ 2 ∷ 0 ∷ []
unfolding awards_after share_by_from pay rounds_of
chain_waves = refl

-- A and B owe each other 10 and have nothing: paying nothing clears, and so does paying all
abbrev pub gridlock : Net
gridlock = record {
  banks = bank (codes "A") 0 ∷ bank (codes "B") 0 ∷ [];
  debts = debt 0 1 10 ∷ debt 1 0 10 ∷ [];
}

pub gridlock_least : least gridlock ≡ 0 ∷ 0 ∷ []
unfolding awards_after share_by_from pay rounds
gridlock_least = refl

pub gridlock_greatest : greatest gridlock ≡ 10 ∷ 10 ∷ []
unfolding awards_after share_by_from pay rounds_of
gridlock_greatest = refl

pub gridlock_waves : waves gridlock ≡ 0 ∷ 0 ∷ []
unfolding awards_after share_by_from pay rounds_of
gridlock_waves = refl

-- so both are in gridlock, and no bank of the chain is
pub gridlock_gridlocked : gridlocked gridlock ≡ true ∷ true ∷ []
unfolding awards_after share_by_from pay rounds rounds_of
gridlock_gridlocked = refl

pub chain_gridlocked : gridlocked chain ≡ false ∷ false ∷ false ∷ []
unfolding awards_after share_by_from pay rounds rounds_of
chain_gridlocked = refl

-- the chain, where A owes a units outside and C owes 2
abbrev outside_chain : ℕ → Net
outside_chain a = record {
  banks =
      ruled (codes "A") 7 kind.Order a
      ∷ ruled (codes "B") 1 kind.Order 0
      ∷ ruled (codes "C") 0 kind.Order 2 ∷ [];
  debts = debt 0 1 10 ∷ debt 1 2 9 ∷ [];
}

-- what A owes outside is part of what it owes, and paid before its debt to B
pub outside_chain_greatest : greatest (outside_chain 3) ≡ 4 ∷ 5 ∷ []
unfolding awards_after share_by_from pay rounds_of
outside_chain_greatest = refl

pub outside_chain_waves : waves (outside_chain 3) ≡ 1 ∷ 2 ∷ 0 ∷ []
unfolding awards_after share_by_from pay rounds_of
outside_chain_waves = refl

-- where A pays B nothing, C falls too, though it has no debts
pub last_bank_falls : waves (outside_chain 8) ≡ 1 ∷ 2 ∷ 3 ∷ []
unfolding awards_after share_by_from pay rounds_of
last_bank_falls = refl
