-- Worked cases of ruins.
use Rattle.std.specs.Prelude.{◌≡◌, ℕ, Bool, true, false, [], ◌∷◌, codes, refl}
use Rattle.clr_net.specs.Net.{Net}
use Rattle.clr_net.specs.Samples.{bank, debt, chain, ruled}
use Rattle.clr_net.specs.declared.rule.RuleKind.TheVariants as kind
use Rattle.rule_unit.specs.Units.{awards_after}
use Rattle.clr_net.specs.Division.{share_by_from}
use Rattle.clear_core.specs.Clearing.{pay, rounds}
use Rattle.cascade.specs.Ruin.{kept_less}
use Rattle.impact.specs.declared.hurt.Hurt.{Hurt}
use Rattle.impact.specs.Impact.{fallen, hurt_by, lost_by_others}

-- the bank i keeps so much less, and falls or not
abbrev pub hurting : ℕ → ℕ → Bool → Hurt
hurting i units broken = record { bank = record { 0 = i }; lost = units; falls = broken }

-- what the bank j itself keeps less, what all others do, and how many of them fall
abbrev pub told : Net → ℕ → ℕ × ℕ × ℕ
told net j = (kept_less net j j, lost_by_others net j, fallen net j)

-- C, at the end of the chain, bears what A loses, and what B loses. Nobody falls, since A and B are
-- in default as it is
pub chain_told :
    (told chain 0 ≡ (0, 7, 0))
    × (told chain 1 ≡ (0, 1, 0))
    × (told chain 2 ≡ (0, 0, 0))
unfolding awards_after share_by_from pay rounds
chain_told = (refl, refl, refl)

pub chain_hurts :
    (hurt_by chain 0 ≡ hurting 2 7 false ∷ [])
    × (hurt_by chain 1 ≡ hurting 2 1 false ∷ [])
    × (hurt_by chain 2 ≡ [])
unfolding awards_after share_by_from pay rounds
chain_hurts = (refl, refl, refl)

-- the chain, where A owes 3 outside, and C 2
abbrev pub outside_chain : Net
outside_chain = record {
  banks = ruled (codes "A") 7 kind.Order 3
      ∷ ruled (codes "B") 1 kind.Order 0
      ∷ ruled (codes "C") 0 kind.Order 2 ∷ [];
  debts = debt 0 1 10 ∷ debt 1 2 9 ∷ [];
}

-- what A owes outside is lost first to those to whom it is owed, and C falls with the rest
pub outside_told :
    (told outside_chain 0 ≡ (3, 4, 1))
    × (told outside_chain 1 ≡ (0, 1, 0))
    × (told outside_chain 2 ≡ (0, 0, 0))
unfolding awards_after share_by_from pay rounds
outside_told = (refl, refl, refl)

pub outside_hurts :
    (hurt_by outside_chain 0 ≡ hurting 0 3 false ∷ hurting 2 4 true ∷ [])
    × (hurt_by outside_chain 1 ≡ hurting 2 1 false ∷ [])
    × (hurt_by outside_chain 2 ≡ [])
unfolding awards_after share_by_from pay rounds
outside_hurts = (refl, refl, refl)

-- five banks owe each other 4 in a ring, and A alone has 1
abbrev pub ring_of_five : Net
ring_of_five = record {
  banks = bank (codes "A") 1
      ∷ bank (codes "B") 0
      ∷ bank (codes "C") 0
      ∷ bank (codes "D") 0
      ∷ bank (codes "E") 0 ∷ [];
  debts = debt 0 1 4 ∷ debt 1 2 4 ∷ debt 2 3 4 ∷ debt 3 4 4 ∷ debt 4 0 4 ∷ [];
}

-- with that unit all fall, though no other bank keeps less
pub ring_told : (told ring_of_five 0 ≡ (1, 0, 4)) × (told ring_of_five 1 ≡ (0, 0, 0))
unfolding awards_after share_by_from pay rounds
ring_told = (refl, refl)

pub ring_hurts : hurt_by ring_of_five 0
    ≡ hurting 0 1 true
    ∷ hurting 1 0 true
    ∷ hurting 2 0 true
    ∷ hurting 3 0 true
    ∷ hurting 4 0 true ∷ []
unfolding awards_after share_by_from pay rounds
ring_hurts = refl
