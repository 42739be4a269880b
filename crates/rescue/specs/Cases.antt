-- Worked cases of rescue.
use Rattle.std.specs.Prelude.{◌≡◌, ℕ, List, [], ◌∷◌, codes, refl}
use Rattle.clr_net.specs.declared.rule.RuleKind.TheVariants as kind
use Rattle.clr_net.specs.Net.{Net}
use Rattle.clr_net.specs.Samples.{bank, debt, chain, ruled}
use Rattle.rule_unit.specs.Units.{awards_after}
use Rattle.clr_net.specs.Division.{share_by_from}
use Rattle.clear_core.specs.Clearing.{pay, rounds, least}
use Rattle.rescue.specs.OneUnit.{all_kept}
use Rattle.rescue.specs.Rescue.{added, rescue, short_of}
use Rattle.rescue.specs.Saved.{left_in_default, saved_with}

-- A owes 10 and has 7
pub chain_top : (rescue chain 0 ≡ 3) × (short_of chain 0 3 ≡ 1)
unfolding awards_after share_by_from pay rounds
chain_top = (refl, refl)

-- B has 1 and gets 7, and lacks one unit of the 9 that it owes
pub chain_middle : (rescue chain 1 ≡ 1) × (short_of chain 1 1 ≡ 1)
unfolding awards_after share_by_from pay rounds
chain_middle = (refl, refl)

-- with it B pays all
pub chain_middle_pays : least (added chain 1 1) ≡ 7 ∷ 9 ∷ []
unfolding awards_after share_by_from pay rounds
chain_middle_pays = refl

-- C owes nothing, and is sound as it is
pub chain_end : (rescue chain 2 ≡ 0) × (short_of chain 2 0 ≡ 0)
unfolding awards_after share_by_from pay rounds
chain_end = (refl, refl)

-- A and B owe each other 10 and have nothing: one unit goes round until both have paid all
abbrev pub dry_ring : Net
dry_ring = record {
  banks = bank (codes "A") 0 ∷ bank (codes "B") 0 ∷ [];
  debts = debt 0 1 10 ∷ debt 1 0 10 ∷ [];
}

pub one_unit_goes_round : (rescue dry_ring 0 ≡ 1) × (short_of dry_ring 0 1 ≡ 10)
unfolding awards_after share_by_from pay rounds
one_unit_goes_round = (refl, refl)

-- and both are paid in full
pub ring_pays : least (added dry_ring 0 1) ≡ 10 ∷ 10 ∷ []
unfolding awards_after share_by_from pay rounds
ring_pays = refl

-- A owes 9 outside alone, and has 3 and what B pays it
abbrev pub owing_outside : Net
owing_outside = record {
  banks = record { name = codes "A"; cash = 3; rule = kind.Order; outside = 9 }
      ∷ bank (codes "B") 6 ∷ [];
  debts = debt 1 0 4 ∷ [];
}

-- so it lacks 2
pub outside_claim_alone : (rescue owing_outside 0 ≡ 2) × (short_of owing_outside 0 2 ≡ 1)
unfolding awards_after share_by_from pay rounds
outside_claim_alone = (refl, refl)

-- a unit at A of the chain goes on to C: both payments rise, and C keeps one unit more
pub unit_goes_on :
    (least chain ≡ 7 ∷ 8 ∷ [])
    × (least (added chain 0 1) ≡ 8 ∷ 9 ∷ [])
    × (all_kept chain ≡ 8)
    × (all_kept (added chain 0 1) ≡ 9)
unfolding awards_after share_by_from pay rounds
unit_goes_on = (refl, refl, refl, refl)

-- one that goes round a ring is still kept once
pub unit_that_goes_round : (all_kept dry_ring ≡ 0) × (all_kept (added dry_ring 0 1) ≡ 1)
unfolding awards_after share_by_from pay rounds
unit_that_goes_round = (refl, refl)

-- A has this cash, and owes 3 outside and 5 to B
abbrev pub owing_both : ℕ → Net
owing_both cash = record {
  banks = record { name = codes "A"; cash = cash; rule = kind.Order; outside = 3 }
      ∷ bank (codes "B") 0 ∷ [];
  debts = debt 0 1 5 ∷ [];
}

-- a third unit goes outside, a fourth to B, and a ninth is left to A, which is sound
pub unit_by_unit :
    (least (added (owing_both 2) 0 1) ≡ least (owing_both 2))
    × (least (owing_both 3) ≡ 0 ∷ [])
    × (least (added (owing_both 3) 0 1) ≡ 1 ∷ [])
    × (least (added (owing_both 8) 0 1) ≡ least (owing_both 8))
unfolding awards_after share_by_from pay rounds
unit_by_unit = (refl, refl, refl, refl)

-- what saving the bank i takes, what it lacks with a unit less, whom that saves besides, and how
-- many are not sound then
abbrev pub told : Net → ℕ → ℕ × ℕ × List ℕ × ℕ
told net i =
    (rescue net i, short_of net i (rescue net i), saved_with net i, left_in_default net i)

-- with 3 at A of the chain, A pays B enough to pay C: nobody is in default. With 1 at B, A still is
pub chain_saved : (told chain 0 ≡ (3, 1, 1 ∷ [], 0)) × (told chain 1 ≡ (1, 1, [], 1))
unfolding awards_after share_by_from pay rounds
chain_saved = (refl, refl)

-- the chain, where A owes 3 outside, and C 2
abbrev pub outside_chain : Net
outside_chain = record {
  banks = ruled (codes "A") 7 kind.Order 3
      ∷ ruled (codes "B") 1 kind.Order 0
      ∷ ruled (codes "C") 0 kind.Order 2 ∷ [];
  debts = debt 0 1 10 ∷ debt 1 2 9 ∷ [];
}

-- what A owes outside is missing too
pub outside_saved :
    (told outside_chain 0 ≡ (6, 1, 1 ∷ [], 0)) × (told outside_chain 1 ≡ (4, 1, [], 1))
unfolding awards_after share_by_from pay rounds
outside_saved = (refl, refl)

-- three banks without cash owe each other 5 in a ring: a unit at any of them saves them all
abbrev pub ring_of_three : Net
ring_of_three = record {
  banks = bank (codes "A") 0 ∷ bank (codes "B") 0 ∷ bank (codes "C") 0 ∷ [];
  debts = debt 0 1 5 ∷ debt 1 2 5 ∷ debt 2 0 5 ∷ [];
}

pub ring_saved :
    (told ring_of_three 0 ≡ (1, 5, 1 ∷ 2 ∷ [], 0)) × (told ring_of_three 1 ≡ (1, 5, 0 ∷ 2 ∷ [], 0))
unfolding awards_after share_by_from pay rounds
ring_saved = (refl, refl)
