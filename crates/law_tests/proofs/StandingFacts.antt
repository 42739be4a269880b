-- What laws on estates, shocks and rescues ask for, met at concrete networks.
use Rattle.std.proofs.Common.{◌≡◌, ℕ, zero, suc, ◌≤◌, Bool, true, false, ◌==◌, [], ◌∷◌, refl, inl}
use Rattle.std.proofs.Common.{inr, arith, lit≤, cond}
use Rattle.clr_net.specs.Division.{share_by_from}
use Rattle.clr_net.specs.Net.{rule_of, outside_of, cash_of}
use Rattle.clr_net.specs.Samples.{chain}
use Rattle.rule_unit.specs.Units.{awards_after}
use Rattle.clear_core.specs.Rounds.{rounds_of}
use Rattle.clear_core.specs.Clearing.{Clears, NeverFalls, pay, rounds, least, spend}
use Rattle.cascade.specs.MoreCash.{HasMoreCash}
use Rattle.cascade.specs.Standings.{health_of}
use Rattle.rescue.specs.OneUnit.{PassesNothingOn}
use Rattle.rescue.specs.Rescue.{Saves}
use Rattle.stress.specs.Milder.{IsMilder}
use Rattle.stress.specs.Shocks.{loss_of}
use Rattle.upper.specs.Bounds.{is_gridlocked, wave}
use Rattle.law_tests.specs.Nets.{richer, dry_ring, loss, scenario}

-- in the ring without cash payments of 0 clear
pub dry_nothing : Clears dry_ring (0 ∷ 0 ∷ [])
unfolding awards_after share_by_from pay
dry_nothing = refl

-- and so do payments of all 10
pub dry_all : Clears dry_ring (10 ∷ 10 ∷ [])
unfolding awards_after share_by_from pay
dry_all = refl

-- the richer chain has the chain's rules
same_rules : (i : ℕ) → rule_of richer i ≡ rule_of chain i
same_rules zero = refl
same_rules (suc zero) = refl
same_rules (suc (suc zero)) = refl
same_rules (suc (suc (suc i))) = refl

-- it has the chain's debts outside
same_outside : (i : ℕ) → outside_of richer i ≡ outside_of chain i
same_outside zero = refl
same_outside (suc zero) = refl
same_outside (suc (suc zero)) = refl
same_outside (suc (suc (suc i))) = refl

-- it has no less cash anywhere
more_cash : (i : ℕ) → cash_of chain i ≤ cash_of richer i
more_cash zero = lit≤ tt
more_cash (suc zero) = lit≤ tt
more_cash (suc (suc zero)) = lit≤ tt
more_cash (suc (suc (suc i))) = omega arith

-- so it differs in its cash alone, which is no less
pub more : HasMoreCash chain richer
more = record { banks = refl; rules = same_rules; outside = same_outside; cash = more_cash; debts = refl }

-- a loss of 1 here or nowhere is at most one of 3 in the same place
either_loss : (b : Bool) → cond b 1 0 ≤ cond b 3 0
either_loss true = lit≤ tt
either_loss false = lit≤ tt

-- a loss of 1 at A is at most one of 3 at A, at each bank
more_lost : (i : ℕ) → loss_of (loss 0 1 ∷ []) i ≤ loss_of (loss 0 3 ∷ []) i
more_lost i = either_loss (0 == i)

-- a cut of 100 with a loss of 1 at A is milder than a cut of 500 with a loss of 3 there
pub milder : IsMilder (scenario 100 (loss 0 1 ∷ [])) (scenario 500 (loss 0 3 ∷ []))
milder = record { cut = lit≤ tt; losses = more_lost }

-- what a bank of the chain divides never falls as its receipts grow
pub never_falls : NeverFalls (spend chain)
never_falls i r s l = omega arith

-- one unit saves B
pub one_saves : Saves chain 1 1
unfolding awards_after share_by_from pay rounds
one_saves = refl

-- A, which defaults, passes on all that it gets
pub passes_on : ¬ (PassesNothingOn chain 0)
unfolding awards_after share_by_from pay rounds
passes_on h = elim h [ inl sound ↦ cc | inr little ↦ absurd (omega arith) ]

-- A is in gridlock in the ring without cash
pub is_stuck : is_gridlocked (health_of dry_ring (least dry_ring) 0) (wave dry_ring 0) ≡ true
unfolding awards_after share_by_from pay rounds
is_stuck = refl

-- B of the chain enters the second round with less than it owes, and the first with all
pub second_wave : wave chain 1 ≡ 2
unfolding awards_after share_by_from pay rounds_of
second_wave = refl
