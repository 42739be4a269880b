-- The network that a scenario leaves, and which scenarios may be given to a network.
use Rattle.std.specs.Prelude.{◌≡◌, ◌≢◌, ℕ, suc, ◌-◌, ◌*◌, ◌/◌, ◌<◌, ◌≤◌, ◌==◌, Bool, cond}
use Rattle.std.specs.Prelude.{List, [], ◌∷◌, length}
use Rattle.std.specs.List.{All, AllPairs}
use Rattle.clr_net.specs.Net.{Net, of_cash, name_of, rule_of, outside_of}
use Rattle.clr_net.specs.declared.bank.Bank.{Bank}
use Rattle.stress.specs.declared.TheConstants.{MAX_CUT, MAX_LOSS}
use Rattle.stress.specs.declared.scenario.Loss.{Loss}
use Rattle.stress.specs.declared.scenario.Scenario.{Scenario}

-- a loss of the bank of this number
abbrev pub is_of_bank : ℕ → Loss → Bool
is_of_bank bank l = l.bank.0 == bank

-- what the bank i loses: nothing, where no loss is of it
abbrev pub loss_of : List Loss → ℕ → ℕ
loss_of [] i = 0
loss_of (l ∷ losses) i = cond (is_of_bank i l) l.amount (loss_of losses i)

-- what a cut, per mille, leaves of some cash: what is cut off is rounded down
abbrev pub after_cut : ℕ → ℕ → ℕ
after_cut cut cash = cash - cash * cut / 1000

-- the bank i after a cut and losses. It loses no more than the cut leaves: a difference of numbers
-- does not fall below 0
abbrev pub shocked_bank : ℕ → List Loss → ℕ → Bank → Bank
shocked_bank cut losses i b = of_cash (after_cut cut b.cash - loss_of losses i) b

-- these banks after a cut and losses: the first of them is the bank i
abbrev pub shocked_from : ℕ → List Loss → ℕ → List Bank → List Bank
shocked_from cut losses i [] = []
shocked_from cut losses i (b ∷ banks) =
    shocked_bank cut losses i b ∷ shocked_from cut losses (suc i) banks

-- a network after a cut and losses: only the cash of its banks changes
abbrev pub after_shock : ℕ → List Loss → Net → Net
after_shock cut losses net = record net { banks = shocked_from cut losses 0 net.banks }

-- the network that a scenario leaves
abbrev pub shocked : Net → Scenario → Net
shocked net s = after_shock s.cut s.losses net

-- a scenario that may be given to a network: its cut is in its limit, and its losses are of banks
-- of the network, each at most once
pub record IsScenarioOf (net : Net) (s : Scenario) : Type 0 where
  pub cut_in_limit : s.cut ≤ MAX_CUT
  pub of_known_banks : All (λ l. l.bank.0 < length net.banks) s.losses
  pub of_different_banks : AllPairs (λ l m. l.bank.0 ≢ m.bank.0) s.losses

-- no loss of a scenario is above the limit
abbrev pub HasLossesInLimit : Scenario → Type 0
HasLossesInLimit s = All (λ l. l.amount ≤ MAX_LOSS) s.losses

-- another network has the same banks by name, rule and outside claim, in the same places, and the
-- same debts
pub record KeepsAllButCash (before after : Net) : Type 0 where
  pub banks : length after.banks ≡ length before.banks
  pub names : (i : ℕ) → name_of after i ≡ name_of before i
  pub rules : (i : ℕ) → rule_of after i ≡ rule_of before i
  pub outside : (i : ℕ) → outside_of after i ≡ outside_of before i
  pub debts : after.debts ≡ before.debts
