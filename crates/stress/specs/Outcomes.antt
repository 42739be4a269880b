-- Scenarios in sums: what each comes to, and how often each bank falls in them.
use Rattle.std.specs.Prelude.{ℕ, ◌+◌, ◌≤◌, Bool, true, false, cond, List, [], ◌∷◌, map, sum_by, count_by}
use Rattle.std.specs.List.{All}
use Rattle.clr_net.specs.Net.{Net, all_cash}
use Rattle.clear_core.specs.Clearing.{least}
use Rattle.cascade.specs.declared.standing.Health.{Health}
use Rattle.cascade.specs.declared.standing.Health.TheVariants.{Sound, Fundamental, Contagion}
use Rattle.cascade.specs.declared.standing.Standing.{Standing}
use Rattle.cascade.specs.Standings.{bank_numbers, equity, health_of, is_default, outside_paid, paid_by}
use Rattle.stress.specs.Shocks.{shocked}
use Rattle.stress.specs.declared.scenario.Scenario.{Scenario}
use Rattle.stress.specs.declared.sums.Outcome.{Outcome}
use Rattle.stress.specs.declared.tally.Falls.{Falls}

-- whether a bank is in default by its own fundamentals
abbrev pub is_fundamental : Health → Bool
is_fundamental Sound = false
is_fundamental Fundamental = true
is_fundamental Contagion = false

-- a network under the payments P, in sums: all cash, what its banks pay on their debts and outside,
-- what is left to them, how many are in default, and how many by their own fundamentals
abbrev pub sums : Net → List ℕ → Outcome
sums net P =
    let banks = bank_numbers net in
    record {
      cash = all_cash net;
      paid = sum_by (paid_by net P) banks;
      outside_paid = sum_by (outside_paid net P) banks;
      equity = sum_by (equity net P) banks;
      defaults = count_by (λ i. is_default (health_of net P i)) banks;
      fundamental = count_by (λ i. is_fundamental (health_of net P i)) banks;
    }

-- what a scenario comes to: the sums of what it leaves, under the least payments that clear then
abbrev pub outcome : Net → Scenario → Outcome
outcome net s = sums (shocked net s) (least (shocked net s))

-- how the bank i stands in a scenario, under the least payments that clear then
abbrev pub health_in : Net → ℕ → Scenario → Health
health_in net i s = health_of (shocked net s) (least (shocked net s)) i

-- in how many of these scenarios the bank i is in default, and in how many by its own fundamentals
abbrev pub falls : Net → List Scenario → ℕ → Falls
falls net all i = record {
  defaults = count_by (λ s. is_default (health_in net i s)) all;
  fundamental = count_by (λ s. is_fundamental (health_in net i s)) all;
}

-- the same of each bank, in file order
abbrev pub tally : Net → List Scenario → List Falls
tally net all = map (falls net all) (bank_numbers net)

-- a bank that stands so in one scenario falls so often in it
abbrev pub once : Health → Falls
once h = record { defaults = cond (is_default h) 1 0; fundamental = cond (is_fundamental h) 1 0 }

-- the same of banks of these standings
abbrev pub tally_of_one : List Standing → List Falls
tally_of_one all = map (λ s. once s.health) all

-- both together
abbrev pub both : Falls → Falls → Falls
both a b = record {
  defaults = a.defaults + b.defaults;
  fundamental = a.fundamental + b.fundamental;
}

-- the falls of each bank in some scenarios, and in others, added up
abbrev pub added : List Falls → List Falls → List Falls
added [] more = []
added (a ∷ all) [] = a ∷ all
added (a ∷ all) (b ∷ more) = both a b ∷ added all more

-- no bank falls more often than n times
abbrev pub AreWithin : ℕ → List Falls → Type 0
AreWithin n all = All (λ f. (f.defaults ≤ n) × (f.fundamental ≤ n)) all
