-- Concrete networks, journals and files at which laws are tried.
use Rattle.std.specs.Prelude.{ℕ, Bool, true, false, ◌&&◌, nat_le, List, [], ◌∷◌, codes}
use Rattle.clr_net.specs.Net.{Net}
use Rattle.clr_net.specs.Samples.{bank, debt, chain}
use Rattle.clear_core.specs.declared.event.Event.{Event}
use Rattle.clear_core.specs.declared.event.Event.TheVariants as event
use Rattle.clear_core.specs.declared.event.Raise.{Raise}
use Rattle.rescue.specs.Rescue.{added}
use Rattle.stress.specs.declared.scenario.Loss.{Loss}
use Rattle.stress.specs.declared.scenario.Scenario.{Scenario}

-- whether no number of a list is above the one in its place of another
abbrev pub all_le : List ℕ → List ℕ → Bool
all_le [] ys = true
all_le (x ∷ xs) [] = false
all_le (x ∷ xs) (y ∷ ys) = nat_le x y && all_le xs ys

-- the raise with this stamp, of this debt, up to what is paid from then on
abbrev pub raise : ℕ → ℕ → ℕ → Raise
raise stamp debt to = record { stamp = stamp; debt = record { 0 = debt }; to = to }

-- A raises what it pays to 7, B looks at that, and raises what it pays to 8
abbrev pub events : List Event
events = event.Raise (record { 0 = 0 }) 7 ∷ event.Load (record { 0 = 0 })
    ∷ event.Raise (record { 0 = 1 }) 8 ∷ []

-- the two raises of these events, the later one first
abbrev pub two : List Raise
two = raise 2 1 8 ∷ raise 1 0 7 ∷ []

-- the same in order
abbrev pub two_ordered : List Raise
two_ordered = raise 1 0 7 ∷ raise 2 1 8 ∷ []

-- the chain, whose first bank has two units more
abbrev pub richer : Net
richer = added chain 0 2

-- A and B owe each other 10 and have nothing
abbrev pub dry_ring : Net
dry_ring = record {
  banks = bank (codes "A") 0 ∷ bank (codes "B") 0 ∷ [];
  debts = debt 0 1 10 ∷ debt 1 0 10 ∷ [];
}

-- its banks file
abbrev pub dry_banks : List ℕ
dry_banks = codes "name,cash,rule\nA,0,order\nB,0,order\n"

-- its debts file
abbrev pub dry_debts : List ℕ
dry_debts = codes "debtor,creditor,class,claim\nA,B,1,10\nB,A,1,10\n"

-- A owes B 5, B owes C 3 and C owes A 4
abbrev pub cycle : Net
cycle = record {
  banks = bank (codes "A") 0 ∷ bank (codes "B") 0 ∷ bank (codes "C") 0 ∷ [];
  debts = debt 0 1 5 ∷ debt 1 2 3 ∷ debt 2 0 4 ∷ [];
}

-- its banks file
abbrev pub cycle_banks : List ℕ
cycle_banks = codes "name,cash,rule\nA,0,order\nB,0,order\nC,0,order\n"

-- its debts file
abbrev pub cycle_debts : List ℕ
cycle_debts = codes "debtor,creditor,class,claim\nA,B,1,5\nB,C,1,3\nC,A,1,4\n"

-- what is left of its claims once the least of them is taken off each
abbrev pub left : List ℕ
left = 2 ∷ 0 ∷ 1 ∷ []

-- the loss of so many units by this bank
abbrev pub loss : ℕ → ℕ → Loss
loss bank amount = record { bank = record { 0 = bank }; amount = amount }

-- the scenario without a name of this cut and these losses
abbrev pub scenario : ℕ → List Loss → Scenario
scenario cut losses = record { name = []; cut = cut; losses = losses }
