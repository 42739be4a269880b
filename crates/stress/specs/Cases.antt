-- Worked cases: what documents give beside the chain, where A has 7 and B has 1, and what shocks
-- leave of it.
use Rattle.std.specs.Prelude.{◌≡◌, ⊤, ℕ, List, [], ◌∷◌, ◌++◌, codes, map, replicate, refl}
use Rattle.std.specs.Prelude.{Result, Ok, Err, true, false}
use Rattle.std.specs.Str.{is_utf8, chars}
use lib.Utf8.{encode}
use Rattle.toml.proofs.OnLiterals.{toml_on_literals}
use Rattle.toml.specs.Data.{boolean}
use Rattle.clr_net.specs.Net.{Net}
use Rattle.rule_unit.specs.Units.{awards_after}
use Rattle.clr_net.specs.Division.{share_by_from}
use Rattle.clr_net.specs.Samples.{bank, chain}
use Rattle.clear_core.specs.Clearing.{pay, rounds}
use Rattle.net_check.specs.declared.fault.Fault.{Fault}
use Rattle.net_check.specs.declared.fault.FaultKind.TheVariants as fault
use Rattle.stress.specs.Milder.{breaking_cut, is_broken_by}
use Rattle.stress.specs.Reading.{scenarios_of, next_scenario, read_all, read_losses, fault_in}
use Rattle.stress.specs.Shocks.{shocked}
use Rattle.stress.specs.declared.scenario.Loss.{Loss}
use Rattle.stress.specs.declared.scenario.Scenario.{Scenario}

-- what a case unfolds to compute the reading of a text
unfoldable reading_on_literals : ⊤
unfolding is_utf8 chars encode toml_on_literals read_all read_losses
reading_on_literals = tt

-- a loss of the bank of this number
abbrev loss : ℕ → ℕ → Loss
loss bank amount = record { bank = record { 0 = bank }; amount = amount }

-- a scenario of these
abbrev scenario : List ℕ → ℕ → List Loss → Scenario
scenario name cut losses = record { name = name; cut = cut; losses = losses }

-- what documents give
abbrev read : List (List ℕ) → List (Result (List Scenario) Fault)
read documents = map (scenarios_of chain) documents

-- no bytes, no key and no table are no scenario
pub none_given :
    read ([] ∷ codes "# none" ∷ codes "scenario = []" ∷ [])
    ≡ Ok [] ∷ Ok [] ∷ Ok [] ∷ []
unfolding reading_on_literals
none_given = refl

-- three scenarios, each with its losses
abbrev three : List ℕ
three =
    codes "[[scenario]]\nname = \"A loses all\"\n[[scenario.loss]]\nbank = \"A\"\namount = 7\n"
    ++ codes "\n[[scenario]]\nname = \"A loses more than it has\"\n"
    ++ codes "[[scenario.loss]]\nbank = \"A\"\namount = 20\n"
    ++ codes "\n[[scenario]]\nname = \"half\"\ncut = 500\n"

pub three_given : scenarios_of chain three ≡ Ok (
    scenario (codes "A loses all") 0 (loss 0 7 ∷ [])
    ∷ scenario (codes "A loses more than it has") 0 (loss 0 20 ∷ [])
    ∷ scenario (codes "half") 500 [] ∷ [])
unfolding reading_on_literals
three_given = refl

-- inline tables in any order after a byte order mark, numbers of other forms, and spaces in a name
pub inline_tables_given :
    scenarios_of chain (
    0xEF ∷ 0xBB ∷ 0xBF ∷ codes "scenario = [{ name = ' a ', "
    ++ codes "loss = [{ amount = 0x10, bank = 'B' }], cut = 1_000 }]")
    ≡ Ok (scenario (codes " a ") 1000 (loss 1 16 ∷ []) ∷ [])
unfolding reading_on_literals
inline_tables_given = refl

-- no UTF-8, no TOML, a key twice, and a number that does not fit 64 bits, which toml does not take
pub no_document :
    read (
    (0xFF ∷ []) ∷ codes "scenario" ∷ codes "scenario = []\nscenario = []"
    ∷ codes "scenario = [{ name = 'a', cut = 9223372036854775808 }]" ∷ [])
    ≡ replicate 4 (Err (fault_in 0 fault.Toml))
unfolding reading_on_literals
no_document = refl

-- another key, and scenarios that are no array
pub misshapen_document :
    read (
    codes "a = 1" ∷ codes "scenario = []\na = 1" ∷ codes "scenario = 1"
    ∷ codes "[scenario]\nname = 'a'" ∷ [])
    ≡ replicate 4 (Err (fault_in 0 fault.Shape))
unfolding reading_on_literals
misshapen_document = refl

-- a scenario that is no table, has another key, has no name, or has a name that is no text
pub misshapen_scenario :
    read (
    codes "scenario = [1]" ∷ codes "scenario = [{ name = 'a', a = 1 }]"
    ∷ codes "scenario = [{ cut = 1 }]" ∷ codes "scenario = [{ name = 1 }]" ∷ [])
    ≡ replicate 4 (Err (fault_in 1 fault.Shape))
unfolding reading_on_literals
misshapen_scenario = refl

-- a cut that is no whole number, before the name
pub misshapen_cut :
    read (
    codes "scenario = [{ name = '', cut = '1' }]" ∷ codes "scenario = [{ name = '', cut = 0.5 }]"
    ∷ codes "scenario = [{ name = '', cut = 1979-05-27 }]" ∷ [])
    ≡ replicate 3 (Err (fault_in 1 fault.Shape))
unfolding reading_on_literals
misshapen_cut = refl

-- losses that are no array of tables of these two keys: all of them before the name and any bank
pub misshapen_losses :
    read (
    codes "scenario = [{ name = ',', loss = 1 }]" ∷ codes "scenario = [{ name = ',', loss = [[]] }]"
    ∷ codes "scenario = [{ name = ',', loss = [{ bank = 'X' }] }]"
    ∷ (codes "scenario = [{ name = ',', loss = [{ bank = 'X', amount = 1 }, "
    ++ codes "{ bank = 'A', amount = 1, a = 1 }] }]") ∷ [])
    ≡ replicate 4 (Err (fault_in 1 fault.Shape))
unfolding reading_on_literals
misshapen_losses = refl

-- a name that is none, before the cut
pub name_before_cut :
    scenarios_of chain (codes "scenario = [{ name = ',', cut = 1001 }]")
    ≡ Err (fault_in 1 fault.Name)
unfolding reading_on_literals
name_before_cut = refl

-- a cut below 0 or above the limit, before the losses
pub cut_outside_limit :
    read (
    codes "scenario = [{ name = 'a', cut = -1, loss = [{ bank = 'X', amount = 1 }] }]"
    ∷ codes "scenario = [{ name = 'a', cut = 1001 }]" ∷ [])
    ≡ replicate 2 (Err (fault_in 1 fault.Limit))
unfolding reading_on_literals
cut_outside_limit = refl

-- a loss of no bank, in the second scenario, before its amount
pub unknown_bank :
    scenarios_of chain (
    codes "scenario = [{ name = 'a' }, "
    ++ codes "{ name = 'a', loss = [{ bank = 'X', amount = -1 }] }]")
    ≡ Err (fault_in 2 fault.UnknownBank)
unfolding reading_on_literals
unknown_bank = refl

-- a second loss of a bank, before its amount
pub bank_twice :
    scenarios_of chain (
    codes "scenario = [{ name = 'a', loss = [{ bank = 'A', amount = 0 }, "
    ++ codes "{ bank = 'A', amount = -1 }] }]")
    ≡ Err (fault_in 1 fault.DoubleBank)
unfolding reading_on_literals
bank_twice = refl

-- an amount of the limit, and one above it
pub amount_above_limit :
    scenarios_of chain (
    codes "scenario = [{ name = 'a', loss = [{ bank = 'A', amount = 1000000000000 }, "
    ++ codes "{ bank = 'B', amount = 1000000000001 }] }]")
    ≡ Err (fault_in 1 fault.Limit)
unfolding reading_on_literals
amount_above_limit = refl

-- the 101st scenario is too many, whatever it is
pub one_too_many :
    next_scenario chain (replicate 100 (scenario (codes "a") 0 [])) (boolean true)
    ≡ Err (fault_in 101 fault.TooMany)
one_too_many = refl

-- the chain with this cash
abbrev left : ℕ → ℕ → Net
left a b =
    record chain { banks = bank (codes "A") a ∷ bank (codes "B") b ∷ bank (codes "C") 0 ∷ [] }

-- A keeps 7 - 3 = 4, and B keeps 1 - 0 = 1: what is cut off is rounded down
pub half_left : shocked chain (scenario (codes "half") 500 []) ≡ left 4 1
half_left = refl

-- a loss is taken from what the cut leaves, and takes no more than that
pub losses_after_cut :
    shocked chain (scenario (codes "a") 500 (loss 1 1 ∷ loss 0 3 ∷ [])) ≡ left 1 0
losses_after_cut = refl

pub nothing_left :
    shocked chain (scenario (codes "a") 0 (loss 1 1 ∷ loss 0 20 ∷ [])) ≡ left 0 0
nothing_left = refl

-- A has 20 and owes 10: a cut of 549 takes 10 of it, and one of 550 takes 11
pub broken_from_550 :
    (is_broken_by (left 20 1) 0 549 ≡ false) × (is_broken_by (left 20 1) 0 550 ≡ true)
unfolding awards_after share_by_from pay rounds
broken_from_550 = (refl, refl)

-- A of the chain cannot pay all as it is
pub broken_uncut : breaking_cut chain 0 ≡ 0
unfolding awards_after share_by_from pay rounds
broken_uncut = refl

-- a bank that owes nothing is sound after every cut
pub never_broken : breaking_cut (record { banks = bank (codes "A") 1 ∷ []; debts = [] }) 0 ≡ 1001
unfolding rounds
never_broken = refl
