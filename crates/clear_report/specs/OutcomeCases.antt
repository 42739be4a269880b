-- Worked cases of the texts of what breaks banks, and of scenarios in sums, on the chain.
use Rattle.std.specs.Prelude.{◌≡◌, ℕ, [], ◌∷◌, ◌++◌, codes, refl}
use Rattle.std.specs.Fmt.{digits}
use Rattle.clr_net.specs.Samples.{chain}
use Rattle.rule_unit.specs.Units.{awards_after}
use Rattle.clr_net.specs.Division.{share_by_from}
use Rattle.clear_core.specs.Clearing.{pay, rounds}
use Rattle.cascade.specs.declared.standing.Health.{Health}
use Rattle.cascade.specs.declared.standing.Health.TheVariants as health
use Rattle.stress.specs.declared.broken.Broken.{Broken}
use Rattle.clear_report.specs.Breaking.{breaking_text}
use Rattle.clear_report.specs.Outcomes.{outcomes_text}

abbrev broken : ℕ → Health → Broken
broken cut health = record { cut = cut; health = health }

-- A and B are in default as they are, and no cut breaks C
pub chain_breaking_text :
    breaking_text chain (
    broken 0 health.Fundamental ∷ broken 0 health.Contagion ∷ broken 1001 health.Sound ∷ [])
    ≡ codes "bank,cut,state\nA,0,fundamental\nB,0,contagion\nC,1001,sound\n"
unfolding digits
chain_breaking_text = refl

-- half of all cash is lost: A keeps 4, and B keeps 1
pub chain_outcomes_text :
    outcomes_text chain (record { name = codes "half"; cut = 500; losses = [] } ∷ [])
    ≡ codes "scenario,cash,paid,outside_paid,equity,defaults,fundamental\nhalf,5,9,0,5,2,1\n"
    ++ codes "\nbank,defaults,fundamental\nA,1,1\nB,1,0\nC,0,0\n"
unfolding digits awards_after share_by_from pay rounds
chain_outcomes_text = refl

-- no scenario: the two headers with an empty line between them, and no bank falls
pub no_outcomes_text :
    outcomes_text chain []
    ≡ codes "scenario,cash,paid,outside_paid,equity,defaults,fundamental\n"
    ++ codes "\nbank,defaults,fundamental\nA,0,0\nB,0,0\nC,0,0\n"
unfolding digits
no_outcomes_text = refl
