-- The claims of a network, and a network with other claims.
use Rattle.std.specs.Prelude.{ℕ, List, [], ◌∷◌, map}
use Rattle.clr_net.specs.declared.debt.Debt.{Debt}
use Rattle.clr_net.specs.Net.{Net}

-- the claim of each debt, in file order
abbrev pub all_claims : Net → List ℕ
all_claims net = map (λ d. d.claim) net.debts

-- the debt with this claim
abbrev pub of_claim : ℕ → Debt → Debt
of_claim claim d = record d { claim = claim }

-- the debts with these claims, place by place
abbrev pub of_claims : List ℕ → List Debt → List Debt
of_claims C [] = []
of_claims [] (d ∷ ds) = d ∷ ds
of_claims (claim ∷ C) (d ∷ ds) = of_claim claim d ∷ of_claims C ds

-- the network with these claims, and all else as before
abbrev pub with_claims : Net → List ℕ → Net
with_claims net C = record net { debts = of_claims C net.debts }
