-- Lists of how all banks stand.
use Rattle.std.proofs.Common.{◌≡◌, ℕ, ◌<◌, List, length, get_or, ap, ◌∙◌, arith}
use Rattle.std.proofs.lemmas.List.FromFn.{get_or-map-range_with_len, length-map-range_with_len}
use Rattle.clr_net.specs.Net.{Net}
use Rattle.cascade.specs.declared.standing.Standing.{Standing}
use Rattle.cascade.specs.Standings.{standing, standings}

-- of banks that stand so under some payments
module _ (net : Net) (P : List ℕ) (all : List Standing) (are : all ≡ standings net P) where
  -- there are as many as banks
  pub as_many_stand : length all ≡ length net.banks
  as_many_stand = ap length are ∙ length-map-range_with_len (standing net P) 0 (length net.banks)

  -- each stands in its place
  pub stands_there : (k : ℕ) (d : Standing) → k < length net.banks
      → get_or all k d ≡ standing net P k
  stands_there k d bank =
      ap (λ (ss : List Standing). get_or ss k d) are
      ∙ get_or-map-range_with_len (standing net P) 0 (length net.banks) k k d bank (omega arith)
