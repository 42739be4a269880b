use Rattle.std.proofs.Common.{ℕ, ◌<◌, ◌≤◌, get_or}
use Rattle.rule_unit.specs.declared.TheConstants.{MAX_CLAIM}
use Rattle.rule_level.proofs.search.greatest_claim.Given as goal

abbrev pub invariant-loop-place : goal.invariant-loop-place
invariant-loop-place l = record {
  so_far : (k : ℕ) → k < l.place → get_or l.claims k 0 ≤ l.greatest;
  limit : l.greatest ≤ MAX_CLAIM;
}
