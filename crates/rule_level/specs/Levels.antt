-- What a claim gets at a level, from 0 to MAX_LEVEL. Awards at one level are given
-- in turn. One level more is at most one unit more for each claim, and of such units none goes
-- before another.
use Rattle.std.specs.Prelude.{ℕ, ◌+◌, ◌-◌, ◌*◌, ◌/◌, min, List, map}
use Rattle.rule_class.specs.ByOrder.{fill}
use Rattle.rule_level.specs.declared.TheConstants.{MAX_LEVEL}
use Rattle.rule_unit.specs.declared.TheConstants.{MAX_CLAIM}
use Rattle.clr_net.specs.Division.{place_sums}
use Rattle.clr_net.specs.declared.rule.RuleKind.{RuleKind}
use Rattle.clr_net.specs.declared.rule.RuleKind.TheVariants as kind

-- the units of a claim at the level t. Equal: up to t units; Losses: all but MAX_CLAIM - t units;
-- Jefferson, Webster, Adams: the claim times t / MAX_LEVEL, rounded down, to the nearest (half up),
-- or up
abbrev pub at_level : RuleKind → ℕ → ℕ → ℕ
at_level kind.Order t c = 0
at_level kind.Equal t c = min c t
at_level kind.Losses t c = c - (MAX_CLAIM - t)
at_level kind.Jefferson t c = min c (t * c / MAX_LEVEL)
at_level kind.Webster t c = min c ((2 * t * c + MAX_LEVEL) / (2 * MAX_LEVEL))
at_level kind.Adams t c = min c ((t * c + (MAX_LEVEL - 1)) / MAX_LEVEL)

-- the awards of all claims at a level
abbrev pub level_awards : RuleKind → ℕ → List ℕ → List ℕ
level_awards kind t claims = map (at_level kind t) claims

-- what a claim gets at the next level and not yet at the level t
abbrev pub step_at : RuleKind → ℕ → ℕ → ℕ
step_at kind t c = at_level kind (t + 1) c - at_level kind t c

-- the awards at the level t, with m units of the next level, for the earliest claims that get one
-- there
abbrev pub awards_above : RuleKind → ℕ → ℕ → List ℕ → List ℕ
awards_above kind t m claims =
    place_sums (level_awards kind t claims) (fill (map (step_at kind t) claims) m)
