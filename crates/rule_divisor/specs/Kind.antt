-- The kind of rule that a divisor is, and what it divides a claim by.
use Rattle.std.specs.Prelude.{ℕ, ◌+◌, ◌*◌}
use Rattle.clr_net.specs.declared.rule.RuleKind.{RuleKind}
use Rattle.clr_net.specs.declared.rule.RuleKind.TheVariants as kind
use Rattle.rule_divisor.specs.declared.divisor.Divisor.{Divisor}
use Rattle.rule_divisor.specs.declared.divisor.Divisor.TheVariants as divisor

abbrev pub kind_of : Divisor → RuleKind
kind_of divisor.Jefferson = kind.Jefferson
kind_of divisor.Webster = kind.Webster
kind_of divisor.Adams = kind.Adams

-- what the claim of a debt with k units is divided by
abbrev pub divisor_of : Divisor → ℕ → ℕ
divisor_of divisor.Jefferson k = k + 1
divisor_of divisor.Webster k = 2 * k + 1
divisor_of divisor.Adams k = k
