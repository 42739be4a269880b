use Rattle.std.proofs.Common.{◌≡◌, ◌<◌, All, length, map, filter}
use Rattle.std.specs.List.{range_with_len}
use Rattle.rescue.proofs.banks.passing.Given as goal

abbrev pub invariant-loop-number : goal.invariant-loop-number
invariant-loop-number g l = record {
  so_far : map (λ b. b.0) l.all.items
      ≡ filter (g.T.BankTest.passes l.test l.net) (range_with_len 0 l.number);
  known : All (λ b. b.0 < length l.net.banks) l.all.items;
}
