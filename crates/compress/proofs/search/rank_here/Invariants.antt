use Rattle.std.proofs.Common.{◌≡◌, ◌+◌, filter, map, slice_index, take}
use Rattle.clr_net.specs.Net.{column, debtor_of}
use Rattle.compress.specs.Compression.{is_live, most}
use Rattle.compress.proofs.search.rank_here.Given as goal

abbrev pub invariant-loop-id : goal.invariant-loop-id
invariant-loop-id l = l.most
    ≡ most (map (λ x. slice_index l.ranks (debtor_of l.net x) + 1)
    (filter (is_live l.net l.claims l.class) (take l.id-index (column l.net l.fn.bank.0))))
