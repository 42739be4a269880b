use Rattle.std.proofs.Common.{◌≡◌, false, take}
use Rattle.std.specs.List.{list_any}
use Rattle.clr_net.specs.Net.{numbers, is_of_kind}
use Rattle.raise_journal.proofs.reading.one_of_kind.Given as goal

abbrev pub invariant-loop-id : goal.invariant-loop-id
invariant-loop-id l =
    list_any (is_of_kind l.net l.fn.debtor.0 l.fn.creditor.0 l.fn.class) (take l.id-index (numbers l.ids)) ≡ false
