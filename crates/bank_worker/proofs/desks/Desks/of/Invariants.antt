use Rattle.std.proofs.Common.{◌≡◌, filter, map}
use Rattle.std.specs.List.{range_with_len}
use Rattle.bank_desk.specs.Desks.{desk_of}
use Rattle.pay_words.specs.Views.{is_of_worker}
use Rattle.bank_worker.specs.Views.{banks_of}
use Rattle.bank_worker.proofs.desks.Desks.of.Given as goal

abbrev pub invariant-loop-number : goal.invariant-loop-number
invariant-loop-number l = record {
  desks : l.desks.items ≡ map (desk_of l.net) (filter (is_of_worker l.workers l.worker) (range_with_len 0 l.number));
  banks : l.banks.items ≡ banks_of l.desks.items;
}
