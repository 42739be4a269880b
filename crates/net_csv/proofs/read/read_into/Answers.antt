use Rattle.std.proofs.Common.{arith}
use Rattle.std.proofs.lemmas.Result.{on_ok_weaker}
use Rattle.net_check.proofs.Within.{bytes_allowed}
use Rattle.net_csv.proofs.Networks.{network_of_read}
use Rattle.net_csv.proofs.read.read_into.Goals as goal

pub add_banks-requires : goal.add_banks-requires
add_banks-requires c = omega (arith, bytes_allowed c.args.by)

pub add_debts-requires : goal.add_debts-requires
add_debts-requires c = omega (arith, bytes_allowed c.args.by)

pub returns-clause-read : goal.returns-clause-read
returns-clause-read c =
    let net = c.add_debts.new.net in
    on_ok_weaker c.add_debts.result
    (λ read. network_of_read c.args.by c.args.banks.now c.args.debts.now net (record {
      some = c.add_banks.new.net;
      small = omega arith;
      small_too = omega arith;
      read = rw c.requires at c.in_ok-add_banks.ensures.read;
      read_too = read;
    })) c.add_debts.ensures.read
