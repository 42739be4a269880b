use Rattle.net_csv.proofs.KeptNames.{network_of_names}
use Rattle.net_csv.proofs.ReadBack.{printed_is_read_back}
use Rattle.net_csv.proofs.Networks.{network_of_ok, network_is_within}
use Rattle.net_csv.proofs.read.read_network_within.Goals as goal

pub returns-clause-lawful : goal.returns-clause-lawful
returns-clause-lawful c = network_of_ok c.args.by c.args.banks.now c.args.debts.now
    c.read_into.new.net c.in_ok-read_into.ensures.read

pub returns-clause-within : goal.returns-clause-within
returns-clause-within c = network_is_within c.args.by c.args.banks.now c.args.debts.now
    c.read_into.new.net c.in_ok-read_into.ensures.read

pub returns-clause-prints : goal.returns-clause-prints
returns-clause-prints c =
    let by = c.args.by in
    let net = c.read_into.new.net in
    let banks = c.args.banks.now in
    let debts = c.args.debts.now in
    let read = c.in_ok-read_into.ensures.read in
    printed_is_read_back by net (network_of_ok by banks debts net read)
    (network_is_within by banks debts net read) (network_of_names by banks debts net read)
