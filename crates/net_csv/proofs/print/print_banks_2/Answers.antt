use Rattle.std.proofs.Common.{◌∙◌, ap}
use Rattle.std.proofs.lemmas.Result.{IfOk-weaker}
use Rattle.net_csv.specs.Reading.{network_within}
use Rattle.net_csv.proofs.ReadBack.{converted_is_read_back}
use Rattle.net_csv.proofs.print.print_banks_2.Goals as goal

pub returns-clause-read_back : goal.returns-clause-read_back
returns-clause-read_back c = λ by banks debts h.
    IfOk-weaker c.banks_file.result _ _
    (λ text same. ap (λ t. network_within by t debts) same
    ∙ converted_is_read_back by banks debts c.args.net.now h)
    c.banks_file.ensures
