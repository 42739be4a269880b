use Rattle.std.proofs.Common.{true, false, arith, eq-eqb}
use Rattle.std.proofs.lemmas.Bool.{ne_eqb}
use Rattle.clr_net.specs.Net.{all_outside}
use Rattle.net_csv.proofs.Versions.{version_by_total}
use Rattle.net_csv.proofs.print.print_banks.Goals as goal

pub returns-then-outside_total-eq0 : goal.returns-then-outside_total-eq0
returns-then-outside_total-eq0 c =
    let net = c.args.net.now in
    rw (version_by_total net true (eq-eqb (all_outside net) 0 (omega arith))) c.banks_file.ensures

pub returns-else-outside_total-eq0 : goal.returns-else-outside_total-eq0
returns-else-outside_total-eq0 c =
    let net = c.args.net.now in
    rw (version_by_total net false (ne_eqb (all_outside net) 0 (λ e. omega arith))) c.banks_file-else-outside_total-eq0.ensures
