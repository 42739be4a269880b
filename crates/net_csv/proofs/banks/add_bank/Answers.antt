use Rattle.std.proofs.lemmas.Result.{err_from_is_err_and}
use Rattle.csv.specs.Records.{fields_of}
use Rattle.clr_net.specs.Net.{with_bank}
use Rattle.net_csv.specs.Reading.{bank_in_row, trimmed_fields}
use Rattle.net_csv.proofs.Rows.{fault_of_row}
use Rattle.net_csv.proofs.banks.add_bank.Goals as goal

pub returns-in_err-bank-clause-refused : goal.returns-in_err-bank-clause-refused
returns-in_err-bank-clause-refused c = λ f.
    let net = c.args.net.now in
    let said = trimmed_fields (fields_of c.args.fields.now) in
    let read = bank_in_row c.args.by c.args.version net (c.args.row, said) in
    let same = fault_of_row read (with_bank net) f in
    let exact = c.in_err-bank.ensures.refused f in
    let p = err_from_is_err_and c.from_residual.result c.from_residual.ensures.1 in
    let told = p.1 in
    let is = p.2 in
    (λ e. same.1 (exact.0 (cc e)), λ e. let found = exact.1 (same.0 e) in cc)
