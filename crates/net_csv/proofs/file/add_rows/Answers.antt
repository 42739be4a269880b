use Rattle.std.proofs.Common.{◌≡◌, ◌∙◌, ◌+◌, ℕ, List, Result, map, length, ap, arith}
use Rattle.std.proofs.lemmas.Result.{err_from_is_err_and}
use Rattle.clr_net.specs.Net.{Net}
use Rattle.csv.specs.Records.{fields_of}
use Rattle.net_check.specs.declared.fault.Fault.{Fault}
use Rattle.net_check.specs.declared.limits.Limits.{Limits}
use Rattle.net_csv.specs.Left.{trimmed_left}
use Rattle.net_csv.specs.Reading.{read_rows, rows_from, trimmed_fields}
use Rattle.net_csv.specs.declared.layout.Layout.{Layout}
use Rattle.net_csv.proofs.Rows.{rows-end, rows-pass, rows-stop}
use Rattle.net_csv.proofs.file.add_rows.Goals as goal

-- what is left, read on from here
from_here : (by : Limits) (l : Layout) (net : Net) (row : ℕ) (left next : List (List (List ℕ)))
    (all then : Result Net Fault)
    → all ≡ read_rows by l net (rows_from row (map trimmed_fields left)) → left ≡ next
    → read_rows by l net (rows_from row (map trimmed_fields next)) ≡ then → all ≡ then
from_here by l net row left next all then same e f =
    let read = λ (records : List (List (List ℕ))).
    read_rows by l net (rows_from row (map trimmed_fields records)) in
    same ∙ ap read e ∙ f

pub rows-preserved : goal.rows-preserved
rows-preserved c =
    let said = c.in_ok-read_next.ensures in
    let next = said.next c.if-branch.true in
    let one_less = ap length next in
    let first = trimmed_fields (fields_of c.read_next.new.fields) in
    let rest = trimmed_left c.read_next.new.reader in
    record {
      reading = said.reading c.if-branch.true;
      few = omega arith;
      same = from_here _ _ _ _ _ _ _ _ c.rows.invariant.same next
          (rows-pass c.args.by c.args.layout c.rows.net c.add_record.new.net (c.rows.row + 1)
          first rest c.in_ok-add_record.ensures.read);
    }

pub returns-in_err-add_record-clause-refused : goal.returns-in_err-add_record-clause-refused
returns-in_err-add_record-clause-refused c = λ f e.
    let first = trimmed_fields (fields_of c.read_next.new.fields) in
    let rest = trimmed_left c.read_next.new.reader in
    let p = err_from_is_err_and c.from_residual-in_err-add_record.result
    c.from_residual-in_err-add_record.ensures.1 in
    from_here _ _ _ _ _ _ _ _ c.rows.invariant.same
    (c.in_ok-read_next.ensures.next c.if-branch.true)
    (rows-stop c.args.by c.args.layout c.rows.net (c.rows.row + 1) first rest f
    ((c.in_err-add_record.ensures.refused f).0 (let told = p.1 in let same = p.2 in cc e)))

pub returns-clause-read : goal.returns-clause-read
returns-clause-read c = from_here _ _ _ _ _ _ _ _ c.rows.invariant.same
    (c.in_ok-read_next.ensures.end c.if-branch.false)
    (rows-end c.args.by c.args.layout c.rows.net (c.rows.row + 1))
