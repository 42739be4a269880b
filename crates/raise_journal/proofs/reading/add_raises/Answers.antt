use Rattle.net_check.specs.declared.fault.Fault.{Fault}
use Rattle.net_check.specs.declared.limits.Limits.{Limits}
use Rattle.clr_net.specs.Net.{Net}
use Rattle.std.proofs.Common.{◌≡◌, ◌∙◌, ◌+◌, ℕ, List, Result, map, length, Err, sym, ap, arith, rules}
use Rattle.std.proofs.lemmas.Result.{err_from_is_err_and}
use Rattle.csv.specs.Records.{fields_of}
use Rattle.clear_core.specs.declared.event.Raise.{Raise}
use Rattle.net_csv.specs.Left.{trimmed_left}
use Rattle.net_csv.specs.Reading.{rows_from, trimmed_fields}
use Rattle.raise_journal.specs.ReadJournal.{closed_early_at, read_raises}
use Rattle.raise_journal.proofs.ReadRows.{raises-end, raises-next, raises-closed, raises-closed_early}
use Rattle.raise_journal.proofs.reading.add_raises.Goals as goal

pub rows-init : goal.rows-init
rows-init c = record {
  reading = c.requires.reading;
  few = omega arith;
  same = ap (λ (rs : List Raise). read_raises c.args.by c.args.net.now rs
      (rows_from 1 (trimmed_left c.args.reader.now))) (sym c.requires.empty);
  debts = λ k d l. absurd (omega (arith, ap (λ (rs : List Raise). length rs) c.requires.empty));
}

-- what is left, read on from here
from_here : (by : Limits) (net : Net) (done : List Raise) (row : ℕ)
    (left next : List (List (List ℕ))) (all then : Result (List Raise) Fault)
    → all ≡ read_raises by net done (rows_from row (map trimmed_fields left)) → left ≡ next
    → read_raises by net done (rows_from row (map trimmed_fields next)) ≡ then → all ≡ then
from_here by net done row left next all then same e f =
    let read = λ (l : List (List (List ℕ))).
    read_raises by net done (rows_from row (map trimmed_fields l)) in
    same ∙ ap read e ∙ f

pub rows-preserved : goal.rows-preserved
rows-preserved c =
    let said = c.in_ok-read_next.ensures in
    let next = said.next c.if-branch.true in
    let one_less = ap length next in
    record {
      reading = said.reading c.if-branch.true;
      few = omega arith;
      same = from_here _ _ _ _ _ _ _ _ c.rows.invariant.same next
          (raises-next c.args.by c.args.net.now c.rows.journal.raises (c.rows.row + 1)
          (trimmed_fields (fields_of c.read_next.new.fields)) (trimmed_left c.read_next.new.reader) _
          (sym c.is_closing.ensures ∙ c.if-is_closing.false) c.in_ok-add_raise.ensures.read);
      debts = search rules;
    }

pub returns-clause-read : goal.returns-clause-read
returns-clause-read c = from_here _ _ _ _ _ _ _ _ c.rows.invariant.same
    (c.in_ok-read_next.ensures.end c.if-branch.false) (raises-end _ _ _ (c.rows.row + 1))

pub returns-then-branch-2-clause-read : goal.returns-then-branch-2-clause-read
returns-then-branch-2-clause-read c =
    from_here _ _ _ _ _ _ _ _ c.rows.invariant.same
    (c.in_ok-read_next.ensures.next c.if-branch.true)
    (raises-closed c.args.by c.args.net.now c.rows.journal.raises (c.rows.row + 1)
    (trimmed_fields (fields_of c.read_next.new.fields)) (trimmed_left c.read_next.new.reader)
    (sym c.is_closing.ensures ∙ c.if-is_closing.true) (sym c.in_ok-is_rest_blank.ensures.blank ∙ c.if-branch-2.true))

pub returns-then-is_closing-clause-refused : goal.returns-then-is_closing-clause-refused
returns-then-is_closing-clause-refused c = λ f e.
    let same : c.closed_early-early.result ≡ f = cc e in
    from_here _ _ _ _ _ _ _ _ c.rows.invariant.same
    (c.in_ok-read_next.ensures.next c.if-branch.true)
    (raises-closed_early c.args.by c.args.net.now c.rows.journal.raises (c.rows.row + 1)
    (trimmed_fields (fields_of c.read_next.new.fields)) (trimmed_left c.read_next.new.reader)
    (sym c.is_closing.ensures ∙ c.if-is_closing.true) (sym c.in_ok-is_rest_blank.ensures.blank ∙ c.if-branch-2.false)
    ∙ ap Err (ap (λ (rs : List Raise). closed_early_at c.args.by (length rs) (c.rows.row + 1))
    (sym c.as_slice.ensures) ∙ sym c.closed_early-early.ensures ∙ same))

pub returns-in_err-add_raise-clause-refused : goal.returns-in_err-add_raise-clause-refused
returns-in_err-add_raise-clause-refused c = λ f e.
    let p = err_from_is_err_and c.from_residual-in_err-add_raise.result c.from_residual-in_err-add_raise.ensures.1 in
    from_here _ _ _ _ _ _ _ _ c.rows.invariant.same
    (c.in_ok-read_next.ensures.next c.if-branch.true)
    (raises-next c.args.by c.args.net.now c.rows.journal.raises (c.rows.row + 1)
    (trimmed_fields (fields_of c.read_next.new.fields)) (trimmed_left c.read_next.new.reader) (Err f)
    (sym c.is_closing.ensures ∙ c.if-is_closing.false)
    ((c.in_err-add_raise.ensures.refused f).0 (let told = p.1 in let same = p.2 in cc e)))
