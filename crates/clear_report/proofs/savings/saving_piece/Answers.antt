use Rattle.std.proofs.Common.{sym, ap, length, ◌∙◌}
use Rattle.std.specs.List.{flat_map}
use Rattle.std.proofs.lemmas.List.{length-map}
use Rattle.std.proofs.lemmas.List.Folds.{flat_map-map}
use Rattle.clr_net.specs.declared.debt.BankId.{BankId}
use Rattle.clear_report.specs.Savings.{saves_line}
use Rattle.clear_report.proofs.savings.saving_piece.Goals as goal

pub returns-clause-upper : goal.returns-clause-upper
returns-clause-upper c =
    let is = c.requires.saving in
    let saves = sym (length-map c.args.saving.now.saves.items (λ (b : BankId). b.0)) ∙ ap length is.saves in
    rw (is.added, is.short, saves, is.still_short) at c.in_ok-saving_row.ensures

pub returns-clause-lower : goal.returns-clause-lower
returns-clause-lower c =
    let line = saves_line c.args.net.now c.args.bank.0 in
    let rows = rw c.as_slice.ensures.value at c.in_ok-saves_rows.ensures in
    rows ∙ sym (flat_map-map line (λ (b : BankId). b.0) c.args.saving.now.saves.items)
    ∙ ap (flat_map line) c.requires.saving.saves
