use Rattle.clear_report.proofs.ruins.impact_piece.Goals as goal

pub returns-clause-upper : goal.returns-clause-upper
returns-clause-upper c =
    let is = c.requires.impact in
    rw (c.cash.ensures, is.own, is.others, is.falls) at c.in_ok-impact_row.ensures

pub returns-clause-lower : goal.returns-clause-lower
returns-clause-lower c =
    rw (c.as_slice.ensures.value, c.requires.impact.hurts) at c.in_ok-hurt_rows.ensures
