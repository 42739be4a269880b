use Rattle.clear_top.proofs.reports.summary_of.Goals as goal

pub returns : goal.returns
returns c =
    rw (c.as_slice.ensures.value, c.in_ok-standings.ensures.standings, c.requires)
    at c.summary_text.ensures
