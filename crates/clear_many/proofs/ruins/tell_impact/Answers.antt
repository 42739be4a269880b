-- The pieces of all banks are the text.
use Rattle.std.proofs.Common.{◌≡◌, ◌-◌, ◌∙◌, arith}
use Rattle.clear_report.specs.Impact.{hurt_lines, hurts_header, impact_header, impact_line}
use Rattle.clear_report.proofs.Pieces.{stacked_is}
use Rattle.cascade.specs.Standings.{bank_numbers}
use Rattle.clear_many.proofs.Tabled.{pieces_of_all}
use Rattle.clear_many.proofs.ruins.tell_impact.Goals as goal

pub in_shares-requires-clause-can : goal.in_shares-requires-clause-can
in_shares-requires-clause-can g c κs lives =
    c.as_slice-2.ensures.value ∙ c.in_ok-before.ensures.standings

pub returns : goal.returns
returns g c =
    let net = c.args.net.now in
    let pieces = c.in_ok-pieces.field-0.pieces.items in
    let made = c.in_ok-pieces.ensures in
    let all : c.banks.result - 0 ≡ c.banks.result = omega arith in
    let are = pieces_of_all net (impact_line net) (hurt_lines net) pieces (made.as_many ∙ all ∙ c.banks.ensures.banks) made.in_order in
    let table = stacked_is impact_header hurts_header (impact_line net) (hurt_lines net) (bank_numbers net) pieces are in
    rw (c.in_ok-begun.ensures, c.as_slice-3.ensures.value, table) at c.laid_below.ensures
