-- The pieces of all banks in default are the text.
use Rattle.std.proofs.Common.{◌≡◌, ◌-◌, length, ap, ◌∙◌, sym, arith}
use Rattle.std.proofs.lemmas.List.{length-map}
use Rattle.clear_report.specs.Savings.{saves_header, saves_lines, saving_line, savings_header}
use Rattle.rescue.specs.Saved.{banks_in_default}
use Rattle.clear_report.proofs.Pieces.{stacked_is}
use Rattle.clear_many.proofs.Tabled.{pieces_of_some}
use Rattle.clear_many.proofs.savings.tell_rescues.Goals as goal

pub banks_in_default-requires : goal.banks_in_default-requires
banks_in_default-requires g c = c.as_slice-2.ensures.value ∙ c.in_ok-before.ensures.standings

pub returns : goal.returns
returns g c =
    let net = c.args.net.now in
    let banks = banks_in_default net in
    let pieces = c.in_ok-pieces.field-0.pieces.items in
    let made = c.in_ok-pieces.ensures in
    let all : c.len.result - 0 ≡ length c.in_ok-banks.banks.items = omega (arith, c.len.ensures, c.in_ok-banks.banks.ok) in
    let many : length pieces ≡ length banks =
    made.as_many ∙ all ∙ sym (length-map c.in_ok-banks.banks.items (λ b. b.0)) ∙ ap length c.in_ok-banks.ensures.banks in
    let are = pieces_of_some banks (saving_line net) (saves_lines net) pieces many made.in_order in
    let table = stacked_is savings_header saves_header (saving_line net) (saves_lines net) banks pieces are in
    rw (c.in_ok-begun.ensures, c.as_slice-6.ensures.value, table) at c.laid_below.ensures
