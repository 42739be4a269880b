use Rattle.std.proofs.Common.{◌≡◌, ◌++◌, [], ap, sym, ◌∙◌}
use Rattle.std.specs.Option.{option_map_or}
use Rattle.clr_net.specs.Net.{name_of}
use Rattle.clear_report.specs.Defaults.{standing_line}
use Rattle.clear_report.proofs.Lines.{line_at}
use Rattle.clear_report.proofs.Standings.{past_end}
use Rattle.clear_report.proofs.defaults.StandingsBankTable.push.Goals as goal

pub returns : goal.returns
returns c =
    let t = c.args.self.now in
    let i = c.args.bank.0 in
    let name : c.bank.result.now.name ≡ name_of c.args.net.now i = ap (λ o. option_map_or (λ b. b.name) o []) (sym c.bank.ensures) in
    line_at (standing_line t.outside (name_of c.args.net.now i)) _ _ t.all.now i past_end c.requires.over c.requires.bank
    (c.in_ok-extend_from_slice.ensures.items
    ∙ ap (λ l. c.args.text.now.items ++ l) (c.bytes.ensures ∙ rw name at c.lay_out.ensures))
