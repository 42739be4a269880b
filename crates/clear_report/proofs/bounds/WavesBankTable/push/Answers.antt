use Rattle.std.proofs.Common.{get_or}
use Rattle.std.proofs.lemmas.Result.{on_ok_weaker}
use Rattle.clr_net.specs.Net.{name_of}
use Rattle.clear_report.specs.Bounds.{wave_line}
use Rattle.clear_report.proofs.Lines.{line_at}
use Rattle.clear_report.proofs.Standings.{past_end}
use Rattle.clear_report.proofs.bounds.WavesBankTable.push.Goals as goal

pub returns : goal.returns
returns c =
    let t = c.args.self.now in
    let i = c.args.bank.0 in
    on_ok_weaker c.push_wave.result
    (line_at (wave_line (name_of c.args.net.now i) (get_or t.waves.now i 0)) _ _ t.standings.now i
    past_end c.requires.over.1 c.requires.bank) (rw c.name.ensures at c.push_wave.ensures)
