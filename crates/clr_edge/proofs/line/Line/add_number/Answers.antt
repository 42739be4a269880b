use Rattle.std.proofs.Common.{rules, ◌≤◌, length, arith, decimal, ap}
use Rattle.std.proofs.lemmas.Fmt.{length-decimal-le}
use Rattle.std.proofs.lemmas.List.{length-drop}
use Rattle.clr_edge.proofs.line.Line.add_number.Goals as goal

pub write_digits-self-inside-requires : goal.write_digits-self-inside-requires
write_digits-self-inside-requires c =
    let l = c.self.inside in
    let digits : length (decimal c.args.number) ≤ 20 = search (rules, length-decimal-le 20) in
    omega (arith, digits, length-drop l.start l.bytes, ap length c.self.view_is, c.self.told)

pub returns-clause-more : goal.returns-clause-more
returns-clause-more c =
    let l = c.self.inside in
    let w = c.write_digits-self-inside in
    let digits : length (decimal c.args.number) ≤ 20 = search (rules, length-decimal-le 20) in
    omega (arith, digits, length-drop l.start l.bytes, ap length c.self.view_is, c.self.told, length-drop w.result w.new.buf, w.ensures.start)
