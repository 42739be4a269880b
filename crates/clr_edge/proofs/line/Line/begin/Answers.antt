use Rattle.std.proofs.Common.{rules, ◌≤◌, ◌++◌, ◌∷◌, List, ℕ, length, arith, decimal, ap, ◌∙◌}
use Rattle.std.proofs.lemmas.Fmt.{length-decimal-le}
use Rattle.std.proofs.lemmas.List.{drop-set, drop_all, length-drop}
use Rattle.clr_edge.proofs.line.Line.begin.Goals as goal

pub write_digits-self-inside-requires : goal.write_digits-self-inside-requires
write_digits-self-inside-requires c =
    let digits : length (decimal c.args.number) ≤ 20 = search (rules, length-decimal-le 20) in
    omega (arith, digits, c.self.told)

pub returns-clause-line : goal.returns-clause-line
returns-clause-line c =
    let bytes = c.self.inside.bytes in
    c.write_digits-self-inside.ensures.written
    ∙ ap (λ (t : List ℕ). decimal c.args.number ++ t)
    (drop-set bytes 255 10 (omega (arith, c.self.told)) ∙ ap (λ (t : List ℕ). 10 ∷ t) (drop_all 256 bytes (omega (arith, c.self.told))))

pub returns-clause-short : goal.returns-clause-short
returns-clause-short c =
    let w = c.write_digits-self-inside in
    let digits : length (decimal c.args.number) ≤ 20 = search (rules, length-decimal-le 20) in
    omega (arith, digits, length-drop w.result w.new.buf, w.ensures.start, c.self.told)
