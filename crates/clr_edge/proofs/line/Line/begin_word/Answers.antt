use Rattle.std.proofs.Common.{◌++◌, ◌∷◌, [], length, length-append, ap, ◌∙◌, arith}
use Rattle.std.proofs.lemmas.List.{drop_all}
use Rattle.clr_edge.proofs.line.Line.begin_word.Goals as goal

pub put-requires : goal.put-requires
put-requires c =
    record { room = omega (arith, c.requires.room, ap length (drop_all 256 c.self.inside.bytes (omega (arith, c.self.told)))) }

pub returns-clause-line : goal.returns-clause-line
returns-clause-line c =
    c.put.ensures.bytes
    ∙ ap (λ t. c.args.word.now ++ 10 ∷ t) (drop_all 256 c.self.inside.bytes (omega (arith, c.self.told)))

pub returns-clause-short : goal.returns-clause-short
returns-clause-short c =
    omega (arith, c.requires.room, ap length (returns-clause-line c), length-append c.args.word.now (10 ∷ []))
