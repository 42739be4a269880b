use Rattle.std.proofs.Common.{◌++◌, ◌∷◌, length, ap, ◌∙◌, arith}
use Rattle.clr_edge.proofs.LineStart.{name_is_short, longer_by_name}
use Rattle.clr_edge.proofs.line.Line.add_name.Goals as goal

pub put-requires : goal.put-requires
put-requires c = record {
  room = omega (arith, c.requires.room, ap length c.bytes.ensures.bytes, name_is_short c.args.name.now c.bytes.ensures.is_name);
}

pub returns-clause-bytes : goal.returns-clause-bytes
returns-clause-bytes c = c.put.ensures.bytes ∙ ap (λ t. t ++ 44 ∷ c.args.self.now) c.bytes.ensures.bytes

pub returns-clause-more : goal.returns-clause-more
returns-clause-more c =
    longer_by_name c.args.self.now c.args.name.now _ (returns-clause-bytes c) (name_is_short c.args.name.now c.bytes.ensures.is_name)
