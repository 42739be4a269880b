use Rattle.std.proofs.Common.{◌≡◌, [], ◌++◌, refl, ap, ◌∙◌, arith}
use Rattle.std.proofs.lemmas.Grind.{common_steps}
use Rattle.raise_journal.specs.Texts.{raise_line}
use Rattle.raise_journal.proofs.Taken.{taken_more}
use Rattle.raise_journal.proofs.printing.print_raises.Goals as goal

pub loop-entry-preserved : goal.loop-entry-preserved
loop-entry-preserved c =
    let put : c.extend_from_slice.new.self.items ≡ c.loop-entry.room.items ++ c.bytes.result.now =
    rw c.unwrap.ensures at c.extend_from_slice.ensures.items in
    record {
      lines = taken_more (raise_line c.args.net.now) [] c.loop-entry.room.items c.extend_from_slice.new.self.items c.args.raises.now
          c.loop-entry.entry-index _ _ c.loop-entry-test.true refl c.loop-entry.invariant.lines
          (put ∙ ap (λ l. c.loop-entry.room.items ++ l) (c.bytes.ensures ∙ c.lay_raise.ensures.line));
      low = grind (arith, common_steps);
      room = grind (arith, common_steps);
    }
