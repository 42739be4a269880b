use Rattle.std.proofs.Common.{◌≡◌, ◌≤◌, ◌*◌, take, vec_capacity, vec_len}
use Rattle.std.specs.List.{flat_map}
use Rattle.clr_edge.specs.declared.line.TheConstants.{MAX_LINE}
use Rattle.raise_journal.specs.Texts.{raise_line}
use Rattle.raise_journal.proofs.printing.print_raises.Given as goal

-- the lines so far, and the room for the others
abbrev pub invariant-loop-entry : goal.invariant-loop-entry
invariant-loop-entry l = record {
  lines : l.room.items ≡ flat_map (raise_line l.net) (take l.entry-index l.raises);
  low : vec_len l.room ≤ l.entry-index * MAX_LINE;
  room : vec_capacity l.fn.room ≤ vec_capacity l.room;
}
