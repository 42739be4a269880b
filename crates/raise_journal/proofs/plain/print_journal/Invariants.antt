use Rattle.std.proofs.Common.{◌≡◌, ◌++◌, take, length}
use Rattle.std.specs.List.{flat_map}
use Rattle.clr_net.specs.Lines.{line}
use Rattle.raise_journal.specs.Texts.{journal_header, raise_line}
use Rattle.raise_journal.proofs.plain.print_journal.Given as goal

abbrev pub invariant-loop-raise : goal.invariant-loop-raise
invariant-loop-raise l = l.bytes ≡ length (line journal_header ++ flat_map (raise_line l.net) (take l.raise-index l.journal))

abbrev pub invariant-loop-entry : goal.invariant-loop-entry
invariant-loop-entry l = l.text.items ≡ line journal_header ++ flat_map (raise_line l.net) (take l.entry-index l.journal)
