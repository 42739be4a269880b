use Rattle.clear_core.specs.Clearing.{division_of}
use Rattle.clear_core.proofs.WrittenRows.{awarded, IsWritten}
use Rattle.clear_core.proofs.scratch.Scratch.divide_row.Given as goal

abbrev pub invariant-loop-place : goal.invariant-loop-place
invariant-loop-place l =
    IsWritten l.net l.fn.bank.0 (awarded l.net (division_of l.net l.fn.bank.0 l.fn.units))
    l.fn.next l.next l.place
