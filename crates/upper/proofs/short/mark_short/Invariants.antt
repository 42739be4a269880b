use Rattle.upper.proofs.Marks.{AreMarkedAmong}
use Rattle.upper.proofs.short.mark_short.Given as goal

abbrev pub invariant-loop-bank : goal.invariant-loop-bank
invariant-loop-bank l = AreMarkedAmong l.net l.paid l.round l.bank-items l.fn.waves l.waves
    l.bank-index
