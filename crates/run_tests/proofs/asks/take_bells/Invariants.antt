use Rattle.pay_words.specs.Views.{HoldsAll, IsAt}
use Rattle.run_tests.proofs.asks.take_bells.Given as goal

abbrev pub invariant-loop-bank : goal.invariant-loop-bank
invariant-loop-bank l = record {
  at : IsAt l.board l.master;
  held : HoldsAll l.master.shows;
}
