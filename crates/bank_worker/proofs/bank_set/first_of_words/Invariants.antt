use Rattle.std.proofs.Common.{◌*◌}
use Rattle.bank_worker.specs.BankSets.{HaveNoneInBoth}
use Rattle.bank_worker.proofs.bank_set.first_of_words.Given as goal

-- no bank of the words so far is in both sets
abbrev pub invariant-loop-index : goal.invariant-loop-index
invariant-loop-index l = HaveNoneInBoth l.words l.others (l.from * 64) (l.index * 64)
