use Rattle.std.proofs.Common.{◌≡◌, ℕ, ◌<◌, ◌≤◌, length}
use Rattle.std.specs.Prelude.{bit_or, slice_index}
use Rattle.bank_worker.specs.declared.bank_set.TheConstants.{WORDS}
use Rattle.bank_worker.proofs.bank_set.add_words.Given as goal

-- the words before the place have the bits of both, and the others are as they were
abbrev pub invariant-loop-index : goal.invariant-loop-index
invariant-loop-index l = record {
  as_many : length l.words ≡ WORDS;
  done : (k : ℕ) → k < l.index → slice_index l.words k ≡ bit_or (slice_index l.initial.words k) (slice_index l.other k);
  others : (k : ℕ) → l.index ≤ k → slice_index l.words k ≡ slice_index l.initial.words k;
}
