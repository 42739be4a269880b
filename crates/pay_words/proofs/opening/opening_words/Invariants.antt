use Rattle.std.proofs.Common.{◌≡◌, ℕ, ◌+◌, ◌<◌, length}
use Rattle.std.specs.Prelude.{slice_index, slice_index_or}
use Rattle.pay_words.specs.Bells.{bell}
use Rattle.pay_words.specs.Positions.{position_of}
use Rattle.pay_words.specs.Words.{unpaid, word_of}
use Rattle.pay_words.proofs.opening.opening_words.Given as goal

abbrev pub invariant-loop-number : goal.invariant-loop-number
invariant-loop-number l = record {
  size : length l.words.items ≡ 1 + length l.net.debts + length l.net.banks;
  roll : slice_index l.words.items 0 ≡ 1;
  paid : (x : ℕ) → x < l.number → slice_index l.words.items (position_of l.net x + 1) ≡ word_of (slice_index_or l.start x unpaid);
  up : (b : ℕ) → b < length l.net.banks → bell l.net l.words.items b ≡ 1;
}
