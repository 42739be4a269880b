-- A payment word: a stamp and a value, each below 2^32, in one number.
use Rattle.std.specs.Prelude.{ℕ, ◌+◌, ◌*◌, ◌/◌, ◌%◌}
use Rattle.pay_words.specs.declared.payment.Payment.{Payment}
use Rattle.pay_words.specs.declared.payment.TheConstants.{STAMP}

-- nothing is paid yet
abbrev pub unpaid : Payment
unpaid = record { value = 0; stamp = 0 }

-- the word in which the payment stands
abbrev pub word_of : Payment → ℕ
word_of p = p.stamp * STAMP + p.value

-- the payment that stands in a word
abbrev pub payment_of : ℕ → Payment
payment_of n = record { value = n % STAMP; stamp = n / STAMP }
