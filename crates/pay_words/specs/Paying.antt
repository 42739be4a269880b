-- A look at a debt and a raise of one: when a debt may be raised, and what a seat shows after each.
use Rattle.std.specs.Prelude.{◌≡◌, ℕ, ◌+◌, ◌<◌, ◌≤◌, max, ◌++◌, true, false, [], ◌∷◌, length}
use Rattle.std.specs.Prelude.{slice_index, slice_set}
use Rattle.clr_net.specs.Net.{Net, debtor_of}
use Rattle.clear_core.specs.Clearing.{receipts, part}
use Rattle.clear_core.specs.declared.event.Raise.{Raise}
use Rattle.pay_words.specs.declared.payment.Payment.{Payment}
use Rattle.pay_words.specs.declared.view.Act.{Act}
use Rattle.pay_words.specs.declared.view.Act.TheVariants as act
use Rattle.pay_words.specs.declared.view.Shown.{Shown}
use Rattle.pay_words.specs.Holding.{holds}

-- the act of looking at the debt x, which found the payment p
abbrev pub look_at : ℕ → Payment → Act
look_at x p = act.Look (record { 0 = x }) p

-- what the seat shows after a look at the debt x that found the payment p
abbrev pub looked : Shown → ℕ → Payment → Shown
looked s x p = record s {
  sights = slice_set s.sights x p.value;
  sight_stamps = slice_set s.sight_stamps x p.stamp;
  looks = slice_set s.looks x (slice_index s.looks x + 1);
  clock = max s.clock p.stamp;
  pending = slice_set s.pending x false;
  acts = s.acts ++ look_at x p ∷ [];
}

-- the act of raising the debt x
abbrev pub raise_of : ℕ → Act
raise_of x = act.Raise (record { 0 = x })

-- the raise of the debt x to so many units, with this stamp, as a journal has it
abbrev pub a_raise : ℕ → ℕ → ℕ → Raise
a_raise stamp x to = record { stamp = stamp; debt = record { 0 = x }; to = to }

-- the seat of a worker may raise the debt x to so much: it holds the debtor, pays less on the debt,
-- and pays no more by it than the debtor's rule gives from its cash and from what the seat last
-- saw, less what the debtor owes outside
pub record MayRaise (net : Net) (s : Shown) (x to : ℕ) : Type 0 where
  pub debt : x < length net.debts
  pub not_the_master : s.master ≡ false
  pub debtor : holds s (debtor_of net x) ≡ true
  pub more : slice_index s.paid x < to
  pub within : to ≤ part net x (receipts net s.sights (debtor_of net x))

-- what the seat shows after a raise of the debt x to so many units: the raise is stamped with the
-- clock plus one, and the debt owes its creditor a ring
abbrev pub raised : Shown → ℕ → ℕ → Shown
raised s x to = record s {
  paid = slice_set s.paid x to;
  paid_stamps = slice_set s.paid_stamps x (s.clock + 1);
  clock = s.clock + 1;
  raises = s.raises ++ a_raise (s.clock + 1) x to ∷ [];
  owes_ring = slice_set s.owes_ring x true;
  acts = s.acts ++ raise_of x ∷ [];
}
