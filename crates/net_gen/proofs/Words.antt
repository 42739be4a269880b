-- The words of a seed, one after another.
use Rattle.std.proofs.Common.{◌≡◌, ℕ, suc, ◌+◌, ◌%◌, refl, sym, ap, ◌∙◌, arith}
use Rattle.rand_pcg.specs.Lcg.{Lcg}
use Rattle.rand_pcg.specs.Pcg.{pcg32}
use Rattle.net_gen.specs.Generated.{after_words, debt_from, seeded, word}

-- before the first word
pub at_first : (seed : ℕ) → seeded seed ≡ after_words seed 0
unfolding after_words
at_first seed = refl

-- one word more
pub after_one : (seed n : ℕ) → after_words seed (n + 1) ≡ (pcg32 (after_words seed n)).1
unfolding after_words
after_one seed n = let e : n + 1 ≡ suc n = omega arith in ap (after_words seed) e

-- what a generator gives after n words, and what it is then
pub step_words : (seed n w : ℕ) (g h : Lcg) → g ≡ after_words seed n → (w, h) ≡ pcg32 g
    → (w ≡ word seed n) × (h ≡ after_words seed (n + 1))
step_words seed n w g h e s = (
  ap (λ p. p.0) s ∙ ap (λ k. (pcg32 k).0) e,
  ap (λ p. p.1) s ∙ ap (λ k. (pcg32 k).1) e ∙ sym (after_one seed n),
)

-- the debt that four words make
pub debt_drawn : (seed size n a b c d e : ℕ) → a ≡ word seed n → b ≡ word seed (n + 1)
    → c ≡ word seed (n + 2) → d ≡ word seed (n + 3) → e ≡ d % 500
    → record {
      debtor = record { 0 = a % size };
      creditor = record { 0 = b % size };
      class = 1 + c % 3;
      claim = 1 + e;
    } ≡ debt_from seed size n
debt_drawn seed size n a b c d e p q r s t = rw (t, p, q, r, s) refl
