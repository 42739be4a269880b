-- What the command makes of a word that is no option.
use Rattle.std.proofs.Common.{◌≡◌, ◌==◌, ◌∷◌, List, None, [], arith, ap, ap₂, false, refl}
use Rattle.std.proofs.Common.{true, ℕ}
use Rattle.std.specs.Str.{bytes_eq}
use Rattle.clap.specs.Lexer.{long_of, short_of}
use Rattle.clap.specs.Faults.{step_fault, walk_fault}
use Rattle.clap.specs.Faults.{word_fault}
use Rattle.clap.specs.Kinds.{or_else}
use Rattle.clap.specs.Simple.{Shape}
use Rattle.clap.specs.Walk.{Held, Rule, Text, Waiting, Walk, after_step}
use Rattle.clap.specs.Walk.{plain_word, subcommand_met}
use Rattle.clap.specs.Walk.{walked, word_met}
use Rattle.clear_words.specs.Options.{may_name_a_file}

-- the word is neither two dashes nor an option
pub record IsPlainWord (word : Text) : Type 0 where
  pub dashes : bytes_eq word (45 ∷ 45 ∷ []) ≡ false
  pub long : long_of word ≡ None
  pub short : short_of word ≡ None

-- a walk that goes on: nothing has ended it, nor the options
abbrev pub at : Held → Waiting → ℕ → Walk
at held waiting position =
    record {
      held = held;
      waiting = waiting;
      position = position;
      is_trailing = false;
      stopped = None;
    }

-- such a word is met as a value
plain_met : (rules : List Rule) (waiting : Waiting) (position : ℕ) (word : Text) (h : Held)
    → IsPlainWord word → subcommand_met [] waiting word ≡ None
    → word_met rules [] false waiting position word h ≡ plain_word rules waiting word h
plain_met rules waiting position word h plain none =
    rw (none, plain.dashes, plain.long, plain.short) refl

-- and has no fault as an option
plain_fault : (s : Shape) (waiting : Waiting) (word : Text) (h : Held)
    → IsPlainWord word → subcommand_met [] waiting word ≡ None
    → word_fault s [] false waiting word h ≡ []
plain_fault s waiting word h plain none = rw (none, plain.dashes, plain.long, plain.short) refl

-- the walk takes the word as a value
pub plain_walked : (rules : List Rule) (h : Held) (waiting : Waiting) (position : ℕ) (word : Text)
    → IsPlainWord word → subcommand_met [] waiting word ≡ None
    → walked rules [] (at h waiting position) word
    ≡ after_step rules word (at h waiting position) (plain_word rules waiting word h).0
    (plain_word rules waiting word h).1
unfolding walked
plain_walked rules h waiting position word plain none =
    ap (λ met. after_step rules word (at h waiting position) met.0 met.1)
    (plain_met rules waiting position word h plain none)

-- and its fault is that of a value
pub plain_walk_fault : (s : Shape) (h : Held) (waiting : Waiting) (position : ℕ) (word : Text)
    (rest : List Text)
    → IsPlainWord word → subcommand_met [] waiting word ≡ None
    → walk_fault s [] (at h waiting position) (word ∷ rest)
    ≡ or_else
    (step_fault s position (plain_word s.rules waiting word h).0
    (plain_word s.rules waiting word h).1)
    (walk_fault s [] (after_step s.rules word (at h waiting position)
    (plain_word s.rules waiting word h).0 (plain_word s.rules waiting word h).1) rest)
unfolding walk_fault
plain_walk_fault s h waiting position word rest plain none = ap₂ or_else
    (ap₂ (λ fault met. or_else fault (step_fault s position met.0 met.1))
    (plain_fault s waiting word h plain none)
    (plain_met s.rules waiting position word h plain none))
    (ap (λ after. walk_fault s [] after rest)
    (plain_walked s.rules h waiting position word plain none))

-- a word that may name a file is no option
pub named_is_plain : (word : Text) → may_name_a_file word ≡ true → IsPlainWord word
named_is_plain [] may = absurd (cc)
named_is_plain (x ∷ xs) may =
    let not_45 : (x == 45) ≡ false = grind arith in
    record { dashes = rw not_45 refl; long = rw not_45 refl; short = rw not_45 refl }
