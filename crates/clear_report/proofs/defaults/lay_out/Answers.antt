-- The fields of the line, from the last one on.
use Rattle.std.proofs.Common.{◌≡◌, ◌≤◌, ◌++◌, ◌∷◌, [], Bool, true, false, List, ℕ, length, if◌then◌else◌, ap, ◌∙◌, decimal, arith}
use Rattle.cascade.specs.declared.standing.Health.{Health}
use Rattle.cascade.specs.declared.standing.Health.TheVariants as health
use Rattle.clr_net.specs.Lines.{line}
use Rattle.clear_report.specs.Defaults.{if_shown}
use Rattle.clear_report.specs.Words.{state_word}
use Rattle.clear_report.proofs.Lines.{line_more}
use Rattle.clear_report.proofs.defaults.lay_out.Goals as goal

-- the word of a state is short
short_word : (h : Health) → length (state_word h) ≤ 11
short_word health.Sound = omega arith
short_word health.Fundamental = omega arith
short_word health.Contagion = omega arith

-- a name and what a bank has stand before the others, and between them what it pays outside, where that is shown
begins : (outside : Bool) (name estate away paid : List ℕ) (others : List (List ℕ))
    → name ++ 44 ∷ (estate ++ 44 ∷ (if outside then away ++ 44 ∷ line (paid ∷ others) else line (paid ∷ others)))
    ≡ line (name ∷ estate ∷ if_shown outside away ++ paid ∷ others)
begins true name estate away paid others =
    ap (λ l. name ++ 44 ∷ (estate ++ 44 ∷ l)) (line_more away paid others)
    ∙ ap (λ l. name ++ 44 ∷ l) (line_more estate away (paid ∷ others)) ∙ line_more name estate (away ∷ paid ∷ others)
begins false name estate away paid others =
    ap (λ l. name ++ 44 ∷ l) (line_more estate paid others) ∙ line_more name estate (paid ∷ others)

-- the line ends with the word of the state
word_is : (word new : List ℕ) (h : Health) → word ≡ state_word h → new ≡ line (word ∷ []) → new ≡ line (state_word h ∷ [])
word_is word new h is e = e ∙ ap (λ w. line (w ∷ [])) is

pub begin_word-requires : goal.begin_word-requires
begin_word-requires c = record {
  room = omega (arith, short_word c.args.standing.health, ap length (c.as_bytes.ensures.value ∙ c.state_word.ensures));
}

pub returns : goal.returns
returns c =
    let s = c.args.standing in
    let name = c.args.name.now in
    let owed = decimal s.owed in
    let equity = decimal s.equity in
    let state = state_word s.health in
    let last : c.begin_word.new.self ≡ line (state ∷ []) =
    word_is _ c.begin_word.new.self s.health (c.as_bytes.ensures.value ∙ c.state_word.ensures) c.begin_word.ensures.line in
    let others : c.add_number-2.new.self ≡ line (owed ∷ equity ∷ state ∷ []) =
    c.add_number-2.ensures.bytes
    ∙ ap (λ l. owed ++ 44 ∷ l) (c.add_number.ensures.bytes ∙ ap (λ l. equity ++ 44 ∷ l) last ∙ line_more equity state [])
    ∙ line_more owed equity (state ∷ []) in
    let paid : c.add_number-3.new.self ≡ line (decimal s.paid ∷ owed ∷ equity ∷ state ∷ []) =
    c.add_number-3.ensures.bytes ∙ ap (λ l. decimal s.paid ++ 44 ∷ l) others ∙ line_more (decimal s.paid) owed (equity ∷ state ∷ []) in
    c.add_name.ensures.bytes
    ∙ ap (λ l. name ++ 44 ∷ l) (c.add_number-4.ensures.bytes ∙ ap (λ l. decimal s.estate ++ 44 ∷ l) c.add_outside.ensures.bytes)
    ∙ ap (λ l. name ++ 44 ∷ (decimal s.estate ++ 44 ∷ (if c.args.outside then decimal s.outside_paid ++ 44 ∷ l else l))) paid
    ∙ begins c.args.outside name (decimal s.estate) (decimal s.outside_paid) (decimal s.paid) (owed ∷ equity ∷ state ∷ [])
