-- A store of the roll word by the master keeps the rule of a board.
use Rattle.std.proofs.Common.{◌≡◌, ℕ, ◌+◌, ◌<◌, ◌≤◌, length, set, true, refl, sym, ◌∙◌, arith, length-set, get_or-set_same, get_or-set_other}
use mathlib.Core.Option.{none}
use Rattle.atomic_table.specs.Table.{Me, Allows, keeps, step}
use Rattle.pay_words.specs.declared.origin.Origin.{Origin}
use Rattle.pay_words.specs.declared.view.View.{View}
use Rattle.pay_words.specs.BoardRule.{Leads}
use Rattle.pay_words.specs.Positions.{position_of}
use Rattle.pay_words.specs.Steps.{Rolls}
use Rattle.pay_words.proofs.Views.{rule, kept_again}
use Rattle.pay_words.proofs.Rung.{rung_same}

-- the master may leave in the roll word any number above that of its seats
pub rolls : (d : Origin) (slots id : ℕ) (me : Me (Unit {0}) View) (n : ℕ) → me.0.live ≡ true → me.0.shown.master ≡ true → me.0.shown.seats + 1 ≤ n
    → Allows (rule d) slots id me 0 (λ _. n) (λ _. Rolls (step slots 0 n 0 none) me n)
rolls d slots id me n on chief room s h sized at small =
    let k = h.history in
    let v = me.0 in
    let f = h.fits id v at on in
    let w : View = record v { rolled = n } in
    let big : 0 < length s.words = omega (arith, h.size) in (
      w,
      keeps,
      tt,
      kept_again d s.words (set s.words 0 n) s.views id n v w k.trace h at on refl refl refl
          (length-set s.words 0 n) (get_or-set_same s.words 0 n 0 big)
          (λ y l. get_or-set_other s.words 0 (position_of d.net y + 1) n 0 (λ e. absurd (omega (arith, e))) ∙ h.stands y l)
          h.lawful
          (λ j u apart _ _ g.
          let leads : Leads d k n (length s.views) j u = λ e. absurd (apart ((g.leads e).0 ∙ sym (f.leads chief).0)) in
          assumption (leads, g))
          (λ f.
          let l = f.leads chief in
          let leads : Leads d k n (length s.views) id w = λ _. (l.0, l.1, refl, l.3, room) in
          assumption (leads, f))
          (rung_same d k.trace s.words s.views id v at on h.rung (set s.words 0 n) w (λ b. get_or-set_other s.words 0 (length d.net.debts + 1 + b) n 0 (λ e. absurd (omega (arith, e))))
          (λ g. assumption) refl refl refl),
      refl,
    )
