use Rattle.std.proofs.Common.{◌≡◌, ◌∙◌, ◌≤◌, sym, arith, true, get_or}
use Rattle.std.specs.Char.{is_ascii_digit}
use Rattle.std.proofs.lemmas.List.Folds.{list_all_more}
use Rattle.net_check.proofs.Fields.{number_after_more, number_below_more, number_fits, number_in-digits}
use Rattle.net_check.proofs.field.number.Goals as goal

pub overflow_mul-number : goal.overflow_mul-number
overflow_mul-number c =
    record { fits = omega (arith, number_fits c.loop-digit.digit-index c.loop-digit.number c.loop-digit.invariant.small (omega arith)) }

pub overflow_add-number : goal.overflow_add-number
overflow_add-number c =
    let digit : c.from.result ≤ 9 = omega (arith, c.if-not-is_ascii_digit.ensures.cases) in
    record { fits = omega (arith, digit, number_fits c.loop-digit.digit-index c.loop-digit.number c.loop-digit.invariant.small (omega arith)) }

pub loop-digit-preserved : goal.loop-digit-preserved
loop-digit-preserved c =
    let front = c.in-Some.front.now in
    let i = c.loop-digit.digit-index in
    let more = number_after_more front i c.loop-digit.number (omega arith) in
    let all_digits = list_all_more is_ascii_digit front i 0 (omega arith) in
    let is_digit : is_ascii_digit (get_or front i 0) ≡ true = sym c.is_ascii_digit.ensures.value ∙ c.if-not-is_ascii_digit.false in
    let digit : c.from.result ≤ 9 = omega (arith, c.if-not-is_ascii_digit.ensures.cases) in
    record {
      spelled = rw c.from.ensures (sym more ∙ c.loop-digit.invariant.spelled);
      digits = rw (all_digits, c.loop-digit.invariant.digits) is_digit;
      small = number_below_more i c.loop-digit.number c.from.result c.loop-digit.invariant.small digit;
    }

pub returns : goal.returns
returns c =
    let last = c.in-Some.last.now in
    let is_digit : is_ascii_digit last ≡ true = sym c.is_ascii_digit-2.ensures.value ∙ c.if-not-is_ascii_digit-2.false in
    rw (c.from-2.ensures, c.from-3.ensures)
    (sym (number_in-digits c.args.field.now c.in-Some.front.now last c.loop-digit.digit-index c.loop-digit.number c.in-Some.ensures.cases.0
    (omega arith) (omega arith) c.loop-digit.invariant.digits c.loop-digit.invariant.spelled is_digit))
