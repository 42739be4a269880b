use Rattle.std.proofs.Common.{rules, ◌≤◌, length, sym, ap, ◌∙◌, arith}
use Rattle.std.specs.List.{list_all}
use Rattle.std.proofs.lemmas.Bool.{OnTrue_at}
use Rattle.std.proofs.lemmas.Str.{IsUtf8-from_ascii, chars-IsAscii}
use Rattle.std.proofs.lemmas.Iterator.{YieldsList-from_chars}
use Rattle.std.proofs.lemmas.Iterator.Search.{all_from_yields_List}
use borrow.Author.Tests.{tests, eqb-false}
use Rattle.clr_net.specs.Name.{may_stand_in_name}
use Rattle.clr_net.proofs.NameTests.{name_of_text, no_name_of_bytes}
use Rattle.clr_net.proofs.name.Name.accepts.Goals as goal

pub returns-then-is_plain : goal.returns-then-is_plain
returns-then-is_plain c =
    let text = c.args.text.now in
    let not_empty : 1 ≤ length text = omega (arith, eqb-false (length text) 0 (sym (c.if-is_empty.ensures))) in
    let plain = OnTrue_at c.if-is_plain.true c.is_plain.ensures in
    sym (name_of_text text not_empty c.if-text-gt-MAX_NAME_BYTES.false (IsUtf8-from_ascii text plain.0)
    ∙ ap (list_all may_stand_in_name) (chars-IsAscii text plain.0) ∙ plain.1)

pub returns-in-Ok : goal.returns-in-Ok
returns-in-Ok c =
    let text = c.args.text.now in
    let not_empty : 1 ≤ length text = omega (arith, eqb-false (length text) 0 (sym (c.if-is_empty.ensures))) in
    let spelt = YieldsList-from_chars text c.in-Ok.ensures.cases.1 (c.chars.ensures.rest ∙ c.in-Ok.ensures.cases.0) in
    all_from_yields_List may_stand_in_name _ _ c.all.result c.all.ensures.ran spelt (λ x b q k. search (rules, tests))
    ∙ sym (name_of_text text not_empty c.if-text-gt-MAX_NAME_BYTES.false c.in-Ok.ensures.cases.1)

pub returns-in-Err : goal.returns-in-Err
returns-in-Err c = sym (no_name_of_bytes c.args.text.now c.in-Err.ensures.cases.0)
