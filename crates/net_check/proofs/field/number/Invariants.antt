use Rattle.std.proofs.Common.{◌≡◌, ◌<◌, ◌^◌, true, take, drop}
use Rattle.std.specs.List.{list_all}
use Rattle.std.specs.Char.{is_ascii_digit}
use Rattle.net_check.specs.Field.{number_after}
use Rattle.net_check.proofs.field.number.Given as goal

abbrev pub invariant-loop-digit : goal.invariant-loop-digit
invariant-loop-digit l = record {
  spelled : number_after l.number (drop l.digit-index l.front) ≡ number_after 0 l.front;
  digits : list_all is_ascii_digit (take l.digit-index l.front) ≡ true;
  small : l.number < 10 ^ l.digit-index;
}
