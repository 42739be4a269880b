use Rattle.std.proofs.Common.{◌≡◌, true, take}
use Rattle.std.specs.List.{list_all}
use Rattle.std.specs.Str.{IsAscii}
use Rattle.clr_net.specs.Name.{may_stand_in_name}
use Rattle.clr_net.proofs.name.is_plain.Given as goal

abbrev pub invariant-loop-byte : goal.invariant-loop-byte
invariant-loop-byte l = record {
  ascii : IsAscii (take l.byte-index l.text);
  stand : list_all may_stand_in_name (take l.byte-index l.text) ≡ true;
}
