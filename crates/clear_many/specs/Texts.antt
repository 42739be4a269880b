-- Texts in pieces, and the text of what breaks each bank.
use Rattle.std.specs.Prelude.{ℕ, List, Vec, map}
use Rattle.std.specs.Global.{Global}
use Rattle.std.specs.List.{flat_map}
use Rattle.clr_net.specs.Net.{Net}
use Rattle.cascade.specs.Standings.{bank_numbers}
use Rattle.clear_report.specs.Breaking.{breaking_text}
use Rattle.stress.specs.Breaking.{breaking}

-- the bytes of all pieces, one after another
abbrev pub text_of : List (Vec ℕ Global) → List ℕ
text_of = flat_map (λ piece. piece.items)

-- the least cut that breaks each bank, and how the bank stands at it
abbrev pub breaking_report : Net → List ℕ
breaking_report net = breaking_text net (map (breaking net) (bank_numbers net))
