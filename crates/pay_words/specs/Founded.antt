-- What a board is made for.
use Rattle.std.specs.Prelude.{[]}
use Rattle.clr_net.specs.Net.{empty_net}
use Rattle.pay_words.specs.declared.origin.Origin.{Origin}

-- of no network, and without a past
abbrev pub no_origin : Origin
no_origin = record { net = empty_net; past = [] }

-- what always holds
abbrev pub Anything : Type 0
Anything = Unit {0}
