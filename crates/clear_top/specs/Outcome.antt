-- What the work on a job comes to, and the texts that show a journal.
use Rattle.std.specs.Prelude.{ℕ, List, ◌++◌, Option, None, Some}
use Rattle.std.specs.List.{flat_map}
use Rattle.clr_net.specs.Net.{Net}
use Rattle.clear_core.specs.declared.event.Raise.{Raise}
use Rattle.pay_words.specs.Sealed.{Sealed}
use Rattle.raise_journal.specs.Texts.{raise_line}
use Rattle.clear_top.specs.declared.status.Status.{Status}

-- how the run ends if the text is written whole, the record that is answered, and the text
pub record Outcome : Type 0 where
  pub status : Status
  pub sealed : Option Sealed
  pub text : List ℕ

-- a text; and where there is a line that closes it, the journal's lines and that line below it
abbrev pub with_journal : Net → List Raise → List ℕ → Option (List ℕ) → List ℕ
with_journal net journal text None = text
with_journal net journal text (Some closing) =
    (text ++ flat_map (raise_line net) journal) ++ closing
