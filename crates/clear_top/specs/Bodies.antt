-- What is written of an outcome: its text, from where that stands.
use Rattle.std.specs.Prelude.{ℕ, List, Option, None, Some, map}
use Rattle.clear_report.specs.Blocks.{stress_text}
use Rattle.pay_words.specs.Sealed.{Sealed}
use Rattle.clear_top.specs.Outcome.{with_journal}
use Rattle.clear_stress.specs.Waiting.{waiting_text}
use Rattle.clear_top.specs.declared.outcome.Body.{Body}
use Rattle.clear_top.specs.declared.outcome.Body.TheVariants as body
use Rattle.clear_top.specs.declared.recorded.Recorded.{Recorded}

-- a text with the record of a board, with its journal below the text where that is to be written
abbrev pub recorded_text : Recorded → List ℕ
recorded_text k = with_journal k.sealed.net k.sealed.journal k.text k.closing

-- the text of what is to be written
abbrev pub text_in : Body → List ℕ
text_in (body.Plain text) = text
text_in (body.Recorded k) = recorded_text k
text_in (body.Blocks b) = stress_text (map (waiting_text b.heads.items) b.all.items)

-- the record of the board with it
abbrev pub sealed_in : Body → Option Sealed
sealed_in (body.Recorded k) = Some k.sealed
sealed_in b = None
