-- The text of who would hurt whom, as bytes.
use Rattle.std.specs.Prelude.{ℕ, List, [], ◌∷◌, ◌++◌, codes}
use Rattle.std.specs.List.{flat_map}
use Rattle.std.specs.Fmt.{decimal}
use Rattle.clr_net.specs.Lines.{line}
use Rattle.clr_net.specs.Net.{Net, name_of, cash_of}
use Rattle.cascade.specs.Ruin.{kept_less}
use Rattle.cascade.specs.Standings.{bank_numbers}
use Rattle.impact.specs.Impact.{fallen, hurt_by, lost_by_others}
use Rattle.impact.specs.declared.hurt.Hurt.{Hurt}
use Rattle.clear_report.specs.Words.{one_above_other, yes_or_no}

-- the header of the banks that are ruined
abbrev pub impact_header : List ℕ
impact_header = line (
    codes "bank" ∷ codes "cash" ∷ codes "own" ∷ codes "others" ∷ codes "falls" ∷ [])

-- the line of the bank j, which has so much cash, and by whose ruin it keeps so much less, all
-- others keep so much less, and so many others fall
abbrev pub impact_line_of : Net → ℕ → ℕ → ℕ → ℕ → ℕ → List ℕ
impact_line_of net j cash own others falls = line (
    name_of net j ∷ decimal cash ∷ decimal own ∷ decimal others ∷ decimal falls ∷ [])

-- its line
abbrev pub impact_line : Net → ℕ → List ℕ
impact_line net j = impact_line_of net j
    (cash_of net j) (kept_less net j j) (lost_by_others net j) (fallen net j)

-- the header of the banks that are hurt
abbrev pub hurts_header : List ℕ
hurts_header = line (codes "bank" ∷ codes "of" ∷ codes "lost" ∷ codes "falls" ∷ [])

-- the line of a bank that the ruin of the bank j hurts
abbrev pub hurt_line : Net → ℕ → Hurt → List ℕ
hurt_line net j h = line (
    name_of net j ∷ name_of net h.bank.0 ∷ decimal h.lost ∷ yes_or_no h.falls ∷ [])

-- the lines of all that it hurts, in file order
abbrev pub hurt_lines : Net → ℕ → List ℕ
hurt_lines net j = flat_map (hurt_line net j) (hurt_by net j)

-- the text: a line for each bank, in file order, and below them the lines of those that each hurts
abbrev pub impact_text : Net → List ℕ
impact_text net = one_above_other
    (impact_header ++ flat_map (impact_line net) (bank_numbers net))
    (hurts_header ++ flat_map (hurt_lines net) (bank_numbers net))
