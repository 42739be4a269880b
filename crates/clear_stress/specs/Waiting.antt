-- The blocks of scenarios as they wait to be written: what is paid on each debt, without its line.
use Rattle.std.specs.Prelude.{◌≡◌, ℕ, List, Vec, [], ◌∷◌, ◌++◌, slice_index_or}
use Rattle.std.specs.Fmt.{decimal}
use Rattle.std.specs.Global.{Global}
use Rattle.std.specs.List.{flat_map, zip}
use Rattle.clr_net.specs.Lines.{line}
use Rattle.clr_net.specs.Net.{Net}
use Rattle.clear_report.specs.Text.{AreHeadsOf}
use Rattle.clear_stress.specs.Told.{block_of}
use Rattle.clear_stress.specs.declared.blocks.UnwrittenBlock.{UnwrittenBlock}
use Rattle.stress.specs.declared.scenario.Scenario.{Scenario}

-- the line of a debt: its beginning, and what is paid
abbrev pub paid_line : Vec ℕ Global × ℕ → List ℕ
paid_line debt = debt.0.items ++ line (decimal debt.1 ∷ [])

-- the lines of debts that begin so, and on which so much is paid
abbrev pub paid_lines : List (Vec ℕ Global) → List ℕ → List ℕ
paid_lines heads paid = flat_map paid_line (zip heads paid)

-- the text of a block, by the beginnings of the lines of its payments
abbrev pub waiting_text : List (Vec ℕ Global) → UnwrittenBlock → List ℕ
waiting_text heads w = w.above.items ++ (paid_lines heads w.paid.items ++ w.below.items)

-- the block waits to be this text, by the beginnings of the network's lines
abbrev pub WaitsAs : Net → UnwrittenBlock → List ℕ → Type 0
WaitsAs net w text =
    (heads : List (Vec ℕ Global)) → AreHeadsOf net heads → waiting_text heads w ≡ text

-- so does this one, to be that of the scenario in the place k
abbrev pub WaitsAt : Net → List Scenario → ℕ → UnwrittenBlock → Type 0
WaitsAt net scenarios k w =
    (d : Scenario) → WaitsAs net w (block_of net (slice_index_or scenarios k d))
