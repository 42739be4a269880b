-- The text of many scenarios, as bytes.
use Rattle.std.specs.Prelude.{ℕ, List, [], ◌∷◌, ◌++◌, codes}
use Rattle.std.specs.List.{flat_map}
use Rattle.clr_net.specs.Lines.{line}
use Rattle.clear_report.specs.Words.{empty_line}

-- the line of a scenario of this name
abbrev pub scenario_line : List ℕ → List ℕ
scenario_line name = line (codes "scenario" ∷ name ∷ [])

-- the block of a scenario of this name: a line of the name, then these texts of what is paid and of
-- who defaults
abbrev pub scenario_block : List ℕ → List ℕ → List ℕ → List ℕ
scenario_block name payments defaults = scenario_line name ++ payments ++ defaults

-- the blocks in order, with an empty line between each two
abbrev pub stress_text : List (List ℕ) → List ℕ
stress_text [] = []
stress_text (first ∷ blocks) = first ++ flat_map (λ block. empty_line ++ block) blocks
