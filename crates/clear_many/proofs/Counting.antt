-- Scenarios in sums, as they are told and counted share by share.
use Rattle.std.proofs.Common.{◌≡◌, ℕ, ◌+◌, ◌-◌, ◌≤◌, List, [], Vec, Global, get_or, length, slice_range, ap, ◌∙◌, arith}
use Rattle.std.specs.List.{flat_map}
use Rattle.std.proofs.lemmas.Slice.{between_to_end}
use Rattle.clr_net.specs.Net.{Net}
use Rattle.clear_report.specs.Outcomes.{scenario_sums}
use Rattle.clear_report.proofs.Pieces.{all_of}
use Rattle.shares.proofs.InOrder.{read_list}
use Rattle.shares.specs.Made.{AreInOrder}
use Rattle.stress.proofs.Outcomes.{as_many_falls, falls_within}
use Rattle.stress.specs.Outcomes.{AreWithin, tally}
use Rattle.stress.specs.declared.TheConstants.{MAX_SCENARIOS}
use Rattle.stress.specs.declared.scenario.Scenario.{Scenario}
use Rattle.stress.specs.declared.tally.Falls.{Falls}
use Rattle.clear_many.specs.Sums.{AreSumsOf}
use Rattle.clear_many.specs.Texts.{text_of}
use Rattle.clear_many.specs.declared.outcomes.Sums.{Sums}
use Rattle.clear_many.proofs.Ranges.{range_fits}

-- the line of the scenario in the place k
abbrev pub IsLineAt : Net → List Scenario → ℕ → Vec ℕ Global → Type 0
IsLineAt net scenarios k line = (d : Scenario) → line.items ≡ scenario_sums net (get_or scenarios k d)

-- the lines of all are those of the text
pub lines_of_all : (net : Net) (scenarios : List Scenario) (lines : List (Vec ℕ Global)) → length lines ≡ length scenarios
    → AreInOrder (IsLineAt net scenarios) 0 lines
    → text_of lines ≡ flat_map (scenario_sums net) scenarios
lines_of_all net scenarios lines as_many are =
    let none : Scenario = record { name = []; cut = 0; losses = [] } in
    let at = λ (k : ℕ). (let e : 0 + k ≡ k = omega arith in e) in
    all_of (λ line. line.items) (scenario_sums net) lines scenarios
    (read_list (IsLineAt net scenarios) (λ line. line.items) (scenario_sums net) 0 scenarios none lines
    (λ k line is. is none ∙ ap (λ i. scenario_sums net (get_or scenarios i none)) (at k)) as_many are)

-- so the lines of all and the counts of all are their sums
pub sums_of_all : (net : Net) (scenarios : List Scenario) (s : Sums)
    → length s.lines.items ≡ length scenarios - 0
    → AreInOrder (IsLineAt net scenarios) 0 s.lines.items
    → s.tally ≡ tally net (slice_range scenarios 0 (length scenarios))
    → AreSumsOf net scenarios s
sums_of_all net scenarios s as_many are counted =
    let all : length scenarios - 0 ≡ length scenarios = omega arith in
    let whole : slice_range scenarios 0 (length scenarios) ≡ scenarios =
    between_to_end scenarios 0 (length scenarios) (omega arith) in
    record {
      lines = lines_of_all net scenarios s.lines.items (as_many ∙ all) are;
      falls = counted ∙ ap (tally net) whole;
    }

module _ (net : Net) (scenarios : List Scenario) where
  -- no share counts more than all scenarios
  pub counted_within : (low high : ℕ) (counts : List Falls) → length scenarios ≤ MAX_SCENARIOS
      → counts ≡ tally net (slice_range scenarios low high) → AreWithin MAX_SCENARIOS counts
  counted_within low high counts few is =
      let within = falls_within net (slice_range scenarios low high) MAX_SCENARIOS
      (omega (arith, few, range_fits scenarios low high)) in
      rw is within

  -- and each has as many as banks
  pub as_many_counted : (low high : ℕ) (counts : List Falls) → counts ≡ tally net (slice_range scenarios low high)
      → length counts ≡ length net.banks
  as_many_counted low high counts is = ap length is ∙ as_many_falls net (slice_range scenarios low high)
