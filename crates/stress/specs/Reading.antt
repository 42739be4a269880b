-- What a scenarios document means: its scenarios in file order, or the first fault.
use Rattle.std.specs.Prelude.{ℕ, ◌+◌, nat_le, nat_lt, not, List, [], ◌∷◌, ◌++◌, length, position}
use Rattle.std.specs.Prelude.{codes, Option, None, Result, Ok, if◌then◌else◌}
use Rattle.std.specs.List.{list_any}
use Rattle.std.specs.Option.{ok_or}
use Rattle.std.specs.Str.{is_utf8}
use Rattle.toml.specs.Data.{Data, Items, no_items, item, Members, get_member}
use Rattle.toml.specs.Parse.{parse_document}
use Rattle.clr_net.specs.Name.{is_name}
use Rattle.clr_net.specs.Net.{Net, has_name}
use Rattle.net_check.specs.Checks.{and_then, fault_unless}
use Rattle.net_check.specs.Record.{fault_at, in_row}
use Rattle.net_check.specs.declared.TheConstants.{MAX_SCENARIOS_BYTES}
use Rattle.net_check.specs.declared.fault.Fault.{Fault}
use Rattle.net_check.specs.declared.fault.FaultKind.{FaultKind}
use Rattle.net_check.specs.declared.fault.FaultKind.TheVariants as fault
use Rattle.net_check.specs.declared.fault.FileKind.TheVariants as file
use Rattle.stress.specs.Shape.{Parts, as_loss, as_parts, array_or_none, has_only, up_to}
use Rattle.stress.specs.Shocks.{is_of_bank}
use Rattle.stress.specs.declared.TheConstants.{MAX_SCENARIOS, MAX_CUT, MAX_LOSS}
use Rattle.stress.specs.declared.scenario.Loss.{Loss}
use Rattle.stress.specs.declared.scenario.Scenario.{Scenario}

-- the loss that a value is, after these: of a bank of the network that none of them is of, and up
-- to the limit. (The shape of all losses is looked at before, with their scenario's.)
abbrev pub loss_in : Net → List Loss → Data → Result Loss FaultKind
loss_in net before value =
    and_then (ok_or (as_loss value) fault.Shape) (λ p.
    and_then (ok_or (position (has_name p.0) net.banks) fault.UnknownBank) (λ bank.
    fault_unless (not (list_any (is_of_bank bank) before)) fault.DoubleBank (
    and_then (ok_or (up_to MAX_LOSS p.1) fault.Limit) (λ amount.
    Ok (record { bank = record { 0 = bank }; amount = amount })))))

-- these losses and those that the values are
unfoldable pub read_losses : Net → List Loss → Items → Result (List Loss) FaultKind
read_losses net before no_items = Ok before
read_losses net before (item value rest) =
    and_then (loss_in net before value) (λ l. read_losses net (before ++ l ∷ []) rest)

-- the cut of a scenario, whose name is judged before it
abbrev pub named_cut : Parts → Result ℕ FaultKind
named_cut p = fault_unless (is_name p.name) fault.Name (ok_or (up_to MAX_CUT p.cut) fault.Limit)

-- what a value says before its losses: its shape, its name and its cut
abbrev pub head_in : Data → Result ℕ FaultKind
head_in value = and_then (ok_or (as_parts value) fault.Shape) named_cut

-- the scenario that a value is: its shape, its name, its cut and its losses
abbrev pub scenario_in : Net → Data → Result Scenario FaultKind
scenario_in net value =
    and_then (ok_or (as_parts value) fault.Shape) (λ p.
    and_then (named_cut p) (λ cut.
    and_then (read_losses net [] p.losses) (λ losses.
    Ok (record { name = p.name; cut = cut; losses = losses }))))

-- a fault of a scenario, or of the document, which is row 0
abbrev pub fault_in : ℕ → FaultKind → Fault
fault_in row kind = fault_at file.Scenarios row kind

-- the scenario that a value is, or its fault in this row
abbrev pub scenario_in_row : Net → ℕ → Data → Result Scenario Fault
scenario_in_row net row value = in_row file.Scenarios row (scenario_in net value)

-- the scenario after these, of which there may be no more than the limit
abbrev pub next_scenario : Net → List Scenario → Data → Result Scenario Fault
next_scenario net before value =
    let row = length before + 1 in
    fault_unless (nat_lt (length before) MAX_SCENARIOS) (fault_in row fault.TooMany) (
    scenario_in_row net row value)

-- these scenarios and those that the values are
unfoldable pub read_all : Net → List Scenario → Items → Result (List Scenario) Fault
read_all net before no_items = Ok before
read_all net before (item value rest) =
    and_then (next_scenario net before value) (λ s. read_all net (before ++ s ∷ []) rest)

-- the scenarios of a document: none where it has no such key
abbrev pub scenarios_in : Net → Members → Result (List Scenario) Fault
scenarios_in net document =
    let found = array_or_none (get_member (codes "scenario") document) in
    fault_unless (has_only (codes "scenario" ∷ []) document) (fault_in 0 fault.Shape) (
    and_then (ok_or found (fault_in 0 fault.Shape)) (λ values.
    read_all net [] values))

-- the document that these bytes are: TOML in UTF-8
abbrev pub document_of : List ℕ → Option Members
document_of bytes = if is_utf8 bytes then parse_document bytes else None

-- the scenarios that a file gives beside a network, or its first fault
abbrev pub scenarios_of : Net → List ℕ → Result (List Scenario) Fault
scenarios_of net bytes =
    fault_unless (nat_le (length bytes) MAX_SCENARIOS_BYTES) (fault_in 0 fault.FileSize) (
    and_then (ok_or (document_of bytes) (fault_in 0 fault.Toml)) (λ document.
    scenarios_in net document))
