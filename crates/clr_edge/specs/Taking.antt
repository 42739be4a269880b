-- What a sink takes in a call.
use Rattle.std.specs.Prelude.{◌≡◌, ◌≤◌, ℕ, List, ◌++◌, Option, Result, OnOk, OnErr}
use Rattle.clr_edge.specs.Faults.{HasRisen}
use Rattle.clr_edge.specs.Sink.{with_bytes, WritesPart}

-- a sink in a call: what it took before and after, where it tells it, and its count of faults
-- before and after
pub record SinkCall : Type 0 where
  pub old : Option (List ℕ)
  pub new : Option (List ℕ)
  pub faults_before : ℕ
  pub faults_after : ℕ

abbrev pub sink_call : Option (List ℕ) → Option (List ℕ) → ℕ → ℕ → SinkCall
sink_call old new faults_before faults_after =
    record { old = old; new = new; faults_before = faults_before; faults_after = faults_after }

-- a call on a sink, by what a sink tells of itself, and the sink before and after
abbrev pub on_sink : {S : Type 0} → (S → Option (List ℕ)) → (S → ℕ) → S → S → SinkCall
on_sink written faults old new = sink_call (written old) (written new) (faults old) (faults new)

-- the count of faults of the sink rose
abbrev pub SinkRose : SinkCall → Type 0
SinkRose sink = HasRisen sink.faults_before sink.faults_after

-- a sink took these bytes whole
abbrev pub TakesWhole : SinkCall → List ℕ → Type 0
TakesWhole sink bytes = sink.new ≡ with_bytes sink.old bytes

-- a sink took a part of these bytes from their front, and failed
abbrev pub TakesPart : SinkCall → List ℕ → Type 0
TakesPart sink bytes = WritesPart sink.old sink.new bytes × SinkRose sink

-- of what waited in the room and then these bytes, the sink took a front, and the rest waits there
abbrev pub Passes : SinkCall → List ℕ → List ℕ → List ℕ → Type 0
Passes sink before after bytes =
    (front : List ℕ) × TakesWhole sink front × (before ++ bytes ≡ front ++ after)

-- What a call does that passes these bytes on through a room, by what waits there before and after:
-- at an `Ok` they have passed. At an `Err` the sink took a part of what waited and of them, but not
-- all. No count falls, and where the sink counts faults alone, none is counted at an `Ok`.
pub record PassesOn {T E : Type 0} (counts_faults_alone : Type 0) (sink : SinkCall)
    (before after bytes : List ℕ) (result : Result T E) : Type 0 where
  pub passed : OnOk result (Passes sink before after bytes)
  pub part : OnErr result (TakesPart sink (before ++ bytes))
  pub faults : sink.faults_before ≤ sink.faults_after
  pub well : counts_faults_alone → OnOk result (sink.faults_after ≡ sink.faults_before)
