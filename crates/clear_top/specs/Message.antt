-- What is written for a person where a run does not end well.
use Rattle.std.specs.Prelude.{◌≡◌, ◌⊎◌, ℕ, List, [], ◌∷◌, codes, Option, None, Some}
use Rattle.std.specs.List.{concat}
use Rattle.std.specs.Option.{unwrap_or}
use Rattle.clr_edge.specs.Sink.{with_bytes, WritesPart}
use Rattle.net_check.specs.declared.fault.FileKind.{FileKind}
use Rattle.net_check.specs.FaultText.{fault_text}
use Rattle.clear_words.specs.declared.job.Job.{Job}
use Rattle.clr_edge.specs.Taking.{SinkCall, SinkRose}
use Rattle.clear_load.specs.Sources.{name_in}
use Rattle.clear_top.specs.declared.status.Status.{Status}
use Rattle.clear_top.specs.declared.status.Status.TheVariants as status

-- the name of the file of a kind, where there is a job that has one
abbrev pub name_if : Option Job → FileKind → List ℕ
name_if None k = []
name_if (Some job) k = unwrap_or (name_in job k) []

-- the line that is written for a status: none where the run is done
abbrev pub message : Status → Option Job → List ℕ
message status.Done job = []
message status.Usage job = codes "clearing: the command line is not understood\n"
message (status.ReadFault k) job =
    concat (codes "clearing: cannot read " ∷ name_if job k ∷ codes "\n" ∷ [])
message (status.Refused f) job = concat (codes "clearing: " ∷ fault_text f ∷ codes "\n" ∷ [])
message status.WriteFault job = codes "clearing: cannot write the output\n"
message status.Mem job = codes "clearing: out of memory\n"
message (status.Unlawful v) job =
    codes "clearing: the journal is not a lawful complete history\n"

-- a sink took a text whole; or it failed in the call, and took of it a part from its front
abbrev pub TakesText : SinkCall → List ℕ → Type 0
TakesText sink text =
    (sink.new ≡ with_bytes sink.old text) ⊎ (WritesPart sink.old sink.new text × SinkRose sink)
