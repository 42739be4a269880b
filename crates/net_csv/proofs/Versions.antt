-- The version of the banks file of a network, by what all its banks owe outside the network.
use Rattle.std.proofs.Common.{◌≡◌, ◌∙◌, ◌==◌, Bool, sym, ap, if◌then◌else◌}
use Rattle.std.proofs.lemmas.List.Folds.{sum_by-zero}
use Rattle.clr_net.specs.Net.{Net, all_outside}
use Rattle.net_csv.specs.Printing.{version_for}
use Rattle.net_csv.specs.declared.layout.Version.TheVariants as version

-- version 1 where they owe nothing, and otherwise version 2
pub version_by_total : (net : Net) (t : Bool) → (all_outside net == 0) ≡ t → version_for net ≡ (if t then version.One else version.Two)
version_by_total net t e =
    ap (λ (b : Bool). if b then version.One else version.Two) (sym (sum_by-zero (λ b. b.outside) net.banks) ∙ e)
