-- The limits by which files are read, beside one another and beside those of every network.
use Rattle.std.proofs.Common.{◌≡◌, ◌≤◌, refl, arith}
use Rattle.clr_net.specs.Net.{Net}
use Rattle.clr_net.specs.declared.TheConstants.{MAX_BANKS, MAX_DEBTS, MAX_OWED}
use Rattle.net_check.specs.Within.{most_banks, most_debts, most_owed, most_raises}
use Rattle.net_check.specs.Within.{most_bytes, IsWithin}
use Rattle.net_check.specs.declared.TheConstants.{MAX_FILE_BYTES}
use Rattle.net_check.specs.declared.limits.Limits.{Limits}
use Rattle.net_check.specs.declared.limits.Limits.TheVariants as limits

-- no limits allow more than a network may have
pub banks_allowed : (by : Limits) → most_banks by ≤ MAX_BANKS
banks_allowed limits.Standard = omega arith
banks_allowed limits.Wide = omega arith

-- nor more debts
pub debts_allowed : (by : Limits) → most_debts by ≤ MAX_DEBTS
debts_allowed limits.Standard = omega arith
debts_allowed limits.Wide = omega arith

-- nor more units owed
pub units_allowed : (by : Limits) → most_owed by ≤ MAX_OWED
units_allowed limits.Standard = omega arith
units_allowed limits.Wide = omega arith

-- nor files of more bytes
pub bytes_allowed : (by : Limits) → most_bytes by ≤ MAX_FILE_BYTES
bytes_allowed limits.Standard = omega arith
bytes_allowed limits.Wide = omega arith

-- a journal may have a raise for each unit that may be owed
pub raises_allowed : (by : Limits) → most_raises by ≡ most_owed by
raises_allowed limits.Standard = refl
raises_allowed limits.Wide = refl

-- what is within some limits is within the wide ones
pub within_is_wide : (by : Limits) (net : Net) → IsWithin by net → IsWithin limits.Wide net
within_is_wide by net within =
    let banks = banks_allowed by in
    let debts = debts_allowed by in
    let units = units_allowed by in
    record {
      banks = omega (arith, within.banks);
      debts = omega (arith, within.debts);
      owed = omega (arith, within.owed);
    }

-- what is within the standard limits is within all
pub standard_is_within : (by : Limits) (net : Net) → IsWithin limits.Standard net → IsWithin by net
standard_is_within limits.Standard net within = within
standard_is_within limits.Wide net within = within_is_wide limits.Standard net within
