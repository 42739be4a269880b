-- What the account of a bank holds, as read from the fields of a network.
use Rattle.std.proofs.Common.{◌≡◌, ℕ, ◌<◌, length, get_or, refl, ap, subst, arith}
use Rattle.std.proofs.lemmas.List.{length-map}
use Rattle.std.proofs.lemmas.Option.{slice_get_read}
use Rattle.clr_net.specs.Kept.{net_within, IsAccountOf, IsKept}
use Rattle.clr_net.specs.Net.{Net}
use Rattle.clr_net.specs.declared.account.Account.{Account}
use Rattle.clr_net.specs.declared.network.Network.TheInside.{Inside}

-- each bank has an account
pub account_within : (a : Inside) (net : Net) → net_within a ≡ net → (i : ℕ) → i < length net.banks
    → i < length a.accounts.items
account_within a net e i l =
    let lengths : length (net_within a).banks ≡ length net.banks = ap (λ n. length n.banks) e in
    omega (arith, length-map a.accounts.items (λ c. c.bank))

-- the account read at a bank's number is the account of that bank
pub account_at : (a : Inside) (net : Net) → net_within a ≡ net → IsKept a
    → (i : ℕ) (c : Account) → i < length net.banks → c ≡ get_or a.accounts.items i c → IsAccountOf net i c
account_at a net e kept i c l r = subst (λ n. IsAccountOf n i c) e
    (kept.accounts i c (slice_get_read a.accounts.items (length a.accounts.items) i c refl
    (account_within a net e i l) r))
