use Rattle.std.proofs.Common.{◌≡◌, [], length, map, slice_get, Some, refl, ap, ◌∙◌, arith}
use Rattle.std.specs.Option.{option_map}
use Rattle.std.proofs.lemmas.Option.{slice_get-map, slice_get_read}
use Rattle.clr_net.specs.Kept.{net_of}
use Rattle.clr_net.proofs.Copies.{names_indexed}
use Rattle.clr_net.proofs.copying.index_of.Goals as goal

pub loop-account-preserved : goal.loop-account-preserved
loop-account-preserved c =
    let net = net_of c.args.accounts.now [] in
    let all = c.args.accounts.now in
    let at = slice_get_read all (length all) c.loop-account.account-index c.account-item.result refl (omega arith) c.account-item.is in
    let bank : slice_get net.banks c.loop-account.account-index ≡ Some c.account-item.result.bank =
    slice_get-map (λ c. c.bank) c.args.accounts.now c.loop-account.account-index ∙ ap (option_map (λ c. c.bank)) at in
    ap (map (λ k. k.items)) c.in_ok-insert.ensures.keys
    ∙ names_indexed net c.requires c.loop-account.index.keys c.in_ok-name.name c.loop-account.account-index c.account-item.result.bank bank
    (c.in_ok-name.ensures.items ∙ c.bytes.ensures.bytes) c.loop-account.invariant
