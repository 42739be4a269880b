-- The copied accounts show what the network's show, so they make the same network.
use Rattle.std.proofs.Common.{[], map, sym, ap, ◌∙◌, subst}
use Rattle.clr_net.specs.Accounts.{shown}
use Rattle.clr_net.specs.Kept.{net_of, HaveOwnNames}
use Rattle.clr_net.proofs.Keeping.{AreKept-alike, net_of-alike}
use Rattle.clr_net.proofs.network.Network.copy.Goals as goal

pub index_of-requires : goal.index_of-requires
index_of-requires c = subst (λ all. HaveOwnNames (net_of all [])) (sym c.as_slice-3.ensures.value)
    (λ i j l m. (c.self.invariant.network.each_bank i l).only_of_its_name j m)

pub invariant_of-result : goal.invariant_of-result
invariant_of-result c =
    let names = c.in_ok-index_of.ensures
    ∙ ap (λ all. map (λ b. b.name) (net_of all []).banks) c.as_slice-3.ensures.value
    ∙ sym c.self.invariant.names in
    rw (c.in_ok-from_slice.ensures.items ∙ c.as_slice-2.ensures.value, names)
    (AreKept-alike _ _ _ (c.in_ok-copies.ensures ∙ ap (map shown) c.as_slice.ensures.value)
    c.self.invariant)

pub returns : goal.returns
returns c =
    rw (c.in_ok-from_slice.ensures.items ∙ c.as_slice-2.ensures.value)
    (net_of-alike _ _ _ (c.in_ok-copies.ensures ∙ ap (map shown) c.as_slice.ensures.value)
    ∙ c.self.view_is)
