-- The new bank's account stands at the end, and its name at the end of the index.
use Rattle.std.proofs.Common.{◌≡◌, map, refl, ap, ◌∙◌, arith}
use Rattle.std.proofs.lemmas.List.{map_push}
use Rattle.clr_net.specs.declared.account.Account.{Account}
use Rattle.clr_net.specs.Kept.{net_of}
use Rattle.clr_net.specs.Limits.{IsNewBank}
use Rattle.clr_net.specs.Net.{with_bank}
use Rattle.clr_net.proofs.BankNames.{names_grow}
use Rattle.clr_net.proofs.Keeping.{AreKept-with_bank}
use Rattle.clr_net.proofs.Networks.{all_cash_le, all_outside_le}
use Rattle.clr_net.proofs.network.Network.add_bank.Goals as goal

pub overflow_add-self : goal.overflow_add-self
overflow_add-self c =
    omega (arith, c.self.invariant.cash, all_cash_le _ c.self.invariant.network, c.requires.cash)

pub overflow_add-self-2 : goal.overflow_add-self-2
overflow_add-self-2 c =
    omega (
      arith,
      c.self.invariant.outside,
      all_outside_le _ c.self.invariant.network,
      c.requires.outside,
    )

pub invariant_of-self-2 : goal.invariant_of-self-2
invariant_of-self-2 c =
    let name : c.in-Ok.name.items ≡ c.args.bank.name = c.in-Ok.ensures.items ∙ c.bytes.ensures.bytes in
    let net = net_of c.self.inside.accounts.items c.self.inside.debts.items in
    let new_name = rw (← c.self.view_is) at c.requires.new_name in
    let room = rw (← c.self.view_is) at c.requires.room in
    let new : IsNewBank net c.args.bank =
    search (room, new_name, c.bytes.ensures.is_name, c.requires.cash, c.requires.outside) in
    let names = ap (map (λ k. k.items)) c.in-Ok-insert.ensures.keys
    ∙ names_grow net c.self.inside.names.keys c.in-Ok.name c.self.invariant.names
    (rw name new_name) in
    rw (c.push_reserved.ensures.items, c.reserve.ensures.items, names, name)
    (AreKept-with_bank _ _ _ new (record { ids = c.new.ensures.ids; keys = c.new.ensures.keys })
    (record { ids = c.new-2.ensures.ids; keys = c.new-2.ensures.keys }) refl c.self.invariant)

-- the room that was made for one more account shows nothing
pub invariant_of-self : goal.invariant_of-self
invariant_of-self c = rw c.reserve.ensures.items c.self.invariant

pub returns-then-is_err-clause-err : goal.returns-then-is_err-clause-err
returns-then-is_err-clause-err c = rw c.reserve.ensures.items c.self.view_is

pub returns-clause-ok : goal.returns-clause-ok
returns-clause-ok c =
    rw (
      c.push_reserved.ensures.items,
      c.reserve.ensures.items,
      map_push (λ (a : Account). a.bank) c.self.inside.accounts.items,
    ) (ap (λ net. with_bank net c.args.bank) c.self.view_is)
