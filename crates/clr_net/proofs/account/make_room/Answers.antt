-- Each of the two writes leaves what its account shows.
use Rattle.std.proofs.Common.{◌≡◌, ◌≢◌, ℕ, ◌<◌, List, get_or, set, length, map, sym, ap, ◌∙◌, arith}
use Rattle.std.proofs.lemmas.Grind.{common_steps}
use Rattle.std.proofs.lemmas.List.{length-set, map-set, set-get_or, get_or-map}
use Rattle.std.proofs.lemmas.Option.{get_or_from_slice_get}
use Rattle.std.proofs.lemmas.Result.{on_ok_weaker}
use Rattle.clr_net.specs.Accounts.{shown, HasRoom, HaveRoom}
use Rattle.clr_net.specs.declared.account.Account.{Account}
use Rattle.clr_net.proofs.account.make_room.Goals as goal

-- a write that shows as what stood there
written : (all : List Account) (i : ℕ) (u v : Account) → i < length all → u ≡ get_or all i u
    → shown v ≡ shown u
    → map shown (set all i v) ≡ map shown all
written all i u v l read same =
    map-set shown all i v ∙ ap (set (map shown all) i)
    (same ∙ ap shown read ∙ sym (get_or-map shown all i u (shown u) l))
    ∙ set-get_or (map shown all) i (shown u)

pub returns-in_err-reserve_row-clause-shown : goal.returns-in_err-reserve_row-clause-shown
returns-in_err-reserve_row-clause-shown c =
    written c.args.accounts.now.items c.args.debtor.0 c.index_mut.result.now c.reserve_row.new.self
    (omega arith) c.index_mut.ensures.value c.reserve_row.ensures.shown

pub returns-clause-shown : goal.returns-clause-shown
returns-clause-shown c =
    let all = c.args.accounts.now.items in
    written (set all c.args.debtor.0 c.reserve_row.new.self) c.args.creditor.0
    c.index_mut-2.result.now c.reserve_column.new.self
    (omega (arith, length-set all c.args.debtor.0 c.reserve_row.new.self))
    c.index_mut-2.ensures.value c.reserve_column.ensures.shown
    ∙ written all c.args.debtor.0 c.index_mut.result.now c.reserve_row.new.self (omega arith)
    c.index_mut.ensures.value c.reserve_row.ensures.shown

-- two writes, of an account with room in its row and of one with room in its column
have_room : (all : List Account) (d e : ℕ) (r q : Account) → d ≢ e → d < length all → e < length all
    → HasRoom r.row → HasRoom q.column → HaveRoom (set (set all d r) e q) d e
have_room all d e r q two ld le row column = record {
  row = λ c at. let is = get_or_from_slice_get (set (set all d r) e q) d c c at in
      let same : c ≡ r = grind (arith, common_steps) in rw same row;
  column = λ c at. let is = get_or_from_slice_get (set (set all d r) e q) e c c at in
      let same : c ≡ q = grind (arith, common_steps) in rw same column;
}

pub returns-clause-ok : goal.returns-clause-ok
returns-clause-ok c = on_ok_weaker c.reserve_column.result (λ column.
    have_room c.args.accounts.now.items c.args.debtor.0 c.args.creditor.0 c.reserve_row.new.self c.reserve_column.new.self
    c.requires.two (omega arith) (omega arith) c.in_ok-reserve_row.ensures.ok column) c.reserve_column.ensures.ok
