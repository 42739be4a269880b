use Rattle.std.proofs.Common.{rules, ◌≡◌, ◌++◌, true, length, vec_capacity, sym, ap, ◌∙◌, subst, arith, refl, sum}
use Rattle.std.proofs.Math.Seq.{drop-append_seam}
use Rattle.clr_net.specs.Net.{Net, numbers, row, column}
use Rattle.clear_core.proofs.BankPays.{length-division}
use Rattle.clear_core.proofs.Rows.{as_many_numbers, length-column_le}
use Rattle.clear_core.specs.Clearing.{division, receipts}
use Rattle.bank_desk.specs.Desks.{BankView, desk_of, target}
use Rattle.pay_words.specs.declared.view.Shown.{Shown}
use Rattle.pay_words.specs.Views.{holds}
use Rattle.pay_words.proofs.Places.{held_in_range}
use Rattle.pay_words.proofs.SideBySide.{side_by_side}
use Rattle.bank_worker.specs.Offices.{OfficeView}
use Rattle.bank_worker.specs.Raises.{IsRaised}
use Rattle.bank_worker.specs.Views.{desk_at}
use Rattle.bank_worker.specs.Visits.{IsSeatVisited}
use Rattle.bank_worker.proofs.Filtered.{column_held, row_held}
use Rattle.bank_worker.proofs.Manned.{IsDeskOf, desk_is}
use Rattle.bank_worker.proofs.Staffed.{office_kept}
use Rattle.bank_worker.proofs.Visiting.{Steps, same_seat, looks_once, pays_out, noted, rings_all, no_rings, few, owe_rings, receipts_low, sum_division_low, not_below_division, within_division}
use Rattle.bank_worker.proofs.office.Office.visit.Goals as goal
use Rattle.bank_worker.proofs.office.Office.visit.Goals.{After-debts_in, After-as_slice, After-debts_out-debts, After-split_at}

-- the desk is that of a bank of the seat
there : (c : After-debts_in) → IsDeskOf c.args.seat.now.shows c.at-desk.result.now
there c = rw (c.at-desk.ensures ∙ ap (λ (o : OfficeView). desk_at o.desks c.args.place) c.self.view_is)
    (desk_is c.args.seat.now.shows c.args.self.now.desks c.args.place c.requires.staffed.office.desks c.requires.place)

-- its column
ins : (c : After-debts_in) → numbers c.debts_in.result.now ≡ column c.args.seat.now.shows.net c.at-desk.result.now.bank
ins c = c.debts_in.ensures ∙ ap (λ (d : BankView). d.debts_in) (there c).known

pub look_at_all-received-requires-clause-working : goal.look_at_all-received-requires-clause-working
look_at_all-received-requires-clause-working c =
    record { at = c.requires.seat; not_the_master = c.requires.staffed.not_the_master; over = c.clock.ensures.over }

pub look_at_all-received-requires-clause-debts : goal.look_at_all-received-requires-clause-debts
look_at_all-received-requires-clause-debts c =
    rw (ins c) (column_held c.args.seat.now.shows c.at-desk.result.now.bank (there c).held)

pub first-first-requires : goal.first-first-requires
first-first-requires c =
    let d : IsDeskOf c.args.seat.now.shows c.at-desk.result.now = rw (c.at-desk.ensures ∙ ap (λ (o : OfficeView). desk_at o.desks c.args.place) c.self.view_is)
    (desk_is c.args.seat.now.shows c.args.self.now.desks c.args.place c.requires.staffed.office.desks c.requires.place) in
    omega (arith, held_in_range c.args.seat.now.shows c.at-desk.result.now.bank c.clock.ensures.over d.held, c.bank.ensures.bank, ap (λ (n : Net). length n.banks) c.requires.seat.1)

pub look_at_all-received-requires-clause-positions : goal.look_at_all-received-requires-clause-positions
look_at_all-received-requires-clause-positions c =
    let b = c.at-desk.result.now.bank in
    let net = c.args.board.now.net in
    rw (ins c ∙ ap (λ (n : Net). column n b) c.requires.seat.1, c.first-first.ensures, c.bank.ensures.bank) (side_by_side net b)

pub look_at_all-received-requires-clause-few : goal.look_at_all-received-requires-clause-few
look_at_all-received-requires-clause-few c =
    omega (arith, as_many_numbers c.debts_in.result.now _ (ins c), length-column_le c.args.seat.now.shows.net c.at-desk.result.now.bank, c.requires.staffed.office.network.debts_in_limit)

pub lay_out-requires-clause-received : goal.lay_out-requires-clause-received
lay_out-requires-clause-received c =
    let s = c.args.seat.now.shows in
    let t = c.look_at_all-received.new.seat.shows in
    let same : t.net ≡ s.net = ap (λ (w : Shown). w.net) c.look_at_all-received.ensures.looked.only in
    rw (c.look_at_all-received.ensures.receipts, ins (goal.at.lay_out-requires-clause-received c).After-debts_in)
    (receipts_low s.net t.sights c.at-desk.result.now.bank c.requires.staffed.office.network (rw same at c.clock-2.ensures.sights_below_least))

pub lay_out-requires-clause-room : goal.lay_out-requires-clause-room
lay_out-requires-clause-room c = omega (
  arith,
  ap (λ (d : BankView). length d.debts_out) (there (goal.at.lay_out-requires-clause-room c).After-debts_in).known,
  c.requires.staffed.office.room c.at-desk.result.now.bank,
  ap vec_capacity (c.count_visit.ensures.targets ∙ ap (λ w. w.targets) c.deref_mut-space.ensures.value),
  ap (λ (o : OfficeView). o.room) c.self.view_is,
)

-- what the bank should pay is its division at what was seen
targets : (c : After-as_slice) → IsDeskOf c.args.seat.now.shows c.at-desk.result.now → numbers c.debts_in.result.now ≡ column c.args.seat.now.shows.net c.at-desk.result.now.bank
    → c.as_slice.result.now
    ≡ division c.args.seat.now.shows.net c.at-desk.result.now.bank (receipts c.args.seat.now.shows.net c.look_at_all-received.new.seat.shows.sights c.at-desk.result.now.bank)
targets c f e = c.as_slice.ensures.value ∙ c.lay_out.ensures.targets ∙ rw (c.look_at_all-received.ensures.receipts, e)
    (ap (λ (d : BankView). target d (receipts c.args.seat.now.shows.net c.look_at_all-received.new.seat.shows.sights c.at-desk.result.now.bank)) f.known)

-- its row
outs : (c : After-debts_out-debts) → IsDeskOf c.args.seat.now.shows c.at-desk.result.now → numbers c.debts_out-debts.result.now ≡ row c.args.seat.now.shows.net c.at-desk.result.now.bank
outs c f = c.debts_out-debts.ensures ∙ ap (λ (d : BankView). d.debts_out) f.known

pub raise_all-units-requires : goal.raise_all-units-requires
raise_all-units-requires c =
    let net = c.args.seat.now.shows.net in
    let b = c.at-desk.result.now.bank in
    let t = c.look_at_all-received.new.seat.shows in
    let only = c.look_at_all-received.ensures.looked.only in
    let here : t.net ≡ net = ap (λ (w : Shown). w.net) only in
    let at = goal.at.raise_all-units-requires c in
    let f = there at.After-debts_in in
    let held : holds t b ≡ true = ap (λ (w : Shown). holds w b) only ∙ f.held in
    let e = outs at.After-debts_out-debts f in
    let are = targets at.After-as_slice f (ins at.After-debts_in) in
    record {
      working = record {
        at = (c.look_at_all-received.ensures.table ∙ c.requires.seat.0, here ∙ c.requires.seat.1);
        not_the_master = ap (λ (w : Shown). w.master) only ∙ c.requires.staffed.not_the_master;
        over = c.clock-2.ensures.over;
      };
      debts = rw e (row_held net t b here held);
      places = omega (arith, ap length are, length-division net b (receipts net t.sights b), as_many_numbers c.debts_out-debts.result.now _ e);
      targets = record {
        rise = rw (e, are) (not_below_division net t b here held c.clock-2.ensures.pays_within);
        within = rw (e, are) (within_division net t b here);
      };
      few = omega (arith, ap sum are, sum_division_low net b (receipts net t.sights b) c.requires.staffed.office.network);
      room = omega (
        arith,
        c.requires.spare,
        ap length c.debts_out-debts.ensures,
        as_many_numbers c.debts_out-debts.result.now _ refl,
        ap (λ (d : BankView). length d.debts_out) c.at-desk.ensures,
        ap (λ (o : OfficeView). length (desk_at o.desks c.args.place).debts_out) c.self.view_is,
      );
      noted = c.requires.staffed.noted ∙ sym (ap (λ (w : Shown). w.raises) only);
    }

-- what was raised on the row, and that these raises stand at the end of the journal
raised_here : (c : After-split_at) → numbers c.debts_out-debts.result.now ≡ row c.args.seat.now.shows.net c.at-desk.result.now.bank
    → (r : IsRaised c.look_at_all-received.new.seat.shows c.raise_all-units.new.seat.shows (row c.args.seat.now.shows.net c.at-desk.result.now.bank) c.as_slice.result.now (length (row c.args.seat.now.shows.net c.at-desk.result.now.bank)))
    × (c.split_at.result.1.now ≡ r.made)
raised_here c e =
    let t = c.look_at_all-received.new.seat.shows in
    let r = rw (e, as_many_numbers c.debts_out-debts.result.now _ e) at c.raise_all-units.ensures.raised in
    let before : c.as_slice-from.result.now ≡ t.raises = c.as_slice-from.ensures ∙ c.requires.staffed.noted ∙ sym (ap (λ (w : Shown). w.raises) c.look_at_all-received.ensures.looked.only) in
    let after : c.as_slice-2.result.now ≡ t.raises ++ r.made = c.as_slice-2.ensures ∙ c.raise_all-units.ensures.noted ∙ ap (λ (w : Shown). w.raises) r.only in
    (r, c.split_at.ensures.back ∙ rw (before, after) (drop-append_seam t.raises r.made))

pub ring_all-requires-clause-raised : goal.ring_all-requires-clause-raised
ring_all-requires-clause-raised c =
    let at = goal.at.ring_all-requires-clause-raised c in
    let f = there at.After-debts_in in
    let r = raised_here at.After-split_at (outs at.After-debts_out-debts f) in
    let only = c.look_at_all-received.ensures.looked.only in
    owe_rings c.args.seat.now.shows.net c.at-desk.result.now.bank c.look_at_all-received.new.seat.shows _ _ _
    (ap (λ (w : Shown). w.net) only) (ap (λ (w : Shown). holds w c.at-desk.result.now.bank) only ∙ f.held) r.0 r.1

pub returns : goal.returns
returns c =
    let s = c.args.seat.now.shows in
    let b = c.at-desk.result.now.bank in
    let looks = c.look_at_all-received.ensures in
    let t = c.look_at_all-received.new.seat.shows in
    let u = c.raise_all-units.new.seat.shows in
    let v = c.ring_all.new.seat.shows in
    let ts = c.as_slice.result.now in
    let units = c.raise_all-units.result in
    let staffed = c.requires.staffed in
    let at = goal.at.returns c in
    let f = there at.After-debts_in in
    let in_column = ins at.After-debts_in in
    let in_row = outs at.After-debts_out-debts f in
    let r = raised_here at.After-split_at in_row in
    let h : Steps b s t u v ts units = record {
      network = staffed.office.network;
      held = f.held;
      quiet = staffed.no_rings;
      looked = rw (in_column, as_many_numbers c.debts_in.result.now _ in_column) at looks.looked;
      within = c.clock-2.ensures.pays_within;
      targets = targets at.After-as_slice f in_column;
      raised = r.0;
      units_are = rw in_row at c.raise_all-units.ensures.units;
      more = c.raise_all-units.ensures.more;
      rung = rw r.1 at c.ring_all.ensures.rung;
    } in
    let desk : desk_at c.args.self.now.desks c.args.place ≡ desk_of s.net b =
    sym (c.at-desk.ensures ∙ ap (λ (o : OfficeView). desk_at o.desks c.args.place) c.self.view_is) ∙ f.known in
    let same = same_seat b s t u v ts units h in
    record {
      table = c.ring_all.ensures.table ∙ c.raise_all-units.ensures.table ∙ looks.table;
      visited = subst (λ d. IsSeatVisited d units s v) (sym desk) (record {
        same = same;
        looks = looks_once b s t u v ts units h;
        pays = pays_out b s t u v ts units h;
        notes = noted b s t u v ts units h;
        rings = rings_all b s t u v ts units h;
      });
      few = few b s t u v ts units h;
      staffed = record {
        office = office_kept s v _ same (search rules);
        not_the_master = same.master ∙ staffed.not_the_master;
        noted = c.raise_all-units.ensures.noted ∙ sym (ap (λ (w : Shown). w.raises) c.ring_all.ensures.rung.only);
        no_rings = no_rings b s t u v ts units h;
      };
      desks = ap (λ (o : OfficeView). o.desks) c.self.view_is;
      worker = ap (λ (o : OfficeView). o.worker) c.self.view_is;
    }
