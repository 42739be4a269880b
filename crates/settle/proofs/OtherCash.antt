-- Offices of a network that differ from those of another in the cash at their desks alone.
use Rattle.std.proofs.Common.{◌≡◌, ℕ, ◌-◌, ◌<◌, All, List, [], ◌∷◌, get_or, length, map, refl, sym, ap, ◌∙◌, subst, arith}
use Rattle.std.proofs.lemmas.List.{get_or_default, get_or-map, length-map}
use Rattle.clr_net.specs.Limits.{IsNetwork}
use Rattle.clr_net.specs.Net.{Net, of_cash}
use Rattle.clr_net.specs.declared.bank.Bank.{Bank}
use Rattle.bank_desk.specs.Desks.{BankView, desk_of, with_cash_in}
use Rattle.bank_desk.proofs.DesksOf.{desk_of_other_cash}
use Rattle.pay_words.specs.Views.{is_of_worker}
use Rattle.bank_worker.specs.Offices.{IsOfficeFor, OfficeView, banks_of_worker}
use Rattle.bank_worker.proofs.Filtered.{filter_passes}
use Rattle.settle.specs.Offices.{AreOffices, AreOfficesButCash, Serves, no_office, office_at, with_cash_of}

-- there are as many banks where they differ in cash alone
as_many_banks : (banks others : List Bank) → map (of_cash 0) banks ≡ map (of_cash 0) others → length banks ≡ length others
as_many_banks banks others alike = sym (length-map banks (of_cash 0)) ∙ ap length alike ∙ length-map others (of_cash 0)

-- each desk, once it has the cash of the network, is of the network
desks_again : (net other : Net) (banks : List ℕ) → map (of_cash 0) net.banks ≡ map (of_cash 0) other.banks → net.debts ≡ other.debts
    → map (with_cash_in net) (map (desk_of other) banks) ≡ map (desk_of net) banks
desks_again net other [] alike debts = refl
desks_again net other (b ∷ banks) alike debts = rw (desk_of_other_cash other net b alike debts, desks_again net other banks alike debts)

-- an office, once it has the cash of the network, serves the network
serves_again : (net other : Net) (workers i : ℕ) (o : OfficeView) → IsNetwork net → map (of_cash 0) net.banks ≡ map (of_cash 0) other.banks
    → net.debts ≡ other.debts → Serves other workers i o → Serves net workers i (with_cash_of net o)
serves_again net other workers i o network alike debts serves =
    let size = as_many_banks net.banks other.banks alike in
    let office = serves.office in
    record {
      office = record {
        network = network;
        desks = rw (size, office.desks) (desks_again net other (banks_of_worker other workers i) alike debts);
        creditors = rw debts office.creditors;
        marks = office.marks ∙ sym size;
        room = rw debts office.room;
      };
      worker = serves.worker;
    }

-- the bank of each desk is one of the network
knows_banks : (net other : Net) (workers i : ℕ) (o : OfficeView) → length net.banks ≡ length other.banks
    → IsOfficeFor other (banks_of_worker other workers i) o → All (λ d. d.bank < length net.banks) o.desks
knows_banks net other workers i o size office j d lt =
    let banks = banks_of_worker other workers i in
    let here : j < length banks = omega (arith, lt, ap length office.desks, length-map banks (desk_of other)) in
    let at : get_or o.desks j d ≡ desk_of other (get_or banks j 0) = ap (λ ds. get_or ds j d) office.desks ∙ get_or-map (desk_of other) banks j 0 d here in
    omega (arith, ap (λ (d : BankView). d.bank) at, (filter_passes (is_of_worker workers i) (length other.banks) j here).0, size)

-- so it is in all offices
pub all_know_banks : (net : Net) (workers : ℕ) (os : List OfficeView) → AreOfficesButCash net workers os
    → All (λ o. All (λ d. d.bank < length net.banks) o.desks) os
all_know_banks net workers os but k o lt =
    let are = but.offices in
    let serves = are.each k (omega (arith, lt, are.as_many)) in
    subst (λ (o : OfficeView). All (λ (d : BankView). d.bank < length net.banks) o.desks) (get_or_default os k no_office o lt)
    (knows_banks net but.other workers (workers - 1 - k) (office_at os k) (as_many_banks net.banks but.other.banks but.banks) serves.office)

-- all offices, once they have the cash of the network, are of the network
pub are_offices_again : (net : Net) (workers : ℕ) (os : List OfficeView) → IsNetwork net → AreOfficesButCash net workers os
    → AreOffices net workers workers (map (with_cash_of net) os)
are_offices_again net workers os network but =
    let are = but.offices in
    record {
      as_many = length-map os (with_cash_of net) ∙ are.as_many;
      each = λ k l.
          let here : k < length os = omega (arith, l, are.as_many) in
          subst (Serves net workers (workers - 1 - k)) (sym (get_or-map (with_cash_of net) os k no_office no_office here))
          (serves_again net but.other workers (workers - 1 - k) (office_at os k) network but.banks but.debts (are.each k l));
    }
