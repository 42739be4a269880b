use Rattle.std.proofs.Common.{◌≡◌, IfOk, length, ◌∙◌, ap, subst}
use Rattle.std.proofs.lemmas.List.FromFn.{length-map-range_with_len}
use Rattle.cascade.proofs.Limits.{clearing_over}
use Rattle.clear_report.specs.Bounds.{bounds_tables}
use Rattle.upper.specs.Bounds.{greatest, wave, waves}
use Rattle.clear_report.specs.Least.{least_standings}
use Rattle.clear_stress.proofs.Places.{least_places}
use Rattle.clear_top.proofs.reports.bounds_of.Goals as goal

pub bounds_text-requires-clause-least : goal.bounds_text-requires-clause-least
bounds_text-requires-clause-least c = ap length c.requires ∙ least_places c.args.net.now

pub bounds_text-requires-clause-greatest : goal.bounds_text-requires-clause-greatest
bounds_text-requires-clause-greatest c =
    ap length c.as_slice.ensures
    ∙ clearing_over c.args.net.now c.in_ok-greatest.field-0.greatest c.in_ok-greatest.ensures.is_greatest.clears

pub bounds_text-requires-clause-waves : goal.bounds_text-requires-clause-waves
bounds_text-requires-clause-waves c =
    ap length (c.as_slice-2.ensures ∙ c.in_ok-greatest.ensures.waves)
    ∙ length-map-range_with_len (wave c.args.net.now) 0 (length c.args.net.now.banks)

pub bounds_text-requires-clause-standings : goal.bounds_text-requires-clause-standings
bounds_text-requires-clause-standings c =
    ap length c.as_slice-3.ensures.value ∙ c.in_ok-standings.ensures.as_many

pub returns : goal.returns
returns c =
    let net = c.args.net.now in
    let all = least_standings net in
    let r = c.bounds_text.result in
    subst (λ P. IfOk r (λ text. text.items ≡ bounds_tables net P (greatest net) (waves net) all)) c.requires
    (subst (λ G. IfOk r (λ text. text.items ≡ bounds_tables net c.args.paid.now G (waves net) all)) (c.as_slice.ensures ∙ c.in_ok-greatest.ensures.greatest)
    (subst (λ W. IfOk r (λ text. text.items ≡ bounds_tables net c.args.paid.now c.as_slice.result.now W all)) (c.as_slice-2.ensures ∙ c.in_ok-greatest.ensures.waves)
    (subst (λ S. IfOk r (λ text. text.items ≡ bounds_tables net c.args.paid.now c.as_slice.result.now c.as_slice-2.result.now S))
    (c.as_slice-3.ensures.value ∙ c.in_ok-standings.ensures.standings) c.bounds_text.ensures)))
