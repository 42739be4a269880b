use Rattle.std.proofs.Common.{◌≡◌, true, false, sym, ap, ◌∙◌, Err}
use Rattle.std.proofs.lemmas.Bool.{true≢false}
use Rattle.clr_net.specs.Name.{is_name}
use Rattle.net_gen.specs.Generated.{name_at}
use Rattle.net_gen.proofs.Names.{named}
use Rattle.net_gen.proofs.making.name_of.Goals as goal

pub unreachable-requires : goal.unreachable-requires
unreachable-requires c =
    let text : c.as_bytes.result.now ≡ name_at c.args.number =
    c.as_bytes.ensures.value ∙ c.in_ok-text.ensures.ok in
    let good : is_name c.as_bytes.result.now ≡ true =
    ap is_name text ∙ named c.args.number c.requires in
    let bad : is_name c.as_bytes.result.now ≡ false =
    c.of.ensures.bad.0 (c.in-Err-Bad.is ∙ ap Err c.in-Err-Bad.field-0-is) in
    true≢false (sym good ∙ bad)
