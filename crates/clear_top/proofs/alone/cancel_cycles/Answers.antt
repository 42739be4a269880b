use Rattle.std.proofs.Common.{None, length, ◌∙◌, ap, ap₂}
use Rattle.std.proofs.lemmas.Result.{IfOk-weaker}
use Rattle.clear_report.specs.Compression.{compressed_text}
use Rattle.clear_top.specs.declared.status.Status.TheVariants as status
use Rattle.clear_top.specs.Meaning.{IsCompressed, IsPlain}
use Rattle.clear_top.proofs.alone.cancel_cycles.Goals as goal

pub compress_text-requires-clause-claims : goal.compress_text-requires-clause-claims
compress_text-requires-clause-claims c =
    ap length c.as_slice.ensures ∙ c.in_ok-claims.ensures.compression.as_many

pub compress_text-requires-clause-ranks : goal.compress_text-requires-clause-ranks
compress_text-requires-clause-ranks c =
    ap length c.as_slice-2.ensures ∙ c.in_ok-claims.ensures.compression.places

pub returns : goal.returns
returns c =
    let found = c.in_ok-claims.field-0 in
    let text = c.in_ok-text.ensures
    ∙ ap₂ (λ C R. compressed_text c.args.net.now C R found.cancelled) c.as_slice.ensures c.as_slice-2.ensures in
    IfOk-weaker c.plain.result (IsPlain c.in_ok-text.text.items) (IsCompressed c.args.net.now)
    (λ o plain. (
      found.claims,
      found.ranks,
      found.cancelled,
      c.in_ok-claims.ensures.compression,
      plain ∙ ap (λ t. record { status = status.Done; sealed = None; text = t }) text,
    )) c.plain.ensures
