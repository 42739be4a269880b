-- Both what waited and the bytes were put, or a part of them.
use Rattle.std.proofs.Common.{◌≡◌, ◌++◌, append-nil, sym, ap, ◌∙◌, arith}
use Rattle.std.proofs.lemmas.Result.{err_from_is_err_and, on_ok_weaker, on_err_weaker}
use Rattle.clr_edge.specs.Sink.{with_bytes}
use Rattle.clr_edge.proofs.Passed.{on_err_both, wait_stops}
use Rattle.clr_edge.proofs.Pieces.{whole_then_part, whole_then_whole}
use Rattle.clr_edge.proofs.passing.pass_on.Goals as goal

pub returns-then-bytes-capacity : goal.returns-then-bytes-capacity
returns-then-bytes-capacity g c =
    let waited = c.args.room.now.items in
    let bytes = c.args.bytes.now in
    let put = c.put_all-then-bytes-capacity in
    let first = c.in_ok-put_all.ensures.written ∙ ap (with_bytes (g.S.Sink.written c.args.sink.now)) c.as_slice.ensures.value in
    record {
      passed = on_ok_weaker put.result
          (λ last. (
            waited ++ bytes,
            whole_then_whole _ waited bytes first last,
            sym (append-nil (waited ++ bytes)) ∙ ap (λ l. (waited ++ bytes) ++ l) (sym c.clear.ensures.items),
          ))
          put.ensures.written;
      part = on_err_weaker put.result
          (λ last. whole_then_part _ waited bytes first c.put_all.ensures.faults last)
          (on_err_both _ _ _ put.ensures.part put.ensures.failed);
      faults = omega (arith, c.put_all.ensures.faults, put.ensures.faults);
      well = λ alone. on_ok_weaker put.result (λ last. last ∙ c.in_ok-put_all.ensures.well alone) (put.ensures.well alone);
    }

pub returns-in_err-put_all : goal.returns-in_err-put_all
returns-in_err-put_all g c =
    let why = err_from_is_err_and c.from_residual.result c.from_residual.ensures.1 in
    wait_stops c.from_residual.result c.args.bytes.now why.1 c.as_slice.ensures.value c.in_err-put_all.ensures.part
    c.in_err-put_all.ensures.failed c.put_all.ensures.faults

pub returns : goal.returns
returns g c =
    let waited = c.args.room.now.items in
    let bytes = c.args.bytes.now in
    let added : c.extend_from_slice.new.self.items ≡ c.clear.new.self.items ++ bytes = rw c.unwrap.ensures at c.extend_from_slice.ensures.items in
    record {
      passed = (
        waited,
        c.in_ok-put_all.ensures.written ∙ ap (with_bytes (g.S.Sink.written c.args.sink.now)) c.as_slice.ensures.value,
        ap (λ l. waited ++ l) (sym (added ∙ ap (λ l. l ++ bytes) c.clear.ensures.items)),
      );
      part = tt;
      faults = c.put_all.ensures.faults;
      well = λ alone. c.in_ok-put_all.ensures.well alone;
    }
