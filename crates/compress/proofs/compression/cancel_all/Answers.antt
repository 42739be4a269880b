use Rattle.std.proofs.Common.{◌-◌, ◌*◌, length, replicate, subst, arith}
use Rattle.compress.specs.declared.mark.Mark.TheVariants.{New}
use Rattle.compress.specs.Progress.{IsWrittenAt}
use Rattle.compress.proofs.Making.{compressed_more}
use Rattle.compress.proofs.compression.cancel_all.Goals as goal

pub loop-class-preserved : goal.loop-class-preserved
loop-class-preserved c =
    let net = c.args.net.now in
    let done = c.in_ok-cancel_cycles.ensures in
    let w = c.cancel_cycles.new.walk in
    let place = (c.loop-class.class - 1) * length net.banks in
    let written = subst
    (λ H. IsWrittenAt place H c.loop-class.ranks c.write_at.new.ranks) c.as_slice.ensures.value
    (subst (λ n. IsWrittenAt ((c.loop-class.class - 1) * n) c.as_slice.result.now
    c.loop-class.ranks c.write_at.new.ranks) c.banks-banks.ensures.banks c.write_at.ensures) in
    record {
      made = compressed_more net c.loop-class.class c.loop-class.claims
          c.cancel_cycles.new.claims c.loop-class.ranks c.write_at.new.ranks w.ranks.items
          (replicate (length net.banks) New) w.marks.items c.requires.network (omega arith)
          c.loop-class.invariant.made done.kept done.done done.all done.sizes.ranks written;
      sizes = done.sizes;
      empty = done.empty;
    }
