use Rattle.std.proofs.Common.{◌-◌, arith}
use Rattle.compress.proofs.Making.{left_le, compressed_all}
use Rattle.compress.proofs.compression.compress_by.Goals as goal

pub total-left-requires : goal.total-left-requires
total-left-requires c =
    omega (arith, left_le c.in_ok-cancel_all.ensures, c.requires.network.owed_in_limit)

pub overflow_sub-result : goal.overflow_sub-result
overflow_sub-result c =
    omega (arith, left_le c.in_ok-cancel_all.ensures, c.total-left.ensures, c.owed.ensures)

pub returns : goal.returns
returns c =
    compressed_all (c.owed.result - c.total-left.result) c.in_ok-cancel_all.ensures
    (omega (arith, c.total-left.ensures, c.owed.ensures))
