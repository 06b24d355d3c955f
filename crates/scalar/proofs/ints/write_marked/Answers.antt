-- A store of the mark and the bytes behind it are one put.
use Rattle.std.proofs.Common.{◌∙◌, arith, length-set}
use Rattle.format.specs.Scalar.{be}
use Rattle.blocks.proofs.Put.{set_put_cons}
use Rattle.scalar.proofs.Widths.{length_be}
use Rattle.scalar.proofs.ints.write_marked.Goals as goal

pub write_low-requires : goal.write_low-requires
write_low-requires c = simp length-set (omega arith)

pub shape_of-buf : goal.shape_of-buf
shape_of-buf c = simp length-set at c.write_low.auto.buf

pub returns : goal.returns
returns c =
    let a = c.args in
    (omega arith, c.write_low.ensures ∙ set_put_cons a.buf.now a.at a.mark (be a.k a.n) (omega (arith, length_be a.k a.n)))
