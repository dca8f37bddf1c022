-- A turn puts the first of the records that are left, and the end of the image bounds each place. Assumes nothing.
use Rattle.std.proofs.Common.{arith}
use Rattle.image_writer.proofs.Rest.{putting_next}
use Rattle.image_writer.proofs.put_all.Goals as goal

pub overflow_add-end-in-loop-record : goal.overflow_add-end-in-loop-record
overflow_add-end-in-loop-record c =
    let next = putting_next _ _ _ _ _ _ _ (rw c.in-Some.ensures.steps at c.loop-record.invariant) c.put.ensures in
    omega (arith, next.ends, c.requires)

pub loop-record-preserved : goal.loop-record-preserved
loop-record-preserved c = putting_next _ _ _ _ _ _ _ (rw c.in-Some.ensures.steps at c.loop-record.invariant) c.put.ensures
