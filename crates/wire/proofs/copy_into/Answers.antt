-- At the end all of what fits is put, and the rest is lost. Assumes nothing.
use Rattle.wire.proofs.Laws.{copied_all}
use Rattle.wire.proofs.copy_into.Goals as goal

pub returns : goal.returns
returns c = copied_all _ _ _ c.loop-i.i _ c.args.src.now c.loop-i.invariant c.loop-i-test.false c.part_of-fitting.ensures
