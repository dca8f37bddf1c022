-- The first turn is before the loop, and each round of it adds one good record: what the tests say is what `turn_next` asks. Assumes nothing.
use Rattle.std.proofs.Common.{refl, arith}
use Rattle.image_reader.proofs.Runs.{turn_first, turn_next}
use Rattle.image_reader.proofs.run_from.Goals as goal

pub loop-at-init : goal.loop-at-init
loop-at-init c =
    turn_first _ _ _ _ _ _ _ _ _ (omega arith) (omega arith) (omega arith) _ c.from-2.ensures refl (omega arith) (omega arith) (omega arith) (omega arith) (omega arith)

pub loop-at-preserved : goal.loop-at-preserved
loop-at-preserved c =
    turn_next c.loop-at.invariant (omega arith) _ c.head_at-head.ensures (omega arith) (omega arith) (omega arith)
