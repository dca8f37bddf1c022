-- What `Reached` says at a turn, with what was read there, gives it at the next: past a good record, and past a run behind it. Assumes nothing.
use Rattle.image_reader.proofs.Turns.{reached-refused, reached-end, reached-next, reached-run, good-measuring}
use Rattle.image_reader.proofs.walk.Goals as goal

pub loop-found-preserved-then-frame-eq-MEASUREMENT_KIND : goal.loop-found-preserved-then-frame-eq-MEASUREMENT_KIND
loop-found-preserved-then-frame-eq-MEASUREMENT_KIND c =
    let n = reached-next c.loop-found.invariant c.in-Some.is c.in-Ok.ensures in
    let m = good-measuring _ _ _ c.in-Some.is c.in-Ok.ensures c.if-frame-eq-MEASUREMENT_KIND.true in
    rw (c.place_chain.ensures, c.first_after-first.ensures) (reached-run n m.1 c.run_from.ensures)

pub loop-found-preserved : goal.loop-found-preserved
loop-found-preserved c =
    rw (c.place_chain.ensures, c.first_after-first.ensures) (reached-next c.loop-found.invariant c.in-Some.is c.in-Ok.ensures)

pub returns-in_default-found : goal.returns-in_default-found
returns-in_default-found c = reached-end c.loop-found.invariant c.in_default-found.is c.in-Ok.ensures

pub returns-in_default : goal.returns-in_default
returns-in_default c = reached-refused c.loop-found.invariant _ (rw c.unwrap_err.ensures at c.read_record-read.ensures)
