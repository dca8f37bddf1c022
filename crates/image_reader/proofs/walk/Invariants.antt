-- At each turn the image reads as what was read so far with the records from here on (`Reached`). A good record moves that on by one, and a run
-- of good measurements by as many as it has; the end and a refusal settle what the image reads as. The bytes left fall with each record.
use Rattle.std.proofs.Common.{◌-◌, length}
use Rattle.image.specs.Reading.{identified}
use Rattle.image_reader.proofs.Turns.{Reached}
use Rattle.image_reader.proofs.walk.Given as goal

abbrev pub invariant-loop-found : goal.invariant-loop-found
invariant-loop-found l = Reached l.s (identified l.identity) l.at l.w (record { bodies = l.bodies; first = l.first })

abbrev pub decreases-loop-found : goal.decreases-loop-found
decreases-loop-found l = length l.s - l.at
