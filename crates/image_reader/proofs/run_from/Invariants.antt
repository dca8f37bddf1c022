-- Every turn adds one good measurement record to the run (`Turn`); the bytes left fall with each. Of what was seen before it the loop keeps
-- the digest size, the count and the last head.
use Rattle.std.proofs.Common.{◌+◌, ◌-◌, length}
use Rattle.image_reader.proofs.Runs.{Turn}
use Rattle.image_reader.proofs.run_from.Given as goal

abbrev pub invariant-loop-at : goal.invariant-loop-at
invariant-loop-at l =
    Turn l.s l.from l.size l.stride l.base (l.from + l.room) l.end l.initial.n l.initial.last l.at l.n l.last

abbrev pub decreases-loop-at : goal.decreases-loop-at
decreases-loop-at l = length l.s - l.at
