-- What is copied so far: the front of what fits, spliced in.
use Rattle.std.proofs.Common.{◌≡◌, take}
use Rattle.wire.specs.Bytes.{splice}
use Rattle.wire.proofs.copy_into.Given as goal

abbrev pub invariant-loop-i : goal.invariant-loop-i
invariant-loop-i l = l.dst ≡ splice l.fn.dst l.at (take l.i l.fitting)
