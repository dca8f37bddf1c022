-- At each turn, what the rest of the records makes of the buffer so far is what all of them make of the buffer at the start (`Putting`).
use Rattle.image_writer.specs.Remaining.{left}
use Rattle.image_writer.proofs.Rest.{Putting}
use Rattle.image_writer.proofs.put_all.Given as goal

abbrev pub invariant-loop-record : goal.invariant-loop-record
invariant-loop-record l = Putting l.initial.out (left l.fn.records) l.out l.end (left l.record-iterator)
