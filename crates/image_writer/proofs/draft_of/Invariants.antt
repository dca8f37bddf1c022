-- At each turn, what the rest of the records makes of the draft so far is what all of them make of the first byte's.
use Rattle.std.proofs.Common.{◌≡◌}
use Rattle.image.specs.Reading.{found}
use Rattle.image_writer.specs.Draft.{opened_by, added_all}
use Rattle.image_writer.specs.Remaining.{left}
use Rattle.image_writer.proofs.draft_of.Given as goal

abbrev pub invariant-loop-record : goal.invariant-loop-record
invariant-loop-record l = added_all (found l.draft) (left l.record-iterator) ≡ added_all (opened_by l.fn.first) (left l.fn.records)
