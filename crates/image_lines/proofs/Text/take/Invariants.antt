-- What is left to take from here gives what all of it gives from the start.
use Rattle.std.proofs.Common.{◌≡◌, drop}
use Rattle.image_lines.specs.Taking.{taking_of, taken_all}
use Rattle.image_lines.proofs.Text.take.Given as goal

abbrev pub invariant-loop-x : goal.invariant-loop-x
invariant-loop-x l =
    taken_all (taking_of l.next l.room l.image) (drop l.x-index l.part) ≡ taken_all (taking_of l.initial.next l.initial.room l.initial.image) l.part
