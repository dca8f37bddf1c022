-- What is put, with what is left to put, comes to the whole.
use Rattle.std.proofs.Common.{◌-◌, ◌≡◌, ◌++◌, take}
use Rattle.wire.specs.Bytes.{le_bytes}
use Rattle.wire.proofs.fill_le.Given as goal

abbrev pub invariant-loop-b : goal.invariant-loop-b
invariant-loop-b l = take l.b-index l.b-items ++ le_bytes (l.b-index-end - l.b-index) l.rest ≡ le_bytes l.b-index-end l.n
