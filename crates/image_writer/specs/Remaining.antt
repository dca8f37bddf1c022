-- The records of a call that are left to take, however they are lent.
use Rattle.std.specs.Prelude.{List}
use Rattle.image_writer.specs.Writing.{Record, records_in, records_lent}
use Rattle.image_writer.specs.declared.Remaining.{Remaining}
use Rattle.image_writer.specs.declared.Remaining.TheVariants as remaining

abbrev pub left : Remaining → List Record
left (remaining.Apart kinds lengths bodies) = records_in kinds.now lengths.now bodies.now
left (remaining.Whole rs) = records_lent rs.now
