-- The numbers of the writer's refusals, and an answer of the code as the definitions have it.
use Rattle.std.specs.Prelude.{ℕ, Ok, Err, Result as Answer}
use Rattle.image.specs.Reading.{Result, number, found}
use Rattle.image.specs.Fault.{number_of as fault_number}
use Rattle.image_writer.specs.Writing.{short_output}
use Rattle.image_writer.specs.declared.WriteError.{WriteError}
use Rattle.image_writer.specs.declared.WriteError.TheVariants as error

-- the number that the host sees: a fault of the image has the reader's own
abbrev pub number_of : WriteError → ℕ
number_of (error.Image fault) = fault_number fault
number_of error.ShortOutput = short_output

-- what was written, or the number of the refusal
abbrev pub write_told : {A : Type 0} → Answer A WriteError → Result A
write_told (Ok x) = found x
write_told (Err e) = number (number_of e)
