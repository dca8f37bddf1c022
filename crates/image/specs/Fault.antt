-- The numbers of the code's faults, and an answer of the code as the definitions have it.
use Rattle.std.specs.Prelude.{ℕ, Ok, Err, Result as Answer}
use Rattle.image.specs.Limits.{wrong_size, wrong_version, broken_record, wrong_kind, too_many, wrong_length, wrong_field, wrong_own_length}
use Rattle.image.specs.Reading.{Result, number, found}
use Rattle.image.specs.declared.Fault.{Fault}
use Rattle.image.specs.declared.Fault.TheVariants as fault

-- the number that the host sees
abbrev pub number_of : Fault → ℕ
number_of fault.WrongSize = wrong_size
number_of fault.WrongVersion = wrong_version
number_of fault.BrokenRecord = broken_record
number_of fault.WrongKind = wrong_kind
number_of fault.TooMany = too_many
number_of fault.WrongLength = wrong_length
number_of fault.WrongField = wrong_field
number_of fault.WrongOwnLength = wrong_own_length

-- what was found, or the number of the fault
abbrev pub told : {A : Type 0} → Answer A Fault → Result A
told (Ok x) = found x
told (Err e) = number (number_of e)

-- the number of a test's fault, 0 where it finds none
abbrev pub fault_told : {A : Type 0} → Answer A Fault → ℕ
fault_told (Ok x) = 0
fault_told (Err e) = number_of e
