-- What a call returns: a number for the host, or the length of the answer in the lent buffer.
use Rattle.std.specs.Prelude.{ℕ, Ok, Err, Result}
use Rattle.rules.specs.HostError.{host_number}
use Rattle.rules.specs.declared.HostError.{HostError}

pub data Reply : Type 0 where
  Number : ℕ → Reply
  Answer : ℕ → Reply

-- the code's reply by these names: it only renames, and no two of the code's have the same
abbrev pub replied : Result ℕ HostError → Reply
replied (Ok n) = Answer n
replied (Err e) = Number (host_number e)
