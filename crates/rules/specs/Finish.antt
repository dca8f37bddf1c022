-- What a finishing comes to: a number for the host, the awaited answer with its signature, or an ERROR as the chip failed.
use Rattle.std.specs.Prelude.{ℕ}

pub data Finish : Type 0 where
  Number : ℕ → Finish
  Signed : Finish
  Failed : Finish
