-- An answer in several writes, each where the last one ended. Assumes nothing.
use mathlib.Core.Path.{◌≡◌}
use mathlib.Core.List.{List, ◌++◌}
use Prim.Native.Nat.{ℕ, ◌+◌}
use native.Mathlib.Nat.{zero-add}
use lib.ListN.{length}
use lib.Seq.{length-take-le}
use Rattle.wire.specs.Bytes.{splice}
use Rattle.wire.proofs.Laws.{splice-append, splice-then}

-- a write where the first n bytes end
pub splice-on : (l xs ys : List ℕ) (n : ℕ) → length xs ≡ n → splice (splice l 0 xs) n ys ≡ splice l 0 (xs ++ ys)
splice-on l xs ys n e = rw zero-add at (splice-then l 0 xs ys n e)

-- a write where the last one ended
pub splice-from : (l xs ys : List ℕ) (i n : ℕ) → n ≡ i + length xs → splice (splice l i xs) n ys ≡ splice l i (xs ++ ys)
splice-from l xs ys i n e = rw e (splice-append l i xs ys)

pub ruleset runs = (splice-from, length-take-le)
