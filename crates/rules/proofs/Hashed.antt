-- The two parts that are shown to the host, one behind the other, are the bytes to hash: both go by what is awaited and by the edition.
-- Assumes nothing.
use mathlib.Core.Path.{◌≡◌, refl}
use mathlib.Core.Bool.{Bool, true, false}
use mathlib.Core.List.{List, [], ◌++◌}
use Prim.Native.Nat.{ℕ}
use lib.Dec.{eqb}
use Rattle.wire.specs.Pick.{pick}
use Rattle.rules.specs.Limits.{awaits_challenge, awaits_measurements}
use Rattle.rules.specs.Signing.{to_hash}
use Rattle.rules.specs.Box.{parts_in, signed_first, signed_second}
use Rattle.rules.specs.declared.State.{State}

by-awaited : (x y : Bool) (a k b m : List ℕ) → pick x a (pick y k []) ++ pick x b (pick y m []) ≡ pick x (a ++ b) (pick y (k ++ m) [])
unfolding pick
by-awaited true y a k b m = refl
by-awaited false true a k b m = refl
by-awaited false false a k b m = refl

pub hashed : (s : State) (t : List ℕ) → signed_first s t ++ signed_second s t ≡ to_hash s.negotiated s.awaited.whose (parts_in s.used t)
unfolding signed_first signed_second to_hash
hashed s t = by-awaited (eqb s.awaited.whose awaits_challenge) (eqb s.awaited.whose awaits_measurements) _ _ _ _
