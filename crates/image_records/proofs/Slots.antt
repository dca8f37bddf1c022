-- How the test of a slot comes out, of the first chain and of a later one. Assumes nothing.
use mathlib.Core.Path.{◌≡◌}
use mathlib.Core.Bool.{true, false}
use Prim.Native.Nat.{ℕ, ◌≤◌, ◌<◌}
use borrow.Author.Tests.{le-ltb, lt-ltb, le-leb, lt-leb, eq-eqb, ne_eqb}
use Rattle.wire.specs.Pick.{pick}
use Rattle.image.specs.Reading.{slot_wrong}

module _ (chains last slot : ℕ) where
  pub first_wrong : chains ≡ 0 → 0 < slot → slot_wrong chains last slot ≡ true
  unfolding slot_wrong pick
  first_wrong z h = rw (eq-eqb chains 0 z) (lt-ltb 0 slot h)

  pub first_fine : chains ≡ 0 → slot ≤ 0 → slot_wrong chains last slot ≡ false
  unfolding slot_wrong pick
  first_fine z h = rw (eq-eqb chains 0 z) (le-ltb 0 slot h)

  pub later_wrong : (chains ≡ 0 → ⊥) → slot ≤ last → slot_wrong chains last slot ≡ true
  unfolding slot_wrong pick
  later_wrong n h = rw (ne_eqb chains 0 n) (le-leb slot last h)

  pub later-fine : (chains ≡ 0 → ⊥) → last < slot → slot_wrong chains last slot ≡ false
  unfolding slot_wrong pick
  later-fine n h = rw (ne_eqb chains 0 n) (lt-leb slot last h)
