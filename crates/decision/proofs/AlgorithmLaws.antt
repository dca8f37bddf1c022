-- NEGOTIATE_ALGORITHMS: a field has no bit above its last, and the walk over the structures, turn by turn. Assumes nothing.
use mathlib.Core.Path.{◌≡◌}
use mathlib.Core.Bool.{false}
use mathlib.Core.List.{List}
use Prim.Native.Nat.{ℕ, suc, ◌+◌, ◌*◌, ◌/◌, ◌%◌, ◌^◌, ◌-◌, ◌<◌, ◌≤◌}
use native.Mathlib.Omega.{arith}
use native.Mathlib.Nat.{pow-le-pow_right, div-eq_of_lt}
use lib.Dec.{eqb}
use lib.ListN.{get_or}
use borrow.Author.Tests.{eq-eqb, ne_eqb, le-ltb, lt-ltb, le-leb, lt-leb}
use Rattle.wire.specs.Pick.{pick}
use Rattle.rules.specs.Limits.{type_most}
use Rattle.rules.specs.Algorithms.{bit_set, length_field, structures_fit}

-- a number of 32 bits has no bit above the last
pub no_bit : (v n : ℕ) → v < 2 ^ 32 → 32 ≤ n → bit_set v n ≡ false
no_bit v n h k =
    let p : 2 ^ 32 ≤ 2 ^ n = pow-le-pow_right (omega arith) k in
    let e : v / 2 ^ n ≡ 0 = div-eq_of_lt (omega arith) in
    rw e

-- n structures, k of them behind: what is left fits, or not, by the next one, which stands at a place
module _ (r : List ℕ) (n k last at : ℕ) where
  turn : k < n → n - k ≡ suc (n - (k + 1))
  turn h = omega arith

  -- it is cut off by the end
  pub cut : k < n → length_field r < at + 4 → structures_fit r (n - k) last at ≡ false
  unfolding structures_fit pick
  cut h a = rw (turn h, lt-ltb (length_field r) (at + 4) a)

  -- its type does not rise, is above the last known, or its size has another form
  pub not_rising : k < n → at + 4 ≤ length_field r → get_or r at 0 ≤ last → structures_fit r (n - k) last at ≡ false
  unfolding structures_fit pick
  not_rising h a t = rw (turn h, le-ltb (length_field r) (at + 4) a, le-leb (get_or r at 0) last t)

  pub unknown : k < n → at + 4 ≤ length_field r → last < get_or r at 0 → type_most < get_or r at 0 → structures_fit r (n - k) last at ≡ false
  unfolding structures_fit pick
  unknown h a t u = rw (turn h, le-ltb (length_field r) (at + 4) a, lt-leb (get_or r at 0) last t, lt-ltb type_most (get_or r at 0) u)

  pub misshapen : k < n → at + 4 ≤ length_field r → last < get_or r at 0 → get_or r at 0 ≤ type_most
      → (get_or r (at + 1) 0 / 16 ≡ 2 → ⊥) → structures_fit r (n - k) last at ≡ false
  unfolding structures_fit pick
  misshapen h a t u v =
      rw (turn h, le-ltb (length_field r) (at + 4) a, lt-leb (get_or r at 0) last t, le-ltb type_most (get_or r at 0) u, ne_eqb (get_or r (at + 1) 0 / 16) 2 v)

  -- it passes, and the next stands behind it
  pub passed : (next : ℕ) → next ≡ at + 4 + 4 * (get_or r (at + 1) 0 % 16)
      → k < n → at + 4 ≤ length_field r → last < get_or r at 0 → get_or r at 0 ≤ type_most → get_or r (at + 1) 0 / 16 ≡ 2
      → structures_fit r (n - k) last at ≡ structures_fit r (n - (k + 1)) (get_or r at 0) next
  unfolding structures_fit pick
  passed next e h a t u v =
      rw (turn h, le-ltb (length_field r) (at + 4) a, lt-leb (get_or r at 0) last t, le-ltb type_most (get_or r at 0) u, eq-eqb (get_or r (at + 1) 0 / 16) 2 v, e)

  -- none is left: they end at the length told
  pub ended : n ≤ k → structures_fit r (n - k) last at ≡ eqb at (length_field r)
  unfolding structures_fit
  ended h = let e : n - k ≡ 0 = omega arith in rw e

pub ruleset walk = (cut, not_rising, unknown, misshapen, passed, ended)
