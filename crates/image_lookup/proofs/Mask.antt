-- The mask from the k-th place on: its bit is there if the place is not 0, then come the bits behind it, and behind the last none.
-- Assumes nothing.
use mathlib.Core.Path.{◌≡◌}
use mathlib.Core.List.{List}
use Prim.Native.Nat.{ℕ, ◌+◌, ◌*◌, ◌%◌, ◌^◌, ◌≤◌, ◌<◌}
use native.Mathlib.Nat.{two-pow-succ, zero-add}
use native.Mathlib.Numerals.{add-one}
use native.Mathlib.Omega.{arith}
use lib.Bits.{bit_or, or_shifted_r}
use lib.ListN.{length, get_or, drop, drop_of_length-le}
use lib.Pow.{pow_mono}
use lib.Seq.{drop-cons}
use borrow.Author.Tests.{eq-eqb, ne_eqb}
use Rattle.wire.specs.Pick.{pick}
use Rattle.image.specs.Index.{mask_from}

pub mask_unset : (p : List ℕ) (k : ℕ) → k < length p → get_or p k 0 ≡ 0
    → mask_from (2 ^ k) (drop k p) ≡ mask_from (2 ^ (k + 1)) (drop (k + 1) p)
unfolding mask_from pick
mask_unset p k h e = rw (add-one, two-pow-succ k, drop-cons p k 0 h, eq-eqb (get_or p k 0) 0 e, zero-add)

pub mask_set : (p : List ℕ) (k : ℕ) → k < length p → (get_or p k 0 ≡ 0 → ⊥)
    → mask_from (2 ^ k) (drop k p) ≡ 2 ^ k + mask_from (2 ^ (k + 1)) (drop (k + 1) p)
unfolding mask_from pick
mask_set p k h e = rw (add-one, two-pow-succ k, drop-cons p k 0 h, ne_eqb (get_or p k 0) 0 e)

pub mask_end : (p : List ℕ) (k w : ℕ) → length p ≤ k → mask_from w (drop k p) ≡ 0
unfolding mask_from
mask_end p k w h = rw (drop_of_length-le p h)

-- a bit above those of a mask is added to it
pub bit_set : (m k : ℕ) → m < 2 ^ k → k < 8 → bit_or m (1 * 2 ^ k % 256) ≡ m + 2 ^ k
bit_set m k h b =
    let w : 2 ^ k ≤ 128 = pow_mono {i = k} {j = 7} (omega arith) in
    let e : 1 * 2 ^ k % 256 ≡ 1 * 2 ^ k = omega arith in
    rw (e, or_shifted_r 1 k m h) (omega arith)

pub bit-next : (k : ℕ) → 2 ^ (k + 1) ≡ 2 ^ k + 2 ^ k
bit-next k = rw add-one (two-pow-succ k)

pub ruleset steps = (mask_unset, mask_set, mask_end, bit_set, bit-next)
