-- The search among the measurements from the k-th on, of n that there are: it ends at the k-th, goes on behind it, or finds no more.
-- Assumes nothing.
use mathlib.Core.Path.{◌≡◌}
use mathlib.Core.List.{List, []}
use Prim.Native.Nat.{ℕ, suc, ◌+◌, ◌-◌, ◌≤◌, ◌<◌}
use native.Mathlib.Omega.{arith}
use lib.ListN.{get_or}
use borrow.Author.Tests.{eq-eqb, ne_eqb}
use Rattle.wire.specs.Pick.{pick}
use Rattle.image.specs.declared.Index.{Index}
use Rattle.image.specs.Index.{nth_at, search_from}

module _ (b : List ℕ) (ix : Index) (i k n : ℕ) where
  turn : k < n → n - k ≡ suc (n - (k + 1))
  turn h = omega arith

  pub search_here : k < n → get_or (nth_at b ix k) 0 0 ≡ i → search_from b ix i k (n - k) ≡ nth_at b ix k
  unfolding search_from pick
  search_here h e = rw (turn h, eq-eqb (get_or (nth_at b ix k) 0 0) i e)

  pub search_behind : k < n → (get_or (nth_at b ix k) 0 0 ≡ i → ⊥)
      → search_from b ix i k (n - k) ≡ search_from b ix i (k + 1) (n - (k + 1))
  unfolding search_from pick
  search_behind h e = rw (turn h, ne_eqb (get_or (nth_at b ix k) 0 0) i e)

  pub search_none : n ≤ k → search_from b ix i k (n - k) ≡ []
  unfolding search_from
  search_none h = let e : n - k ≡ 0 = omega arith in rw e

pub ruleset steps = (search_here, search_behind, search_none)
