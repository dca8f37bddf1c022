-- Words that are put at the start of a buffer, one by one; as many as it has are all that it then holds. Assumes nothing.
use mathlib.Core.Path.{◌≡◌, ap, ◌∙◌}
use mathlib.Core.List.{List, append-nil}
use Prim.Native.Nat.{ℕ, ◌+◌, ◌≤◌, ◌<◌}
use native.Mathlib.Omega.{arith}
use lib.ListN.{length, get_or, take, set, drop_of_length-le}
use lib.Seq.{take_all}
use Rattle.wire.specs.Bytes.{splice}
use Rattle.wire.proofs.Laws.{splice-parts, copied-none, copied-next, copied-length}

pub put-next : (d s : List ℕ) (i : ℕ) (e : List ℕ) → e ≡ splice d 0 (take i s) → i < length s → set e i (get_or s i 0) ≡ splice d 0 (take (i + 1) s)
put-next d s i e p h =
    let next = copied-next d 0 s i e p h in
    let place : 0 + i ≡ i = omega arith in
    rw place at next

pub put-done : (d s : List ℕ) (i : ℕ) (e : List ℕ) → e ≡ splice d 0 (take i s) → length s ≤ i → e ≡ splice d 0 s
put-done d s i e p h = p ∙ ap (λ (v : List ℕ). splice d 0 v) (take_all i s h)

pub ruleset puts = (copied-none, put-next, copied-length, put-done)

pub put_all : (l xs : List ℕ) → length l ≡ length xs → splice l 0 xs ≡ xs
put_all l xs e =
    let parts = splice-parts l 0 xs (omega arith) in
    let all : 0 + length xs ≡ length xs = omega arith in
    let none : length l ≤ length xs = omega arith in
    rw (rw all at parts, drop_of_length-le l none) (append-nil xs)
