-- A turn of the writing puts the first of the records that are left; what is left to put is the rest behind it. Assumes nothing.
use mathlib.Core.Path.{◌≡◌, ap, ◌∙◌}
use mathlib.Core.List.{List, [], ◌∷◌}
use Prim.Native.Nat.{ℕ, ◌+◌}
use native.Mathlib.Omega.{arith}
use lib.ListN.{length, length-append}
use Rattle.wire.specs.Bytes.{splice}
use Rattle.wire.proofs.Laws.{splice-length, splice-then}
use Rattle.image.specs.Limits.{head_length}
use Rattle.image.specs.Contents.{record_bytes}
use Rattle.image.proofs.Framed.{record_length}
use Rattle.image_writer.specs.Writing.{Record, joined}

-- what the rest of the records makes of the buffer is what all of them make of it as it was, and the place is known
pub record Putting (out₀ : List ℕ) (rs : List Record) (out : List ℕ) (end : ℕ) (rest : List Record) : Type 0 where
  pub put : splice out end (joined rest) ≡ splice out₀ 1 (joined rs)
  pub ends : end + length (joined rest) ≡ 1 + length (joined rs)
  pub same : length out ≡ length out₀

pub putting_next : (out₀ : List ℕ) (rs : List Record) (out : List ℕ) (end : ℕ) (r : Record) (rest : List Record) (out' : List ℕ)
    → Putting out₀ rs out end (r ∷ rest) → out' ≡ splice out end (record_bytes r.kind r.body)
    → Putting out₀ rs out' (end + (head_length + length r.body)) rest
unfolding joined
putting_next out₀ rs out end r rest out' q p =
    let x = record_bytes r.kind r.body in
    let n = record_length r.kind r.body in
    record {
      put = ap (λ (o : List ℕ). splice o (end + (head_length + length r.body)) (joined rest)) p
          ∙ splice-then out end x (joined rest) (head_length + length r.body) n
          ∙ q.put;
      ends = omega (arith, q.ends, length-append x (joined rest));
      same = ap length p ∙ splice-length out end x ∙ q.same;
    }

-- past the last record nothing is left
pub putting_done : (out₀ : List ℕ) (rs : List Record) (out : List ℕ) (end : ℕ) (rest : List Record)
    → Putting out₀ rs out end rest → rest ≡ [] → out ≡ splice out₀ 1 (joined rs)
unfolding joined splice
putting_done out₀ rs out end rest q h = rw h at q.put
