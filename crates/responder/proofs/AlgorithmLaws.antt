-- ALGORITHMS in two parts, what comes before our bits and those; and our bits in four writes. Assumes nothing.
use mathlib.Core.Path.{◌≡◌, refl, sym}
use mathlib.Core.List.{List, [], ◌∷◌, ◌++◌}
use Prim.Native.Nat.{ℕ, ◌+◌, ◌*◌, ◌^◌}
use lib.ListN.{replicate}
use Rattle.wire.specs.Bytes.{le_bytes, splice}
use Rattle.image.specs.Contents.{Contents}
use Rattle.image.specs.declared.Identity.{Identity}
use Rattle.rules.specs.Limits.{algorithms_code, algorithms_length}
use Rattle.rules.specs.Header.{header}
use Rattle.rules.specs.Algorithms.{algorithms_bytes}
use Rattle.rules.specs.declared.Negotiated.{Negotiated}
use Rattle.responder.specs.Bits.{bits_bytes}
use Rattle.responder.proofs.RunLaws.{splice-from}
use Rattle.responder.proofs.KnownLaws.{contents}

-- the answer up to our bits, and those
pub algorithms_are : (c : Contents) (n : Negotiated) → algorithms_bytes c n
    ≡ ((header n algorithms_code 0 0 ++ le_bytes 2 algorithms_length) ++ (n.selection ∷ 0 ∷ [])) ++ bits_bytes c.identity n.selection
unfolding algorithms_bytes bits_bytes
algorithms_are c n = refl

-- our bits in four writes, one behind the other
pub bits_are : (l : List ℕ) (i : Identity) (selection : ℕ) → splice l 8 (bits_bytes i selection)
    ≡ splice (splice (splice (splice l 8 (le_bytes 4 (selection * 2 ^ (i.hash + 1)))) 12 (le_bytes 4 (2 ^ i.signature))) 16 (le_bytes 4 (2 ^ i.hash))) 20 (replicate 16 0)
unfolding bits_bytes
bits_are l i selection =
    let x : List ℕ = le_bytes 4 (selection * 2 ^ (i.hash + 1)) in
    let y : List ℕ = le_bytes 4 (2 ^ i.signature) in
    let z : List ℕ = le_bytes 4 (2 ^ i.hash) in
    rw (splice-from l x y 8 12 refl, splice-from l (x ++ y) z 8 16 refl) (sym (splice-from l ((x ++ y) ++ z) (replicate 16 0) 8 20 refl))

pub ruleset bits = (bits_are)

pub ruleset algorithms = (contents, algorithms_are)
