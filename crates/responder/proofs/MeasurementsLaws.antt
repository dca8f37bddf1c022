-- MEASUREMENTS' blocks, each of 7 + H bytes, are written one behind the other. Assumes nothing.
use mathlib.Core.Path.{◌≡◌, refl, sym, ap, ◌∙◌}
use mathlib.Core.List.{List, [], ◌∷◌, ◌++◌, map, append_assoc, append-nil}
use mathlib.Core.Bool.{true}
use Prim.Native.Nat.{ℕ, zero, suc, ◌+◌, ◌*◌, ◌/◌, ◌%◌, ◌≤◌, ◌<◌}
use native.Mathlib.Omega.{arith}
use native.Mathlib.Nat.{zero-mul, suc-mul, mul-le-mul}
use native.Mathlib.Numerals.{add-one}
use lib.ListN.{length, get_or, take, drop, length-append, length-drop}
use lib.Seq.{take_all}
use borrow.Author.Tests.{ltb-true}
use Rattle.wire.specs.Bytes.{splice, part}
use Rattle.wire.proofs.Laws.{splice-then}
use Rattle.image.specs.Limits.{measurements_limit}
use Rattle.image.specs.Sizes.{digest_size, digest_most}
use Rattle.image.specs.Contents.{Contents, Valid, Measurement, ValidMeasurement, Each, measurement_body}
use Rattle.image.specs.Held.{measurement_of}
use Rattle.image.specs.declared.MeasurementIndex.{MeasurementIndex}
use Rattle.rules.specs.Facts.{facts_of}
use Rattle.rules.specs.Measurements.{operation_fits, block_bytes, blocks_of}
use Rattle.rules.specs.declared.Operation.TheVariants as operation
use Rattle.rules.proofs.AnswerLengths.{block-length, present-length}

-- so many blocks have at most 32 times 71 bytes
pub blocks_few : (n h : ℕ) → n ≤ measurements_limit → h ≤ digest_most → n * (7 + h) ≤ 2272
blocks_few n h p q = let e : 7 + h ≤ 71 = omega arith in mul-le-mul p e

-- a block in two writes; its two sizes are below 256
pub block_run : (l : List ℕ) (at h : ℕ) (body : List ℕ) → h ≤ digest_most → length body ≡ 2 + h
    → splice (splice l at (get_or body 0 0 ∷ 1 ∷ (3 + h) ∷ 0 ∷ get_or body 1 0 ∷ h ∷ 0 ∷ [])) (at + 7) (part body 2 h) ≡ splice l at (block_bytes h body)
unfolding block_bytes
block_run l at h body few e =
    let a : (3 + h) % 256 ≡ 3 + h = omega arith in
    let b : (3 + h) / 256 % 256 ≡ 0 = omega arith in
    let c : h % 256 ≡ h = omega arith in
    let d : h / 256 % 256 ≡ 0 = omega arith in
    rw (a, b, c, d, take_all h (drop 2 body) (simp length-drop (omega arith)))
    (splice-then l at (get_or body 0 0 ∷ 1 ∷ (3 + h) ∷ 0 ∷ get_or body 1 0 ∷ h ∷ 0 ∷ []) (drop 2 body) 7 refl)

-- no block
pub no_blocks : (l : List ℕ) (at h : ℕ) → splice l at (blocks_of h []) ≡ l
unfolding splice blocks_of
no_blocks l at h = refl

-- one block more
next : (h : ℕ) (ms : List Measurement) (k : ℕ) → k < length ms → blocks_of h (take (suc k) ms) ≡ blocks_of h (take k ms) ++ block_bytes h (get_or (map measurement_body ms) k [])
unfolding blocks_of
next h [] k p = absurd (omega arith)
next h (m ∷ ms) zero p = append-nil (block_bytes h (measurement_body m))
next h (m ∷ ms) (suc k) p =
    ap (λ (l : List ℕ). block_bytes h (measurement_body m) ++ l) (next h ms k (omega arith))
    ∙ sym (append_assoc (block_bytes h (measurement_body m)) (blocks_of h (take k ms)) (block_bytes h (get_or (map measurement_body ms) k [])))

-- the first k blocks have 7 + h bytes each
first-length : (h : ℕ) (ms : List Measurement) (k : ℕ) → Each (ValidMeasurement h) ms → k ≤ length ms → length (blocks_of h (take k ms)) ≡ k * (7 + h)
unfolding blocks_of
first-length h ms zero e p = sym (zero-mul (7 + h))
first-length h [] (suc k) e p = absurd (omega arith)
first-length h (m ∷ ms) (suc k) e p =
    rw (length-append, first-length h ms k e.1 (omega arith), block-length h (measurement_body m) (omega (arith, e.0.digest)), suc-mul k (7 + h)) (omega arith)

-- each measurement is index, type and a digest of h bytes
pub nth-length : (h : ℕ) (ms : List Measurement) (k : ℕ) → Each (ValidMeasurement h) ms → k < length ms → length (get_or (map measurement_body ms) k []) ≡ 2 + h
nth-length h [] k e p = absurd (omega arith)
nth-length h (m ∷ ms) zero e p = omega (arith, e.0.digest)
nth-length h (m ∷ ms) (suc k) e p = nth-length h ms k e.1 (omega arith)

-- a turn: the k-th block is written where the k before it end
pub block-after : (l : List ℕ) (at h : ℕ) (ms : List Measurement) (k : ℕ) → Each (ValidMeasurement h) ms → k < length ms
    → splice (splice l at (blocks_of h (take k ms))) (at + k * (7 + h)) (block_bytes h (get_or (map measurement_body ms) k [])) ≡ splice l at (blocks_of h (take (k + 1) ms))
block-after l at h ms k e p =
    splice-then l at (blocks_of h (take k ms)) (block_bytes h (get_or (map measurement_body ms) k [])) (k * (7 + h)) (first-length h ms k e (omega arith))
    ∙ rw (add-one, next h ms k p)

-- a measurement that was asked for and is there is index, type and a digest of H bytes
pub asked-length : (c : Contents) → Valid c → (i : MeasurementIndex) → operation_fits (facts_of c) (operation.One i) ≡ true → length (measurement_of c i.0) ≡ 2 + digest_size c.identity.hash
unfolding operation_fits
asked-length c v i p = present-length c v i.0 (ltb-true _ _ p)

pub ruleset blocks = (block_run)
