-- The theorem: an image is read as its contents exactly if it is their bytes, and they are valid. What is read grows by each record's bytes
-- from the identity on (Growth), and what is valid is come to so, one record at a time (Onward). Assumes nothing.
use mathlib.Core.Path.{◌≡◌, refl, sym, ap, ◌∙◌, subst}
use mathlib.Core.List.{List, ◌++◌, append-nil}
use Prim.Native.Nat.{ℕ, ◌≤◌}
use native.Mathlib.Omega.{arith}
use lib.ListN.{length, get_or, drop}
use lib.Seq.{drop-cons}
use borrow.Author.Tests.{ltb-false, eqb-true, eqb-false}
use Rattle.wire.specs.Bytes.{Bytes}
use Rattle.wire.proofs.Picks.{not_first, not-second}
use Rattle.image.specs.Limits.{image_limit, image_version}
use Rattle.image.specs.Contents.{Contents, image_bytes, Valid}
use Rattle.image.specs.Reading.{found, ended, frames_of, read_on, reading}
use Rattle.image.proofs.Framed.{joined, together, bytes_drop}
use Rattle.image.proofs.Sound.{valid, sound}
use Rattle.image.proofs.Growth.{number-found, read-all}
use Rattle.image.proofs.Onward.{on, reached}

-- an image that was read is the bytes of what was read, and that is valid
pub image-read : (b : List ℕ) (c : Contents) → Bytes b → reading b ≡ found c → (b ≡ image_bytes c) × Valid c
unfolding reading
image-read b c y e =
    let a₁ = not_first _ _ _ _ e (number-found _ _) in
    let a₂ = not_first _ _ _ _ a₁.1 (number-found _ _) in
    let a₃ = not-second _ _ _ _ a₂.1 (number-found _ _) in
    let n : length b ≡ 0 → ⊥ = eqb-false _ _ a₁.0 in
    let v : get_or b 0 0 ≡ image_version = eqb-true _ _ a₃.0 in
    let r = read-all (frames_of (length b) (drop 1 b)) c a₃.1 in
    let t : drop 1 b ≡ joined (frames_of (length b) (drop 1 b)) = together (length b) (drop 1 b) _ (bytes_drop 1 b y) refl r.whole in
    let q : b ≡ image_bytes c = cc (drop-cons b 0 0 (omega arith), r.bytes) in
    (q, valid c r.sound r.complete (subst (λ (l : List ℕ). length l ≤ image_limit) q (ltb-false _ _ a₂.0)))

-- the bytes of valid contents are read as those contents
pub read-image : (c : Contents) → Valid c → reading (image_bytes c) ≡ found c
unfolding read_on joined
read-image c v =
    let s = sound c v in
    let e : image_bytes c ++ joined ended ≡ image_bytes c = append-nil (image_bytes c) in
    ap reading (sym e) ∙ reached c v.some_chain s.0 ended tt (subst (λ (l : List ℕ). length l ≤ image_limit) (sym e) v.size) ∙ on _ _ s.1

pub exactly : (b : List ℕ) (c : Contents) → Bytes b → (reading b ≡ found c → (b ≡ image_bytes c) × Valid c) × ((b ≡ image_bytes c) × Valid c → reading b ≡ found c)
exactly b c y = (image-read b c y, λ p. ap reading p.0 ∙ read-image c p.1)
