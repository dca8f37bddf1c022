-- The writer beside the reader: what is written is what the reader would accept, with the same number where it is refused; reading what was
-- written gives the contents back, and writing what was read gives the bytes back. All of it follows from one law, that the reader reads an
-- image of records by those records (`read_back_lem`), and from theorem *exactly*. Assumes nothing.
use mathlib.Core.Path.{◌≡◌, refl, sym, ap, ◌∙◌}
use mathlib.Core.Bool.{false}
use mathlib.Core.Logic.{◌↔◌}
use mathlib.Core.List.{List, ◌∷◌}
use Prim.Native.Nat.{ℕ, ◌≤◌}
use native.Mathlib.Omega.{arith}
use lib.ListN.{length}
use lib.Dec.{eqb}
use borrow.Author.Tests.{ltb-false, ne_eqb}
use Rattle.wire.specs.Bytes.{Bytes}
use Rattle.wire.specs.Pick.{pick}
use Rattle.wire.proofs.Picks.{picks, pick-map, not_first, not-second}
use Rattle.image.specs.Limits.{image_limit, image_version, wrong_version}
use Rattle.image.specs.Contents.{Contents, image_bytes, Valid}
use Rattle.image.specs.Reading.{Result, number, found, Frames, frames_of, read_all, reading}
use Rattle.image.proofs.Growth.{number-found, found-same, read-all}
use Rattle.image.proofs.Exactly.{image-read, read-image}
use Rattle.image_writer.specs.Writing.{Record, framed, joined, image_of, sized, writing, records_of}
use Rattle.image_writer.proofs.Records.{same_bytes, comes_apart, joined_same, contents_image}

-- what the reader's rules say of a first byte and records
abbrev judged : ℕ → List Record → Result Contents
judged first rs = pick (eqb first image_version) (read_all (framed rs)) (number wrong_version)

-- an image that is not too long is read by its records
read_back_lem : (first : ℕ) (rs : List Record) → length (image_of first rs) ≤ image_limit → judged first rs ≡ reading (image_of first rs)
unfolding reading
read_back_lem first rs h =
    let b = image_of first rs in
    let t : eqb (length b) 0 ≡ false = ne_eqb (length b) 0 (λ z. omega arith) in
    let e : framed rs ≡ frames_of (length b) (joined rs) = comes_apart (length b) rs (omega arith) (omega arith) in
    let f : judged first rs ≡ pick (eqb first image_version) (read_all (frames_of (length b) (joined rs))) (number wrong_version)
    = ap (λ (q : Frames). pick (eqb first image_version) (read_all q) (number wrong_version)) e in
    f ∙ search picks depth 8

-- the reader's answer, with the image in place of its contents
abbrev pub with_image : List ℕ → Result Contents → Result (List ℕ)
with_image b (number k) = number k
with_image b (found c) = found b

fits : (r : Result Contents) (b : List ℕ) → length b ≤ image_limit → sized r b ≡ with_image b r
unfolding sized
fits (number k) b h = refl
fits (found c) b h = sym (search picks depth 4)

-- The writer answers as the reader does of its result, where that is not too long: the same number, or the image.
pub as_read : (first : ℕ) (rs : List Record) → length (image_of first rs) ≤ image_limit → writing first rs ≡ with_image (image_of first rs) (reading (image_of first rs))
unfolding writing
as_read first rs h =
    let b = image_of first rs in
    sym (pick-map (with_image b) _ _ _ _ _ (λ t. sym (fits (read_all (framed rs)) b h)) (λ t. refl)) ∙ ap (with_image b) (read_back_lem first rs h)

-- what is written, or read, is not too long
sized-found : (r : Result Contents) (b d : List ℕ) → sized r b ≡ found d → (length b ≤ image_limit) × (b ≡ d)
unfolding sized
sized-found (number k) b d e = absurd (number-found _ _ e)
sized-found (found c) b d e = let a = not_first _ _ _ _ e (number-found _ _) in (ltb-false _ _ a.0, found-same _ _ a.1)

pub written_short : (first : ℕ) (rs : List Record) (b : List ℕ) → writing first rs ≡ found b → (length (image_of first rs) ≤ image_limit) × (image_of first rs ≡ b)
unfolding writing
written_short first rs b e = sized-found _ _ _ (not-second _ _ _ _ e (number-found _ _)).1

read_short : (b : List ℕ) (c : Contents) → reading b ≡ found c → length b ≤ image_limit
unfolding reading
read_short b c e = ltb-false _ _ (not_first _ _ _ _ (not_first _ _ _ _ e (number-found _ _)).1 (number-found _ _)).0

image-found : (b d : List ℕ) (r : Result Contents) → with_image b r ≡ found d → (c : Contents) × (r ≡ found c)
image-found b d (number k) e = absurd (number-found _ _ e)
image-found b d (found c) e = (c, refl)

-- The writer writes exactly where the reader would accept its result.
pub writes_exactly : (first : ℕ) (rs : List Record) (b : List ℕ) → (writing first rs ≡ found b) ↔ ((b ≡ image_of first rs) × ((c : Contents) × (reading b ≡ found c)))
writes_exactly first rs b = (
  λ e.
      let s = written_short first rs b e in
      let r = image-found _ _ _ (sym (as_read first rs s.0) ∙ e) in
      (sym s.1, (r.0, ap reading (sym s.1) ∙ r.1)),
  λ p.
      let r = ap reading (sym p.0) ∙ p.1.1 in
      as_read first rs (read_short _ _ r) ∙ ap (with_image (image_of first rs)) r ∙ ap found (sym p.0),
)

-- Where it refuses, its number is the one that the reader gives of the result; only "too long" comes last here and first there.
pub same_number : (first : ℕ) (rs : List Record) (k : ℕ) → length (image_of first rs) ≤ image_limit → (writing first rs ≡ number k) ↔ (reading (image_of first rs) ≡ number k)
same_number first rs k h =
    let e = as_read first rs h in
    (λ w. refused _ _ _ (sym e ∙ w), λ r. e ∙ ap (with_image (image_of first rs)) r)
  where
    refused : (b : List ℕ) (r : Result Contents) (k : ℕ) → with_image b r ≡ number k → r ≡ number k
    refused b (number j) k e = cc
    refused b (found c) k e = absurd (number-found _ _ (sym e))

-- The bytes of valid contents are what is written of their records.
pub contents_written : (c : Contents) → Valid c → writing image_version (records_of c) ≡ found (image_bytes c)
contents_written c v =
    let r = read-image c v in
    (writes_exactly image_version (records_of c) (image_bytes c)).1 (sym (contents_image c), (c, r))

-- Writing what was read returns the bytes.
pub read_written : (b : List ℕ) (c : Contents) → Bytes b → reading b ≡ found c → writing image_version (records_of c) ≡ found b
read_written b c y e = let p = image-read b c y e in contents_written c p.1 ∙ ap found (sym p.0)

-- Reading what was written returns the contents, and they are those of the records.
pub written_read : (first : ℕ) (rs : List Record) (b : List ℕ) → writing first rs ≡ found b → (c : Contents) × ((reading b ≡ found c) × (records_of c ≡ rs))
written_read first rs b e =
    let s = written_short first rs b e in
    let w = ((writes_exactly first rs b).0 e).1 in
    let c = w.0 in
    let j : judged first rs ≡ found c = read_back_lem first rs s.0 ∙ ap reading s.1 ∙ w.1 in
    let r : read_all (framed rs) ≡ found c = (not-second _ _ _ _ j (number-found _ _)).1 in
    let i : image_of image_version (records_of c) ≡ image_of image_version rs = contents_image c ∙ (read-all (framed rs) c r).bytes ∙ ap (λ (l : List ℕ). image_version ∷ l) (same_bytes rs) in
    let t : joined (records_of c) ≡ joined rs = cc in
    (c, (w.1, joined_same (records_of c) rs t (omega arith)))
