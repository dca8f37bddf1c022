-- The first record: by the frame behind the version byte the image reads as a refusal, or as its identity with the records that follow it.
-- Assumes nothing.
use mathlib.Core.Path.{◌≡◌, refl, sym, ap, ◌∙◌}
use mathlib.Core.List.{List}
use mathlib.Core.Bool.{false}
use lib.ListN.{length, get_or}
use Rattle.std.specs.Prelude.{Option, Some, None}
use Prim.Native.Nat.{ℕ, ◌+◌, ◌-◌, ◌≤◌, ◌<◌}
use native.Mathlib.Omega.{arith}
use borrow.Author.Tests.{eqb-true, ne_eqb}
use lib.Dec.{eqb}
use Rattle.wire.proofs.Laws.{part_length}
use Rattle.wire.proofs.Picks.{picks, pick-map}
use Rattle.image.specs.Index.{answer_of}
use Rattle.image.specs.Limits.{head_length, identity_end, image_limit, image_version}
use Rattle.image.specs.Contents.{Contents, identity_body}
use Rattle.image.specs.Reading.{Result, number, found, unless, identity_in, identity_fault, identified, read_on, read_all, reading}
use Rattle.image.proofs.Growth.{identity-body}
use Rattle.image_records.proofs.Good.{identity-length}
use Rattle.image_reader.specs.Steps.{frames_at, frame_at, body_in, first_read}
use Rattle.image_reader.specs.declared.Frame.{Frame}
use Rattle.image_reader.proofs.Frames.{Whole, Says, within, frames_read, frames_whole}

-- an identity record without a fault ends where the records behind it start
identity-ends : (b : List ℕ) (f : Frame) → Whole b 1 f → identity_fault (body_in b f) ≡ 0 → f.end ≡ identity_end
identity-ends b f w z =
    let s : f.start ≡ 1 + head_length = w.start in
    let o = w.ordered in
    let l = part_length b f.start (f.end - f.start) (omega (arith, w)) in
    omega (arith, identity-length (body_in b f) z)

said_first : (b : List ℕ) (g : Result (Option Frame)) → Says b 1 g → first_read b g ≡ read_all (frames_at b 1)
unfolding read_all unless
said_first b (number k) p = rw (p.fault, p.read)
said_first b (found None) p = rw p
said_first b (found (Some f)) p =
    rw p.read (pick-map (λ (r : Result Contents). r) _ _ _ _ _
    (λ t. pick-map (λ (r : Result Contents). r) _ _ _ _ _
    (λ u. ap (λ (n : ℕ). read_on (identified (identity_in (body_in b f))) (frames_at b n)) (sym (identity-ends b f p (eqb-true _ 0 u))))
    (λ u. refl))
    (λ t. refl))

-- the identity in a good body has none of its faults
pub identity-good : (body : List ℕ) → identity_fault body ≡ 0 → identity_fault (identity_body (identity_in body)) ≡ 0
identity-good body f = ap identity_fault (identity-body body (identity-length body f)) ∙ f

-- behind a good version byte the records decide
pub reading_on : (b : List ℕ) → 0 < length b → length b ≤ image_limit → get_or b 0 0 ≡ image_version
    → answer_of (first_read b (frame_at b 1)) ≡ answer_of (reading b)
unfolding reading
reading_on b p q v =
    let g = ap read_all (frames_whole b) in
    let t : eqb (length b) 0 ≡ false = ne_eqb (length b) 0 (λ z. omega arith) in
    let w : read_all (frames_at b 1) ≡ reading b = search picks depth 10 in
    ap answer_of (said_first b (frame_at b 1) (frames_read b 1) ∙ w)

-- what the tests of `read_image` leave
pub ruleset readings = (picks, reading_on)

-- and those of `read_records`
pub ruleset firsts = (picks, within, identity-good)
