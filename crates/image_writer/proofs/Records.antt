-- The records that are handed in, and the records of contents, beside the reader's frames: joined, their bytes are the same, and frames that
-- stand for records stand for one list of them only. Assumes nothing.
use mathlib.Core.Path.{◌≡◌, refl, sym, ap, ◌∙◌}
use mathlib.Core.List.{List, [], ◌∷◌, ◌++◌, append_assoc, append-nil}
use Prim.Native.Nat.{ℕ, ◌+◌, ◌-◌, ◌/◌, ◌%◌, ◌≤◌, ◌<◌}
use native.Mathlib.Omega.{arith}
use lib.ListN.{length, length-append}
use Rattle.wire.specs.Bytes.{splice}
use Rattle.wire.proofs.Laws.{splice-length, splice-append, splice_past}
use Rattle.image.specs.Limits.{image_version, head_length, chain_kind, measurement_kind, summary_kind}
use Rattle.image.specs.Contents.{Contents, chain_body, measurement_body, summary_body, record_bytes, records_bytes, identity_bytes, image_bytes}
use Rattle.image.specs.Reading.{frames_of}
use Rattle.image.proofs.Framed.{joined as frames-joined, Whole, record_length, apart}
use Rattle.image_writer.specs.Writing.{Record, framed, joined, image_of, records_for, records_of}

-- the frames of records have the records' bytes
pub same_bytes : (rs : List Record) → frames-joined (framed rs) ≡ joined rs
unfolding frames-joined joined
same_bytes [] = refl
same_bytes (r ∷ rs) = ap (λ (l : List ℕ). record_bytes r.kind r.body ++ l) (same_bytes rs)

-- where the image is short, no body is longer than its length bytes can say
pub whole : (rs : List Record) → length (joined rs) < 65536 → Whole (framed rs)
unfolding joined
whole [] h = tt
whole (r ∷ rs) h =
    let l = length-append (record_bytes r.kind r.body) (joined rs) in
    let n = record_length r.kind r.body in
    (omega arith, whole rs (omega arith))

-- an image of records comes apart into them
pub comes_apart : (n : ℕ) (rs : List Record) → length (joined rs) < 65536 → length (joined rs) ≤ n → framed rs ≡ frames_of n (joined rs)
comes_apart n rs h k = rw same_bytes at (apart n (framed rs) (whole rs h) (omega (arith, ap length (same_bytes rs))))

-- records are told by their frames
pub framed-same : (rs qs : List Record) → framed rs ≡ framed qs → rs ≡ qs
framed-same [] [] e = refl
framed-same [] (q ∷ qs) e = let z : ◌≡◌ {A = ℕ} 0 1 = cc in absurd (omega arith)
framed-same (r ∷ rs) [] e = let z : ◌≡◌ {A = ℕ} 0 1 = cc in absurd (omega arith)
framed-same (r ∷ rs) (q ∷ qs) e =
    let k : r.kind ≡ q.kind = cc in
    let b : r.body ≡ q.body = cc in
    let t : framed rs ≡ framed qs = cc in
    let h : r ≡ q = same k b in
    let ih = framed-same rs qs t in
    cc
  where
    same : {k l : ℕ} {a b : List ℕ} → k ≡ l → a ≡ b → ◌≡◌ {A = Record} (record { kind = k; body = a }) (record { kind = l; body = b })
    same e f = rw (e, f)

-- and by their bytes, where these are few enough for each body's length to be said
pub joined_same : (rs qs : List Record) → joined rs ≡ joined qs → length (joined qs) < 65536 → rs ≡ qs
joined_same rs qs e h =
    let l = ap length e in
    framed-same rs qs (comes_apart (length (joined qs)) rs (omega arith) (omega arith) ∙ ap (frames_of (length (joined qs))) e ∙ sym (comes_apart (length (joined qs)) qs h (omega arith)))

-- joined, records of one kind before others
records-before : {A : Type 0} (kind : ℕ) (body : A → List ℕ) (xs : List A) (rs : List Record) → joined (records_for kind body xs ++ rs) ≡ records_bytes kind body xs ++ joined rs
unfolding joined records_bytes
records-before kind body [] rs = refl
records-before kind body (x ∷ xs) rs = rw (records-before kind body xs rs, append_assoc)

-- the image of the records of contents is the contents' image
pub contents_image : (c : Contents) → image_of image_version (records_of c) ≡ image_bytes c
unfolding records_of joined image_bytes identity_bytes
contents_image c =
    let summaries = records_for summary_kind summary_body c.summaries in
    let e₁ : joined summaries ≡ records_bytes summary_kind summary_body c.summaries
    = ap joined (sym (append-nil summaries)) ∙ records-before summary_kind summary_body c.summaries [] ∙ append-nil (records_bytes summary_kind summary_body c.summaries) in
    let e₂ = records-before measurement_kind measurement_body c.measurements summaries in
    let e₃ = records-before chain_kind chain_body c.chains (records_for measurement_kind measurement_body c.measurements ++ summaries) in
    rw (e₃, e₂, e₁)

-- a record is put as its head, then its body; where the buffer ends with the head, the body is lost
abbrev pub head_of : ℕ → List ℕ → List ℕ
head_of kind body = (length body / 256 % 256) ∷ (length body % 256) ∷ kind ∷ []

module _ (out : List ℕ) (at kind : ℕ) (body : List ℕ) where
  pub head_then_body : splice (splice out at (head_of kind body)) (at + head_length) body ≡ splice out at (record_bytes kind body)
  unfolding record_bytes
  head_then_body = splice-append out at (head_of kind body) body

  pub head_alone : length out - at ≤ head_length → splice out at (head_of kind body) ≡ splice out at (record_bytes kind body)
  head_alone h =
      sym (splice_past (splice out at (head_of kind body)) (at + head_length) body (omega (arith, splice-length out at (head_of kind body)))) ∙ head_then_body

-- nothing is put past the buffer's end; else the head, and the body where there is room for it
pub ruleset put_by_parts = (splice_past, head_then_body, head_alone)
