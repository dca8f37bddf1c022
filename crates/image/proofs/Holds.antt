-- The lookups find in an image exactly what it holds: the index of contents says where in their bytes each thing stands. Assumes nothing.
use mathlib.Core.Path.{◌≡◌, refl}
use mathlib.Core.List.{List, ◌++◌}
use Prim.Native.Nat.{ℕ}
use native.Mathlib.Nat.{zero-add}
use lib.ListN.{length, length-append}
use Rattle.wire.specs.Bytes.{part}
use Rattle.image.specs.Limits.{chain_kind, measurement_kind, summary_kind}
use Rattle.image.specs.Sizes.{digest_size}
use Rattle.image.specs.Contents.{Contents, Valid, chain_body, measurement_body, summary_body, records_bytes, identity_bytes, image_bytes}
use Rattle.image.specs.Held.{chain_for, slot_digest, slot_chain, slot_mask, nth_measurement, measurement_of, tcb_summary, full_summary}
use Rattle.image.specs.Index.{chains_end, index_of, place_in, digest_at, chain_length_at, chain_part_at, mask_at, nth_at, measurement_at, summary_at}
use Rattle.image.specs.declared.Index.{Index}
use Rattle.image.proofs.Stands.{Stands, front, behind, at-end}
use Rattle.image.proofs.SlotPlaces.{Kept, place_kept, digest-read, length-read, part-read, mask-kept}
use Rattle.image.proofs.Measured.{search_finds, nth_read, summaries-read}

-- every lookup, on the index of contents and their image, gives what the contents hold
pub record Holds (b : List ℕ) (c : Contents) : Type 0 where
  pub digests : (k : ℕ) → digest_at b (index_of c) k ≡ slot_digest c k
  pub lengths : (k : ℕ) → chain_length_at b (index_of c) k ≡ length (slot_chain c k)
  pub portions : (k offset len : ℕ) → chain_part_at b (index_of c) k offset len ≡ part (slot_chain c k) offset len
  pub mask : mask_at (index_of c) ≡ slot_mask c
  pub nth : (k : ℕ) → nth_at b (index_of c) k ≡ nth_measurement c k
  pub by_index : (i : ℕ) → measurement_at b (index_of c) i ≡ measurement_of c i
  pub tcb : summary_at b (index_of c) 0 ≡ tcb_summary c
  pub all : summary_at b (index_of c) 1 ≡ full_summary c

-- whatever valid contents are, the lookups give them back from their image
pub holds : (c : Contents) → Valid c → Holds (image_bytes c) c
unfolding image_bytes
holds c v =
    let b : List ℕ = image_bytes c in
    let ix : Index = index_of c in
    let cs : List ℕ = records_bytes chain_kind chain_body c.chains in
    let ms : List ℕ = records_bytes measurement_kind measurement_body c.measurements in
    let ss : List ℕ = records_bytes summary_kind summary_body c.summaries in
    let s₁ : Stands b (length (identity_bytes c)) (cs ++ (ms ++ ss)) = at-end (identity_bytes c) (cs ++ (ms ++ ss)) in
    let s₂ : Stands b (chains_end c) (ms ++ ss) = rw length-append (behind cs (ms ++ ss) s₁) in
    let kept : (k : ℕ) → Kept (digest_size c.identity.hash) b k (place_in ix k) (chain_for k c.chains) =
    place_kept (digest_size c.identity.hash) b ix (length (identity_bytes c)) c.chains v.chains v.slots (front cs (ms ++ ss) s₁) refl in
    let read : (k : ℕ) → nth_at b ix k ≡ nth_measurement c k =
    nth_read b ix (chains_end c) c.measurements refl refl v.measurements (front ms ss s₂) in
    let sums = summaries-read b ix (chains_end c) c.measurements refl refl v.measurements c.summaries v.summaries v.summed s₂ in
    record {
      digests = λ k. digest-read b ix k (chain_for k c.chains) (kept k);
      lengths = λ k. length-read b ix k (chain_for k c.chains) (kept k);
      portions = λ k. part-read b ix k (chain_for k c.chains) (kept k);
      mask = mask-kept (digest_size c.identity.hash) (length (identity_bytes c)) c.chains v.chains v.slots;
      nth = read;
      by_index = λ i. search_finds b ix i c.measurements 0 (λ j. rw zero-add (read j));
      tcb = sums.0;
      all = sums.1;
    }
