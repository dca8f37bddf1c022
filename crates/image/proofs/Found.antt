-- What the lookups find in an image that reads as contents, by the index that was read: what the contents hold. Assumes nothing.
use mathlib.Core.Path.{◌≡◌, ap, ◌∙◌}
use mathlib.Core.List.{List}
use Prim.Native.Nat.{ℕ}
use lib.ListN.{length}
use Rattle.wire.specs.Bytes.{Bytes}
use Rattle.image.specs.Contents.{Contents}
use Rattle.image.specs.Held.{slot_digest, slot_mask, nth_measurement, measurement_of, tcb_summary, full_summary}
use Rattle.image.specs.Index.{digest_at, mask_at, nth_at, measurement_at, summary_at}
use Rattle.image.specs.Sizes.{digest_size}
use Rattle.image.specs.declared.Index.{Index}
use Rattle.image.specs.Read.{ReadAs}
use Rattle.image.proofs.Given.{held}

-- numbers of the index

module _ {b : List ℕ} {ix : Index} {c : Contents} (r : ReadAs b ix c) where
  pub size_is : digest_size ix.identity.hash ≡ digest_size c.identity.hash
  size_is = ap (λ (i : Index). digest_size i.identity.hash) r.indexed

  pub count_is : ix.measurements ≡ length c.measurements
  count_is = ap (λ (i : Index). i.measurements) r.indexed

-- lookups by it

module _ {b : List ℕ} {ix : Index} {c : Contents} (y : Bytes b) (r : ReadAs b ix c) where
  pub digest_is : (k : ℕ) → digest_at b ix k ≡ slot_digest c k
  digest_is k = ap (λ (i : Index). digest_at b i k) r.indexed ∙ (held y r).digests k

  pub mask_is : mask_at ix ≡ slot_mask c
  mask_is = ap (λ (i : Index). mask_at i) r.indexed ∙ (held y r).mask

  pub nth_is : (k : ℕ) → nth_at b ix k ≡ nth_measurement c k
  nth_is k = ap (λ (i : Index). nth_at b i k) r.indexed ∙ (held y r).nth k

  pub one_is : (i : ℕ) → measurement_at b ix i ≡ measurement_of c i
  one_is i = ap (λ (x : Index). measurement_at b x i) r.indexed ∙ (held y r).by_index i

  pub tcb_is : summary_at b ix 0 ≡ tcb_summary c
  tcb_is = ap (λ (i : Index). summary_at b i 0) r.indexed ∙ (held y r).tcb

  pub full_is : summary_at b ix 1 ≡ full_summary c
  full_is = ap (λ (i : Index). summary_at b i 1) r.indexed ∙ (held y r).all
