-- What the writers of the messages need of an image that the reader accepted: of its index and bytes alone, facts with one proof at most, which
-- the truncated one gives; and that what is looked up is what the contents hold. Each writer's set of them is at the end. Assumes nothing.
use Rattle.std.proofs.lemmas.List.{nil_from_length}
use mathlib.Core.Path.{◌≡◌, ap, ◌∙◌}
use mathlib.Core.Bool.{true}
use mathlib.Core.List.{List}
use mathlib.Core.Logic.{∥∥₁_elim}
use Prim.Native.Nat.{ℕ, ◌+◌, ◌-◌, ◌*◌, ◌≤◌, ◌<◌}
use native.Mathlib.Omega.{arith}
use native.Mathlib.Bridge.{le_prop}
use base.Stored.{Coded-set, coded_ℕ}
use lib.ListN.{length, take}
use lib.Seq.{take_all}
use Rattle.wire.specs.Bytes.{Bytes, part, splice}
use Rattle.image.specs.Index.{digest_at, chain_part_at, nth_at, measurement_at}
use Rattle.image.specs.Limits.{slot_count, measurements_limit, hash_limit, signature_limit}
use Rattle.image.specs.Contents.{Contents}
use Rattle.image.specs.Held.{slot_chain, nth_measurement}
use Rattle.image.specs.Sizes.{digest_size}
use Rattle.image.specs.Read.{Known, ReadAs}
use Rattle.image.specs.declared.Index.{Index}
use Rattle.image.specs.declared.MeasurementIndex.{MeasurementIndex}
use Rattle.image.proofs.Given.{valid, held, known-fine}
use Rattle.image.proofs.Found.{size_is, count_is, nth_is, one_is, digest_is, mask_is, tcb_is, full_is}
use Rattle.image.proofs.Sizes.{digest-most}
use Rattle.image.proofs.SlotLaws.{digest-short, no-digest, slot_in}
use Rattle.rules.specs.Facts.{facts_at}
use Rattle.rules.specs.Digests.{joined_digests}
use Rattle.rules.specs.Measurements.{operation_fits, block_count, record_of, block_bytes, blocks_of}
use Rattle.rules.specs.declared.Operation.{Operation}
use Rattle.rules.specs.declared.Operation.TheVariants as operation
use Rattle.rules.proofs.AnswerLengths.{few_blocks, record_length}
use Rattle.rules.proofs.SameFacts.{facts}
use Rattle.responder.proofs.RunLaws.{runs}
use Rattle.responder.proofs.MeasurementsLaws.{blocks_few, no_blocks, block-after, nth-length, asked-length}
use Rattle.responder.proofs.DigestLaws.{joined_from, one_more, no_more, joined-all}

module _ {b : List ℕ} {ix : Index} (y : Bytes b) (k : ∥ Known b ix ∥₁) where
  pub few-measurements : ix.measurements ≤ measurements_limit
  few-measurements = ∥∥₁_elim k le_prop (λ x. (known-fine y x).measurements)

  pub few-asked : (o : Operation) → block_count ix.measurements o ≤ measurements_limit
  few-asked o = few_blocks ix.measurements o few-measurements

  pub hash-known : ix.identity.hash ≤ hash_limit
  hash-known = ∥∥₁_elim k le_prop (λ x. (known-fine y x).identity.hash)

  pub signature-known : ix.identity.signature ≤ signature_limit
  signature-known = ∥∥₁_elim k le_prop (λ x. (known-fine y x).identity.signature)

  -- bodies of measurements are index, type and digest
  pub nth-body : (n : ℕ) → n < ix.measurements → length (nth_at b ix n) ≡ 2 + digest_size ix.identity.hash
  nth-body n p =
      ∥∥₁_elim k (Coded-set coded_ℕ _ _) (λ x.
      let m : ix.measurements ≡ length x.held.measurements = count_is x.same in
      rw (nth_is y x.same n, size_is x.same)
      (nth-length (digest_size x.held.identity.hash) x.held.measurements n (valid y x.same).measurements (omega arith)))

  pub one-body : (i : MeasurementIndex) → operation_fits (facts_at b ix) (operation.One i) ≡ true
      → length (measurement_at b ix i.0) ≡ 2 + digest_size ix.identity.hash
  one-body i p =
      ∥∥₁_elim k (Coded-set coded_ℕ _ _) (λ x.
      rw (one_is y x.same i.0, size_is x.same) (asked-length x.held (valid y x.same) i (rw (facts y x.same) at p)))

module _ {b : List ℕ} {ix : Index} {c : Contents} (y : Bytes b) (r : ReadAs b ix c) where
  pub identity_is : ix.identity ≡ c.identity
  identity_is = ap (λ (i : Index). i.identity) r.indexed

  pub portion_is : (k offset len : ℕ) → chain_part_at b ix k offset len ≡ part (slot_chain c k) offset len
  portion_is k offset len = ap (λ (i : Index). chain_part_at b i k offset len) r.indexed ∙ (held y r).portions k offset len

  -- the record is as long as the blocks that the index counts
  pub record_is : (o : Operation) → operation_fits (facts_at b ix) o ≡ true
      → length (record_of c o) ≡ block_count ix.measurements o * (7 + digest_size ix.identity.hash)
  record_is o p = rw (count_is r, size_is r) (record_length c (valid y r) o (rw (facts y r) at p))

  -- a turn of the loop over the blocks
  pub block_more : (l : List ℕ) (at n k : ℕ) → k < ix.measurements → n ≡ at + k * (7 + digest_size ix.identity.hash)
      → splice (splice l at (blocks_of (digest_size c.identity.hash) (take k c.measurements))) n (block_bytes (length (nth_at b ix k) - 2) (nth_at b ix k))
      ≡ splice l at (blocks_of (digest_size c.identity.hash) (take (k + 1) c.measurements))
  block_more l at n k p e =
      let m : ix.measurements ≡ length c.measurements = count_is r in
      let h : length (nth_measurement c k) - 2 ≡ digest_size c.identity.hash =
      omega (arith, nth-length (digest_size c.identity.hash) c.measurements k (valid y r).measurements (omega arith)) in
      rw (e, nth_is y r k, size_is r, h) (block-after l at (digest_size c.identity.hash) c.measurements k (valid y r).measurements (omega arith))

  pub blocks_all : (k : ℕ) → k ≡ ix.measurements → take k c.measurements ≡ c.measurements
  blocks_all k e = take_all k c.measurements (omega (arith, count_is r))

  -- the digests of all slots are those of the chains
  pub joined_is : joined_from (digest_at b ix) 0 slot_count ≡ joined_digests c.chains
  joined_is =
      let v = valid y r in
      joined-all _ (digest_at b ix) c.chains v.chains v.slots (digest_is y r)

pub ruleset contents = (runs, identity_is, portion_is, digest_is, mask_is, tcb_is, full_is, digest-short, hash-known, signature-known)

pub ruleset measuring = (contents, digest-most, blocks_few, few-measurements, few-asked, record_is, count_is, size_is, one_is, nth-body, one-body, no_blocks, block_more, blocks_all)

pub ruleset joining = (contents, one_more, no_more, joined_is)

pub ruleset slots = (no-digest, slot_in, nil_from_length)
