-- The answers' lengths: those of their layouts, as valid contents have digests of H bytes and a summary with any measurement. Each answer,
-- its signature included, fits a message. Assumes nothing.
use Rattle.std.specs.Prelude.{Option, Some, None}
use mathlib.Core.Path.{◌≡◌, refl, sym, ◌∙◌}
use mathlib.Core.Bool.{true, false}
use mathlib.Core.List.{List, [], ◌∷◌, ◌++◌}
use Prim.Native.Nat.{ℕ, ◌+◌, ◌*◌, ◌≤◌, ◌<◌}
use native.Mathlib.Omega.{arith}
use native.Mathlib.Nat.{zero-mul, one-mul, suc-mul, mul-le-mul}
use lib.ListN.{length, length-append, length-drop}
use lib.Dec.{eqb}
use borrow.Author.Tests.{ltb-true, ne_eqb}
use Rattle.wire.specs.Bytes.{le_bytes, part}
use Rattle.wire.specs.Pick.{pick}
use Rattle.wire.proofs.Picks.{pick_case, pick-map}
use Rattle.wire.proofs.Laws.{part_length}
use Rattle.image.specs.Limits.{measurements_limit}
use Rattle.image.specs.Sizes.{digest_size, digest_most, signature_most}
use Rattle.image.specs.Contents.{Chain, Measurement, Summary, Contents, ValidChain, ValidMeasurement, ValidSummary, Each, Valid, measurement_body}
use Rattle.image.specs.Held.{chain_for, slot_digest, slot_chain, measurement_for, measurement_of, tcb_of, tcb_summary, full_summary}
use Rattle.image.specs.Held as held
use Rattle.image.proofs.Sizes.{digest-most, signature-most}
use Rattle.rules.specs.Limits.{message_limit, nonce_length, version_length, version11, algorithms_length, certificate_head}
use Rattle.rules.specs.Facts.{facts_of, sig_size}
use Rattle.rules.specs.Header.{version_of, error_bytes, refused_bytes}
use Rattle.rules.specs.Steps.{whole_length}
use Rattle.rules.specs.Version.{version_bytes}
use Rattle.rules.specs.Capabilities.{capabilities_layout, capabilities_head, capabilities_bytes}
use Rattle.rules.specs.Algorithms.{algorithms_bytes}
use Rattle.rules.specs.Digests.{digests_size, joined_digests, digests_bytes}
use Rattle.rules.specs.Certificate.{certificate_bytes}
use Rattle.rules.specs.Challenge.{challenge_size, summary_of, challenge_bytes}
use Rattle.rules.specs.Measurements.{operation_fits, block_count, block_size, measurements_size, block_bytes, blocks_of, record_of, measurements_exchange, measurements_bytes}
use Rattle.rules.specs.Messages.{exchange_for, message_bytes}
use Rattle.rules.specs.declared.Negotiated.{Negotiated}
use Rattle.rules.specs.declared.Operation.{Operation}
use Rattle.rules.specs.declared.Operation.TheVariants as operation
use Rattle.image.specs.declared.SlotNumber.{SlotNumber}
use Rattle.rules.specs.declared.Message.{Message}
use Rattle.rules.specs.declared.Message.TheVariants as message
use Rattle.rules.proofs.Told.{Fields, layout-few}

-- an ERROR has 4 or 8 bytes
pub refused-short : (n : Negotiated) (step code extra size : ℕ) → length (refused_bytes n step code extra size) ≤ 8
unfolding refused_bytes
refused-short n step code extra size = pick_case (λ (l : List ℕ). length (error_bytes n code extra ++ l) ≤ 8) _ _ _ (λ _. omega arith) (λ _. omega arith)

version-length : (n : Negotiated) → length (version_bytes n) ≡ version_length
unfolding version_bytes
version-length n = refl

capabilities-length : (c : Contents) (n : Negotiated) → length (capabilities_bytes c n) ≡ capabilities_layout (version_of n)
unfolding capabilities_bytes
capabilities-length c n =
    pick-map (λ (l : List ℕ). length (capabilities_head c n ++ l)) (eqb (version_of n) version11) [] (le_bytes 4 message_limit ++ le_bytes 4 message_limit) _ _
    (λ _. refl) (λ _. refl)

algorithms-length : (c : Contents) (n : Negotiated) → length (algorithms_bytes c n) ≡ algorithms_length
unfolding algorithms_bytes
algorithms-length c n = refl

-- the digest of a filled slot
filled-digest : (h k : ℕ) (xs : List Chain) → Each (ValidChain h) xs → 0 < length (chain_for k xs).bytes → length (chain_for k xs).digest ≡ h
unfolding chain_for
filled-digest h k [] e = λ z. absurd (omega arith)
filled-digest h k (x ∷ xs) e =
    pick_case (λ (y : Chain). 0 < length y.bytes → length y.digest ≡ h) (eqb x.slot k) x (chain_for k xs)
    (λ t z. e.0.digest) (λ t. filled-digest h k xs e.1)

pub digest-length : (c : Contents) → Valid c → (k : ℕ) → 0 < length (slot_chain c k) → length (slot_digest c k) ≡ digest_size c.identity.hash
digest-length c v k z = filled-digest (digest_size c.identity.hash) k c.chains v.chains z

-- DIGESTS
joined_length : (h : ℕ) (xs : List Chain) → Each (ValidChain h) xs → length (joined_digests xs) ≡ length xs * h
unfolding joined_digests
joined_length h [] e = sym (zero-mul h)
joined_length h (x ∷ xs) e = rw (length-append, joined_length h xs e.1, e.0.digest, suc-mul) (omega arith)

digests-length : (c : Contents) → Valid c → (n : Negotiated) → length (digests_bytes c n) ≡ digests_size (facts_of c)
unfolding digests_bytes
digests-length c v n = let e = joined_length (digest_size c.identity.hash) c.chains v.chains in omega arith

digests-most : (c : Contents) → Valid c → digests_size (facts_of c) ≤ message_limit
digests-most c v = omega (arith, mul-le-mul v.few_chains (digest-most c.identity.hash))

-- CERTIFICATE
certificate-length : (c : Contents) (n : Negotiated) (slot offset portion remainder : ℕ) → offset + portion ≤ length (slot_chain c slot)
    → length (certificate_bytes c n slot offset portion remainder) ≡ certificate_head + portion
unfolding certificate_bytes
certificate-length c n slot offset portion remainder h =
    let e : length (part (slot_chain c slot) offset portion) ≡ portion = part_length (slot_chain c slot) offset portion h in omega arith

-- CHALLENGE_AUTH: there is a summary where there is a measurement
summary_there : (c : Contents) → Valid c → 0 < length c.measurements → length c.summaries ≡ 1
unfolding pick
summary_there c v z = v.summed ∙ rw (ne_eqb (length c.measurements) 0 (λ e. omega arith))

first-summary : (h : ℕ) (ss : List Summary) → Each (ValidSummary h) ss → length ss ≡ 1 → (length (tcb_of ss) ≡ h) × (length (held.all_of ss) ≡ h)
first-summary h [] e l = absurd (omega (arith, l))
first-summary h (s ∷ ss) e l = (e.0.tcb, e.0.all)

-- the summary hash that CHALLENGE_AUTH carries
summary-length : (c : Contents) → Valid c → (x : ℕ) → (eqb x 0 ≡ false → 0 < length c.measurements)
    → length (summary_of c x) ≡ pick (eqb x 0) 0 (digest_size c.identity.hash)
summary-length c v x m =
    pick-map (λ (l : List ℕ). length l) (eqb x 0) [] (pick (eqb x 1) (tcb_summary c) (full_summary c)) 0 (digest_size c.identity.hash) (λ t. refl)
    (λ t. let l = first-summary (digest_size c.identity.hash) c.summaries v.summaries (summary_there c v (m t)) in
    pick_case (λ (l : List ℕ). length l ≡ digest_size c.identity.hash) (eqb x 1) (tcb_summary c) (full_summary c) (λ u. l.0) (λ u. l.1))

challenge-length : (c : Contents) → Valid c → (nonce : List ℕ) (g : Negotiated) (slot x : ℕ) → length nonce ≡ nonce_length → 0 < length (slot_chain c slot)
    → (eqb x 0 ≡ false → 0 < length c.measurements) → length (challenge_bytes c nonce g slot x) ≡ challenge_size (facts_of c) x
unfolding challenge_bytes
challenge-length c v nonce g slot x n z m =
    let d = digest-length c v slot z in
    let s = summary-length c v x m in
    simp (length-append, d, s, n) (omega arith)

challenge-most : (c : Contents) (x : ℕ) → challenge_size (facts_of c) x + sig_size (facts_of c) ≤ message_limit
challenge-most c x =
    let p : pick (eqb x 0) 0 (digest_size c.identity.hash) ≤ digest_size c.identity.hash =
    pick_case (λ (n : ℕ). n ≤ digest_size c.identity.hash) (eqb x 0) 0 (digest_size c.identity.hash) (λ t. omega arith) (λ t. omega arith) in
    omega (arith, digest-most c.identity.hash, signature-most c.identity.signature)

-- MEASUREMENTS: blocks, one measurement's or all
pub block-length : (h : ℕ) (body : List ℕ) → length body ≡ 2 + h → length (block_bytes h body) ≡ block_size h
unfolding block_bytes
block-length h body e = simp length-drop (omega arith)

blocks_length : (h : ℕ) (ms : List Measurement) → Each (ValidMeasurement h) ms → length (blocks_of h ms) ≡ length ms * block_size h
unfolding blocks_of
blocks_length h [] e = sym (zero-mul (block_size h))
blocks_length h (m ∷ ms) e =
    let b : length (block_bytes h (measurement_body m)) ≡ block_size h = block-length h (measurement_body m) (omega (arith, e.0.digest)) in
    rw (length-append, blocks_length h ms e.1, b, suc-mul (length ms) (block_size h)) (omega arith)

body-length : (h i : ℕ) (ms : List Measurement) → Each (ValidMeasurement h) ms → 0 < length (measurement_for i ms) → length (measurement_for i ms) ≡ 2 + h
unfolding measurement_for
body-length h i [] e = λ z. absurd (omega arith)
body-length h i (m ∷ ms) e =
    pick_case (λ (l : List ℕ). 0 < length l → length l ≡ 2 + h) (eqb m.index i) (measurement_body m) (measurement_for i ms)
    (λ t z. omega (arith, e.0.digest)) (λ t. body-length h i ms e.1)

-- the body of a measurement that is there
pub present-length : (c : Contents) → Valid c → (i : ℕ) → 0 < length (measurement_of c i) → length (measurement_of c i) ≡ 2 + digest_size c.identity.hash
present-length c v i z = body-length (digest_size c.identity.hash) i c.measurements v.measurements z

pub record_length : (c : Contents) → Valid c → (o : Operation) → operation_fits (facts_of c) o ≡ true
    → length (record_of c o) ≡ block_count (length c.measurements) o * block_size (digest_size c.identity.hash)
unfolding operation_fits
record_length c v operation.Count p = sym (zero-mul (block_size (digest_size c.identity.hash)))
record_length c v operation.All p = blocks_length (digest_size c.identity.hash) c.measurements v.measurements
record_length c v (operation.One i) p =
    block-length (digest_size c.identity.hash) (measurement_of c i.0) (present-length c v i.0 (ltb-true _ _ p))
    ∙ sym (one-mul (block_size (digest_size c.identity.hash)))

measurements-length : (c : Contents) → Valid c → (nonce : List ℕ) (n : Negotiated) (o : Operation) (g : Option SlotNumber) → length nonce ≡ nonce_length
    → operation_fits (facts_of c) o ≡ true → length (measurements_bytes c nonce n o g) ≡ measurements_size (facts_of c) o
unfolding measurements_bytes
measurements-length c v nonce n o g e p = simp (length-append, record_length c v o p, e) (omega arith)

-- no operation asks more blocks than there may be measurements
pub few_blocks : (n : ℕ) (o : Operation) → n ≤ measurements_limit → block_count n o ≤ measurements_limit
few_blocks n operation.Count h = omega arith
few_blocks n operation.All h = h
few_blocks n (operation.One i) h = omega arith

measurements-most : (c : Contents) → Valid c → (o : Operation) → measurements_size (facts_of c) o + signature_most ≤ message_limit
measurements-most c v o =
    let b : block_size (digest_size c.identity.hash) ≤ block_size digest_most = omega (arith, digest-most c.identity.hash) in
    omega (arith, mul-le-mul (few_blocks (length c.measurements) o v.few_measurements) b)

signed_most : (c : Contents) → Valid c → (o : Operation) (g : Option SlotNumber) → whole_length (measurements_exchange (facts_of c) o g) ≤ message_limit
signed_most c v o None = omega (arith, measurements-most c v o)
signed_most c v o (Some k) = omega (arith, measurements-most c v o, signature-most c.identity.signature)

-- by who signs, as the exchange is
measured-length : (c : Contents) (o : Operation) (g : Option SlotNumber) → (measurements_exchange (facts_of c) o g).length ≡ measurements_size (facts_of c) o
measured-length c o None = refl
measured-length c o (Some k) = refl

module _ (c : Contents) (v : Valid c) (r : List ℕ) (n : Negotiated) where
  -- every answer, its signature left off, has the length that its exchange says
  pub message_length : (nonce : List ℕ) (m : Message) → length nonce ≡ nonce_length → Fields (facts_of c) n m
      → length (message_bytes c nonce n m) ≡ (exchange_for (facts_of c) n r m).length
  unfolding message_bytes
  message_length nonce message.Version e z = version-length n
  message_length nonce message.Capabilities e z = capabilities-length c n
  message_length nonce message.Algorithms e z = algorithms-length c n
  message_length nonce message.Digests e z = digests-length c v n
  message_length nonce (message.Certificate slot offset portion remainder) e z =
      certificate-length c n slot.0 offset portion remainder (omega (arith, z.whole))
  message_length nonce (message.Challenge slot summary) e z = challenge-length c v nonce n slot.0 summary e z.filled z.measured
  message_length nonce (message.Measurements operation signer) e z =
      measurements-length c v nonce n operation signer e z.fits ∙ sym (measured-length c operation signer)

  -- and with its signature fits a message
  pub message_most : (m : Message) → Fields (facts_of c) n m → whole_length (exchange_for (facts_of c) n r m) ≤ message_limit
  message_most message.Version z = omega arith
  message_most message.Capabilities z = omega (arith, layout-few (version_of n))
  message_most message.Algorithms z = omega arith
  message_most message.Digests z = omega (arith, digests-most c v)
  message_most (message.Certificate slot offset portion remainder) z = omega (arith, z.few)
  message_most (message.Challenge slot summary) z = challenge-most c summary
  message_most (message.Measurements operation signer) z = signed_most c v operation signer
