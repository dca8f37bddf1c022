-- "all else is as for 1.2": in states that are the same but for the edition, which is chosen, a request of at most 4,608 bytes with its
-- edition's byte passes the nine steps alike, and all bytes of the answer or ERROR but the first are the same, CAPABILITIES aside. Host
-- numbers, finishing and what is signed are not in it. By a walk over the steps: none but step 2's code, step 5's own byte and
-- GET_CAPABILITIES, which step 6 refuses from phase 2 on, looks at the edition. Assumes nothing.
use Rattle.std.specs.Prelude.{Option, Some, None}
use mathlib.Core.Path.{◌≡◌, refl, sym, ◌∙◌}
use mathlib.Core.Bool.{Bool, true, false}
use mathlib.Core.List.{List, ◌∷◌}
use Prim.Native.Nat.{ℕ, zero, suc, ◌+◌, ◌*◌, ◌-◌, ◌%◌, ◌≤◌}
use native.Mathlib.Omega.{arith}
use lib.ListN.{length, get_or}
use lib.Dec.{ltb}
use borrow.Author.Tests.{ltb-true, le-ltb, eqb-true}
use Rattle.wire.specs.Pick.{pick}
use Rattle.image.specs.Contents.{Contents}
use Rattle.rules.specs.Limits.{message_limit, version_phase, capabilities_phase, version11, version12, type_least}
use Rattle.rules.specs.Facts.{Facts}
use Rattle.rules.specs.Header.{code_byte, param1, version_of, refused_bytes}
use Rattle.rules.specs.Steps.{kind_of, carries, version_fits, in_phase, kind_steps, asked_steps, first_steps, size_steps}
use Rattle.rules.specs.Version.{version_bytes}
use Rattle.rules.specs.Algorithms.{structures_start, structures_fit, algorithms_decision, algorithms_bytes}
use Rattle.rules.specs.Digests.{digests_decision, digests_bytes}
use Rattle.rules.specs.Certificate.{portion_decision, certificate_decision, certificate_bytes}
use Rattle.rules.specs.Challenge.{summary_fits, challenge_decision, challenge_bytes}
use Rattle.rules.specs.Measurements.{operation_step, measurements_by, measurements_decision, measurements_bytes}
use Rattle.rules.specs.Messages.{kind_for, message_bytes}
use Rattle.rules.specs.Decisions.{last_steps, request_decision}
use Rattle.rules.specs.Editions.{agreed_under, state_under, decision_under, bytes_under}
use Rattle.rules.specs.declared.Negotiated.{Negotiated}
use Rattle.rules.specs.declared.State.{State}
use Rattle.rules.specs.declared.Kind.{Kind}
use Rattle.rules.specs.declared.Kind.TheVariants as kind
use Rattle.rules.specs.declared.Message.{Message}
use Rattle.rules.specs.declared.Message.TheVariants as message
use Rattle.rules.specs.declared.Exchange.{Exchange}
use Rattle.rules.specs.Decision.{Decision}
use Rattle.rules.proofs.Tests.{false_true}

-- under 1.1
abbrev Eleven : Decision → Decision → Type 0
Eleven d e = d ≡ decision_under version11 e

-- a test that both make, with what follows from it
both : (b : Bool) (x y u v : Decision) → (b ≡ true → Eleven x u) → (b ≡ false → Eleven y v) → Eleven (pick b x y) (pick b u v)
unfolding pick
both true x y u v p q = p refl
both false x y u v p q = q refl

-- bytes behind the first are the same, wherever the first byte is not looked at
behind : (a b : ℕ) (l : List ℕ) (i : ℕ) → 1 ≤ i → get_or (a ∷ l) i 0 ≡ get_or (b ∷ l) i 0
behind a b l zero h = absurd (omega arith)
behind a b l (suc i) h = refl

structures : (a b : ℕ) (l : List ℕ) (n last at : ℕ) → 1 ≤ at → structures_fit (a ∷ l) n last at ≡ structures_fit (b ∷ l) n last at
unfolding structures_fit
structures a b l zero last at h = refl
structures a b l (suc n) last at h =
    rw (behind a b l at h, behind a b l (at + 1) (omega arith), structures a b l n (get_or (b ∷ l) at 0) (at + 4 + 4 * (get_or (b ∷ l) (at + 1) 0 % 16)) (omega arith))

module _ (f : Facts) (s : State) (rest : List ℕ) (chosen : capabilities_phase ≤ s.negotiated.phase) where
  abbrev s11 : State
  s11 = state_under version11 s

  abbrev s12 : State
  s12 = state_under version12 s

  abbrev r11 : List ℕ
  r11 = version11 ∷ rest

  abbrev r12 : List ℕ
  r12 = version12 ∷ rest

  -- steps 8 and 9
  sized : (m : Message) (x : Exchange) → Eleven (size_steps s11 m x) (size_steps s12 m x)
  unfolding size_steps
  sized m x = both _ _ _ _ _ (λ _. refl) (λ _. both _ _ _ _ _ (λ _. refl) (λ _. refl))

  algorithms : Eleven (algorithms_decision f s11.negotiated r11) (algorithms_decision f s12.negotiated r12)
  unfolding algorithms_decision
  algorithms =
      rw (structures version11 version12 rest (param1 r12) (type_least - 1) (structures_start r12) (omega arith))
      (both _ _ _ _ _ (λ _. refl) (λ _. both _ _ _ _ _ (λ _. refl) (λ _. both _ _ _ _ _ (λ _. refl) (λ _. both _ _ _ _ _ (λ _. refl) (λ _.
      both _ _ _ _ _ (λ _. both _ _ _ _ _ (λ _. both _ _ _ _ _ (λ _. refl) (λ _. refl)) (λ _. refl)) (λ _. refl))))))

  certificate : Eleven (certificate_decision f s11 r11) (certificate_decision f s12 r12)
  unfolding certificate_decision portion_decision
  certificate = both _ _ _ _ _ (λ _. refl) (λ _. both _ _ _ _ _ (λ _. refl) (λ _. both _ _ _ _ _ (λ _. refl) (λ _. both _ _ _ _ _ (λ _. refl) (λ _. sized _ _))))

  challenge : Eleven (challenge_decision f s11 r11) (challenge_decision f s12 r12)
  unfolding challenge_decision summary_fits
  challenge = both _ _ _ _ _ (λ _. refl) (λ _. both _ _ _ _ _ (λ _. refl) (λ _. both _ _ _ _ _ (λ _. sized _ _) (λ _. refl)))

  measurements : Eleven (measurements_decision f s11 r11) (measurements_decision f s12 r12)
  unfolding measurements_decision measurements_by operation_step
  measurements = both _ _ _ _ _ (λ _. refl) (λ _. both _ _ _ _ _ (λ _. both _ _ _ _ _ (λ _. sized _ _) (λ _. refl)) (λ _. refl))

  digests : Eleven (digests_decision f s11) (digests_decision f s12)
  unfolding digests_decision
  digests = sized _ _

  late : ltb s.negotiated.phase capabilities_phase ≡ false
  late = le-ltb _ _ chosen

  -- each edition's own byte passes step 5, of every request but GET_VERSION
  own11 : carries s11.negotiated version11 ≡ true
  unfolding carries version_of pick
  own11 = rw late

  own12 : carries s12.negotiated version12 ≡ true
  unfolding carries version_of pick
  own12 = rw late

  fits : (k : Kind) → version_fits s11.negotiated version11 k ≡ version_fits s12.negotiated version12 k
  unfolding version_fits
  fits kind.Version = refl
  fits kind.Capabilities = own11 ∙ sym own12
  fits kind.Algorithms = own11 ∙ sym own12
  fits kind.Digests = own11 ∙ sym own12
  fits kind.Certificate = own11 ∙ sym own12
  fits kind.Challenge = own11 ∙ sym own12
  fits kind.Measurements = own11 ∙ sym own12

  -- step 6 goes by phase and selection
  phases : (k : Kind) → in_phase s11.negotiated k ≡ in_phase s12.negotiated k
  unfolding in_phase
  phases kind.Version = refl
  phases kind.Capabilities = refl
  phases kind.Algorithms = refl
  phases kind.Digests = refl
  phases kind.Certificate = refl
  phases kind.Challenge = refl
  phases kind.Measurements = refl

  -- steps 7–9 of a kind that passed 5 and 6: GET_VERSION did not pass 5, GET_CAPABILITIES not 6
  last : (k : Kind) → version_fits s12.negotiated version12 k ≡ true → in_phase s12.negotiated k ≡ true
      → Eleven (last_steps f s11 r11 k) (last_steps f s12 r12 k)
  unfolding version_fits in_phase last_steps
  last kind.Version v p = absurd (false_true v)
  last kind.Capabilities v p = absurd (omega (arith, chosen, eqb-true s.negotiated.phase version_phase p))
  last kind.Algorithms v p = algorithms
  last kind.Digests v p = digests
  last kind.Certificate v p = certificate
  last kind.Challenge v p = challenge
  last kind.Measurements v p = measurements

  -- steps 4–6, by what the code asks for
  asked : (x : Option Kind) → Eleven (asked_steps f s11 r11 (λ (k : Kind). last_steps f s11 r11 k) x) (asked_steps f s12 r12 (λ (k : Kind). last_steps f s12 r12 k) x)
  unfolding asked_steps kind_steps
  asked (Some k) =
      rw (fits k, phases k) (both _ _ _ _ _ (λ _. both _ _ _ _ _ (λ v. both _ _ _ _ _ (λ p. last k v p) (λ _. refl)) (λ _. refl)) (λ _. refl))
  asked None = refl

  -- the nine steps
  pub as_for_12 : length r12 ≤ message_limit → request_decision f s11 r11 ≡ decision_under version11 (request_decision f s12 r12)
  unfolding request_decision first_steps
  as_for_12 h =
      both _ _ _ _ _ (λ _. refl) (λ _. both _ _ _ _ _ (λ t. absurd (omega (arith, h, ltb-true message_limit (length r12) t))) (λ _.
      both _ _ _ _ _ (λ _. refl) (λ _. asked (kind_of (code_byte r12)))))

-- the answers' bytes, CAPABILITIES aside, and the ERRORs'
module _ (n : Negotiated) (chosen : capabilities_phase ≤ n.phase) where
  spoken11 : version_of (agreed_under version11 n) ≡ version11
  unfolding version_of pick
  spoken11 = rw (le-ltb n.phase capabilities_phase chosen)

  pub answered_as_for_12 : (c : Contents) (nonce : List ℕ) (m : Message) → (kind_for m ≡ kind.Capabilities → ⊥)
      → message_bytes c nonce (agreed_under version11 n) m ≡ bytes_under version11 (message_bytes c nonce (agreed_under version12 n) m)
  unfolding message_bytes version_bytes algorithms_bytes digests_bytes certificate_bytes challenge_bytes measurements_bytes
  answered_as_for_12 c nonce message.Version o = rw spoken11
  answered_as_for_12 c nonce message.Capabilities o = absurd (o refl)
  answered_as_for_12 c nonce message.Algorithms o = rw spoken11
  answered_as_for_12 c nonce message.Digests o = rw spoken11
  answered_as_for_12 c nonce (message.Certificate slot offset portion remainder) o = rw spoken11
  answered_as_for_12 c nonce (message.Challenge slot summary) o = rw spoken11
  answered_as_for_12 c nonce (message.Measurements operation signer) o = rw spoken11

  pub refused_as_for_12 : (step code extra size : ℕ)
      → refused_bytes (agreed_under version11 n) step code extra size ≡ bytes_under version11 (refused_bytes (agreed_under version12 n) step code extra size)
  unfolding refused_bytes
  refused_as_for_12 step code extra size = rw spoken11
