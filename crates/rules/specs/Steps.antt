-- "A request, checked in this order": steps 1–6, and steps 8 and 9 over an exchange. Step 7 stands with each message.
use Rattle.std.specs.Prelude.{Bool, true, false, Option, Some, None, List, ℕ, ◌+◌, length, ltb, eqb}
use Rattle.wire.specs.Pick.{pick}
use Rattle.rules.specs.Limits.{message_limit, header_length, version10, version_phase, capabilities_phase, algorithms_phase}
use Rattle.rules.specs.Limits.{get_version, get_capabilities, negotiate_algorithms, get_digests, get_certificate, challenge}
use Rattle.rules.specs.Limits.{get_measurements, short_step, long_step, busy_step, code_step, version_step, phase_step, fields_step, size_step}
use Rattle.rules.specs.Limits.{room_step, invalid_request, busy, unexpected_request, unspecified, unsupported_request, response_too_large}
use Rattle.rules.specs.Limits.{request_too_large, version_mismatch, awaits_nothing}
use Rattle.rules.specs.Facts.{Facts}
use Rattle.rules.specs.Parts.{limit_of, count_of}
use Rattle.rules.specs.Header.{version_byte, code_byte, by_edition, is_edition, version_of}
use Rattle.rules.specs.declared.Negotiated.{Negotiated}
use Rattle.rules.specs.declared.Awaited.{Awaited}
use Rattle.rules.specs.declared.State.{State}
use Rattle.rules.specs.declared.Kind.{Kind}
use Rattle.rules.specs.declared.Kind.TheVariants as kind
use Rattle.rules.specs.declared.Message.{Message}
use Rattle.rules.specs.declared.Exchange.{Exchange}
use Rattle.rules.specs.Decision.{Decision, Refused, Accepted}

-- the served request codes
unfoldable pub kind_of : ℕ → Option Kind
kind_of code =
    pick (eqb code get_version) (Some kind.Version)
    (pick (eqb code get_capabilities) (Some kind.Capabilities)
    (pick (eqb code negotiate_algorithms) (Some kind.Algorithms)
    (pick (eqb code get_digests) (Some kind.Digests)
    (pick (eqb code get_certificate) (Some kind.Certificate)
    (pick (eqb code challenge) (Some kind.Challenge)
    (pick (eqb code get_measurements) (Some kind.Measurements)
    None))))))

-- step 2: "over 4,608 bytes", 0x0E; paper 02, 4: "under 1.1 step 2 answers 0x01"
abbrev pub long_code : Negotiated → ℕ
long_code n = by_edition (version_of n) invalid_request request_too_large

-- step 3: "signature awaited and code not 0x84"
unfoldable pub must_wait : Awaited → ℕ → Bool
must_wait w code = pick (eqb w.whose awaits_nothing) false (pick (eqb code get_version) false true)

-- step 4: "code not served, or 0xE0 with no kind 3"
unfoldable pub serves : Facts → Kind → Bool
serves f kind.Version = true
serves f kind.Capabilities = true
serves f kind.Algorithms = true
serves f kind.Digests = true
serves f kind.Certificate = true
serves f kind.Challenge = true
serves f kind.Measurements = ltb 0 f.measurements

-- paper 02, 4: "Later requests must carry the chosen byte, else 0x41 .. Before a choice, 0x11 and 0x12 both pass step 5"
unfoldable pub carries : Negotiated → ℕ → Bool
carries n version = pick (ltb n.phase capabilities_phase) (is_edition version) (eqb version (version_of n))

-- step 5: "version byte not 0x10 for GET_VERSION", not such a byte for others
unfoldable pub version_fits : Negotiated → ℕ → Kind → Bool
version_fits n version kind.Version = eqb version version10
version_fits n version kind.Capabilities = carries n version
version_fits n version kind.Algorithms = carries n version
version_fits n version kind.Digests = carries n version
version_fits n version kind.Certificate = carries n version
version_fits n version kind.Challenge = carries n version
version_fits n version kind.Measurements = carries n version

-- step 6: "GET_VERSION in any, ..; GET_CAPABILITIES only in 1, ..; NEGOTIATE_ALGORITHMS only in 2, ..; the rest only in 3, and
-- GET_MEASUREMENTS only if its specification was selected"
unfoldable pub in_phase : Negotiated → Kind → Bool
in_phase n kind.Version = true
in_phase n kind.Capabilities = eqb n.phase version_phase
in_phase n kind.Algorithms = eqb n.phase capabilities_phase
in_phase n kind.Digests = eqb n.phase algorithms_phase
in_phase n kind.Certificate = eqb n.phase algorithms_phase
in_phase n kind.Challenge = eqb n.phase algorithms_phase
in_phase n kind.Measurements = pick (eqb n.phase algorithms_phase) (eqb n.selection 1) false

-- a row of the paper's table: step, code, data
abbrev pub refusal : ℕ → ℕ → ℕ → Decision
refusal step code extra = Refused step code extra 0

-- step 7 refuses with this
abbrev pub invalid : Decision
invalid = refusal fields_step invalid_request 0

-- steps 4–6 of a served kind, and what follows where it passed them
unfoldable pub kind_steps : Facts → State → List ℕ → Kind → Decision → Decision
kind_steps f s r k next =
    pick (serves f k)
    (pick (version_fits s.negotiated (version_byte r) k)
    (pick (in_phase s.negotiated k) next
    (refusal phase_step unexpected_request 0))
    (refusal version_step version_mismatch 0))
    (refusal code_step unsupported_request (code_byte r))

-- steps 4–6, by what the code asks for
unfoldable pub asked_steps : Facts → State → List ℕ → (Kind → Decision) → Option Kind → Decision
asked_steps f s r next (Some k) = kind_steps f s r k (next k)
asked_steps f s r next None = refusal code_step unsupported_request (code_byte r)

-- steps 1–6
unfoldable pub first_steps : Facts → State → List ℕ → (Kind → Decision) → Decision
first_steps f s r next =
    pick (ltb (length r) header_length) (refusal short_step invalid_request 0)
    (pick (ltb message_limit (length r)) (refusal long_step (long_code s.negotiated) 0)
    (pick (must_wait s.awaited (code_byte r)) (refusal busy_step busy 0)
    (asked_steps f s r next (kind_of (code_byte r)))))

-- "answer, signature included"
abbrev pub whole_length : Exchange → ℕ
whole_length x = x.length + x.signature

-- "the request and the answer without signature"
abbrev pub added_length : Exchange → ℕ
added_length x = x.layout + x.length

-- steps 8 and 9: the answer against the peer's size, and what is appended against the room of its part; what passed them is accepted. They
-- "are not applied in phases 0–2", so what was negotiated stays.
unfoldable pub size_steps : State → Message → Exchange → Decision
size_steps s m x =
    pick (ltb s.negotiated.peer (whole_length x)) (Refused size_step response_too_large 0 (whole_length x))
    (pick (ltb (limit_of x.part) (count_of x.part s.used + added_length x)) (refusal room_step unspecified 0)
    (Accepted m s.negotiated x))
