-- The papers' flows, paper 01's starred lines and more, those of request 3, and lines again under 1.1, as one claim: the plain box is
-- computed on each. Assumes nothing.
use mathlib.Core.Path.{◌≡◌, refl}
use mathlib.Core.Bool.{Bool, true, false}
use mathlib.Core.List.{List, [], ◌∷◌, ◌++◌, map}
use Prim.Native.Nat.{ℕ, zero, suc, ◌+◌}
use lib.ListN.{length, replicate}
use Rattle.wire.specs.Bytes.{le_bytes}
use Rattle.wire.specs.Pick.{pick}
use Rattle.image.specs.Sizes.{digest_size, signature_size}
use Rattle.image.specs.Contents.{Contents, record_bytes, records_bytes, identity_bytes, image_bytes}
use Rattle.image.specs.Reading.{unless, frames_of, identity_fault, slot_wrong, chain_fault, measurement_fault, summary_fault, record_fault, end_fault, extended, read_on, read_all, reading}
use Rattle.image.specs.Held.{chain_for, mask_of, measurement_for}
use Rattle.rules.specs.State.{holds_only, phase_fits, selection_fits, awaited_fits, edition_fits, own_bounds, selection_held, awaited_long, in_bounds}
use Rattle.rules.specs.Header.{version_of, refused_bytes}
use Rattle.rules.specs.Steps.{kind_of, must_wait, serves, carries, version_fits, in_phase, kind_steps, asked_steps, first_steps, size_steps}
use Rattle.rules.specs.Version.{version_bytes}
use Rattle.rules.specs.Capabilities.{sizes_fit, capabilities_decision, capabilities_bytes}
use Rattle.rules.specs.Algorithms.{structures_fit, algorithms_decision, algorithms_bytes}
use Rattle.rules.specs.Digests.{digests_decision, joined_digests, digests_bytes}
use Rattle.rules.specs.Certificate.{portion_of, portion_decision, certificate_decision, certificate_bytes}
use Rattle.rules.specs.Challenge.{summary_fits, challenge_decision, challenge_bytes}
use Rattle.rules.specs.Measurements.{signer_fits, operation_fits, operation_step, measurements_by, measurements_decision, block_bytes, blocks_of, measurements_bytes}
use Rattle.rules.specs.Messages.{message_bytes}
use Rattle.rules.specs.Decisions.{last_steps, request_decision, decision_of}
use Rattle.rules.specs.Effects.{effect_of, effect_by}
use Rattle.rules.specs.Signing.{prefix_of, to_hash, finish_of, finish_by}
use Rattle.rules.specs.Plain.{Plain, fresh_plain, Feed, request, finishing, Said, plain_said, plain_next}
use Rattle.rules.specs.declared.Lengths.{Lengths}
use Rattle.rules.specs.Reply as reply

-- n numbers, each one more than the last
abbrev pub rising : ℕ → ℕ → List ℕ
rising k zero = []
rising k (suc n) = k ∷ rising (k + 1) n

abbrev pub digest : List ℕ
digest = replicate 32 0xD0

abbrev pub measured : List ℕ
measured = replicate 32 0xA0

abbrev pub whole : List ℕ
whole = replicate 32 0xFA

abbrev pub trusted : List ℕ
trusted = replicate 32 0x7C

abbrev pub nonce : List ℕ
nonce = rising 200 32

abbrev pub signature : List ℕ
signature = rising 100 64

-- "Image: CTExponent 14, SHA-256, P-256, slot 0 with L = 100, one measurement."
abbrev pub bench : Contents
bench = record {
  identity = record { exponent = 14; hash = 0; signature = 4 };
  chains = record { slot = 0; digest = digest; bytes = 100 ∷ 0 ∷ rising 2 98 } ∷ [];
  measurements = record { index = 7; type = 1; digest = measured } ∷ [];
  summaries = record { tcb = trusted; all = whole } ∷ [];
}

-- buffers of just the length that is needed
abbrev pub lent : Lengths
lent = record { transcript = 36864; answer = 4608 }

abbrev pub ask : List ℕ → Feed
ask r = request (image_bytes bench) lent r nonce

abbrev pub finish : Bool → Feed
finish ok = finishing (image_bytes bench) lent ok signature

-- what is heard of calls: what is said to each, and what is to be signed at the end
pub record Heard : Type 0 where
  pub said : List Said
  pub prefix : List ℕ
  pub hashed : List ℕ

abbrev pub said_from : Plain → List Feed → List Said
said_from p [] = []
said_from p (x ∷ xs) = plain_said p x ∷ said_from (plain_next p x) xs

abbrev pub after : Plain → List Feed → Plain
after p [] = p
after p (x ∷ xs) = after (plain_next p x) xs

abbrev pub signs : Plain → List Said → Heard
signs p l = record {
  said = l;
  prefix = prefix_of p.negotiated p.whose;
  hashed = to_hash p.negotiated p.whose p.parts;
}

abbrev pub heard : Plain → List Feed → Heard
heard p xs = signs (after p xs) (said_from p xs)

-- answers, and nothing to sign; or a text to sign, and the messages to hash
abbrev pub saying : List ℕ → Said
saying l = record { reply = reply.Answer (length l); bytes = l }

abbrev pub joined : List (List ℕ) → List ℕ
joined [] = []
joined (x ∷ xs) = x ++ joined xs

abbrev pub answers : List (List ℕ) → Heard
answers l = record { said = map saying l; prefix = []; hashed = [] }

abbrev pub awaiting : List (List ℕ) → List ℕ → List (List ℕ) → Heard
awaiting l text messages = record { said = map saying l; prefix = text; hashed = joined messages }

-- an ERROR in phase 2 or 3
abbrev pub refused : ℕ → ℕ → List ℕ
refused code extra = 0x12 ∷ 0x7F ∷ code ∷ extra ∷ []

abbrev pub too_large : ℕ → List ℕ
too_large size = refused 0x0D 0 ++ le_bytes 4 size

-- the first three requests and their answers; the paper's GET_CAPABILITIES has the peer's size 00 12 00 00, 4,608

abbrev pub get_version : List ℕ
get_version = 0x10 ∷ 0x84 ∷ 0 ∷ 0 ∷ []

abbrev pub version : List ℕ
version = 0x10 ∷ 0x04 ∷ 0 ∷ 0 ∷ 0 ∷ 2 ∷ 0 ∷ 0x11 ∷ 0 ∷ 0x12 ∷ []

abbrev pub get_capabilities : ℕ → List ℕ
get_capabilities peer = 0x12 ∷ 0xE1 ∷ replicate 10 0 ++ (le_bytes 4 peer ++ (0x00 ∷ 0x12 ∷ 0 ∷ 0 ∷ []))

abbrev pub capabilities : List ℕ
capabilities = 0x12 ∷ 0x61 ∷ 0 ∷ 0 ∷ 0 ∷ 0x0E ∷ 0 ∷ 0 ∷ 0x16 ∷ 0 ∷ 0 ∷ 0 ∷ 0x00 ∷ 0x12 ∷ 0 ∷ 0 ∷ 0x00 ∷ 0x12 ∷ 0 ∷ 0 ∷ []

abbrev pub negotiate : List ℕ
negotiate = 0x12 ∷ 0xE3 ∷ 0 ∷ 0 ∷ 0x20 ∷ 0 ∷ 1 ∷ 0 ∷ 0x10 ∷ 0 ∷ 0 ∷ 0 ∷ 1 ∷ 0 ∷ 0 ∷ 0 ∷ replicate 16 0

abbrev pub algorithms : List ℕ
algorithms = 0x12 ∷ 0x63 ∷ 0 ∷ 0 ∷ 0x24 ∷ 0 ∷ 1 ∷ 0 ∷ 0x02 ∷ 0 ∷ 0 ∷ 0 ∷ 0x10 ∷ 0 ∷ 0 ∷ 0 ∷ 1 ∷ 0 ∷ 0 ∷ 0 ∷ replicate 16 0

-- these three, then others
abbrev pub connected : ℕ → List (List ℕ) → List Feed
connected peer l = map ask (get_version ∷ get_capabilities peer ∷ negotiate ∷ l)

abbrev pub agreed : List (List ℕ) → List (List ℕ)
agreed l = version ∷ capabilities ∷ algorithms ∷ l

abbrev pub exchanged_at : ℕ → List (List ℕ)
exchanged_at peer = get_version ∷ version ∷ get_capabilities peer ∷ capabilities ∷ negotiate ∷ algorithms ∷ []

abbrev pub exchanged : List (List ℕ)
exchanged = exchanged_at 4608

-- Under 1.1 GET_CAPABILITIES and CAPABILITIES have 12 bytes; all other messages differ in the version byte alone

abbrev pub eleven : List ℕ → List ℕ
eleven [] = []
eleven (x ∷ xs) = 0x11 ∷ xs

abbrev pub get_capabilities11 : List ℕ
get_capabilities11 = 0x11 ∷ 0xE1 ∷ replicate 10 0

abbrev pub capabilities11 : List ℕ
capabilities11 = 0x11 ∷ 0x61 ∷ 0 ∷ 0 ∷ 0 ∷ 0x0E ∷ 0 ∷ 0 ∷ 0x16 ∷ 0 ∷ 0 ∷ 0 ∷ []

abbrev pub connected11 : List (List ℕ) → List Feed
connected11 l = map ask (get_version ∷ get_capabilities11 ∷ map eleven (negotiate ∷ l))

abbrev pub agreed11 : List (List ℕ) → List (List ℕ)
agreed11 l = version ∷ capabilities11 ∷ map eleven (algorithms ∷ l)

abbrev pub exchanged11 : List (List ℕ)
exchanged11 = get_version ∷ version ∷ get_capabilities11 ∷ capabilities11 ∷ map eleven (negotiate ∷ algorithms ∷ [])

-- the same three with bytes in every reserved field
abbrev pub marked : List (List ℕ)
marked =
    (0x10 ∷ 0x84 ∷ 9 ∷ 8 ∷ [])
    ∷ (0x12 ∷ 0xE1 ∷ rising 1 10 ++ (0x00 ∷ 0x12 ∷ 0 ∷ 0 ∷ 0x00 ∷ 0x12 ∷ 0 ∷ 0 ∷ []))
    ∷ (0x12 ∷ 0xE3 ∷ 0 ∷ 9 ∷ 0x20 ∷ 0 ∷ 1 ∷ 9 ∷ 0x10 ∷ 0 ∷ 0 ∷ 0 ∷ 1 ∷ 0 ∷ 0 ∷ 0 ∷ rising 1 12 ++ (0 ∷ 0 ∷ 8 ∷ 9 ∷ []))
    ∷ (0x12 ∷ 0x81 ∷ 9 ∷ 8 ∷ [])
    ∷ (0x12 ∷ 0x82 ∷ 0xF0 ∷ 9 ∷ 90 ∷ 0 ∷ 8 ∷ 0 ∷ [])
    ∷ (0x12 ∷ 0x83 ∷ 0 ∷ 0xFF ∷ rising 1 32)
    ∷ []

abbrev pub padded : List ℕ → List ℕ
padded r = r ++ (0xEE ∷ 0xEE ∷ [])

-- one message of each list in turn
abbrev pub alternating : List (List ℕ) → List (List ℕ) → List (List ℕ)
alternating [] ys = []
alternating (x ∷ xs) [] = x ∷ xs
alternating (x ∷ xs) (y ∷ ys) = x ∷ y ∷ alternating xs ys

-- the other requests

abbrev pub get_digests : List ℕ
get_digests = 0x12 ∷ 0x81 ∷ 0 ∷ 0 ∷ []

abbrev pub digests : List ℕ
digests = 0x12 ∷ 0x01 ∷ 0 ∷ 1 ∷ digest

abbrev pub get_portion : ℕ → List ℕ
get_portion offset = 0x12 ∷ 0x82 ∷ 0 ∷ 0 ∷ offset ∷ 0 ∷ 0xFF ∷ 0xFF ∷ []

abbrev pub portion : ℕ → ℕ → List ℕ → List ℕ
portion n remainder l = 0x12 ∷ 0x02 ∷ 0 ∷ 0 ∷ n ∷ 0 ∷ remainder ∷ 0 ∷ l

abbrev pub challenge : ℕ → ℕ → List ℕ
challenge slot summary = 0x12 ∷ 0x83 ∷ slot ∷ summary ∷ rising 1 32

-- CHALLENGE_AUTH with a summary hash, its signature left off
abbrev pub challenged : List ℕ → List ℕ
challenged summary = 0x12 ∷ 0x03 ∷ 0 ∷ 1 ∷ digest ++ (nonce ++ (summary ++ (0 ∷ 0 ∷ [])))

abbrev pub count_measurements : List ℕ
count_measurements = 0x12 ∷ 0xE0 ∷ 0 ∷ 0 ∷ []

abbrev pub counted : List ℕ
counted = 0x12 ∷ 0x60 ∷ 1 ∷ 0 ∷ 0 ∷ 0 ∷ 0 ∷ 0 ∷ nonce ++ (0 ∷ 0 ∷ [])

-- a signed GET_MEASUREMENTS, and MEASUREMENTS with the one block, its signature left off
abbrev pub sign_measurements : ℕ → List ℕ
sign_measurements operation = 0x12 ∷ 0xE0 ∷ 1 ∷ operation ∷ rising 1 32 ++ (0 ∷ [])

abbrev pub measurements : List ℕ
measurements = 0x12 ∷ 0x60 ∷ 0 ∷ 0 ∷ 1 ∷ 39 ∷ 0 ∷ 0 ∷ 7 ∷ 1 ∷ 35 ∷ 0 ∷ 1 ∷ 32 ∷ 0 ∷ measured ++ (nonce ++ (0 ∷ 0 ∷ []))

abbrev pub unsigned : List ℕ → List ℕ
unsigned l = l ++ replicate 64 0

-- dmtf-spdm-v1.2.* four times, zeros, and responder-challenge_auth signing, or responder-measurements signing
abbrev pub text : List ℕ
text = 0x64 ∷ 0x6D ∷ 0x74 ∷ 0x66 ∷ 0x2D ∷ 0x73 ∷ 0x70 ∷ 0x64 ∷ 0x6D ∷ 0x2D ∷ 0x76 ∷ 0x31 ∷ 0x2E ∷ 0x32 ∷ 0x2E ∷ 0x2A ∷ []

abbrev pub responder : List ℕ
responder = 0x72 ∷ 0x65 ∷ 0x73 ∷ 0x70 ∷ 0x6F ∷ 0x6E ∷ 0x64 ∷ 0x65 ∷ 0x72 ∷ 0x2D ∷ []

abbrev pub signing : List ℕ
signing = 0x20 ∷ 0x73 ∷ 0x69 ∷ 0x67 ∷ 0x6E ∷ 0x69 ∷ 0x6E ∷ 0x67 ∷ []

abbrev pub challenge_prefix : List ℕ
challenge_prefix =
    joined (text ∷ text ∷ text ∷ text ∷ replicate 4 0 ∷ responder
    ∷ (0x63 ∷ 0x68 ∷ 0x61 ∷ 0x6C ∷ 0x6C ∷ 0x65 ∷ 0x6E ∷ 0x67 ∷ 0x65 ∷ 0x5F ∷ 0x61 ∷ 0x75 ∷ 0x74 ∷ 0x68 ∷ []) ∷ signing ∷ [])

abbrev pub measurements_prefix : List ℕ
measurements_prefix =
    joined (text ∷ text ∷ text ∷ text ∷ replicate 6 0 ∷ responder
    ∷ (0x6D ∷ 0x65 ∷ 0x61 ∷ 0x73 ∷ 0x75 ∷ 0x72 ∷ 0x65 ∷ 0x6D ∷ 0x65 ∷ 0x6E ∷ 0x74 ∷ 0x73 ∷ []) ∷ signing ∷ [])

-- calls on a box, and what has to be heard of them
pub record Flow : Type 0 where
  pub from : Plain
  pub calls : List Feed
  pub expected : Heard

-- on a fresh box
abbrev pub gives : List Feed → Heard → Flow
gives calls expected = record { from = fresh_plain; calls = calls; expected = expected }

-- a box in phase 3, A and B empty, whose M holds so many zeros
abbrev pub holding : ℕ → Plain
holding n = record {
  negotiated = record { phase = 3; peer = 4608; selection = 1; edition = 0x12 };
  parts = record { a = []; b = []; m = replicate n 0 };
  whose = 0;
  answer = [];
}

-- "Flows on the bench", the marked lines
abbrev pub starred : List Flow
starred =
    -- "10 84 00 00 →", and paper 02, 4: "Flow one's answer becomes 10 04 00 00 00 02 00 11 00 12"
    gives (map ask (get_version ∷ [])) (answers (version ∷ []))
    -- "12 E1, 10 zeros, 00 12 00 00 00 12 00 00 → 12 61 00 00 00 0E 00 00 16 00 00 00 00 12 00 00 00 12 00 00"
    ∷ gives (map ask (get_version ∷ get_capabilities 4608 ∷ [])) (answers (version ∷ capabilities ∷ []))
    -- "12 E3 00 00 20 00 01 00 10 00 00 00 01 00 00 00, 16 zeros → 12 63 00 00 24 00 01 00 02 00 00 00 10 00 00 00 01 00 00 00, 16 zeros"
    ∷ gives (connected 4608 []) (answers (version ∷ capabilities ∷ algorithms ∷ []))
    -- "peer's size 42 accepted, 41 → 10 7F 01 00"
    ∷ gives (map ask (get_version ∷ get_capabilities 41 ∷ get_capabilities 42 ∷ [])) (answers (version ∷ (0x10 ∷ 0x7F ∷ 0x01 ∷ 0 ∷ []) ∷ capabilities ∷ []))
    -- "peer's size 42, ask 0xFFFF at 0, 34, 68: portions 34, 34, 32; remainders 66, 32, 0"
    ∷ gives (connected 42 (get_portion 0 ∷ get_portion 34 ∷ get_portion 68 ∷ []))
    (answers (agreed (portion 34 66 (100 ∷ 0 ∷ rising 2 32) ∷ portion 34 32 (rising 34 34) ∷ portion 32 0 (rising 68 32) ∷ [])))
    -- "offset 99 gives 1 byte; offset 100 → 12 7F 01 00"
    ∷ gives (connected 42 (get_portion 99 ∷ get_portion 100 ∷ [])) (answers (agreed (portion 1 0 (99 ∷ []) ∷ refused 0x01 0 ∷ [])))
    -- "CHALLENGE slot 8 → 12 7F 01 00"
    ∷ gives (connected 4608 (challenge 8 0 ∷ [])) (answers (agreed (refused 0x01 0 ∷ [])))
    -- "peer's size 42, CHALLENGE Param2 0 → 12 7F 0D 00 86 00 00 00"
    ∷ gives (connected 42 (challenge 0 0 ∷ [])) (answers (agreed (too_large 0x86 ∷ [])))
    -- "peer's size 42, GET_MEASUREMENTS Param2 0 unsigned: 42 bytes, accepted"
    ∷ gives (connected 42 (count_measurements ∷ [])) (answers (agreed (counted ∷ [])))
    ∷ []

-- more of them
abbrev pub others : List Flow
others =
    -- "CHALLENGE (12 83, 34 zeros) in phase 2 → 12 7F 04 00; first byte 0x11 → 12 7F 41 00"; an unserved code is told before the version
    gives (map ask (get_version ∷ get_capabilities 42 ∷ (0x12 ∷ 0x83 ∷ replicate 34 0) ∷ (0x11 ∷ 0x83 ∷ replicate 34 0) ∷ (0x11 ∷ 0xFF ∷ 0 ∷ 0 ∷ []) ∷ []))
    (answers (version ∷ capabilities ∷ refused 0x04 0 ∷ refused 0x41 0 ∷ refused 0x07 0xFF ∷ []))
    -- reserved bytes are hashed as received, bytes past a layout are not; while a signature is awaited another request waits
    ∷ gives (map ask (map padded marked ++ (get_digests ∷ [])))
    (awaiting (agreed (digests ∷ portion 8 2 (rising 90 8) ∷ unsigned (challenged whole) ∷ refused 0x03 0 ∷ [])) challenge_prefix
    (alternating marked (agreed (digests ∷ portion 8 2 (rising 90 8) ∷ challenged whole ∷ []))))
    -- the signature ends the answer; then M begins, and each MEASUREMENTS is hashed
    ∷ gives (connected 4608 (get_digests ∷ challenge 0 0 ∷ []) ++ (finish true ∷ map ask (count_measurements ∷ sign_measurements 0xFF ∷ [])))
    (awaiting (agreed (digests ∷ unsigned (challenged []) ∷ (challenged [] ++ signature) ∷ counted ∷ unsigned measurements ∷ [])) measurements_prefix
    (exchanged ++ (count_measurements ∷ counted ∷ sign_measurements 0xFF ∷ measurements ∷ [])))
    -- one measurement, signed; a CHALLENGE empties M
    ∷ gives (connected 4608 (sign_measurements 7 ∷ []) ++ (finish true ∷ map ask (count_measurements ∷ challenge 0 1 ∷ []) ++ (finish true ∷ map ask (sign_measurements 7 ∷ []))))
    (awaiting (agreed (unsigned measurements ∷ (measurements ++ signature) ∷ counted ∷ unsigned (challenged trusted) ∷ (challenged trusted ++ signature) ∷ unsigned measurements ∷ []))
    measurements_prefix (exchanged ++ (sign_measurements 7 ∷ measurements ∷ [])))
    -- a GET_MEASUREMENTS empties B
    ∷ gives (connected 4608 (get_digests ∷ count_measurements ∷ challenge 0 0 ∷ []))
    (awaiting (agreed (digests ∷ counted ∷ unsigned (challenged []) ∷ [])) challenge_prefix (exchanged ++ (challenge 0 0 ∷ challenged [] ∷ [])))
    -- the chip failed: B is emptied
    ∷ gives (connected 4608 (get_digests ∷ challenge 0 0 ∷ []) ++ (finish false ∷ map ask (challenge 0 0 ∷ [])))
    (awaiting (agreed (digests ∷ unsigned (challenged []) ∷ refused 0x05 0 ∷ unsigned (challenged []) ∷ [])) challenge_prefix
    (exchanged ++ (challenge 0 0 ∷ challenged [] ∷ [])))
    -- a restart empties A and B, and drops the awaited signature
    ∷ gives (connected 4608 (get_digests ∷ challenge 0 0 ∷ []) ++ connected 4608 (challenge 0 0 ∷ []))
    (awaiting (agreed (digests ∷ unsigned (challenged []) ∷ agreed (unsigned (challenged []) ∷ []))) challenge_prefix
    (exchanged ++ (challenge 0 0 ∷ challenged [] ∷ [])))
    ∷ []

-- a box in phase 3 that awaits a signature for a whole answer, with a byte in B and in M
abbrev pub waiting : ℕ → Plain
waiting whose = record {
  negotiated = record { phase = 3; peer = 4608; selection = 1; edition = 0x12 };
  parts = record { a = []; b = 1 ∷ []; m = 2 ∷ [] };
  whose = whose;
  answer = unsigned counted;
}

-- "Either way B (or M) is emptied", and the other stays
abbrev pub finishings : List Flow
finishings =
    -- a finished MEASUREMENTS leaves nothing in M
    gives (connected 4608 (sign_measurements 7 ∷ []) ++ (finish true ∷ map ask (sign_measurements 7 ∷ [])))
    (awaiting (agreed (unsigned measurements ∷ (measurements ++ signature) ∷ unsigned measurements ∷ [])) measurements_prefix
    (exchanged ++ (sign_measurements 7 ∷ measurements ∷ [])))
    -- B stays where the signature was of MEASUREMENTS, M where it was of CHALLENGE_AUTH
    ∷ record {
      from = waiting 2;
      calls = finish false ∷ map ask (challenge 0 0 ∷ []);
      expected = awaiting (refused 0x05 0 ∷ unsigned (challenged []) ∷ []) challenge_prefix ((1 ∷ []) ∷ challenge 0 0 ∷ challenged [] ∷ []);
    }
    ∷ record {
      from = waiting 1;
      calls = finish false ∷ map ask (sign_measurements 7 ∷ []);
      expected = awaiting (refused 0x05 0 ∷ unsigned measurements ∷ []) measurements_prefix ((2 ∷ []) ∷ sign_measurements 7 ∷ measurements ∷ []);
    }
    ∷ []

-- paper 02, 3: "a GET_MEASUREMENTS refused at step 7, 8 or 9 empties M"
abbrev pub refusals : List Flow
refusals =
    -- step 7: there is no measurement 9
    gives (connected 4608 (count_measurements ∷ sign_measurements 9 ∷ sign_measurements 7 ∷ []))
    (awaiting (agreed (counted ∷ refused 0x01 0 ∷ unsigned measurements ∷ [])) measurements_prefix (exchanged ++ (sign_measurements 7 ∷ measurements ∷ [])))
    -- step 8: a count that is signed has 106 bytes, with the measurement it has 145
    ∷ gives (connected 106 (count_measurements ∷ sign_measurements 7 ∷ sign_measurements 0 ∷ []))
    (awaiting (agreed (counted ∷ too_large 145 ∷ unsigned counted ∷ [])) measurements_prefix (exchanged_at 106 ++ (sign_measurements 0 ∷ counted ∷ [])))
    -- step 9: M has 45 bytes left of its 7,680, and a count with its request has 46
    ∷ record {
      from = holding 7635;
      calls = map ask (count_measurements ∷ sign_measurements 7 ∷ []);
      expected = awaiting (refused 0x05 0 ∷ unsigned measurements ∷ []) measurements_prefix (sign_measurements 7 ∷ measurements ∷ []);
    }
    -- steps 1 and 5 leave M, and so does the refusal of another request
    ∷ gives (connected 4608 (count_measurements ∷ (0x12 ∷ 0xE0 ∷ 0 ∷ []) ∷ (0x11 ∷ 0xE0 ∷ 0 ∷ 0 ∷ []) ∷ get_portion 100 ∷ sign_measurements 7 ∷ []))
    (awaiting (agreed (counted ∷ refused 0x01 0 ∷ refused 0x41 0 ∷ refused 0x01 0 ∷ unsigned measurements ∷ [])) measurements_prefix
    (exchanged ++ (count_measurements ∷ counted ∷ sign_measurements 7 ∷ measurements ∷ [])))
    -- B stays
    ∷ gives (connected 4608 (get_digests ∷ sign_measurements 9 ∷ challenge 0 0 ∷ []))
    (awaiting (agreed (digests ∷ refused 0x01 0 ∷ unsigned (challenged []) ∷ [])) challenge_prefix
    (exchanged ++ (get_digests ∷ digests ∷ challenge 0 0 ∷ challenged [] ∷ [])))
    ∷ []

-- paper 02, 4: the first three lines, offsets 99 and 100 and slot 8 again under 1.1, and what is another there
abbrev pub under11 : List Flow
under11 =
    gives (map ask (get_version ∷ get_capabilities11 ∷ [])) (answers (version ∷ capabilities11 ∷ []))
    ∷ gives (connected11 []) (answers (agreed11 []))
    ∷ gives (connected11 (get_portion 99 ∷ get_portion 100 ∷ [])) (answers (agreed11 (portion 1 0 (99 ∷ []) ∷ refused 0x01 0 ∷ [])))
    ∷ gives (connected11 (challenge 8 0 ∷ [])) (answers (agreed11 (refused 0x01 0 ∷ [])))
    -- "GET_CAPABILITIES picks by its version byte", of the two that pass before a choice; 11 bytes are too few; the next restart chooses anew
    ∷ gives (map ask (get_version ∷ (0x10 ∷ 0xE1 ∷ replicate 18 0) ∷ (0x13 ∷ 0xE1 ∷ replicate 18 0) ∷ (0x11 ∷ 0xE1 ∷ replicate 9 0) ∷ get_capabilities11
    ∷ get_version ∷ get_capabilities 42 ∷ get_version ∷ get_capabilities11 ∷ []))
    (answers (version ∷ (0x10 ∷ 0x7F ∷ 0x41 ∷ 0 ∷ []) ∷ (0x10 ∷ 0x7F ∷ 0x41 ∷ 0 ∷ []) ∷ (0x10 ∷ 0x7F ∷ 0x01 ∷ 0 ∷ []) ∷ capabilities11
    ∷ version ∷ capabilities ∷ version ∷ capabilities11 ∷ []))
    -- "Later requests must carry the chosen byte, else 0x41 .. and answers and ERROR messages carry it too"
    ∷ gives (map ask (get_version ∷ get_capabilities11 ∷ negotiate ∷ eleven negotiate ∷ get_digests ∷ (0x10 ∷ 0x81 ∷ 0 ∷ 0 ∷ []) ∷ eleven get_version
    ∷ eleven get_digests ∷ []))
    (answers (version ∷ capabilities11 ∷ eleven (refused 0x41 0) ∷ eleven algorithms ∷ eleven (refused 0x41 0) ∷ eleven (refused 0x41 0)
    ∷ eleven (refused 0x41 0) ∷ eleven digests ∷ []))
    -- "signatures cover the hash of A then B .. with no 100-byte prefix": of GET_CAPABILITIES 12 bytes are hashed, and no pad
    ∷ gives (map ask (get_version ∷ padded get_capabilities11 ∷ map eleven (negotiate ∷ get_digests ∷ challenge 0 0xFF ∷ [])))
    (awaiting (agreed11 (digests ∷ unsigned (challenged whole) ∷ [])) []
    (exchanged11 ++ map eleven (get_digests ∷ digests ∷ challenge 0 0xFF ∷ challenged whole ∷ [])))
    -- "or of M alone"; "under 1.1 step 2 answers 0x01", which keeps M
    ∷ gives (connected11 (count_measurements ∷ (count_measurements ++ replicate 4605 0) ∷ sign_measurements 7 ∷ []))
    (awaiting (agreed11 (counted ∷ refused 0x01 0 ∷ unsigned measurements ∷ [])) []
    (map eleven (count_measurements ∷ counted ∷ sign_measurements 7 ∷ measurements ∷ [])))
    -- finished, and by a chip that failed
    ∷ gives (connected11 (challenge 0 0 ∷ []) ++ (finish true ∷ map ask (eleven (sign_measurements 7) ∷ []) ++ (finish false ∷ [])))
    (answers (agreed11 (unsigned (challenged []) ∷ (challenged [] ++ signature) ∷ unsigned measurements ∷ refused 0x05 0 ∷ [])))
    ∷ []

abbrev pub all : List Flow
all = starred ++ (others ++ (finishings ++ (refusals ++ under11)))

pub flows : map (λ (f : Flow). heard f.from f.calls) all ≡ map (λ (f : Flow). f.expected) all
unfolding pick unless frames_of identity_fault slot_wrong chain_fault measurement_fault summary_fault record_fault end_fault extended read_on read_all
    reading digest_size signature_size record_bytes records_bytes identity_bytes image_bytes chain_for mask_of measurement_for holds_only
    phase_fits selection_fits awaited_fits edition_fits own_bounds selection_held awaited_long in_bounds version_of refused_bytes kind_of must_wait serves
    carries version_fits in_phase sizes_fit
    kind_steps asked_steps first_steps size_steps version_bytes
    capabilities_decision capabilities_bytes structures_fit algorithms_decision algorithms_bytes digests_decision joined_digests digests_bytes
    portion_of portion_decision certificate_decision certificate_bytes summary_fits challenge_decision challenge_bytes signer_fits
    operation_fits operation_step measurements_by measurements_decision block_bytes blocks_of measurements_bytes message_bytes last_steps
    request_decision decision_of effect_of effect_by prefix_of to_hash finish_of finish_by plain_said plain_next
flows = refl
