-- Host numbers 11 to 16 in their order, the state's bounds, the steps in theirs, and every limit from both sides, as flows; with those of
-- OtherImages and EditionFlows they are one claim, which the plain box computes. Beside it the table of steps, and the parts' places and
-- limits. A definition that says another number fails here. Assumes nothing.
use mathlib.Core.Path.{◌≡◌, refl}
use mathlib.Core.Bool.{true, false}
use mathlib.Core.List.{List, [], ◌∷◌, ◌++◌, map}
use Prim.Native.Nat.{ℕ}
use lib.ListN.{replicate}
use Rattle.wire.specs.Pick.{pick}
use Rattle.image.specs.Sizes.{digest_size, signature_size}
use Rattle.image.specs.Contents.{Contents, record_bytes, records_bytes, identity_bytes, image_bytes}
use Rattle.image.specs.Reading.{unless, frames_of, identity_fault, slot_wrong, chain_fault, measurement_fault, summary_fault, record_fault}
use Rattle.image.specs.Reading.{end_fault, extended, read_on, read_all, reading}
use Rattle.image.specs.Held.{chain_for, mask_of, measurement_for}
use Rattle.rules.specs.Limits.{transcript_length}
use Rattle.rules.specs.Facts.{facts_of}
use Rattle.rules.specs.Parts.{start_of, limit_of}
use Rattle.rules.specs.State.{holds_only, phase_fits, selection_fits, awaited_fits, edition_fits, own_bounds, selection_held}
use Rattle.rules.specs.State.{awaited_long, in_bounds}
use Rattle.rules.specs.Header.{version_of, refused_bytes}
use Rattle.rules.specs.Steps.{kind_of, must_wait, serves, carries, version_fits, in_phase, kind_steps, asked_steps, first_steps, size_steps}
use Rattle.rules.specs.Version.{version_bytes}
use Rattle.rules.specs.Capabilities.{sizes_fit, capabilities_decision, capabilities_bytes}
use Rattle.rules.specs.Algorithms.{structures_fit, algorithms_decision, algorithms_bytes}
use Rattle.rules.specs.Digests.{digests_decision, joined_digests, digests_bytes}
use Rattle.rules.specs.Certificate.{portion_of, portion_decision, certificate_decision, certificate_bytes}
use Rattle.rules.specs.Challenge.{summary_fits, challenge_decision, challenge_bytes}
use Rattle.rules.specs.Measurements.{signer_fits, operation_fits, operation_step, measurements_by, measurements_decision, block_bytes}
use Rattle.rules.specs.Measurements.{blocks_of, measurements_bytes}
use Rattle.rules.specs.Messages.{message_bytes}
use Rattle.rules.specs.Decisions.{last_steps, request_decision, decision_of}
use Rattle.rules.specs.Effects.{effect_of, effect_by}
use Rattle.rules.specs.Signing.{prefix_of, to_hash, finish_of, finish_by}
use Rattle.rules.specs.Plain.{Plain, Feed, request, finishing, Said, state_of, plain_said, plain_next}
use Rattle.rules.specs.declared.Part.{Part}
use Rattle.rules.specs.declared.Part.TheVariants.{A, B, M}
use Rattle.rules.specs.declared.Used.{Used}
use Rattle.rules.specs.declared.State.{State}
use Rattle.rules.specs.declared.Lengths.{Lengths}
use Rattle.rules.specs.Decision.{Decision, Refused}
use Rattle.rules.proofs.Flows.{rising, nonce, bench, said_from, after, saying, refused, too_large, get_version, version}
use Rattle.rules.proofs.Flows.{get_digests, challenge, count_measurements, challenge_prefix, measurements_prefix}
use Rattle.rules.proofs.OtherImages.{bytes, second, third, asks, finishes, agree, uses, waits, idle, box_in, Claim, leads}
use Rattle.rules.proofs.OtherImages.{stays, answering, refusing, signing, get_certificate, certificate, challenged2}
use Rattle.rules.proofs.OtherImages.{get_measurements, get_unsigned, measurements, all_blocks, digests, unsigned, versioned}
use Rattle.rules.proofs.OtherImages.{capable, negotiated, ready, invalid, early, telling, outside, within, brief, image_flows}
use Rattle.rules.proofs.EditionFlows.{ready11, edition_flows}

-- buffers of these lengths
abbrev pub lending : ℕ → ℕ → Lengths
lending transcript answer = record { transcript = transcript; answer = answer }

-- an image that begins with 2
abbrev pub wrong_image : List ℕ
wrong_image = 2 ∷ []

abbrev pub fresh : State
fresh = idle (agree 0 0 0) (uses 0 0 0)

-- a state out of its bounds, and one that awaits a signature of the second image for a count
abbrev pub lost : State
lost = idle (agree 4 4608 0) (uses 0 0 0)

abbrev pub counting : State
counting = waits (agree 3 4608 1) (uses 0 0 9) 2 138

-- an empty request, and an empty signature: wrong if anything before is right
abbrev pub asked : List ℕ → Lengths → List ℕ → Feed
asked image l nonce = request image l [] nonce

abbrev pub finished : List ℕ → Lengths → Feed
finished image l = finishing image l true []

-- "Calls test 1–8, then 11, 12, then 13 (requests only), then 14, 15, 16 (the last two finishing only)": each call has every later fault
-- too
abbrev pub number_flows : List Claim
number_flows =
    stays lost
    (asked wrong_image (lending 36863 4607) (rising 1 33) ∷ asked (image_bytes second) (lending 36863 4607) (rising 1 33)
    ∷ asked (image_bytes second) (lending 36863 4608) (rising 1 33) ∷ asked (image_bytes second) (lending 36864 4608) (rising 1 33)
    ∷ asked (image_bytes second) (lending 36864 4608) (rising 1 31) ∷ asked (image_bytes second) (lending 36864 4608) (rising 1 32)
    ∷ [])
    (map telling (2 ∷ 11 ∷ 12 ∷ 13 ∷ 13 ∷ 14 ∷ []))
    ∷ stays lost
    (finished wrong_image (lending 36863 4607) ∷ finished (image_bytes second) (lending 36863 4607)
    ∷ finished (image_bytes second) (lending 36863 4608) ∷ finished (image_bytes second) (lending 36864 4608) ∷ [])
    (map telling (2 ∷ 11 ∷ 12 ∷ 14 ∷ []))
    ∷ stays fresh (finished (image_bytes second) (lending 36864 4608) ∷ finishes second false [] ∷ []) (map telling (15 ∷ 15 ∷ []))
    -- S is 96, and 64 on the bench; of a chip that failed the signature is not looked at
    ∷ leads counting
    (finishes second true (rising 1 95) ∷ finishes second true (rising 1 97) ∷ finishes second true []
    ∷ finishes bench true (rising 1 63) ∷ finishes second false (rising 1 95) ∷ [])
    (map telling (16 ∷ 16 ∷ 16 ∷ 16 ∷ []) ++ (saying (refused 0x05 0) ∷ []))
    (idle (agree 3 4608 1) (uses 0 0 0))
    -- longer buffers do
    ∷ leads fresh (request (image_bytes second) (lending 36865 4609) get_version nonce ∷ []) (saying version ∷ []) versioned
    ∷ []

-- a state out of its bounds that says that a signature is awaited: what is to be signed is shown all the same
abbrev pub unheard : Contents → List ℕ → State → Claim
unheard c prefix s = record {
  from = s;
  calls = asks c get_version ∷ [];
  said = telling 14 ∷ [];
  prefix = prefix;
  hashed = replicate s.used.a 0;
  to = s;
}

abbrev pub bound_flows : List Claim
bound_flows =
    -- "in phases 0, 1, 2 A holds exactly" 0, 14 and, under 1.2, 54 "and B and M 0"
    map (λ (u : Used). outside second (idle (agree 0 0 0) u)) (uses 1 0 0 ∷ uses 0 1 0 ∷ uses 0 0 1 ∷ [])
    ++ (map (λ (u : Used). outside second (idle (agree 1 0 0) u)) (uses 13 0 0 ∷ uses 15 0 0 ∷ uses 14 1 0 ∷ uses 14 0 1 ∷ [])
    ++ (map (λ (u : Used). outside second (idle (agree 2 42 0) u)) (uses 53 0 0 ∷ uses 55 0 0 ∷ uses 54 1 0 ∷ uses 54 0 1 ∷ [])
    -- "A, B, M use at most 512," 28,672, "7,680"
    ++ (map (λ (u : Used). outside second (idle (agree 3 42 1) u)) (uses 513 0 0 ∷ uses 0 28673 0 ∷ uses 0 0 7681 ∷ [])
    ++ (map (outside second)
    -- "phase 0–3; phase 2 or 3 has peer size at least 42"
    (idle (agree 4 4608 0) (uses 0 0 0) ∷ idle (agree 2 41 0) (uses 54 0 0) ∷ idle (agree 3 41 0) (uses 122 0 0)
    -- "a measurement specification selected only in phase 3"
    ∷ idle (agree 0 0 1) (uses 0 0 0) ∷ idle (agree 1 0 1) (uses 14 0 0) ∷ idle (agree 2 42 1) (uses 54 0 0)
    ∷ idle (agree 3 42 2) (uses 122 0 0) ∷ [])
    -- and all of them met
    ++ (map (within second)
    (fresh ∷ versioned ∷ idle (agree 2 42 0) (uses 54 0 0) ∷ idle (agree 3 42 0) (uses 0 0 0)
    ∷ idle (agree 3 42 1) (uses 512 28672 7680)
    -- not bounded: a peer's size before there is one, and the length of an answer that nobody awaits
    ∷ idle (agree 0 7 0) (uses 0 0 0) ∷ idle (agree 1 7 0) (uses 14 0 0) ∷ waits (agree 3 42 0) (uses 0 0 0) 0 7 ∷ [])
    -- ".. and only if the image has a kind 3"
    ++ (outside third (idle (agree 3 42 1) (uses 122 0 0)) ∷ within third (idle (agree 3 42 0) (uses 122 0 0)) ∷ []))))))

-- "an awaited signature only in phase 3, with answer length 4+S to 4,608": S is 96, and 132 on the third image
abbrev pub awaited_flows : List Claim
awaited_flows =
    map (within second)
    (waits (agree 3 42 0) (uses 0 0 0) 1 100 ∷ waits (agree 3 42 0) (uses 0 0 0) 2 100 ∷ waits (agree 3 42 1) (uses 0 0 0) 1 4608
    ∷ waits (agree 3 42 1) (uses 0 0 0) 2 4608 ∷ [])
    ++ (within third (waits (agree 3 42 0) (uses 0 0 0) 1 136)
    ∷ unheard third challenge_prefix (waits (agree 3 42 0) (uses 0 0 0) 1 135)
    ∷ map (unheard second challenge_prefix)
    (waits (agree 3 42 0) (uses 0 0 0) 1 99 ∷ waits (agree 3 42 0) (uses 0 0 0) 1 4609 ∷ waits (agree 2 42 0) (uses 54 0 0) 1 200
    ∷ waits (agree 1 42 0) (uses 14 0 0) 1 200 ∷ waits (agree 0 42 0) (uses 0 0 0) 1 200 ∷ [])
    ++ (map (unheard second measurements_prefix)
    (waits (agree 3 42 0) (uses 0 0 0) 2 99 ∷ waits (agree 3 42 0) (uses 0 0 0) 2 4609 ∷ [])
    -- there is no third kind of signature
    ++ (outside second (waits (agree 3 42 0) (uses 0 0 0) 3 100) ∷ [])))

abbrev pub long : List ℕ
long = replicate 4609 0xFF

abbrev pub unserved : List ℕ
unserved = 0x80 ∷ 0x85 ∷ 0xDF ∷ 0xE2 ∷ 0xE4 ∷ 0xFF ∷ []

-- "A request, checked in this order": steps 1 to 7, most of them with a fault of a later step too
abbrev pub step_flows : List Claim
step_flows =
    -- 1: "under 4 bytes"; 2: "over 4,608 bytes"; "Version is 0x10 in phases 0 and 1, else 0x12" under 1.2
    refusing second fresh ([] ∷ (0x12 ∷ 0xFF ∷ 0 ∷ []) ∷ long ∷ []) (early 0x01 ∷ early 0x01 ∷ early 0x0E ∷ [])
    ∷ refusing second versioned ((0x12 ∷ 0xFF ∷ 0 ∷ []) ∷ []) (early 0x01 ∷ [])
    ∷ refusing second capable ((0x12 ∷ 0xFF ∷ 0 ∷ []) ∷ []) (refused 0x01 0 ∷ [])
    ∷ answering second ready ((get_version ++ replicate 4604 9) ∷ []) (version ∷ []) versioned
    -- 3: "signature awaited and code not 0x84"
    ∷ signing counting
    (map (asks second) ((0x12 ∷ 0xFF ∷ 0 ∷ []) ∷ long ∷ brief 0x11 0xFF ∷ get_digests ∷ brief 0x12 0x84 ∷ []))
    (map saying (refused 0x01 0 ∷ refused 0x0E 0 ∷ refused 0x03 0 ∷ refused 0x03 0 ∷ refused 0x41 0 ∷ []))
    measurements_prefix (replicate 9 0 ∷ []) counting
    -- 4: "code not served, or 0xE0 with no kind 3"
    ∷ refusing second fresh (map (brief 0x11) unserved) (map (λ (code : ℕ). 0x10 ∷ 0x7F ∷ 0x07 ∷ code ∷ []) unserved)
    ∷ refusing third (negotiated 0 122) (brief 0x11 0xE0 ∷ count_measurements ∷ []) (replicate 2 (refused 0x07 0xE0))
    -- 5: "version byte not 0x10 for GET_VERSION", nor an edition's for others
    ∷ refusing second fresh (brief 0x12 0x84 ∷ map (brief 0x10) (0xE1 ∷ 0xE3 ∷ 0x81 ∷ 0x82 ∷ 0x83 ∷ 0xE0 ∷ []))
    (replicate 7 (early 0x41))
    -- 6: "GET_CAPABILITIES only in 1, to 2; NEGOTIATE_ALGORITHMS only in 2, to 3; the rest only in 3, and GET_MEASUREMENTS only if its
    -- specification was selected"
    ∷ refusing second fresh (map (brief 0x12) (0xE1 ∷ 0xE3 ∷ 0x81 ∷ 0x82 ∷ 0x83 ∷ 0xE0 ∷ [])) (replicate 6 (early 0x04))
    ∷ refusing second versioned (map (brief 0x12) (0xE3 ∷ 0x81 ∷ 0x82 ∷ 0x83 ∷ 0xE0 ∷ [])) (replicate 5 (early 0x04))
    ∷ refusing second capable (map (brief 0x12) (0xE1 ∷ 0x81 ∷ 0x82 ∷ 0x83 ∷ 0xE0 ∷ [])) (replicate 5 (refused 0x04 0))
    ∷ refusing second (negotiated 0 122) (map (brief 0x12) (0xE1 ∷ 0xE3 ∷ 0xE0 ∷ [])) (replicate 3 (refused 0x04 0))
    -- .. and M stays
    ∷ refusing second (idle (agree 3 4608 0) (uses 122 0 9)) (count_measurements ∷ []) (refused 0x04 0 ∷ [])
    -- 7; of the two signed ones 8 would refuse the answer too
    ∷ refusing second (idle (agree 3 42 1) (uses 122 0 0)) (get_certificate 1 0 9 ∷ challenge 1 0 ∷ get_measurements 1 0 1 ∷ [])
    (replicate 3 invalid)
    ∷ []

-- 8: "answer, signature included, over the peer's size"; 9: "no transcript room for the request and the answer without signature"
abbrev pub room_flows : List Claim
room_flows =
    -- a byte too few for the answer; the first time B has no room either
    refusing second (idle (agree 3 147 1) (uses 122 28672 0)) (get_digests ∷ []) (too_large 148 ∷ [])
    ∷ refusing second (idle (agree 3 181 1) (uses 122 0 0)) (challenge 2 0 ∷ []) (too_large 182 ∷ [])
    ∷ refusing second (idle (agree 3 229 1) (uses 122 0 0)) (challenge 2 1 ∷ []) (too_large 230 ∷ [])
    ∷ refusing second (idle (agree 3 412 1) (uses 122 0 0)) (get_measurements 1 0xFF 2 ∷ []) (too_large 413 ∷ [])
    ∷ refusing second (idle (agree 3 96 1) (uses 122 0 0)) (get_unsigned 17 ∷ []) (too_large 97 ∷ [])
    -- just room enough: the answer has the peer's size, or its last byte is the last of B or M
    ∷ answering second (idle (agree 3 148 1) (uses 122 28520 0)) (get_digests ∷ []) (digests ∷ [])
    (idle (agree 3 148 1) (uses 122 28672 0))
    ∷ answering second (idle (agree 3 4608 1) (uses 122 28605 0)) (get_certificate 3 2 0xFFFF ∷ [])
    (certificate 3 0 (bytes 102 51) ∷ [])
    (idle (agree 3 4608 1) (uses 122 28672 0))
    ∷ signing (idle (agree 3 182 1) (uses 0 28550 0)) (asks second (challenge 2 0) ∷ []) (saying (unsigned 96 (challenged2 [])) ∷ [])
    challenge_prefix (replicate 28550 0 ∷ challenge 2 0 ∷ challenged2 [] ∷ []) (waits (agree 3 182 1) (uses 0 28672 0) 1 182)
    ∷ signing (idle (agree 3 413 1) (uses 0 0 7326)) (asks second (get_measurements 1 0xFF 2) ∷ [])
    (saying (unsigned 96 (measurements 0 2 5 all_blocks)) ∷ [])
    measurements_prefix (replicate 7326 0 ∷ get_measurements 1 0xFF 2 ∷ measurements 0 2 5 all_blocks ∷ [])
    (waits (agree 3 413 1) (uses 0 0 7680) 2 413)
    -- a byte more in B or M; paper 02, 3: M is emptied then
    ∷ refusing second (idle (agree 3 4608 1) (uses 122 28521 0)) (get_digests ∷ []) (refused 0x05 0 ∷ [])
    ∷ refusing second (idle (agree 3 4608 1) (uses 122 28606 0)) (get_certificate 3 2 0xFFFF ∷ []) (refused 0x05 0 ∷ [])
    ∷ refusing second (idle (agree 3 4608 1) (uses 122 28551 0)) (challenge 2 0 ∷ []) (refused 0x05 0 ∷ [])
    ∷ answering second (idle (agree 3 4608 1) (uses 122 7 7327)) (get_measurements 1 0xFF 2 ∷ []) (refused 0x05 0 ∷ [])
    (idle (agree 3 4608 1) (uses 122 7 0))
    ∷ []

-- The table itself: what is decided of a request, on the second image, with the step's number.
pub record Row : Type 0 where
  pub state : State
  pub request : List ℕ
  pub decision : Decision

abbrev pub row : State → List ℕ → Decision → Row
row s r d = record { state = s; request = r; decision = d }

-- step, code, data, and the answer's size at step 8
abbrev pub rows : List Row
rows =
    row ready [] (Refused 1 0x01 0 0)
    ∷ row ready long (Refused 2 0x0E 0 0)
    ∷ row ready11 long (Refused 2 0x01 0 0)
    ∷ row counting get_digests (Refused 3 0x03 0 0)
    ∷ row ready (brief 0x12 0xFF) (Refused 4 0x07 0xFF 0)
    ∷ row ready (brief 0x11 0x81) (Refused 5 0x41 0 0)
    ∷ row ready (brief 0x12 0xE1) (Refused 6 0x04 0 0)
    ∷ row ready (challenge 1 0) (Refused 7 0x01 0 0)
    ∷ row (idle (agree 3 42 1) (uses 122 0 0)) get_digests (Refused 8 0x0D 0 148)
    ∷ row (idle (agree 3 4608 1) (uses 122 28672 0)) get_digests (Refused 9 0x05 0 0)
    ∷ []

pub table : map (λ (x : Row). request_decision (facts_of second) x.state x.request) rows ≡ map (λ (x : Row). x.decision) rows
unfolding pick digest_size signature_size chain_for version_of kind_of must_wait serves carries version_fits in_phase kind_steps asked_steps first_steps
    size_steps
    digests_decision challenge_decision last_steps request_decision
table = refl

abbrev parts : List Part
parts = A ∷ B ∷ M ∷ []

-- "A in bytes 0–511, B from 512," M from 29,184, what each may hold, and the buffer that they need
places : map start_of parts ++ (map limit_of parts ++ (transcript_length ∷ [])) ≡ 0 ∷ 512 ∷ 29184 ∷ 512 ∷ 28672 ∷ 7680 ∷ 36864 ∷ []
places = refl

abbrev pub all : List Claim
all = image_flows ++ (number_flows ++ (bound_flows ++ (awaited_flows ++ (step_flows ++ (room_flows ++ edition_flows)))))

abbrev pub hashed_by : Plain → List ℕ
hashed_by p = to_hash p.negotiated p.whose p.parts

-- what the plain box gives in place of what is expected: what it said, and what it is then, each computed once
abbrev pub given : Claim → List Said → Plain → Claim
given f said p = record {
  from = f.from;
  calls = f.calls;
  said = said;
  prefix = prefix_of p.negotiated p.whose;
  hashed = hashed_by p;
  to = state_of p;
}

abbrev pub computed : Claim → Claim
computed f = given f (said_from (box_in f.from) f.calls) (after (box_in f.from) f.calls)

pub settled : map computed all ≡ all
unfolding pick unless frames_of identity_fault slot_wrong chain_fault measurement_fault summary_fault record_fault end_fault extended read_on read_all
    reading digest_size signature_size record_bytes records_bytes identity_bytes image_bytes chain_for mask_of measurement_for holds_only
    phase_fits selection_fits awaited_fits edition_fits own_bounds selection_held awaited_long in_bounds version_of refused_bytes kind_of must_wait
    serves carries version_fits sizes_fit in_phase kind_steps asked_steps first_steps size_steps version_bytes
    capabilities_decision capabilities_bytes structures_fit algorithms_decision algorithms_bytes digests_decision joined_digests digests_bytes
    portion_of portion_decision certificate_decision certificate_bytes summary_fits challenge_decision challenge_bytes signer_fits
    operation_fits operation_step measurements_by measurements_decision block_bytes blocks_of measurements_bytes message_bytes last_steps
    request_decision decision_of effect_of effect_by prefix_of to_hash finish_of finish_by plain_said plain_next
settled = refl
