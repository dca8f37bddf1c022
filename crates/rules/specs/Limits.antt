-- The responder's limits, steps, codes and host numbers, as papers 01 and 02 give them.
use Rattle.std.specs.Prelude.{ℕ}

-- "answer buffer under 4,608"; a request "over 4,608 bytes"; "both sizes 4,608"
abbrev pub message_limit : ℕ
message_limit = 4608

-- "A in bytes 0–511, B from 512"; "A, B, M use at most 512, .., 7,680"; paper 02, 5: "Raise .. B to 28,672; the transcript buffer becomes
-- 36,864 with M from 29,184"
abbrev pub transcript_length : ℕ
transcript_length = 36864

abbrev pub a_limit : ℕ
a_limit = 512

abbrev pub b_limit : ℕ
b_limit = 28672

abbrev pub m_limit : ℕ
m_limit = 7680

abbrev pub a_start : ℕ
a_start = 0

abbrev pub b_start : ℕ
b_start = 512

abbrev pub m_start : ℕ
m_start = 29184

-- "nonce not 32 bytes"
abbrev pub nonce_length : ℕ
nonce_length = 32

-- "DataTransferSize (the peer's size) at least 42"
abbrev pub peer_least : ℕ
peer_least = 42

-- paper 02, 4: "with no sizes, so the peer's size counts as 4,608"
abbrev pub peer11 : ℕ
peer11 = 4608

-- "phase 0–3": the fresh one, and those that an accepted request of the first three kinds leads to; all others leave the last
abbrev pub fresh_phase : ℕ
fresh_phase = 0

abbrev pub version_phase : ℕ
version_phase = 1

abbrev pub capabilities_phase : ℕ
capabilities_phase = 2

abbrev pub algorithms_phase : ℕ
algorithms_phase = 3

-- paper 02, 4: "A holds 14 in phase 1, then 38 (1.1) or 54 (1.2) in phase 2"
abbrev pub version_used : ℕ
version_used = 14

abbrev pub capabilities_used11 : ℕ
capabilities_used11 = 38

abbrev pub capabilities_used12 : ℕ
capabilities_used12 = 54

-- the least request: version, code and two parameters
abbrev pub header_length : ℕ
header_length = 4

-- layouts: what must be there, and what enters the transcript; and the answers whose length is always the same

-- "VERSION 0x04: header, 0, count .., entry .."; paper 02, 4: "VERSION lists 1.1 and 1.2, rising"
abbrev pub version_length : ℕ
version_length = 10

abbrev pub version_count : ℕ
version_count = 2

abbrev pub version_entry11 : ℕ
version_entry11 = 0x1100

abbrev pub version_entry12 : ℕ
version_entry12 = 0x1200

-- "GET_CAPABILITIES, 20 bytes .. CAPABILITIES 0x61, same layout"; paper 02, 4: "For 1.1 its layout has 12 bytes with no sizes"
abbrev pub capabilities_layout11 : ℕ
capabilities_layout11 = 12

abbrev pub capabilities_layout12 : ℕ
capabilities_layout12 = 20

-- "ALGORITHMS 0x63, 36 bytes"
abbrev pub algorithms_length : ℕ
algorithms_length = 36

abbrev pub algorithms_least : ℕ
algorithms_least = 32

abbrev pub algorithms_most : ℕ
algorithms_most = 128

abbrev pub certificate_layout : ℕ
certificate_layout = 8

abbrev pub challenge_layout : ℕ
challenge_layout = 36

abbrev pub signed_layout : ℕ
signed_layout = 37

-- structures of NEGOTIATE_ALGORITHMS: "type 2–5 strictly rising"
abbrev pub type_least : ℕ
type_least = 2

abbrev pub type_most : ℕ
type_most = 5

-- "The portion is the least of length, L − offset, peer's size − 8, and 1,024"
abbrev pub portion_limit : ℕ
portion_limit = 1024

abbrev pub certificate_head : ℕ
certificate_head = 8

-- version bytes: GET_VERSION's and VERSION's, and those of the two editions
abbrev pub version10 : ℕ
version10 = 0x10

abbrev pub version11 : ℕ
version11 = 0x11

abbrev pub version12 : ℕ
version12 = 0x12

-- the edition where none is chosen
abbrev pub no_edition : ℕ
no_edition = 0

-- "Served requests: GET_VERSION 0x84, GET_CAPABILITIES 0xE1, NEGOTIATE_ALGORITHMS 0xE3, GET_DIGESTS 0x81, GET_CERTIFICATE 0x82, CHALLENGE
-- 0x83, GET_MEASUREMENTS 0xE0"
abbrev pub get_version : ℕ
get_version = 0x84

abbrev pub get_capabilities : ℕ
get_capabilities = 0xE1

abbrev pub negotiate_algorithms : ℕ
negotiate_algorithms = 0xE3

abbrev pub get_digests : ℕ
get_digests = 0x81

abbrev pub get_certificate : ℕ
get_certificate = 0x82

abbrev pub challenge : ℕ
challenge = 0x83

abbrev pub get_measurements : ℕ
get_measurements = 0xE0

-- what answers carry in the place of the request's code: VERSION, CAPABILITIES, ALGORITHMS, DIGESTS, CERTIFICATE, CHALLENGE_AUTH,
-- MEASUREMENTS, ERROR
abbrev pub version_code : ℕ
version_code = 0x04

abbrev pub capabilities_code : ℕ
capabilities_code = 0x61

abbrev pub algorithms_code : ℕ
algorithms_code = 0x63

abbrev pub digests_code : ℕ
digests_code = 0x01

abbrev pub certificate_code : ℕ
certificate_code = 0x02

abbrev pub challenge_code : ℕ
challenge_code = 0x03

abbrev pub measurements_code : ℕ
measurements_code = 0x60

abbrev pub error_code : ℕ
error_code = 0x7F

-- "flags at 8 = 0x06, or 0x16 with measurements"
abbrev pub plain_flags : ℕ
plain_flags = 0x06

abbrev pub measuring_flags : ℕ
measuring_flags = 0x16

-- Param2 of GET_MEASUREMENTS and of CHALLENGE: "0xFF", all measurements; "1 TCB"
abbrev pub all_measurements : ℕ
all_measurements = 0xFF

abbrev pub tcb_measurements : ℕ
tcb_measurements = 1

-- "A request, checked in this order": the steps, each with its test

-- "under 4 bytes"
abbrev pub short_step : ℕ
short_step = 1

-- "over 4,608 bytes"
abbrev pub long_step : ℕ
long_step = 2

-- "signature awaited and code not 0x84"
abbrev pub busy_step : ℕ
busy_step = 3

-- "code not served, or 0xE0 with no kind 3"
abbrev pub code_step : ℕ
code_step = 4

-- "version byte not 0x10 for GET_VERSION, not .. for others"
abbrev pub version_step : ℕ
version_step = 5

-- "wrong phase"
abbrev pub phase_step : ℕ
phase_step = 6

-- "too short for its layout, or a field wrong"
abbrev pub fields_step : ℕ
fields_step = 7

-- "answer, signature included, over the peer's size"
abbrev pub size_step : ℕ
size_step = 8

-- "no transcript room for the request and the answer without signature"
abbrev pub room_step : ℕ
room_step = 9

-- ERROR codes
abbrev pub invalid_request : ℕ
invalid_request = 0x01

abbrev pub busy : ℕ
busy = 0x03

abbrev pub unexpected_request : ℕ
unexpected_request = 0x04

abbrev pub unspecified : ℕ
unspecified = 0x05

abbrev pub unsupported_request : ℕ
unsupported_request = 0x07

abbrev pub response_too_large : ℕ
response_too_large = 0x0D

abbrev pub request_too_large : ℕ
request_too_large = 0x0E

abbrev pub version_mismatch : ℕ
version_mismatch = 0x41

-- numbers the host sees; 1–8 are the image's
abbrev pub short_answer : ℕ
short_answer = 11

abbrev pub short_transcript : ℕ
short_transcript = 12

abbrev pub wrong_nonce : ℕ
wrong_nonce = 13

abbrev pub wrong_state : ℕ
wrong_state = 14

abbrev pub nothing_awaited : ℕ
nothing_awaited = 15

abbrev pub wrong_signature : ℕ
wrong_signature = 16

-- whose signature is awaited
abbrev pub awaits_nothing : ℕ
awaits_nothing = 0

abbrev pub awaits_challenge : ℕ
awaits_challenge = 1

abbrev pub awaits_measurements : ℕ
awaits_measurements = 2
