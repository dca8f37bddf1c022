-- Flows on two images that differ from the bench's in everything: what depends on slot, hash, signature, measurements and exponent is
-- computed a second time, with other values. Assumes nothing; the claim itself is in Settled.
use mathlib.Core.Bool.{Bool, true, false}
use mathlib.Core.List.{List, [], ◌∷◌, ◌++◌, map}
use Prim.Native.Nat.{ℕ, zero, suc, ◌+◌, ◌*◌, ◌-◌, ◌%◌}
use lib.ListN.{length, replicate, take}
use Rattle.wire.specs.Bytes.{le_bytes}
use Rattle.image.specs.Contents.{Contents, image_bytes}
use Rattle.rules.specs.Plain.{Plain, Feed, request, finishing, Said}
use Rattle.rules.specs.declared.Negotiated.{Negotiated}
use Rattle.rules.specs.declared.Used.{Used}
use Rattle.rules.specs.declared.State.{State}
use Rattle.rules.specs.Reply as reply
use Rattle.rules.proofs.Flows.{rising, nonce, lent, joined, saying, refused, get_version, version, get_digests, challenge, count_measurements}
use Rattle.rules.proofs.Flows.{challenge_prefix, measurements_prefix}

-- n bytes that go on
abbrev pub bytes : ℕ → ℕ → List ℕ
bytes k zero = []
bytes k (suc n) = k % 251 ∷ bytes (k + 1) n

-- a chain of so many bytes; from its third on they are those of `bytes` from k on
abbrev pub chain : ℕ → ℕ → List ℕ
chain k long = le_bytes 2 long ++ bytes (k + 2) (long - 2)

-- SHA-384, P-384, exponent 31, slots 0, 2 and 3, five measurements, of all four types
abbrev pub second : Contents
second = record {
  identity = record { exponent = 31; hash = 1; signature = 7 };
  chains = record { slot = 0; digest = rising 10 48; bytes = chain 0 60 }
      ∷ record { slot = 2; digest = rising 20 48; bytes = chain 7 61 }
      ∷ record { slot = 3; digest = rising 30 48; bytes = chain 100 53 }
      ∷ [];
  measurements = record { index = 1; type = 0; digest = rising 40 48 }
      ∷ record { index = 2; type = 1; digest = rising 50 48 }
      ∷ record { index = 16; type = 2; digest = rising 60 48 }
      ∷ record { index = 17; type = 3; digest = rising 70 48 }
      ∷ record { index = 239; type = 1; digest = rising 80 48 }
      ∷ [];
  summaries = record { tcb = rising 90 48; all = rising 95 48 } ∷ [];
}

-- SHA-512, P-521, exponent 0, slots 0 and 7 (a chain longer than a portion), no measurement
abbrev pub third : Contents
third = record {
  identity = record { exponent = 0; hash = 2; signature = 8 };
  chains = record { slot = 0; digest = rising 1 64; bytes = chain 0 69 }
      ∷ record { slot = 7; digest = rising 9 64; bytes = chain 9 1100 }
      ∷ [];
  measurements = [];
  summaries = [];
}

-- calls with an image
abbrev pub asks : Contents → List ℕ → Feed
asks c r = request (image_bytes c) lent r nonce

abbrev pub finishes : Contents → Bool → List ℕ → Feed
finishes c ok s = finishing (image_bytes c) lent ok s

-- a state by its numbers: edition, phase, peer's size and selection; the bytes of A, B and M; whose signature is awaited, for an answer of
-- which length
abbrev pub speak : ℕ → ℕ → ℕ → ℕ → Negotiated
speak edition phase peer selection = record { phase = phase; peer = peer; selection = selection; edition = edition }

-- 1.2 from phase 2 on
abbrev pub agree : ℕ → ℕ → ℕ → Negotiated
agree zero peer selection = speak 0 0 peer selection
agree (suc zero) peer selection = speak 0 1 peer selection
agree (suc (suc phase)) peer selection = speak 0x12 (suc (suc phase)) peer selection

abbrev pub uses : ℕ → ℕ → ℕ → Used
uses a b m = record { a = a; b = b; m = m }

abbrev pub waits : Negotiated → Used → ℕ → ℕ → State
waits n u whose long = record { negotiated = n; used = u; awaited = record { whose = whose; length = long } }

abbrev pub idle : Negotiated → Used → State
idle n u = waits n u 0 0

-- a plain box with these numbers, all its bytes zero
abbrev pub box_in : State → Plain
box_in s = record {
  negotiated = s.negotiated;
  parts = record { a = replicate s.used.a 0; b = replicate s.used.b 0; m = replicate s.used.m 0 };
  whose = s.awaited.whose;
  answer = replicate s.awaited.length 0;
}

-- Calls on a box in some state: what is said to each, and at the end what is to be signed and the state.
pub record Claim : Type 0 where
  pub from : State
  pub calls : List Feed
  pub said : List Said
  pub prefix : List ℕ
  pub hashed : List ℕ
  pub to : State

-- nothing is to be signed at the end
abbrev pub leads : State → List Feed → List Said → State → Claim
leads from calls said to = record { from = from; calls = calls; said = said; prefix = []; hashed = []; to = to }

-- and the state is that of the beginning
abbrev pub stays : State → List Feed → List Said → Claim
stays s calls said = leads s calls said s

-- requests only, each with its answer
abbrev pub answering : Contents → State → List (List ℕ) → List (List ℕ) → State → Claim
answering c from requests answers to = leads from (map (asks c) requests) (map saying answers) to

abbrev pub refusing : Contents → State → List (List ℕ) → List (List ℕ) → Claim
refusing c s requests answers = answering c s requests answers s

-- a text and messages to sign at the end
abbrev pub signing : State → List Feed → List Said → List ℕ → List (List ℕ) → State → Claim
signing from calls said prefix messages to = record {
  from = from;
  calls = calls;
  said = said;
  prefix = prefix;
  hashed = joined messages;
  to = to;
}

-- messages: the requests in full, and the answers, their signatures left off

abbrev pub get_capabilities : ℕ → ℕ → List ℕ
get_capabilities transfer most = 0x12 ∷ 0xE1 ∷ replicate 10 0 ++ (le_bytes 4 transfer ++ le_bytes 4 most)

abbrev pub capabilities : ℕ → ℕ → List ℕ
capabilities exponent flags =
    0x12 ∷ 0x61 ∷ 0 ∷ 0 ∷ 0 ∷ exponent ∷ 0 ∷ 0 ∷ flags ∷ 0 ∷ 0 ∷ 0
    ∷ 0x00 ∷ 0x12 ∷ 0 ∷ 0 ∷ 0x00 ∷ 0x12 ∷ 0 ∷ 0 ∷ []

-- Param1, Length, measurement specification, BaseAsymAlgo, BaseHashAlgo, E1, E2, and what follows the 32 bytes
abbrev pub negotiate : ℕ → ℕ → ℕ → ℕ → ℕ → ℕ → ℕ → List ℕ → List ℕ
negotiate structures long specification asym hash e1 e2 rest =
    0x12 ∷ 0xE3 ∷ structures ∷ 0 ∷ le_bytes 2 long
    ++ (specification ∷ 0 ∷ le_bytes 4 asym ++ (le_bytes 4 hash ++ (replicate 12 0 ++ (e1 ∷ e2 ∷ 0 ∷ 0 ∷ rest))))

-- the second image's bits, and these structures
abbrev pub structured : ℕ → ℕ → List ℕ → List ℕ
structured structures long rest = negotiate structures long 1 0x80 2 0 0 rest

-- a structure: its type, the byte of its count, and its entries
abbrev pub structure : ℕ → ℕ → List ℕ → List ℕ
structure type count entries = type ∷ count ∷ 0x30 ∷ 9 ∷ entries

-- selection, MeasurementHashAlgo, BaseAsymSel, BaseHashSel
abbrev pub algorithms : ℕ → ℕ → ℕ → ℕ → List ℕ
algorithms selection measurement_hash asym hash =
    0x12 ∷ 0x63 ∷ 0 ∷ 0 ∷ 36 ∷ 0 ∷ selection ∷ 0 ∷ le_bytes 4 measurement_hash
    ++ (le_bytes 4 asym ++ (le_bytes 4 hash ++ replicate 16 0))

abbrev pub get_certificate : ℕ → ℕ → ℕ → List ℕ
get_certificate param1 offset long = 0x12 ∷ 0x82 ∷ param1 ∷ 0 ∷ le_bytes 2 offset ++ le_bytes 2 long

abbrev pub certificate : ℕ → ℕ → List ℕ → List ℕ
certificate slot remainder portion =
    0x12 ∷ 0x02 ∷ slot ∷ 0 ∷ le_bytes 2 (length portion) ++ (le_bytes 2 remainder ++ portion)

abbrev pub challenged : ℕ → ℕ → List ℕ → List ℕ → List ℕ
challenged slot mask digest summary = 0x12 ∷ 0x03 ∷ slot ∷ mask ∷ digest ++ (nonce ++ (summary ++ (0 ∷ 0 ∷ [])))

abbrev pub get_measurements : ℕ → ℕ → ℕ → List ℕ
get_measurements param1 operation last = 0x12 ∷ 0xE0 ∷ param1 ∷ operation ∷ rising 1 32 ++ (last ∷ [])

-- without a signature
abbrev pub get_unsigned : ℕ → List ℕ
get_unsigned operation = 0x12 ∷ 0xE0 ∷ 0 ∷ operation ∷ []

abbrev pub measurements : ℕ → ℕ → ℕ → List ℕ → List ℕ
measurements count slot blocks list =
    0x12 ∷ 0x60 ∷ count ∷ slot ∷ blocks ∷ le_bytes 3 (length list) ++ (list ++ (nonce ++ (0 ∷ 0 ∷ [])))

-- of the second image: DIGESTS ("Param2 slot mask, digests by rising slot"), CHALLENGE_AUTH of slots 2 and 3, the blocks, and the count

abbrev pub digests : List ℕ
digests = 0x12 ∷ 0x01 ∷ 0 ∷ 0x0D ∷ rising 10 48 ++ (rising 20 48 ++ rising 30 48)

abbrev pub challenged2 : List ℕ → List ℕ
challenged2 summary = challenged 2 0x0D (rising 20 48) summary

abbrev pub challenged3 : List ℕ → List ℕ
challenged3 summary = challenged 3 0x0D (rising 30 48) summary

abbrev pub block : ℕ → ℕ → List ℕ → List ℕ
block index type digest = index ∷ 1 ∷ 51 ∷ 0 ∷ type ∷ 48 ∷ 0 ∷ digest

abbrev pub all_blocks : List ℕ
all_blocks =
    joined (block 1 0 (rising 40 48) ∷ block 2 1 (rising 50 48) ∷ block 16 2 (rising 60 48) ∷ block 17 3 (rising 70 48)
    ∷ block 239 1 (rising 80 48) ∷ [])

abbrev pub counted : ℕ → List ℕ
counted slot = measurements 5 slot 0 []

abbrev pub unsigned : ℕ → List ℕ → List ℕ
unsigned size l = l ++ replicate size 0

-- a signed request with its answer, on a box with A, B and M empty; the signature has so many bytes
abbrev pub awaited : Contents → ℕ → State → List ℕ → List ℕ → List ℕ → State → Claim
awaited c size from asked prefix answer to =
    signing from (asks c asked ∷ []) (saying (unsigned size answer) ∷ []) prefix (asked ∷ answer ∷ []) to

-- the same, then finished: with a signature, which is the answer's end, or by a chip that failed
abbrev pub finished_with : Contents → State → List ℕ → List ℕ → List ℕ → Claim
finished_with c s asked answer signature =
    leads s (asks c asked ∷ finishes c true signature ∷ [])
    (map saying (unsigned (length signature) answer ∷ (answer ++ signature) ∷ [])) s

abbrev pub failed_with : Contents → ℕ → State → List ℕ → List ℕ → Claim
failed_with c size s asked answer =
    leads s (asks c asked ∷ finishes c false [] ∷ []) (map saying (unsigned size answer ∷ refused 0x05 0 ∷ [])) s

-- boxes that wait for GET_CAPABILITIES, for NEGOTIATE_ALGORITHMS, and for the rest

abbrev pub versioned : State
versioned = idle (agree 1 0 0) (uses 14 0 0)

abbrev pub capable : State
capable = idle (agree 2 4608 0) (uses 54 0 0)

abbrev pub negotiated : ℕ → ℕ → State
negotiated selection a = idle (agree 3 4608 selection) (uses a 0 0)

abbrev pub ready : State
ready = negotiated 1 122

abbrev pub invalid : List ℕ
invalid = refused 0x01 0

-- a number for the host
abbrev pub telling : ℕ → Said
telling n = record { reply = reply.Number n; bytes = [] }

-- A GET_VERSION tells whether a state is within its bounds: it is accepted in every phase, "leading to 1 with all else cleared".

abbrev pub outside : Contents → State → Claim
outside c s = stays s (asks c get_version ∷ []) (telling 14 ∷ [])

abbrev pub within : Contents → State → Claim
within c s = leads s (asks c get_version ∷ []) (saying version ∷ []) versioned

-- a request of 4 bytes
abbrev pub brief : ℕ → ℕ → List ℕ
brief version code = version ∷ code ∷ 0 ∷ 0 ∷ []

-- an ERROR in phase 0 or 1
abbrev pub early : ℕ → List ℕ
early code = 0x10 ∷ 0x7F ∷ code ∷ 0 ∷ []

-- "DataTransferSize (the peer's size) at least 42, MaxSPDMmsgSize no less", each in 4 bytes
abbrev pub capability_flows : List Claim
capability_flows =
    -- 41; sizes whose order shows only in the third byte, or in the fourth; 19 bytes; MaxSPDMmsgSize ends with the layout
    answering second versioned
    (get_capabilities 41 4608 ∷ get_capabilities 0x10000 0xFFFF ∷ get_capabilities 0x0100002A 0x2A ∷ take 19 (get_capabilities 42 4608)
    ∷ (get_capabilities 43 42 ++ (1 ∷ [])) ∷ get_capabilities 42 42 ∷ [])
    (replicate 5 (early 0x01) ++ (capabilities 31 0x16 ∷ []))
    (idle (agree 2 42 0) (uses 54 0 0))
    ∷ answering second versioned (get_capabilities 0x10000 0x10000 ∷ []) (capabilities 31 0x16 ∷ [])
    (idle (agree 2 0x10000 0) (uses 54 0 0))
    ∷ answering second versioned (get_capabilities 42 0x01000000 ∷ []) (capabilities 31 0x16 ∷ [])
    (idle (agree 2 42 0) (uses 54 0 0))
    -- "flags at 8 = 0x06, or 0x16 with measurements"
    ∷ answering third versioned (get_capabilities 4608 4608 ∷ []) (capabilities 0 0x06 ∷ []) capable
    ∷ []

-- "type 2–5 strictly rising, a byte whose high half is 2 and low half a count n, 2 bytes, then 4n. They end exactly at Length, 32–128"
abbrev pub structure_flows : List Claim
structure_flows =
    refusing second capable
    -- 31 bytes; Length 31, 0x0120 and 132
    (take 31 (structured 0 32 []) ∷ structured 0 31 [] ∷ structured 0 0x0120 (replicate 256 0)
    ∷ negotiate 0 132 1 0x80 2 25 0 (replicate 100 0)
    -- Length 36 with no structure; a structure behind Length; one byte missing
    ∷ structured 0 36 (replicate 4 0) ∷ structured 1 32 (structure 2 0x20 []) ∷ take 35 (structured 1 36 (structure 2 0x20 []))
    -- types 1, 6, 2 2 and 3 2
    ∷ structured 1 36 (structure 1 0x20 []) ∷ structured 1 36 (structure 6 0x20 [])
    ∷ structured 2 40 (structure 2 0x20 (structure 2 0x20 [])) ∷ structured 2 40 (structure 3 0x20 (structure 2 0x20 []))
    -- high halves 1 and 3; a count of 1 with no entry; an entry with a count of 0
    ∷ structured 1 36 (structure 2 0x10 []) ∷ structured 1 36 (structure 2 0x30 []) ∷ structured 1 36 (structure 2 0x21 [])
    ∷ structured 1 40 (structure 2 0x20 (replicate 4 0))
    -- two structures counted where there is one, one where there are two
    ∷ structured 2 36 (structure 2 0x20 []) ∷ structured 1 40 (structure 2 0x20 (structure 3 0x20 []))
    ∷ [])
    (replicate 17 invalid)
    -- all four types, with 1, 0, 0 and 2 entries
    ∷ answering second capable
    (structured 4 60 (structure 2 0x21 (rising 1 4 ++ structure 3 0x20 (structure 4 0x20 (structure 5 0x22 (replicate 8 6))))) ∷ [])
    (algorithms 1 4 0x80 2 ∷ []) (negotiated 1 (54 + 60 + 36))
    -- extended entries: 4·E1 + 4·E2 bytes, then a structure with 15 entries
    ∷ answering second capable (negotiate 1 108 1 0x80 2 1 2 (replicate 12 9 ++ structure 3 0x2F (replicate 60 9)) ∷ [])
    (algorithms 1 4 0x80 2 ∷ []) (negotiated 1 (54 + 108 + 36))
    -- Length 128; bytes behind it do not count
    ∷ answering second capable (negotiate 0 128 1 0x80 2 24 0 (replicate 98 9) ∷ [])
    (algorithms 1 4 0x80 2 ∷ []) (negotiated 1 (54 + 128 + 36))
    ∷ []

-- "Our two bits must be set"; "selection at 6 (1 if measurements exist and the peer set bit 0, else 0), MeasurementHashAlgo at 8 (bit hash
-- number + 1 if selected, else 0), our two bits at 12 and 16"
abbrev pub selection_flows : List Claim
selection_flows =
    -- every bit but ours, or none
    refusing second capable
    (negotiate 0 32 1 0xFFFFFF7F 2 0 0 [] ∷ negotiate 0 32 1 0x80 0xFFFFFFFD 0 0 [] ∷ negotiate 0 32 1 0 2 0 0 []
    ∷ negotiate 0 32 1 0x80 0 0 0 [] ∷ [])
    (replicate 4 invalid)
    -- more bits, of which ours are shown
    ∷ answering second capable (negotiate 0 32 0xFF 0xFFFFFFFF 0xFFFFFFFF 0 0 [] ∷ []) (algorithms 1 4 0x80 2 ∷ []) (negotiated 1 122)
    ∷ answering second capable (negotiate 0 32 3 0x180 6 0 0 [] ∷ []) (algorithms 1 4 0x80 2 ∷ []) (negotiated 1 122)
    -- bit 0 not set
    ∷ answering second capable (negotiate 0 32 0xFE 0x80 2 0 0 [] ∷ []) (algorithms 0 0 0x80 2 ∷ []) (negotiated 0 122)
    -- no measurements
    ∷ answering third capable (negotiate 0 32 1 0x100 4 0 0 [] ∷ []) (algorithms 0 0 0x100 4 ∷ []) (negotiated 0 122)
    ∷ []

abbrev pub certificate_flows : List Claim
certificate_flows =
    answering second ready (get_digests ∷ []) (digests ∷ []) (idle (agree 3 4608 1) (uses 122 152 0))
    ∷ answering third (negotiated 0 122) (get_digests ∷ []) ((0x12 ∷ 0x01 ∷ 0 ∷ 0x81 ∷ rising 1 64 ++ rising 9 64) ∷ [])
    (idle (agree 3 4608 0) (uses 122 136 0))
    -- "Slot filled, offset below L, length not 0": slots 1 and 8 are not filled; 7 bytes
    ∷ refusing second ready
    (get_certificate 1 0 9 ∷ get_certificate 8 0 9 ∷ get_certificate 2 61 1 ∷ get_certificate 3 53 1 ∷ get_certificate 2 0 0
    ∷ take 7 (get_certificate 2 0 9) ∷ [])
    (replicate 6 invalid)
    ∷ refusing third (negotiated 0 122) (get_certificate 7 1100 1 ∷ []) (invalid ∷ [])
    -- "The portion is the least of length, L − offset, peer's size − 8, and 1,024"; "slot in the low half of Param1"
    ∷ answering second ready (get_certificate 0x12 2 1 ∷ get_certificate 0xF3 2 0x0100 ∷ [])
    (certificate 2 58 (9 ∷ []) ∷ certificate 3 0 (bytes 102 51) ∷ []) (idle (agree 3 4608 1) (uses 122 (17 + 67) 0))
    ∷ answering third (negotiated 0 122)
    (get_certificate 7 0 0xFFFF ∷ get_certificate 0x17 1000 0xFFFF ∷ get_certificate 7 300 0x0100 ∷ [])
    (certificate 7 76 (le_bytes 2 1100 ++ bytes 11 1022) ∷ certificate 7 0 (bytes 1009 100) ∷ certificate 7 544 (bytes 309 256) ∷ [])
    (idle (agree 3 4608 0) (uses 122 (1040 + 116 + 272) 0))
    ∷ answering second (idle (agree 3 50 1) (uses 122 0 0)) (get_certificate 0 2 0xFFFF ∷ []) (certificate 0 16 (bytes 2 42) ∷ [])
    (idle (agree 3 50 1) (uses 122 58 0))
    ∷ []

-- "CHALLENGE, 36 bytes: all of Param1 a filled slot, Param2 0, 1 or 0xFF, only 0 if no measurement specification is selected"
abbrev pub challenge_flows : List Claim
challenge_flows =
    refusing second ready
    (challenge 1 0 ∷ challenge 8 0 ∷ challenge 0x12 0 ∷ challenge 2 2 ∷ challenge 2 0xFE ∷ take 35 (challenge 2 0) ∷ [])
    (replicate 6 invalid)
    ∷ refusing second (negotiated 0 122) (challenge 2 1 ∷ challenge 2 0xFF ∷ []) (replicate 2 invalid)
    -- slot, mask and digest; no summary, the TCB's, all
    ∷ awaited second 96 (negotiated 0 0) (challenge 2 0) challenge_prefix (challenged2 [])
    (waits (agree 3 4608 0) (uses 0 122 0) 1 182)
    ∷ awaited second 96 (negotiated 1 0) (challenge 3 1) challenge_prefix (challenged3 (rising 90 48))
    (waits (agree 3 4608 1) (uses 0 170 0) 1 230)
    ∷ awaited second 96 (negotiated 1 0) (challenge 0 0xFF) challenge_prefix (challenged 0 0x0D (rising 10 48) (rising 95 48))
    (waits (agree 3 4608 1) (uses 0 170 0) 1 230)
    ∷ awaited third 132 (negotiated 0 0) (challenge 7 0) challenge_prefix (challenged 7 0x81 (rising 9 64) [])
    (waits (agree 3 4608 0) (uses 0 138 0) 1 234)
    ∷ []

-- "4 bytes, or 37 if bit 0 of Param1 asks a signature (nonce, then slot in the low half of the last byte, which must be filled). Other
-- Param1 bits ignored. Param2 0, 0xFF or a present index"
abbrev pub measurement_flows : List Claim
measurement_flows =
    refusing second ready
    (get_measurements 1 0 1 ∷ get_measurements 1 0 8 ∷ take 36 (get_measurements 1 0 2) ∷ get_unsigned 3 ∷ get_unsigned 240
    ∷ get_unsigned 0xFE ∷ [])
    (replicate 6 invalid)
    -- unsigned: the count, one, all; behind 4 bytes nothing counts
    ∷ answering second ready
    (count_measurements ∷ get_measurements 4 0 2 ∷ get_unsigned 17 ∷ get_measurements 0xFE 239 2 ∷ get_unsigned 0xFF ∷ [])
    (counted 0 ∷ counted 0 ∷ measurements 0 0 1 (block 17 3 (rising 70 48)) ∷ measurements 0 0 1 (block 239 1 (rising 80 48))
    ∷ measurements 0 0 5 all_blocks ∷ [])
    (idle (agree 3 4608 1) (uses 122 0 (5 * 46 + 2 * 55 + 275)))
    -- signed by slot 2, in the low half of 0x32, or by slot 3: all, one, the count
    ∷ awaited second 96 (negotiated 1 0) (get_measurements 0xFF 0xFF 0x32) measurements_prefix (measurements 0 2 5 all_blocks)
    (waits (agree 3 4608 1) (uses 0 0 (37 + 317)) 2 413)
    ∷ awaited second 96 (negotiated 1 0) (get_measurements 1 16 3) measurements_prefix (measurements 0 3 1 (block 16 2 (rising 60 48)))
    (waits (agree 3 4608 1) (uses 0 0 (37 + 97)) 2 193)
    ∷ awaited second 96 (negotiated 1 0) (get_measurements 3 0 3) measurements_prefix (counted 3)
    (waits (agree 3 4608 1) (uses 0 0 79) 2 138)
    ∷ []

-- "Finishing writes the S bytes at the end of the answer, or, if the chip failed, only 12 7F 05 00 .. Either way B (or M) is emptied"; here under 1.2
abbrev pub finishing_flows : List Claim
finishing_flows =
    finished_with second ready (challenge 2 1) (challenged2 (rising 90 48)) (rising 150 96)
    ∷ failed_with second 96 ready (challenge 3 0) (challenged3 [])
    ∷ finished_with second ready (get_measurements 1 2 2) (measurements 0 2 1 (block 2 1 (rising 50 48))) (rising 150 96)
    ∷ failed_with second 96 ready (get_measurements 1 0 3) (counted 3)
    ∷ finished_with third (negotiated 0 122) (challenge 7 0) (challenged 7 0x81 (rising 9 64) []) (rising 50 132)
    ∷ []

-- "B is emptied by an accepted GET_MEASUREMENTS, M by any other accepted request"
abbrev pub part_flows : List Claim
part_flows =
    answering second ready (get_digests ∷ count_measurements ∷ []) (digests ∷ counted 0 ∷ [])
    (idle (agree 3 4608 1) (uses 122 0 46))
    ∷ answering second ready (count_measurements ∷ get_digests ∷ []) (counted 0 ∷ digests ∷ [])
    (idle (agree 3 4608 1) (uses 122 152 0))
    -- so of a count before GET_DIGESTS or GET_CERTIFICATE nothing is hashed
    ∷ signing (negotiated 1 0) (map (asks second) (count_measurements ∷ get_digests ∷ get_measurements 1 0 2 ∷ []))
    (map saying (counted 0 ∷ digests ∷ unsigned 96 (counted 2) ∷ []))
    measurements_prefix (get_measurements 1 0 2 ∷ counted 2 ∷ []) (waits (agree 3 4608 1) (uses 0 0 79) 2 138)
    ∷ signing (negotiated 1 0) (map (asks second) (count_measurements ∷ get_certificate 3 0 9 ∷ get_measurements 1 0 2 ∷ []))
    (map saying (counted 0 ∷ certificate 3 44 (le_bytes 2 53 ++ bytes 102 7) ∷ unsigned 96 (counted 2) ∷ []))
    measurements_prefix (get_measurements 1 0 2 ∷ counted 2 ∷ []) (waits (agree 3 4608 1) (uses 0 0 79) 2 138)
    ∷ []

abbrev pub image_flows : List Claim
image_flows =
    capability_flows
    ++ (structure_flows
    ++ (selection_flows
    ++ (certificate_flows ++ (challenge_flows ++ (measurement_flows ++ (finishing_flows ++ part_flows))))))
