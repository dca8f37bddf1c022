-- Flows under 1.1, on the second and third image: the choice, from both sides; the state's bounds; the steps that go by the edition; and
-- what is to be signed. Assumes nothing; the claim itself is in Settled.
use mathlib.Core.Bool.{true, false}
use mathlib.Core.List.{List, [], ◌∷◌, ◌++◌, map}
use Prim.Native.Nat.{ℕ, ◌*◌}
use lib.ListN.{length, replicate, take}
use Rattle.rules.specs.declared.State.{State}
use Rattle.rules.proofs.Flows.{rising, saying, refused, eleven, get_version, version, get_digests, challenge, count_measurements}
use Rattle.rules.proofs.Flows.{challenge_prefix, measurements_prefix}
use Rattle.rules.proofs.OtherImages.{second, third, asks, finishes, speak, agree, uses, waits, idle, Claim, leads, telling, outside, within}
use Rattle.rules.proofs.OtherImages.{answering, refusing, signing, brief, get_capabilities, capabilities, negotiate, algorithms}
use Rattle.rules.proofs.OtherImages.{get_measurements, measurements, all_blocks, counted, digests, challenged2, unsigned, versioned, capable}
use Rattle.rules.proofs.OtherImages.{ready, early}

-- a box that has chosen 1.1, and one that has negotiated then
abbrev pub capable11 : State
capable11 = idle (speak 0x11 2 4608 0) (uses 38 0 0)

abbrev pub ready11 : State
ready11 = idle (speak 0x11 3 4608 1) (uses 106 0 0)

-- 12 bytes, or more that are not looked at: sizes that 1.2 would refuse
abbrev pub choosing11 : List ℕ → List ℕ
choosing11 rest = 0x11 ∷ 0xE1 ∷ replicate 10 7 ++ rest

abbrev pub chosen11 : ℕ → ℕ → List ℕ
chosen11 exponent flags = 0x11 ∷ 0x61 ∷ 0 ∷ 0 ∷ 0 ∷ exponent ∷ 0 ∷ 0 ∷ flags ∷ 0 ∷ 0 ∷ 0 ∷ []

-- "GET_CAPABILITIES picks by its version byte. For 1.1 its layout has 12 bytes with no sizes, so the peer's size counts as 4,608"
abbrev pub edition_choice : List Claim
edition_choice =
    answering second versioned (take 11 (choosing11 []) ∷ choosing11 [] ∷ []) (early 0x01 ∷ chosen11 31 0x16 ∷ []) capable11
    ∷ answering third versioned (choosing11 (replicate 8 0) ∷ []) (chosen11 0 0x06 ∷ []) capable11
    -- under 1.2 12 bytes are too few
    ∷ refusing second versioned (take 12 (get_capabilities 4608 4608) ∷ take 19 (get_capabilities 4608 4608) ∷ []) (replicate 2 (early 0x01))
    -- NEGOTIATE_ALGORITHMS keeps the choice, and GET_VERSION drops it
    ∷ answering second capable11 (eleven (negotiate 0 32 1 0x80 2 0 0 []) ∷ []) (eleven (algorithms 1 4 0x80 2) ∷ []) ready11
    ∷ answering second ready11 (get_version ∷ []) (version ∷ []) versioned
    ∷ answering second ready11 (get_version ∷ get_capabilities 42 42 ∷ []) (version ∷ capabilities 31 0x16 ∷ [])
    (idle (agree 2 42 0) (uses 54 0 0))
    ∷ []

-- what may not stand for an edition where none is chosen, and where one is; and sizes that no 1.1 peer has
abbrev none_before : List ℕ
none_before = 1 ∷ 0x10 ∷ 0x11 ∷ 0x12 ∷ 0x13 ∷ 0x0100 ∷ 0x0111 ∷ []

abbrev neither : List ℕ
neither = 0 ∷ 1 ∷ 0x10 ∷ 0x13 ∷ 0x0111 ∷ 0x0112 ∷ []

abbrev wrong_peers : List ℕ
wrong_peers = 0 ∷ 42 ∷ 4607 ∷ 4609 ∷ 0x011200 ∷ []

-- "none in phases 0 and 1, one after, 1.1 with a peer's size of 4,608; A holds 14 in phase 1, then 38 (1.1) or 54 (1.2) in phase 2"
abbrev pub edition_bounds : List Claim
edition_bounds =
    map (λ (edition : ℕ). outside second (idle (speak edition 0 0 0) (uses 0 0 0))) none_before
    ++ (map (λ (edition : ℕ). outside second (idle (speak edition 1 4608 0) (uses 14 0 0))) none_before
    ++ (map (λ (edition : ℕ). outside second (idle (speak edition 2 4608 0) (uses 54 0 0))) (0x11 ∷ neither)
    ++ (map (λ (edition : ℕ). outside second (idle (speak edition 3 4608 0) (uses 0 0 0))) neither
    ++ (map (λ (a : ℕ). outside second (idle (speak 0x11 2 4608 0) (uses a 0 0))) (0 ∷ 37 ∷ 39 ∷ 53 ∷ [])
    ++ (map (λ (peer : ℕ). outside second (idle (speak 0x11 2 peer 0) (uses 38 0 0))) wrong_peers
    ++ (map (λ (peer : ℕ). outside second (idle (speak 0x11 3 peer 0) (uses 0 0 0))) wrong_peers
    ++ (outside second (idle (agree 2 4608 0) (uses 38 0 0))
    ∷ outside second (idle (speak 0x11 2 4608 0) (uses 38 1 0)) ∷ outside second (idle (speak 0x11 2 4608 0) (uses 38 0 1))
    ∷ outside second (idle (speak 0x11 2 4608 1) (uses 38 0 0))
    ∷ map (within second) (capable11 ∷ ready11 ∷ idle (speak 0x11 3 4608 0) (uses 512 28672 7680) ∷ idle (agree 3 4609 0) (uses 0 0 0) ∷ []))))))))

-- a GET_MEASUREMENTS that is too long; the codes of all requests but GET_VERSION; version bytes that are no edition's
abbrev over_long : ℕ → List ℕ
over_long version = version ∷ 0xE0 ∷ replicate 4607 0

abbrev codes : List ℕ
codes = 0xE1 ∷ 0xE3 ∷ 0x81 ∷ 0x82 ∷ 0x83 ∷ 0xE0 ∷ []

abbrev strange : List ℕ
strange = 0x01 ∷ 0x10 ∷ 0x13 ∷ 0x21 ∷ 0x22 ∷ 0x91 ∷ []

abbrev in_one : List (List (List ℕ)) → List (List ℕ)
in_one [] = []
in_one (x ∷ xs) = x ++ in_one xs

-- every such request with such a byte gets this ERROR
abbrev every_byte : State → List ℕ → List ℕ → Claim
every_byte s versions answer =
    refusing second s (in_one (map (λ (version : ℕ). map (brief version) codes) versions)) (replicate (6 * length versions) answer)

-- "under 1.1 step 2 answers 0x01"; "Before a choice, 0x11 and 0x12 both pass step 5"
abbrev pub edition_steps : List Claim
edition_steps =
    -- 2: by the edition that was chosen, not by the request's; M stays
    refusing second (idle (agree 0 0 0) (uses 0 0 0)) (over_long 0x11 ∷ []) (early 0x0E ∷ [])
    ∷ refusing second versioned (over_long 0x11 ∷ []) (early 0x0E ∷ [])
    ∷ refusing second capable (over_long 0x11 ∷ []) (refused 0x0E 0 ∷ [])
    ∷ refusing second capable11 (over_long 0x11 ∷ []) (eleven (refused 0x01 0) ∷ [])
    ∷ refusing second (idle (speak 0x11 3 4608 1) (uses 106 0 9)) (over_long 0x11 ∷ over_long 0x12 ∷ []) (replicate 2 (eleven (refused 0x01 0)))
    -- 5: every code but GET_VERSION's, in every phase
    ∷ refusing second (idle (agree 0 0 0) (uses 0 0 0)) (map (brief 0x11) codes) (replicate 6 (early 0x04))
    ∷ refusing second versioned (map (brief 0x11) (0xE3 ∷ 0x81 ∷ 0x82 ∷ 0x83 ∷ 0xE0 ∷ [])) (replicate 5 (early 0x04))
    ∷ every_byte (idle (agree 0 0 0) (uses 0 0 0)) strange (early 0x41)
    ∷ every_byte versioned strange (early 0x41)
    ∷ every_byte capable (0x11 ∷ strange) (refused 0x41 0)
    ∷ every_byte ready (0x11 ∷ strange) (refused 0x41 0)
    ∷ every_byte capable11 (0x12 ∷ strange) (eleven (refused 0x41 0))
    ∷ every_byte ready11 (0x12 ∷ strange) (eleven (refused 0x41 0))
    -- GET_VERSION's is 0x10 always
    ∷ refusing second versioned (brief 0x11 0x84 ∷ brief 0x12 0x84 ∷ []) (replicate 2 (early 0x41))
    ∷ refusing second ready11 (brief 0x11 0x84 ∷ brief 0x12 0x84 ∷ []) (replicate 2 (eleven (refused 0x41 0)))
    -- 6: "GET_MEASUREMENTS only if its specification was selected"
    ∷ refusing second capable11 (brief 0x11 0x81 ∷ []) (eleven (refused 0x04 0) ∷ [])
    ∷ refusing second (idle (speak 0x11 3 4608 0) (uses 106 0 0)) (map (brief 0x11) (0xE1 ∷ 0xE3 ∷ 0xE0 ∷ [])) (replicate 3 (eleven (refused 0x04 0)))
    -- 4 before 5; DIGESTS and MEASUREMENTS
    ∷ refusing second capable11 (brief 0x12 0xFF ∷ []) (eleven (refused 0x07 0xFF) ∷ [])
    ∷ answering second ready11 (eleven get_digests ∷ eleven count_measurements ∷ []) (eleven digests ∷ eleven (counted 0) ∷ [])
    (idle (speak 0x11 3 4608 1) (uses 106 0 46))
    ∷ []

-- "signatures cover the hash of A then B, or of M alone .., with no 100-byte prefix"
abbrev pub edition_signed : List Claim
edition_signed =
    signing (idle (speak 0x11 3 4608 1) (uses 3 2 0)) (asks second (eleven (challenge 2 1)) ∷ [])
    (saying (unsigned 96 (eleven (challenged2 (rising 90 48)))) ∷ []) []
    (replicate 5 0 ∷ eleven (challenge 2 1) ∷ eleven (challenged2 (rising 90 48)) ∷ []) (waits (speak 0x11 3 4608 1) (uses 3 172 0) 1 230)
    ∷ signing (idle (speak 0x11 3 4608 1) (uses 3 2 1)) (asks second (eleven (get_measurements 1 0xFF 2)) ∷ [])
    (saying (unsigned 96 (eleven (measurements 0 2 5 all_blocks))) ∷ []) []
    (replicate 1 0 ∷ eleven (get_measurements 1 0xFF 2) ∷ eleven (measurements 0 2 5 all_blocks) ∷ [])
    (waits (speak 0x11 3 4608 1) (uses 3 0 355) 2 413)
    -- under 1.2 A is hashed before M
    ∷ signing (idle (agree 3 4608 1) (uses 3 2 1)) (asks second (get_measurements 1 0xFF 2) ∷ [])
    (saying (unsigned 96 (measurements 0 2 5 all_blocks)) ∷ []) measurements_prefix
    (replicate 4 0 ∷ get_measurements 1 0xFF 2 ∷ measurements 0 2 5 all_blocks ∷ []) (waits (agree 3 4608 1) (uses 3 0 355) 2 413)
    ∷ signing (idle (agree 3 4608 1) (uses 3 2 0)) (asks second (challenge 2 0) ∷ [])
    (saying (unsigned 96 (challenged2 [])) ∷ []) challenge_prefix
    (replicate 5 0 ∷ challenge 2 0 ∷ challenged2 [] ∷ []) (waits (agree 3 4608 1) (uses 3 124 0) 1 182)
    -- the signature ends the answer; if the chip failed, the ERROR carries the edition
    ∷ leads ready11 (asks second (eleven (challenge 2 0)) ∷ finishes second true (rising 150 96) ∷ [])
    (map saying (unsigned 96 (eleven (challenged2 [])) ∷ (eleven (challenged2 []) ++ rising 150 96) ∷ [])) ready11
    ∷ leads ready11 (asks second (eleven (get_measurements 1 0 3)) ∷ finishes second false [] ∷ [])
    (map saying (unsigned 96 (eleven (counted 3)) ∷ eleven (refused 0x05 0) ∷ [])) ready11
    -- a signature that is awaited out of bounds is still shown as its edition has it
    ∷ record {
      from = waits (speak 0x11 3 4607 0) (uses 3 2 1) 2 100;
      calls = asks second get_version ∷ [];
      said = telling 14 ∷ [];
      prefix = [];
      hashed = 0 ∷ [];
      to = waits (speak 0x11 3 4607 0) (uses 3 2 1) 2 100;
    }
    ∷ []

abbrev pub edition_flows : List Claim
edition_flows = edition_choice ++ (edition_bounds ++ (edition_steps ++ edition_signed))
