-- The C interface's own definitions, computed: which word is which, how number and length share a result, which number comes first, and
-- what is told of an image. Assumes nothing.
use mathlib.Core.Path.{◌≡◌, refl}
use mathlib.Core.Bool.{true, false}
use mathlib.Core.List.{List, [], ◌∷◌, map}
use Prim.Native.Nat.{ℕ}
use lib.ListN.{replicate}
use Rattle.wire.specs.Pick.{pick}
use Rattle.image.specs.Sizes.{digest_size, signature_size}
use Rattle.image.specs.Contents.{Contents, record_bytes, records_bytes, identity_bytes, image_bytes}
use Rattle.image.specs.Reading.{unless, frames_of, identity_fault, slot_wrong, chain_fault, measurement_fault, summary_fault, record_fault}
use Rattle.image.specs.Reading.{end_fault, extended, read_on, read_all, reading, number, found}
use Rattle.image.specs.Held.{mask_of}
use Rattle.rules.specs.Header.{version_of}
use Rattle.rules.specs.Signing.{prefix_of}
use Rattle.rules.specs.State.{holds_only, phase_fits, selection_fits, awaited_fits, edition_fits, own_bounds}
use Rattle.rules.specs.declared.State.{State}
use Rattle.rules.specs.Reply as reply
use Rattle.spdm_responder.specs.Words.{state_in, words_after, no_state, result_of, read_reply, chip_ok}
use Rattle.spdm_responder.specs.ToSign.{show_reply, parts_of, shown_prefix, shown_parts}
use Rattle.spdm_responder.specs.ImageAlgorithms.{room_reply, algorithms_reply, algorithms_told}

-- CTExponent 20, SHA-384, ECDSA-P384, slots 0 and 3, two measurements
abbrev image : Contents
image = record {
  identity = record { exponent = 20; hash = 1; signature = 7 };
  chains = record { slot = 0; digest = replicate 48 1; bytes = 60 ∷ replicate 59 0 }
      ∷ record { slot = 3; digest = replicate 48 2; bytes = 70 ∷ replicate 69 0 }
      ∷ [];
  measurements = record { index = 1; type = 0; digest = replicate 48 3 } ∷ record { index = 9; type = 2; digest = replicate 48 4 } ∷ [];
  summaries = record { tcb = replicate 48 5; all = replicate 48 6 } ∷ [];
}

-- the header's words: phase, peer, selection, A, B, M, awaited, answer, edition
abbrev words : ℕ → ℕ → List ℕ
words whose edition = 3 ∷ 4608 ∷ 1 ∷ 88 ∷ 40 ∷ 50 ∷ whose ∷ 200 ∷ edition ∷ []

abbrev awaiting : ℕ → ℕ → State
awaiting whose edition = record {
  negotiated = record { phase = 3; peer = 4608; selection = 1; edition = edition };
  used = record { a = 88; b = 40; m = 50 };
  awaited = record { whose = whose; length = 200 };
}

abbrev held : State
held = awaiting 2 0x12

pub which_word : (state_in (words 2 0x12) ≡ held) × (words_after (replicate 9 5) held ≡ words 2 0x12)
unfolding state_in words_after pick
which_word = (refl, refl)

-- any other number of words holds no state, and stays as it is
pub other_count : (map state_in (replicate 8 0 ∷ replicate 10 0 ∷ []) ≡ no_state ∷ no_state ∷ [])
    × ((words_after (replicate 8 5) held ≡ replicate 8 5) × (words_after (replicate 10 5) held ≡ replicate 10 5))
unfolding state_in words_after pick
other_count = (refl, (refl, refl))

-- "number · 65,536 + answer length"
pub one_word : map result_of (reply.Number 1 ∷ reply.Number 16 ∷ reply.Answer 4608 ∷ []) ≡ 0x10000 ∷ 0x100000 ∷ 0x1200 ∷ []
one_word = refl

-- spdm_read_image: the number, or 0
pub read_word : (result_of (read_reply (number 8)) ≡ 0x80000) × (result_of (read_reply (found image)) ≡ 0)
read_word = (refl, refl)

pub chip_words : map chip_ok (0 ∷ 1 ∷ 2 ∷ 0xFFFFFFFF ∷ []) ≡ false ∷ true ∷ true ∷ true ∷ []
unfolding pick
chip_words = refl

-- spdm_to_sign: 11 for prefix and for parts, before 14, before 15; else the prefix's length, which is 0 under 1.1
pub shows_in_order : (show_reply no_state 99 4 ≡ reply.Number 11) × ((show_reply no_state 100 3 ≡ reply.Number 11)
    × ((show_reply no_state 100 4 ≡ reply.Number 14) × ((show_reply (state_in (replicate 9 0)) 100 4 ≡ reply.Number 15)
    × ((show_reply held 100 4 ≡ reply.Answer 100) × ((show_reply held 101 5 ≡ reply.Answer 100)
    × (map (λ (whose : ℕ). show_reply (awaiting whose 0x11) 100 4) (1 ∷ 2 ∷ []) ≡ reply.Answer 0 ∷ reply.Answer 0 ∷ []))))))
unfolding show_reply state_in holds_only phase_fits selection_fits awaited_fits edition_fits own_bounds version_of prefix_of pick
shows_in_order = (refl, (refl, (refl, (refl, (refl, (refl, refl))))))

-- and a buffer for a prefix is asked for under 1.1 too
pub asks-room : (show_reply (awaiting 1 0x11) 99 4 ≡ reply.Number 11) × (shown_prefix (reply.Answer 0) (awaiting 1 0x11) ≡ [])
unfolding show_reply prefix_of version_of pick
asks-room = (refl, refl)

-- with a number neither buffer is written
pub shows_nothing : (shown_prefix (reply.Number 11) held ≡ []) × (shown_parts (reply.Number 11) held ≡ [])
shows_nothing = (refl, refl)

-- offset and length: A at 0, B at 512, M at 29,184; under 1.1 nothing before M
pub parts_stand : (parts_of held ≡ 0 ∷ 88 ∷ 29184 ∷ 50 ∷ []) × ((parts_of (awaiting 1 0x12) ≡ 0 ∷ 88 ∷ 512 ∷ 40 ∷ [])
    × ((parts_of (awaiting 2 0x11) ≡ 0 ∷ 0 ∷ 29184 ∷ 50 ∷ []) × (parts_of (awaiting 1 0x11) ≡ 0 ∷ 88 ∷ 512 ∷ 40 ∷ [])))
unfolding parts_of version_of pick
parts_stand = (refl, (refl, (refl, refl)))

-- seven words or 11, behind the image's number
pub tells_image : (algorithms_told (reading (image_bytes image)) 7 ≡ 20 ∷ 1 ∷ 48 ∷ 7 ∷ 96 ∷ 9 ∷ 2 ∷ [])
    × ((algorithms_reply (reading (image_bytes image)) 7 ≡ reply.Answer 0)
    × ((algorithms_reply (reading (image_bytes image)) 6 ≡ reply.Number 11)
    × ((algorithms_told (reading (image_bytes image)) 8 ≡ 20 ∷ 1 ∷ 48 ∷ 7 ∷ 96 ∷ 9 ∷ 2 ∷ [])
    × ((algorithms_told (reading (image_bytes image)) 6 ≡ [])
    × ((algorithms_told (number 2) 7 ≡ []) × (algorithms_reply (number 2) 6 ≡ reply.Number 2))))))
unfolding digest_size signature_size record_bytes records_bytes identity_bytes image_bytes unless frames_of identity_fault slot_wrong chain_fault
    measurement_fault summary_fault record_fault end_fault extended read_on read_all reading mask_of room_reply pick
tells_image = (refl, (refl, (refl, (refl, (refl, (refl, refl))))))
