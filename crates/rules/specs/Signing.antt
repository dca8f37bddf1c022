-- What gets signed, and finishing.
use Rattle.std.specs.Prelude.{Bool, List, [], ◌∷◌, ◌++◌, ℕ, ◌-◌, length, take, replicate, ltb, eqb}
use Rattle.wire.specs.Pick.{pick}
use Rattle.image.specs.Contents.{Contents}
use Rattle.image.specs.Reading.{Result, number, found}
use Rattle.rules.specs.Limits.{message_limit, transcript_length, header_length, unspecified, short_answer, short_transcript, wrong_state}
use Rattle.rules.specs.Limits.{nothing_awaited, wrong_signature, awaits_nothing, awaits_challenge, awaits_measurements}
use Rattle.rules.specs.Facts.{Facts, facts_of, sig_size}
use Rattle.rules.specs.Parts.{Parts}
use Rattle.rules.specs.State.{in_bounds}
use Rattle.rules.specs.Header.{by_edition, version_of, error_bytes}
use Rattle.rules.specs.declared.Negotiated.{Negotiated}
use Rattle.rules.specs.declared.State.{State}
use Rattle.rules.specs.declared.Lengths.{Lengths}
use Rattle.rules.specs.Finish.{Finish}
use Rattle.rules.specs.Finish as finish
use Rattle.rules.specs.Reply.{Reply}
use Rattle.rules.specs.Reply as reply

-- dmtf-spdm-v1.2.*
abbrev pub spdm_text : List ℕ
spdm_text = 100 ∷ 109 ∷ 116 ∷ 102 ∷ 45 ∷ 115 ∷ 112 ∷ 100 ∷ 109 ∷ 45 ∷ 118 ∷ 49 ∷ 46 ∷ 50 ∷ 46 ∷ 42 ∷ []

-- responder-challenge_auth signing
abbrev pub challenge_text : List ℕ
challenge_text = 114 ∷ 101 ∷ 115 ∷ 112 ∷ 111 ∷ 110 ∷ 100 ∷ 101 ∷ 114 ∷ 45 ∷ 99 ∷ 104 ∷ 97 ∷ 108 ∷ 108 ∷ 101 ∷ 110 ∷ 103 ∷ 101 ∷ 95 ∷ 97 ∷ 117 ∷ 116 ∷ 104 ∷ 32 ∷ 115 ∷ 105 ∷ 103 ∷ 110 ∷ 105 ∷ 110 ∷ 103 ∷ []

-- responder-measurements signing
abbrev pub measurements_text : List ℕ
measurements_text = 114 ∷ 101 ∷ 115 ∷ 112 ∷ 111 ∷ 110 ∷ 100 ∷ 101 ∷ 114 ∷ 45 ∷ 109 ∷ 101 ∷ 97 ∷ 115 ∷ 117 ∷ 114 ∷ 101 ∷ 109 ∷ 101 ∷ 110 ∷ 116 ∷ 115 ∷ 32 ∷ 115 ∷ 105 ∷ 103 ∷ 110 ∷ 105 ∷ 110 ∷ 103 ∷ []

-- "the text dmtf-spdm-v1.2.* four times, then 4 zero bytes and "responder-challenge_auth signing", or 6 zero bytes and
-- "responder-measurements signing""; paper 02, 4: under 1.1 "with no 100-byte prefix"; nothing where no signature is awaited
unfoldable pub prefix_of : Negotiated → ℕ → List ℕ
prefix_of n whose =
    by_edition (version_of n) []
    (pick (eqb whose awaits_challenge) ((spdm_text ++ spdm_text ++ spdm_text ++ spdm_text) ++ (replicate 4 0 ++ challenge_text))
    (pick (eqb whose awaits_measurements) ((spdm_text ++ spdm_text ++ spdm_text ++ spdm_text) ++ (replicate 6 0 ++ measurements_text))
    []))

-- what is hashed before M, bytes or their count: A; paper 02, 4: under 1.1 none, "M alone as in the public 1.1 text"
abbrev pub before_m : {A : Type 0} → Negotiated → A → A → A
before_m n none a = by_edition (version_of n) none a

-- "It hashes A then B (or A then M)"; nothing where no signature is awaited
unfoldable pub to_hash : Negotiated → ℕ → Parts → List ℕ
to_hash n whose p =
    pick (eqb whose awaits_challenge) (p.a ++ p.b)
    (pick (eqb whose awaits_measurements) (before_m n [] p.a ++ p.m)
    [])

-- "Calls test 1–8, then 11, 12, .., then 14, 15, 16 (the last two finishing only)"; 16: "chip succeeded, signature not S bytes"
unfoldable pub finish_of : Facts → State → Lengths → Bool → ℕ → Finish
finish_of f s lent ok size =
    pick (ltb lent.answer message_limit) (finish.Number short_answer)
    (pick (ltb lent.transcript transcript_length) (finish.Number short_transcript)
    (pick (in_bounds f s)
    (pick (eqb s.awaited.whose awaits_nothing) (finish.Number nothing_awaited)
    (pick ok
    (pick (eqb size (sig_size f)) finish.Signed (finish.Number wrong_signature))
    finish.Failed))
    (finish.Number wrong_state)))

-- a finishing, by what its image reads as; size is the signature's length
unfoldable pub finish_by : Result Contents → State → Lengths → Bool → ℕ → Finish
finish_by (number k) s lent ok size = finish.Number k
finish_by (found c) s lent ok size = finish_of (facts_of c) s lent ok size

-- "if the chip failed, only 12 7F 05 00 at its start, length 4": an ERROR, which carries the edition; a signature is awaited only in phase 3
abbrev pub failed_bytes : Negotiated → List ℕ
failed_bytes n = error_bytes n unspecified 0

-- the host is told a number, or the length of the finished answer; n is the awaited answer's length
abbrev pub finish_reply : Finish → ℕ → Reply
finish_reply (finish.Number k) n = reply.Number k
finish_reply finish.Signed n = reply.Answer n
finish_reply finish.Failed n = reply.Answer header_length

-- "the awaited answer, its last S bytes the signature, or 12 7F 05 00 if the chip failed", 11 7F 05 00 under 1.1
abbrev pub finished_bytes : Finish → Negotiated → List ℕ → List ℕ → List ℕ
finished_bytes (finish.Number k) n answer signature = []
finished_bytes finish.Signed n answer signature = take (length answer - length signature) answer ++ signature
finished_bytes finish.Failed n answer signature = failed_bytes n
