-- What a host is told of an image so that it need not parse one: the algorithms and their sizes, the filled slots and how
-- many measurements.
use Rattle.std.specs.Prelude.{◌≡◌, List, [], ◌∷◌, ℕ, length, ltb}
use Rattle.wire.specs.Bytes.{splice}
use Rattle.wire.specs.Pick.{pick}
use Rattle.image.specs.Sizes.{digest_size, signature_size}
use Rattle.image.specs.Contents.{Contents}
use Rattle.image.specs.Held.{slot_mask}
use Rattle.image.specs.Index.{mask_at}
use Rattle.image.specs.Reading.{Result, number, found}
use Rattle.image.specs.declared.Index.{Index}
use Rattle.rules.specs.Limits.{short_answer}
use Rattle.rules.specs.Reply.{Reply}
use Rattle.rules.specs.Reply as reply
use Rattle.spdm_responder.specs.Words.{result_of}

-- as many words as algorithms_of has
abbrev pub algorithms_words : ℕ
algorithms_words = 7

-- CTExponent; the hash's bit number and H; the signature's bit number and S; bit k for each filled slot k; how many measurements
abbrev pub algorithms_of : Contents → List ℕ
algorithms_of c =
    c.identity.exponent
    ∷ c.identity.hash ∷ digest_size c.identity.hash
    ∷ c.identity.signature ∷ signature_size c.identity.signature
    ∷ slot_mask c
    ∷ length c.measurements
    ∷ []

-- fewer words than that are 11
unfoldable pub room_reply : ℕ → Reply
room_reply room = pick (ltb room algorithms_words) (reply.Number short_answer) (reply.Answer 0)

-- the image's number, then 11; else no number
abbrev pub algorithms_reply : Result Contents → ℕ → Reply
algorithms_reply (number k) room = reply.Number k
algorithms_reply (found c) room = room_reply room

-- what is written: nothing with a number
abbrev pub told_by : Reply → Contents → List ℕ
told_by (reply.Number n) c = []
told_by (reply.Answer n) c = algorithms_of c

abbrev pub algorithms_told : Result Contents → ℕ → List ℕ
algorithms_told (number k) room = []
algorithms_told (found c) room = told_by (room_reply room) c

-- out and out' are the words as they were lent and as they are returned
pub record AlgorithmsTold (x : Result Contents) (out out' : List ℕ) (r : ℕ) : Type 0 where
  pub result : r ≡ result_of (algorithms_reply x (length out))
  pub words : out' ≡ splice out 0 (algorithms_told x (length out))

-- The code's view of the same, by the reader's index; no promise of a public function rests on it.
abbrev pub algorithms_in : Index → List ℕ
algorithms_in ix =
    ix.identity.exponent
    ∷ ix.identity.hash ∷ digest_size ix.identity.hash
    ∷ ix.identity.signature ∷ signature_size ix.identity.signature
    ∷ mask_at ix
    ∷ ix.measurements
    ∷ []

abbrev pub told_in : Reply → Index → List ℕ
told_in (reply.Number n) ix = []
told_in (reply.Answer n) ix = algorithms_in ix
