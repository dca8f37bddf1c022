-- The connection state as the host holds it, nine words, and the word that a call returns.
use Rattle.std.specs.Prelude.{Bool, true, false, List, [], ◌∷◌, ℕ, ◌*◌, ◌≤◌, length, get_or, eqb}
use Rattle.wire.specs.Pick.{pick}
use Rattle.image.specs.Contents.{Contents}
use Rattle.image.specs.Reading.{Result, number, found}
use Rattle.rules.specs.Limits.{message_limit, wrong_signature}
use Rattle.rules.specs.State.{cleared_at, nothing_used, none_awaited}
use Rattle.rules.specs.declared.State.{State}
use Rattle.rules.specs.Reply.{Reply}
use Rattle.rules.specs.Reply as reply

abbrev pub state_words : ℕ
state_words = 9

-- a phase that there is not
abbrev pub no_phase : ℕ
no_phase = 4

-- a state that is out of bounds for every image
abbrev pub no_state : State
no_state = record { negotiated = cleared_at no_phase; used = nothing_used; awaited = none_awaited }

-- the state that the words hold; any other number of words holds a state that is out of bounds
unfoldable pub state_in : List ℕ → State
state_in w =
    pick (eqb (length w) state_words)
    (record {
      negotiated = record { phase = get_or w 0 0; peer = get_or w 1 0; selection = get_or w 2 0; edition = get_or w 8 0 };
      used = record { a = get_or w 3 0; b = get_or w 4 0; m = get_or w 5 0 };
      awaited = record { whose = get_or w 6 0; length = get_or w 7 0 };
    })
    no_state

abbrev pub words_of : State → List ℕ
words_of s =
    s.negotiated.phase ∷ s.negotiated.peer ∷ s.negotiated.selection
    ∷ s.used.a ∷ s.used.b ∷ s.used.m
    ∷ s.awaited.whose ∷ s.awaited.length
    ∷ s.negotiated.edition
    ∷ []

-- what the host's words hold once a state was put there; any other number of words stays as it is
unfoldable pub words_after : List ℕ → State → List ℕ
words_after w s = pick (eqb (length w) state_words) (words_of s) w

abbrev pub number_unit : ℕ
number_unit = 65536

-- "number · 65,536 + answer length": with a number the length is 0, and with an answer the number
abbrev pub result_of : Reply → ℕ
result_of (reply.Number n) = n * number_unit
result_of (reply.Answer n) = n

-- a reply that a word has room for: a number of the table, or the length of a message
abbrev pub Fits : Reply → Type 0
Fits (reply.Number n) = n ≤ wrong_signature
Fits (reply.Answer n) = n ≤ message_limit

-- the reader's number; nothing where the image is accepted
abbrev pub read_reply : Result Contents → Reply
read_reply (number k) = reply.Number k
read_reply (found c) = reply.Answer 0

-- the chip's result: 0 failed, anything else succeeded
abbrev pub chip_ok : ℕ → Bool
chip_ok n = pick (eqb n 0) false true
