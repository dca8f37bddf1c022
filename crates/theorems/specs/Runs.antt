-- Lists of calls, as the box answers them and as the plain box does.
use Rattle.std.specs.Prelude.{◌≡◌, Bool, List, [], ◌∷◌, ◌++◌, ℕ, ◌≤◌, min, length, take, drop}
use Rattle.wire.specs.Bytes.{Bytes}
use Rattle.image.specs.Contents.{Each}
use Rattle.image.specs.Reading.{reading}
use Rattle.rules.specs.Limits.{message_limit, get_version}
use Rattle.rules.specs.Header.{code_byte}
use Rattle.rules.specs.Effects.{Effect, host, refuse, accept, effect_by, reply_of}
use Rattle.rules.specs.Signing.{prefix_of, to_hash, finish_by, finish_reply}
use Rattle.rules.specs.Plain.{Plain, Feed, request, finishing, Said, plain_said, plain_next, Shown, shows}
use Rattle.rules.specs.Box.{Lent, lengths_of, parts_in, state_after, transcript_after, finished_state, finished_answer, answer_after}
use Rattle.rules.specs.declared.State.{State}
use Rattle.rules.specs.Reply.{Reply}
use Rattle.rules.specs.Reply as reply
use Rattle.rules.specs.Finish.{Finish}
use Rattle.rules.specs.Finish as finish

-- a call to the box: its image, the answer buffer as it is lent, how many bytes of the transcript are lent, and request and nonce, or chip
-- result and signature
pub data Call : Type 0 where
  ask : (image answer : List ℕ) (lent : ℕ) (bytes nonce : List ℕ) → Call
  sign : (image answer : List ℕ) (lent : ℕ) (ok : Bool) (signature : List ℕ) → Call

abbrev pub image_of : Call → List ℕ
image_of (ask image answer lent r nonce) = image
image_of (sign image answer lent ok signature) = image

-- a request's bytes; a finishing has none
abbrev pub request_in : Call → List ℕ
request_in (ask image answer lent r nonce) = r
request_in (sign image answer lent ok signature) = []

-- what a host holds between two calls: the state, the transcript buffer, and the awaited answer as it was written
pub record Held : Type 0 where
  pub state : State
  pub transcript : List ℕ
  pub awaited : List ℕ

-- a call is lent the transcript "from its start at any length", and its own answer buffer
abbrev pub lent_of : Held → ℕ → List ℕ → Lent
lent_of h lent answer = record { transcript = take lent h.transcript; answer = answer }

abbrev pub ask_effect : Held → List ℕ → List ℕ → ℕ → List ℕ → List ℕ → Effect
ask_effect h image answer lent r nonce = effect_by (reading image) h.state (lengths_of (lent_of h lent answer)) r nonce

abbrev pub sign_finish : Held → List ℕ → List ℕ → ℕ → Bool → List ℕ → Finish
sign_finish h image answer lent ok signature =
    finish_by (reading image) h.state (lengths_of (lent_of h lent answer)) ok (length signature)

-- the answer that is awaited after a call
abbrev pub awaited_after : Effect → List ℕ → List ℕ
awaited_after (host n) w = w
awaited_after (refuse bytes kept) w = w
awaited_after (accept bytes change) w = change.answer

abbrev pub awaited_finished : Finish → List ℕ → List ℕ
awaited_finished (finish.Number k) w = w
awaited_finished finish.Signed w = []
awaited_finished finish.Failed w = []

-- what stands after a request that came to an effect, by the promise of `respond`: bytes of the transcript that were not lent stay
abbrev pub held_after : Effect → Held → ℕ → Held
held_after e h lent = record {
  state = state_after e h.state;
  transcript = transcript_after e h.state (take lent h.transcript) ++ drop lent h.transcript;
  awaited = awaited_after e h.awaited;
}

-- and after a finishing, by the promise of finishing
abbrev pub held_finished : Finish → Held → Held
held_finished d h = record { state = finished_state d h.state; transcript = h.transcript; awaited = awaited_finished d h.awaited }

unfoldable pub box_next : Held → Call → Held
box_next h (ask image answer lent r nonce) = held_after (ask_effect h image answer lent r nonce) h lent
box_next h (sign image answer lent ok signature) = held_finished (sign_finish h image answer lent ok signature) h

-- the answer "as it stands in the buffer at exit": so many bytes of the buffer
abbrev pub length_in : Reply → ℕ
length_in (reply.Number n) = 0
length_in (reply.Answer n) = n

abbrev pub read_back : Reply → List ℕ → Said
read_back r after = record { reply = r; bytes = take (length_in r) after }

-- what is said with an effect, and with what a finishing comes to: as the promises put it into the buffer
abbrev pub said_in : Effect → List ℕ → Said
said_in e answer = read_back (reply_of e) (answer_after e answer)

abbrev pub said_finished : Finish → State → List ℕ → List ℕ → Said
said_finished d s answer signature = read_back (finish_reply d s.awaited.length) (finished_answer d s answer signature)

unfoldable pub box_said : Held → Call → Said
box_said h (ask image answer lent r nonce) = said_in (ask_effect h image answer lent r nonce) answer
box_said h (sign image answer lent ok signature) = said_finished (sign_finish h image answer lent ok signature) h.state answer signature

-- the box as a plain box: its parts as they stand in the transcript
abbrev pub view : Held → Plain
view h = record {
  negotiated = h.state.negotiated;
  parts = parts_in h.state.used h.transcript;
  whose = h.state.awaited.whose;
  answer = h.awaited;
}

-- what the box shows after each call of a list: the awaited answer's length is the state's own
abbrev pub box_shows : Said → Held → Shown
box_shows said h = record {
  said = said;
  whose = h.state.awaited.whose;
  answer_length = h.state.awaited.length;
  prefix = prefix_of h.state.negotiated h.state.awaited.whose;
  hashed = to_hash h.state.negotiated h.state.awaited.whose (parts_in h.state.used h.transcript);
  negotiated = h.state.negotiated;
  parts = parts_in h.state.used h.transcript;
}

unfoldable pub box_run : Held → List Call → List Shown
box_run h [] = []
box_run h (c ∷ cs) = box_shows (box_said h c) (box_next h c) ∷ box_run (box_next h c) cs

-- what the plain box is fed of a call: n is the length of the whole transcript buffer
abbrev pub feed_of : ℕ → Call → Feed
feed_of n (ask image answer lent r nonce) = request image (record { transcript = min lent n; answer = length answer }) r nonce
feed_of n (sign image answer lent ok signature) =
    finishing image (record { transcript = min lent n; answer = length answer }) ok signature

unfoldable pub plain_run : Plain → List Feed → List Shown
plain_run p [] = []
plain_run p (x ∷ xs) = shows (plain_said p x) (plain_next p x) ∷ plain_run (plain_next p x) xs

-- an accepted request: of it came an answer and a change
abbrev pub IsAccept : Effect → Type 0
IsAccept (host n) = ⊥
IsAccept (refuse bytes kept) = ⊥
IsAccept (accept bytes change) = Unit {0}

abbrev pub Accepts : Held → Call → Type 0
Accepts h (ask image answer lent r nonce) = IsAccept (ask_effect h image answer lent r nonce)
Accepts h (sign image answer lent ok signature) = ⊥

-- "an accepted GET_VERSION", on a box that held h
pub record Restarts (h : Held) (c : Call) : Type 0 where
  pub code : code_byte (request_in c) ≡ get_version
  pub accepted : Accepts h c

-- every image handed in is a list of bytes: a `&[u8]` is never anything else
abbrev pub Octets : List Call → Type 0
Octets cs = Each (λ (c : Call). Bytes (image_of c)) cs

-- "The host lends finishing the buffer that holds this answer, unchanged": where it is long enough to be looked at
abbrev pub LendsAwaited : Held → Call → Type 0
LendsAwaited h (ask image answer lent r nonce) = Unit {0}
LendsAwaited h (sign image answer lent ok signature) = message_limit ≤ length answer → take (length h.awaited) answer ≡ h.awaited

-- so at every call of a list, each made on what the last one left
unfoldable pub Hosted : Held → List Call → Type 0
Hosted h [] = Unit {0}
Hosted h (c ∷ cs) = LendsAwaited h c × Hosted (box_next h c) cs
