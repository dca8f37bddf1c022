-- "The plain box": it holds phase, edition, peer's size, selection, A, B and M as lists of bytes, and the awaited answer.
use Rattle.std.specs.Prelude.{Bool, List, [], ℕ, length}
use Rattle.image.specs.Reading.{reading}
use Rattle.rules.specs.Limits.{fresh_phase, awaits_nothing}
use Rattle.rules.specs.Parts.{Kept, Parts, no_parts, used_of, kept_by_finishing, kept_parts, parts_after}
use Rattle.rules.specs.State.{cleared_at, awaiting}
use Rattle.rules.specs.Effects.{Change, added, Effect, host, refuse, accept, effect_by, reply_of, bytes_of}
use Rattle.rules.specs.Signing.{prefix_of, to_hash, finish_by, finish_reply, finished_bytes}
use Rattle.rules.specs.declared.Negotiated.{Negotiated}
use Rattle.rules.specs.declared.State.{State}
use Rattle.rules.specs.declared.Lengths.{Lengths}
use Rattle.rules.specs.Reply.{Reply}
use Rattle.rules.specs.Finish.{Finish}
use Rattle.rules.specs.Finish as finish

-- whose signature is awaited, and for which answer
pub record Plain : Type 0 where
  pub negotiated : Negotiated
  pub parts : Parts
  pub whose : ℕ
  pub answer : List ℕ

-- "fresh, these are 0, empty or none"
abbrev pub fresh_plain : Plain
fresh_plain = record { negotiated = cleared_at fresh_phase; parts = no_parts; whose = awaits_nothing; answer = [] }

-- "14 and step 9 tested on what it holds": its numbers as a state
abbrev pub state_of : Plain → State
state_of p = record {
  negotiated = p.negotiated;
  used = used_of p.parts;
  awaited = awaiting p.whose (length p.answer);
}

abbrev pub changed : Change → Plain → Plain
changed c p = record {
  negotiated = c.negotiated;
  parts = parts_after c.kept c.entry (added c) p.parts;
  whose = c.whose;
  answer = c.answer;
}

-- a refusal keeps or empties each part, and leaves all else
abbrev pub refused : Kept → Plain → Plain
refused kept p = record { negotiated = p.negotiated; parts = kept_parts kept p.parts; whose = p.whose; answer = p.answer }

-- "Refused: the table's number or the step's ERROR", which changes nothing but what paper 02 says. "Accepted request: answer and changes by
-- its rules"
abbrev pub plain_after : Effect → Plain → Plain
plain_after (host n) p = p
plain_after (refuse bytes kept) p = refused kept p
plain_after (accept bytes change) p = changed change p

-- "B (or M) is emptied, nothing is awaited"
abbrev pub emptied : Plain → Plain
emptied p = record {
  negotiated = p.negotiated;
  parts = kept_parts (kept_by_finishing p.whose) p.parts;
  whose = awaits_nothing;
  answer = [];
}

abbrev pub plain_finished : Finish → Plain → Plain
plain_finished (finish.Number k) p = p
plain_finished finish.Signed p = emptied p
plain_finished finish.Failed p = emptied p

-- a call: "each call's image, buffer lengths, and request and nonce, or chip result and signature"
pub data Feed : Type 0 where
  request : (image : List ℕ) (lent : Lengths) (bytes nonce : List ℕ) → Feed
  finishing : (image : List ℕ) (lent : Lengths) (ok : Bool) (signature : List ℕ) → Feed

-- what a call shows: the number or the answer's length, and the answer's bytes
pub record Said : Type 0 where
  pub reply : Reply
  pub bytes : List ℕ

abbrev pub said : Effect → Said
said e = record { reply = reply_of e; bytes = bytes_of e }

abbrev pub said_finish : Finish → Plain → List ℕ → Said
said_finish d p signature = record {
  reply = finish_reply d (length p.answer);
  bytes = finished_bytes d p.negotiated p.answer signature;
}

abbrev pub plain_effect : Plain → List ℕ → Lengths → List ℕ → List ℕ → Effect
plain_effect p image lent r nonce = effect_by (reading image) (state_of p) lent r nonce

abbrev pub plain_finish : Plain → List ℕ → Lengths → Bool → List ℕ → Finish
plain_finish p image lent ok signature = finish_by (reading image) (state_of p) lent ok (length signature)

unfoldable pub plain_said : Plain → Feed → Said
plain_said p (request image lent r nonce) = said (plain_effect p image lent r nonce)
plain_said p (finishing image lent ok signature) = said_finish (plain_finish p image lent ok signature) p signature

unfoldable pub plain_next : Plain → Feed → Plain
plain_next p (request image lent r nonce) = plain_after (plain_effect p image lent r nonce) p
plain_next p (finishing image lent ok signature) = plain_finished (plain_finish p image lent ok signature) p

-- "Alike in box and plain box after each call": what was said; "whether a signature is awaited and, if so, which, its answer's length, the
-- prefix and the bytes to hash; phase, peer's size, selection; A, B and M"; the edition too, which "becomes part of the connection state"
pub record Shown : Type 0 where
  pub said : Said
  pub whose : ℕ
  pub answer_length : ℕ
  pub prefix : List ℕ
  pub hashed : List ℕ
  pub negotiated : Negotiated
  pub parts : Parts

abbrev pub shows : Said → Plain → Shown
shows said p = record {
  said = said;
  whose = p.whose;
  answer_length = length p.answer;
  prefix = prefix_of p.negotiated p.whose;
  hashed = to_hash p.negotiated p.whose p.parts;
  negotiated = p.negotiated;
  parts = p.parts;
}
