-- What a decision does, alike for the box and the plain box: an answer, and what changes.
use Rattle.std.specs.Prelude.{List, [], ◌++◌, ℕ, length, take, replicate, eqb}
use Rattle.wire.specs.Pick.{pick}
use Rattle.image.specs.Contents.{Contents}
use Rattle.image.specs.Reading.{Result, number, found}
use Rattle.rules.specs.Limits.{awaits_nothing}
use Rattle.rules.specs.Facts.{facts_of}
use Rattle.rules.specs.Parts.{Kept, kept_by, kept_by_refusal, Entry, into}
use Rattle.rules.specs.Header.{code_byte, refused_bytes}
use Rattle.rules.specs.Messages.{kind_for, message_bytes}
use Rattle.rules.specs.Decisions.{decision_of}
use Rattle.rules.specs.declared.Negotiated.{Negotiated}
use Rattle.rules.specs.declared.State.{State}
use Rattle.rules.specs.declared.Lengths.{Lengths}
use Rattle.rules.specs.declared.Message.{Message}
use Rattle.rules.specs.declared.Exchange.{Exchange}
use Rattle.rules.specs.Decision.{Decision}
use Rattle.rules.specs.Decision as decision
use Rattle.rules.specs.Reply.{Reply}
use Rattle.rules.specs.Reply as reply

-- An accepted request's change: what is negotiated now, what is kept of the transcript's parts, what is appended where (of the request what
-- was asked, of the answer what was told), and whose signature is awaited for which answer.
pub record Change : Type 0 where
  pub negotiated : Negotiated
  pub kept : Kept
  pub entry : Entry
  pub asked : List ℕ
  pub told : List ℕ
  pub whose : ℕ
  pub answer : List ℕ

abbrev pub added : Change → List ℕ
added c = c.asked ++ c.told

pub data Effect : Type 0 where
  host : ℕ → Effect
  refuse : List ℕ → Kept → Effect
  accept : List ℕ → Change → Effect

-- "A signed answer is written with zeros for the signature"
abbrev pub with_zeros : List ℕ → Exchange → List ℕ
with_zeros bytes x = bytes ++ replicate x.signature 0

-- an accepted request: its layout and the answer are appended, "signature left off"
abbrev pub answered : Message → Negotiated → Exchange → List ℕ → List ℕ → Effect
answered m n x bytes r =
    accept (with_zeros bytes x)
    record {
      negotiated = n;
      kept = kept_by (kind_for m);
      entry = into x.part;
      asked = take x.layout r;
      told = bytes;
      whose = x.whose;
      answer = pick (eqb x.whose awaits_nothing) [] (with_zeros bytes x);
    }

unfoldable pub effect_of : Decision → Contents → State → List ℕ → List ℕ → Effect
effect_of (decision.Number n) c s nonce r = host n
effect_of (decision.Refused step code extra size) c s nonce r =
    refuse (refused_bytes s.negotiated step code extra size) (kept_by_refusal step (code_byte r))
effect_of (decision.Accepted m n x) c s nonce r = answered m n x (message_bytes c nonce n m) r

-- a request, by what its image reads as
unfoldable pub effect_by : Result Contents → State → Lengths → List ℕ → List ℕ → Effect
effect_by (number k) s lent r nonce = host k
effect_by (found c) s lent r nonce = effect_of (decision_of (facts_of c) s lent (length nonce) r) c s nonce r

-- what the host is told, and the answer's bytes
abbrev pub reply_of : Effect → Reply
reply_of (host n) = reply.Number n
reply_of (refuse bytes kept) = reply.Answer (length bytes)
reply_of (accept bytes change) = reply.Answer (length bytes)

abbrev pub bytes_of : Effect → List ℕ
bytes_of (host n) = []
bytes_of (refuse bytes kept) = bytes
bytes_of (accept bytes change) = bytes
