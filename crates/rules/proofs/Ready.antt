-- What an effect tells of the buffers and the state of the call that came to it, as the tests before it passed (Told), with the answers' lengths
-- (AnswerLengths). Assumes nothing.
use mathlib.Core.Path.{◌≡◌, refl, ap, sym, subst, ◌∙◌}
use mathlib.Core.List.{List, ◌++◌}
use Prim.Native.Nat.{ℕ, ◌+◌, ◌≤◌}
use native.Mathlib.Omega.{arith}
use lib.ListN.{length, take, length-append, length-replicate}
use lib.Seq.{length-take-le}
use Rattle.wire.specs.Bytes.{Bytes}
use Rattle.image.specs.Contents.{Contents, Valid}
use Rattle.image.specs.Reading.{Result, number, found, reading}
use Rattle.image.proofs.Exactly.{image-read}
use Rattle.rules.specs.Limits.{message_limit, transcript_length}
use Rattle.rules.specs.Facts.{facts_of}
use Rattle.rules.specs.Parts.{limit_of, Kept, count_kept, Entry, into, nowhere}
use Rattle.rules.specs.Steps.{whole_length}
use Rattle.rules.specs.Messages.{message_bytes}
use Rattle.rules.specs.Decisions.{decision_of}
use Rattle.rules.specs.Effects.{Change, added, Effect, host, refuse, accept, with_zeros, effect_of, effect_by}
use Rattle.rules.specs.declared.Used.{Used}
use Rattle.rules.specs.declared.State.{State}
use Rattle.rules.specs.declared.Lengths.{Lengths}
use Rattle.rules.specs.declared.Negotiated.{Negotiated}
use Rattle.rules.specs.declared.Message.{Message}
use Rattle.rules.specs.declared.Exchange.{Exchange}
use Rattle.rules.specs.Decision.{Decision}
use Rattle.rules.specs.Decision as decision
use Rattle.rules.proofs.Tests.{Counted, own, counted}
use Rattle.rules.proofs.Passed.{called}
use Rattle.rules.proofs.Told.{Accepted, accepted}
use Rattle.rules.proofs.AnswerLengths.{refused-short, message_length, message_most}

-- so many bytes fit behind what is kept of their part
abbrev pub Enters : Entry → Kept → Used → ℕ → Type 0
Enters (into x) kept u n = count_kept x kept u + n ≤ limit_of x
Enters nowhere kept u n = Unit {0}

-- an accepted request: its answer and what is appended have room
pub record Room (s : State) (lent : Lengths) (bytes : List ℕ) (change : Change) : Type 0 where
  pub whole : transcript_length ≤ lent.transcript
  pub buffer : message_limit ≤ lent.answer
  pub short : length bytes ≤ message_limit
  pub enters : Enters change.entry change.kept s.used (length (added change))
  pub counted : Counted s.used

abbrev pub Ready : State → Lengths → Effect → Type 0
Ready s lent (host n) = Unit {0}
Ready s lent (refuse bytes kept) = (message_limit ≤ lent.answer) × (length bytes ≤ 8)
Ready s lent (accept bytes change) = Room s lent bytes change

-- an answer with its zeros is as long as its exchange says
pub whole_length_lem : (bytes : List ℕ) (x : Exchange) → length bytes ≡ x.length → length (with_zeros bytes x) ≡ whole_length x
whole_length_lem bytes x e = simp (length-append, length-replicate) (omega arith)

-- what is appended of request and answer, in bytes
pub added-length : (bytes r : List ℕ) (x : Exchange) → length bytes ≡ x.length → x.layout ≤ length r → length (take x.layout r ++ bytes) ≡ x.layout + x.length
added-length bytes r x e h = simp (length-append, length-take-le x.layout r h, e)

module _ (c : Contents) (v : Valid c) (s : State) (lent : Lengths) (r nonce : List ℕ) where
  abbrev decided : Decision
  decided = decision_of (facts_of c) s lent (length nonce) r

  -- an accepted request's answer, measured
  module _ (m : Message) (n : Negotiated) (x : Exchange) (z : Accepted (facts_of c) s lent (length nonce) r m n x) where
    pub answer-length : length (message_bytes c nonce n m) ≡ x.length
    answer-length =
        message_length c v r n nonce m z.called.drawn z.told.fields ∙ ap (λ (y : Exchange). y.length) (sym z.told.exchange)

    pub answer-most : whole_length x ≤ message_limit
    answer-most = subst (λ (y : Exchange). whole_length y ≤ message_limit) (sym z.told.exchange) (message_most c v r n m z.told.fields)

  -- what each decision tells of its effect
  by-decision : (d : Decision) → decided ≡ d → Ready s lent (effect_of d c s nonce r)
  unfolding effect_of
  by-decision (decision.Number k) e = tt
  by-decision (decision.Refused step code extra size) e =
      ((called (facts_of c) s r _ lent (length nonce) e tt).0.buffer, refused-short s.negotiated step code extra size)
  by-decision (decision.Accepted m n x) e =
      let z = accepted (facts_of c) s lent (length nonce) r m n x e in
      let body : List ℕ = message_bytes c nonce n m in
      let l = answer-length m n x z in
      record {
        whole = z.called.room;
        buffer = z.called.buffer;
        short = omega (arith, whole_length_lem body x l, answer-most m n x z);
        enters = omega (arith, added-length body r x l z.told.fitting.long, z.told.fitting.room);
        counted = counted s (own (facts_of c) s z.called.bounds);
      }

  pub ready : Ready s lent (effect_by (found c) s lent r nonce)
  unfolding effect_by
  ready = by-decision decided refl

-- the same of any image: what is read of it is valid
pub ready-image : (b : List ℕ) → Bytes b → (s : State) (lent : Lengths) (r nonce : List ℕ) → Ready s lent (effect_by (reading b) s lent r nonce)
unfolding effect_by
ready-image b y s lent r nonce = by_result (reading b) refl
  where
    by_result : (x : Result Contents) → reading b ≡ x → Ready s lent (effect_by x s lent r nonce)
    by_result (number k) e = tt
    by_result (found c) e = ready c (image-read b c y e).1 s lent r nonce
