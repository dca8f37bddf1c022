-- An accepted request, whichever message answers it: its answer stands at the start of the buffer, so what is appended from there is the
-- answer's own bytes; with the reply and the state that is all a call promises. Assumes nothing.
use Rattle.std.specs.Prelude.{Option, Some, None}
use mathlib.Core.Path.{◌≡◌, refl, sym, ap, ◌∙◌}
use mathlib.Core.List.{List, [], ◌++◌}
use Prim.Native.Nat.{ℕ, ◌+◌, ◌≤◌}
use native.Mathlib.Omega.{arith}
use native.Mathlib.Nat.{zero-add}
use lib.Dec.{eqb}
use lib.ListN.{length, take, replicate}
use lib.Seq.{take-take, take_at}
use Rattle.wire.specs.Bytes.{splice}
use Rattle.wire.specs.Pick.{pick}
use Rattle.wire.proofs.Laws.{front-splice}
use Rattle.wire.proofs.Picks.{pick-map}
use Rattle.image.specs.Contents.{Contents, Valid}
use Rattle.image.specs.Sizes.{signature_most}
use Rattle.image.proofs.Sizes.{signature-most}
use Rattle.rules.specs.Limits.{message_limit, transcript_length, awaits_nothing}
use Rattle.rules.specs.Facts.{Facts, facts_of}
use Rattle.rules.specs.Parts.{start_of, limit_of, count_of, Kept, kept_by, count_kept, kept_used}
use Rattle.rules.specs.Steps.{whole_length, added_length}
use Rattle.rules.specs.Measurements.{measurements_exchange}
use Rattle.rules.specs.Messages.{kind_for, exchange_for, message_bytes}
use Rattle.rules.specs.Effects.{with_zeros, effect_of}
use Rattle.rules.specs.Box.{Lent, lengths_of, place_for, Responded}
use Rattle.rules.specs.declared.Part.{Part}
use Rattle.rules.specs.declared.Part.TheVariants.{A, B, M}
use Rattle.rules.specs.declared.Used.{Used}
use Rattle.rules.specs.declared.Negotiated.{Negotiated}
use Rattle.rules.specs.declared.State.{State}
use Rattle.rules.specs.declared.Operation.{Operation}
use Rattle.image.specs.declared.SlotNumber.{SlotNumber}
use Rattle.rules.specs.declared.Message.{Message}
use Rattle.rules.specs.declared.Message.TheVariants as message
use Rattle.rules.specs.declared.Exchange.{Exchange}
use Rattle.rules.specs.Decision as decision
use Rattle.rules.specs.declared.Outcome.{Outcome}
use Rattle.rules.specs.Reply as reply
use Rattle.rules.proofs.Told.{Accepted}
use Rattle.rules.proofs.Ready.{whole_length_lem, added-length, answer-length, answer-most}
use Rattle.responder.specs.Carried.{Measured, Carried}
use Rattle.responder.proofs.RunLaws.{splice-on}

-- what is counted of a part, and where it ends, is within the transcript
pub few : (p : Part) (u : Used) (n : ℕ) → count_of p u + n ≤ limit_of p → start_of p + (count_of p u + n) ≤ transcript_length
few A u n h = omega arith
few B u n h = omega arith
few M u n h = omega arith

-- the count of what is kept
pub kept_count : (p : Part) (kept : Kept) (u : Used) → count_of p (kept_used kept u) ≡ count_kept p kept u
kept_count A kept u = refl
kept_count B kept u = refl
kept_count M kept u = refl

-- no answer ends in more than the longest signature
signed_few : (f : Facts) (o : Operation) (g : Option SlotNumber) → (measurements_exchange f o g).signature ≤ signature_most
signed_few f o None = omega arith
signed_few f o (Some k) = signature-most f.identity.signature

signature-few : (f : Facts) (n : Negotiated) (r : List ℕ) (m : Message) → (exchange_for f n r m).signature ≤ signature_most
signature-few f n r message.Version = omega arith
signature-few f n r message.Capabilities = omega arith
signature-few f n r message.Algorithms = omega arith
signature-few f n r message.Digests = omega arith
signature-few f n r (message.Certificate slot offset portion remainder) = omega arith
signature-few f n r (message.Challenge slot summary) = signature-most f.identity.signature
signature-few f n r (message.Measurements operation signer) = signed_few f operation signer

-- nothing written
pub no_answer : (l : List ℕ) → l ≡ splice l 0 []
unfolding splice
no_answer l = refl

-- the first bytes of an answer, read back from the buffer
read-front : (before after whole : List ℕ) (n : ℕ) → after ≡ splice before 0 whole → length whole ≤ length before → n ≤ length whole
    → take n after ≡ take n whole
read-front before after whole n e h k =
    let f : take (0 + length whole) (splice before 0 whole) ≡ whole = front-splice before 0 whole (omega arith) in
    let g : take (length whole) after ≡ whole =
    ap (take (length whole)) e ∙ ap (λ (m : ℕ). take m (splice before 0 whole)) (sym (zero-add (length whole))) ∙ f in
    sym (take-take n (length whole) after k) ∙ ap (take n) g

module _ (c : Contents) (v : Valid c) (s : State) (r nonce : List ℕ) (m : Message) (n : Negotiated) (x : Exchange) where
  -- what `accept` asks of the exchange
  pub measured : (lent : Lent) → Accepted (facts_of c) s (lengths_of lent) (length nonce) r m n x → Measured x
  measured lent z =
      let few : x.signature ≤ signature_most = rw z.told.exchange (signature-few (facts_of c) n r m) in
      record { signature = few; whole = answer-most c v s (lengths_of lent) r nonce m n x z }

  -- written, then carried out
  pub responded : (before after : Lent) (written : List ℕ) (o : Outcome) → Accepted (facts_of c) s (lengths_of before) (length nonce) r m n x
      → written ≡ splice before.answer 0 (message_bytes c nonce n m)
      → Carried s (record { message = m; negotiated = n; exchange = x }) r (record { transcript = before.transcript; answer = written }) after o
      → Responded (effect_of (decision.Accepted m n x) c s nonce r) s before after o
  unfolding effect_of
  responded before after written o z w k =
      let bytes = message_bytes c nonce n m in
      let whole = with_zeros bytes x in
      let l : length bytes ≡ x.length = answer-length c v s (lengths_of before) r nonce m n x z in
      let g : length whole ≡ whole_length x = whole_length_lem bytes x l in
      let most : whole_length x ≤ message_limit = answer-most c v s (lengths_of before) r nonce m n x z in
      let a : after.answer ≡ splice before.answer 0 whole =
      k.answer ∙ ap (λ (y : List ℕ). splice y x.length (replicate x.signature 0)) w ∙ splice-on before.answer bytes (replicate x.signature 0) x.length l in
      let i : length whole ≤ length before.answer = omega (arith, z.called.buffer) in
      let j : x.length ≤ length whole = omega arith in
      let told : take x.length after.answer ≡ bytes =
      read-front before.answer after.answer whole x.length a i j ∙ take_at bytes (replicate x.signature 0) x.length l in
      let added : length (take x.layout r ++ bytes) ≡ added_length x = added-length bytes r x l z.told.fitting.long in
      let awaits : length (pick (eqb x.whose awaits_nothing) [] whole) ≡ pick (eqb x.whose awaits_nothing) 0 (whole_length x) =
      pick-map (λ (y : List ℕ). length y) (eqb x.whose awaits_nothing) [] whole 0 (whole_length x) (λ _. refl) (λ _. g) in
      record {
        reply = k.reply ∙ ap reply.Answer (sym g);
        state = k.state ∙ rw (added, awaits);
        transcript = k.transcript ∙ ap (λ (y : List ℕ). splice before.transcript (place_for x.part (kept_by (kind_for m)) s.used) (take x.layout r ++ y)) told;
        answer = a;
      }

pub ruleset carries = (few, kept_count)
