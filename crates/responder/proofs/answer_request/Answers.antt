-- The decision is the rules' own, taken off the index; an accepted one is written and carried out, whichever message answers it, and what is
-- told of it meets what the two ask. Assumes nothing.
use Rattle.std.proofs.Common.{Err, ◌≡◌, refl, sym, ap, subst, ◌∙◌, List, ℕ, length}
use Rattle.wire.specs.Bytes.{splice}
use Rattle.image.specs.Contents.{Contents}
use Rattle.image.specs.Read.{ReadAs, Known}
use Rattle.image.proofs.Given.{valid}
use Rattle.image_lookup.specs.declared.Image.{Image}
use Rattle.decision.specs.ImageFacts.{facts_in}
use Rattle.rules.specs.Limits.{nonce_length}
use Rattle.rules.specs.Facts.{Facts, facts_of}
use Rattle.rules.specs.Decisions.{decision_of}
use Rattle.rules.specs.Effects.{effect_of}
use Rattle.rules.specs.Messages.{message_bytes}
use Rattle.rules.specs.Box.{Lent, lengths_of, Responded}
use Rattle.rules.specs.declared.State.{State}
use Rattle.rules.specs.declared.Accepted.{Accepted}
use Rattle.rules.specs.Decision.{Decision}
use Rattle.rules.specs.Decision as decision
use Rattle.rules.specs.Decision.{decided}
use Rattle.rules.specs.declared.Outcome.{Outcome}
use Rattle.rules.proofs.Told.{accepted, Fields, Fitting}
use Rattle.rules.proofs.SameFacts.{facts}
use Rattle.responder.specs.Carried.{Measured, Carried}
use Rattle.responder.proofs.Carries.{no_answer, measured, responded}
use Rattle.responder.proofs.answer_request.Goals as goal

-- a call: the image, the buffers as they were lent, and the decision that was made of the image's own facts
module _ (image : Image) (s : State) (lent : Lent) (r nonce : List ℕ) (d : Decision)
    (e : d ≡ decision_of (facts_in image) s (lengths_of lent) (length nonce) r) where
  abbrev Done : Decision → Contents → Lent → Outcome → Type 0
  Done x k after o = Responded (effect_of x k s nonce r) s lent after o

  -- the contents have the same facts, so what was done is what the rules make of them
  same : (k : Contents) → ReadAs image.bytes.now image.index k → d ≡ decision_of (facts_of k) s (lengths_of lent) (length nonce) r
  same k rd = e ∙ ap (λ (f : Facts). decision_of f s (lengths_of lent) (length nonce) r) (facts image.octets rd)

  settled : (k : Contents) → ReadAs image.bytes.now image.index k → (x : Decision) → d ≡ x → (after : Lent) (o : Outcome) → Done x k after o
      → Done (decision_of (facts_of k) s (lengths_of lent) (length nonce) r) k after o
  settled k rd x q after o v = subst (λ (z : Decision). Done z k after o) (sym q ∙ same k rd) v

  -- an accepted request
  module _ (a : Accepted) (q : d ≡ decision.Accepted a.message a.negotiated a.exchange) where
    ready : Known image.bytes.now image.index
        → (length nonce ≡ nonce_length) × (Fields (facts_in image) a.negotiated a.message × (Measured a.exchange × Fitting s r a.message a.exchange))
    ready known =
        let z = accepted _ _ _ _ _ _ _ _ (sym e ∙ q) in
        let w = accepted _ _ _ _ _ _ _ _ (sym (same known.held known.same) ∙ q) in
        (z.called.drawn, (z.told.fields, (measured known.held (valid image.octets known.same) s r nonce _ _ _ lent w, z.told.fitting)))

    carried-out : (k : Contents) → ReadAs image.bytes.now image.index k → (after : Lent) (written : List ℕ) (o : Outcome)
        → written ≡ splice lent.answer 0 (message_bytes k nonce a.negotiated a.message)
        → Carried s a r (record { transcript = lent.transcript; answer = written }) after o
        → Done (decision_of (facts_of k) s (lengths_of lent) (length nonce) r) k after o
    carried-out k rd after written o w v =
        let z = accepted _ _ _ _ _ _ _ _ (sym (same k rd) ∙ q) in
        settled k rd _ q after o (responded k (valid image.octets rd) s r nonce _ _ _ lent after written o z w v)

pub invariant_of-source : goal.invariant_of-source
invariant_of-source c =
    let a = c.args in
    let lent : Lent = record { transcript = a.transcript.now; answer = a.answer.now } in
    let z = ready a.image.now a.s lent a.request.now a.nonce.now _ c.decide.ensures _ (ap decided c.in-Ok.is) c.requires in
    record { known = ∣ c.requires ∣₁; drawn = z.0 }

pub write_message-requires : goal.write_message-requires
write_message-requires c =
    let a = c.args in
    let lent : Lent = record { transcript = a.transcript.now; answer = a.answer.now } in
    (ready a.image.now a.s lent a.request.now a.nonce.now _ c.decide.ensures _ (ap decided c.in-Ok.is) c.requires).1.0

pub accept-requires : goal.accept-requires
accept-requires c =
    let a = c.args in
    let lent : Lent = record { transcript = a.transcript.now; answer = a.answer.now } in
    (ready a.image.now a.s lent a.request.now a.nonce.now _ c.decide.ensures _ (ap decided c.in-Ok.is) c.requires).1.1

pub returns-in-Err-Host : goal.returns-in-Err-Host
unfolding effect_of
returns-in-Err-Host c = λ k rd.
    let a = c.args in
    let lent : Lent = record { transcript = a.transcript.now; answer = a.answer.now } in
    settled a.image.now a.s lent a.request.now a.nonce.now _ c.decide.ensures k rd _ (ap decided (c.in-Err-Host.is ∙ ap Err c.in-Err-Host.field-0-is)) _ _
    (record { reply = refl; state = refl; answer = no_answer _; transcript = refl })

pub returns-in-Err-Request : goal.returns-in-Err-Request
returns-in-Err-Request c = λ k rd.
    let a = c.args in
    let lent : Lent = record { transcript = a.transcript.now; answer = a.answer.now } in
    settled a.image.now a.s lent a.request.now a.nonce.now _ c.decide.ensures k rd _ (ap decided (c.in-Err-Request.is ∙ ap Err c.in-Err-Request.field-0-is)) _ _
    (c.refuse.ensures k _ _)

pub returns-in-Ok : goal.returns-in-Ok
returns-in-Ok c = λ k rd.
    let a = c.args in
    let lent : Lent = record { transcript = a.transcript.now; answer = a.answer.now } in
    carried-out a.image.now a.s lent a.request.now a.nonce.now _ c.decide.ensures _ (ap decided c.in-Ok.is) k rd _ _ _
    (c.write_message.ensures k rd) c.accept.ensures
