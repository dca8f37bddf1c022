-- A read that draws no number is served: it passes the nine steps, as long as its answer fits the peer's size and B. Assumes nothing.
use mathlib.Core.Path.{◌≡◌, refl, ap}
use mathlib.Core.Bool.{true, false}
use mathlib.Core.List.{List}
use Prim.Native.Nat.{ℕ, ◌+◌, ◌-◌, ◌≤◌, ◌<◌}
use native.Mathlib.Omega.{arith}
use lib.ListN.{length}
use lib.Dec.{ltb, leb, eqb}
use borrow.Author.Tests.{le-ltb, lt-leb, eq-eqb, ne_eqb}
use Rattle.wire.specs.Pick.{pick}
use Rattle.image.specs.Contents.{Contents}
use Rattle.image.specs.Reading.{found}
use Rattle.image.specs.Held.{slot_chain}
use Rattle.rules.specs.Limits.{message_limit, b_limit, capabilities_phase, certificate_layout, certificate_head, awaits_nothing}
use Rattle.rules.specs.Facts.{facts_of}
use Rattle.rules.specs.Steps.{kind_of, must_wait, serves, carries, version_fits, in_phase, whole_length, added_length, size_steps}
use Rattle.rules.specs.Certificate.{length_asked, portion_of, certificate_exchange, portion_decision, certificate_decision, certificate_bytes}
use Rattle.rules.specs.Messages.{message_bytes}
use Rattle.rules.specs.Decisions.{last_steps, decision_of}
use Rattle.rules.specs.Effects.{answered, effect_of, effect_by, reply_of}
use Rattle.rules.specs.declared.State.{State}
use Rattle.rules.specs.declared.Lengths.{Lengths}
use Rattle.rules.specs.declared.Kind.TheVariants as kind
use Rattle.rules.specs.declared.Message.{Message}
use Rattle.rules.specs.declared.Message.TheVariants as message
use Rattle.rules.specs.Decision.{Decision}
use Rattle.rules.specs.Decision as decision
use Rattle.rules.proofs.Passed.{called, Passed}
use Rattle.theorems.specs.Reads.{IsRead, NoNumber}
use Rattle.theorems.proofs.Passes.{was_unnumbered, decides}
use Rattle.theorems.proofs.Serving.{Serves}

-- a read of slot k at h, below the chain's end L, with a portion of q bytes
module _ (c : Contents) (s : State) (r : List ℕ) (k h L q : ℕ) (i : IsRead s.negotiated k h r) (long : L ≡ length (slot_chain c k))
    (least : q ≡ portion_of (length_asked r) (L - h) s.negotiated.peer) (ready : Serves s.negotiated s.awaited) (lt : h < L)
    (fits : certificate_head + q ≤ s.negotiated.peer) (room : s.used.b + (certificate_layout + (certificate_head + q)) ≤ b_limit) where
  abbrev portion_message : Message
  portion_message = message.Certificate (record { 0 = k }) h q (L - h - q)

  abbrev certificate : Decision
  certificate = decision.Accepted portion_message s.negotiated (certificate_exchange q)

  -- steps 7–9
  last-steps : certificate_decision (facts_of c) s r ≡ certificate
  unfolding certificate_decision portion_decision size_steps pick
  last-steps =
      let x = certificate_exchange q in
      let whole : ltb (length r) certificate_layout ≡ false = le-ltb _ _ i.whole in
      let filled : eqb L 0 ≡ false = ne_eqb L 0 (λ e. omega arith) in
      let below : leb L h ≡ false = lt-leb L h lt in
      let some : eqb (length_asked r) 0 ≡ false = ne_eqb (length_asked r) 0 (λ e. omega (arith, i.asks)) in
      let sized : ltb s.negotiated.peer (whole_length x) ≡ false = le-ltb s.negotiated.peer (whole_length x) (omega arith) in
      let roomy : ltb b_limit (s.used.b + added_length x) ≡ false = le-ltb _ _ room in
      rw (whole, i.slot, ← long, filled, i.from, below, some, ← least, sized, roomy)

  -- steps 1–6
  passes : Passed (facts_of c) s r certificate
  unfolding kind_of must_wait serves carries version_fits in_phase last_steps pick
  passes =
      let chosen : ltb s.negotiated.phase capabilities_phase ≡ false = rw ready.phase in
      let idle : eqb s.awaited.whose awaits_nothing ≡ true = eq-eqb _ _ ready.idle in
      record {
        least = omega (arith, i.whole);
        most = i.most;
        free = rw idle;
        kind = kind.Certificate;
        asked = rw i.code;
        served = refl;
        version = rw chosen (eq-eqb _ _ i.version);
        phase = eq-eqb _ _ ready.phase;
        decided = last-steps;
      }

  -- its buffer holds any answer, and it is answered with that portion
  pub served : (lent : Lengths) (nonce : List ℕ) → NoNumber (reply_of (effect_by (found c) s lent r nonce))
      → (message_limit ≤ lent.answer) × (effect_by (found c) s lent r nonce
      ≡ answered portion_message s.negotiated (certificate_exchange q) (certificate_bytes c s.negotiated k h q (L - h - q)) r)
  unfolding effect_by effect_of message_bytes
  served lent nonce u =
      let f = facts_of c in
      let d : Decision = decision_of f s lent (length nonce) r in
      let z = (called f s r d lent (length nonce) refl (was_unnumbered c s r nonce d u)).0 in
      (z.buffer, ap (λ (x : Decision). effect_of x c s nonce r) (decides f s lent (length nonce) r certificate z passes))
