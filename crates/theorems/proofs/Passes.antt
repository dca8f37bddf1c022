-- The tests of a request, both ways. Which tests an accepted request passed is told by rules' Passed; here it is told of the kind that the
-- request's code names, and the converse: a request that passes them all is decided as its kind's own steps decide. Assumes nothing.
use Rattle.std.specs.Prelude.{Option, Some, None}
use mathlib.Core.Path.{◌≡◌, sym, ap, ◌∙◌}
use mathlib.Core.Bool.{true, false}
use mathlib.Core.List.{List}
use Prim.Native.Nat.{ℕ}
use lib.ListN.{length}
use lib.Dec.{ltb, eqb}
use borrow.Author.Tests.{le-ltb, eq-eqb}
use Rattle.wire.specs.Pick.{pick}
use Rattle.image.specs.Contents.{Contents}
use Rattle.rules.specs.Limits.{message_limit, transcript_length, nonce_length, header_length}
use Rattle.rules.specs.Facts.{Facts}
use Rattle.rules.specs.Header.{code_byte}
use Rattle.rules.specs.Steps.{kind_of, kind_steps, asked_steps, first_steps}
use Rattle.rules.specs.Decisions.{last_steps, request_decision, decision_of}
use Rattle.rules.specs.Effects.{effect_of, reply_of}
use Rattle.rules.specs.declared.State.{State}
use Rattle.rules.specs.declared.Lengths.{Lengths}
use Rattle.rules.specs.declared.Kind.{Kind}
use Rattle.rules.specs.declared.Kind.TheVariants as kind
use Rattle.rules.specs.Decision.{Decision}
use Rattle.rules.specs.Decision as decision
use Rattle.rules.proofs.Passed.{Unnumbered, IsAccepted, accepted_unnumbered, Called, called, Passed, passed}
use Rattle.theorems.specs.Runs.{IsAccept}
use Rattle.theorems.specs.Reads.{NoNumber}

-- what an effect shows of its decision: accepted, or no number
module _ (c : Contents) (s : State) (r nonce : List ℕ) where
  pub was_accepted : (d : Decision) → IsAccept (effect_of d c s nonce r) → IsAccepted d
  unfolding effect_of
  was_accepted (decision.Number k) a = a
  was_accepted (decision.Refused step code extra size) a = a
  was_accepted (decision.Accepted m n x) a = tt

  pub was_unnumbered : (d : Decision) → NoNumber (reply_of (effect_of d c s nonce r)) → Unnumbered d
  unfolding effect_of
  was_unnumbered (decision.Number k) u = u
  was_unnumbered (decision.Refused step code extra size) u = tt
  was_unnumbered (decision.Accepted m n x) u = tt

-- the kind that a code asks for
abbrev kind_in : Option Kind → Kind
kind_in (Some k) = k
kind_in None = kind.Version

module _ (f : Facts) (s : State) (lent : Lengths) (nonce : ℕ) (r : List ℕ) (d : Decision) where
  -- the host's tests and steps 1–6 pass: d is what the request comes to
  pub decides : Called f s lent nonce → Passed f s r d → decision_of f s lent nonce r ≡ d
  unfolding decision_of request_decision first_steps asked_steps kind_steps pick
  decides z p =
      let buffer : ltb lent.answer message_limit ≡ false = le-ltb _ _ z.buffer in
      let room : ltb lent.transcript transcript_length ≡ false = le-ltb _ _ z.room in
      let drawn : eqb nonce nonce_length ≡ true = eq-eqb _ _ z.drawn in
      let least : ltb (length r) header_length ≡ false = le-ltb _ _ p.least in
      let most : ltb message_limit (length r) ≡ false = le-ltb _ _ p.most in
      rw (buffer, room, drawn, z.bounds, least, most, p.free, p.asked, p.served, p.version, p.phase) p.decided

  -- a request of the kind k, accepted: its tests passed, and d is what that kind's own steps decide
  pub record PassedAs (k : Kind) : Type 0 where
    pub called : Called f s lent nonce
    pub passed : Passed f s r d
    pub kind : passed.kind ≡ k
    pub decided : last_steps f s r k ≡ d

  -- the code tells the kind
  pub passed_as : (k : Kind) → kind_of (code_byte r) ≡ Some k → decision_of f s lent nonce r ≡ d → IsAccepted d → PassedAs k
  passed_as k code e u =
      let z = called f s r d lent nonce e (accepted_unnumbered d u) in
      let p : Passed f s r d = passed f s r d u z.1 in
      let i : p.kind ≡ k = ap kind_in (sym p.asked ∙ code) in
      record { called = z.0; passed = p; kind = i; decided = rw i at p.decided }
